use Rattle.std.proofs.Common.{length}
use Rattle.node_ports.specs.Ports.{node_port}
use Rattle.address_rewrite.specs.AddressLaws.{can_be_spelled, addresses_lawful}
use Rattle.address_rewrite.proofs.PlanLimits.{host-bound, ports-bound}
use Rattle.address_rewrite.proofs.NodesGivenBack.{nodes_given_back, nodes_at_proxy, nodes_at_no_target}
use Rattle.address_rewrite.proofs.laws.addresses_law.Goals as goal

pub returns-clause-lawful : goal.returns-clause-lawful
returns-clause-lawful c plan valid =
    addresses_lawful plan.advertise (node_port plan) (can_be_spelled plan.advertise plan.port plan.first_node (length plan.nodes) (host-bound plan valid) (ports-bound plan valid))

pub returns-clause-nodes : goal.returns-clause-nodes
returns-clause-nodes c = nodes_given_back

pub returns-clause-at_proxy : goal.returns-clause-at_proxy
returns-clause-at_proxy c = nodes_at_proxy

pub returns-clause-at_no_target : goal.returns-clause-at_no_target
returns-clause-at_no_target c = nodes_at_no_target
