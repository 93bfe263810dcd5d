-- Where clients find a plan's nodes.
use Rattle.std.specs.Prelude.{◌≡◌, ℕ, ℤ, pos, true, List, Some, option_map}
use Rattle.std.specs.List.{All}
use Rattle.tree_spelling.specs.Body.{Contents}
use Rattle.virtual_cluster.specs.declared.address.Address.{Address}
use Rattle.virtual_cluster.specs.declared.plan.ClusterPlan.{ClusterPlan}
use Rattle.virtual_cluster.specs.Pairs.{targets}
use Rattle.node_ports.specs.Ports.{node_port}
use Rattle.filter_core.specs.declared.input.Input.TheVariants.{Response}
use Rattle.filter_core.specs.Decision.{Return}
use Rattle.address_rewrite.specs.Nodes.{NodeAddress, nodes_in}
use Rattle.address_rewrite.specs.Addresses.{names_nodes, advertised_by, addressed_back}

abbrev pub nodes_of : Contents → List NodeAddress
nodes_of message = nodes_in message.items

-- a node at the host that the plan advertises, and at its own port; a negative node as it came
abbrev pub advertised : ClusterPlan → NodeAddress → NodeAddress
advertised plan = advertised_by plan.advertise (node_port plan)

-- what a plan's filter gives back for a response that names nodes
pub record IsGivenBack (plan : ClusterPlan) (response back : Contents) : Type 0 where
  pub names : names_nodes response ≡ true
  pub returned : addressed_back plan.advertise (node_port plan) (Response response) ≡ Return (Some back)

-- Unless its number is negative, the node has the host that the plan advertises, and a port of the plan: its own.
abbrev pub IsAtProxy : ClusterPlan → NodeAddress → Type 0
IsAtProxy plan address =
    (n : ℕ) → address.node ≡ pos n → (address.host ≡ Some plan.advertise) × (option_map pos (node_port plan (pos n)) ≡ Some address.port)

-- no target of the plan is at the host that it advertises and at one of its nodes' ports
abbrev pub AreTargetsElsewhere : ClusterPlan → Type 0
AreTargetsElsewhere plan =
    All (λ (target : Address). (node : ℤ) → target.host ≡ plan.advertise → node_port plan node ≡ Some target.port → ⊥) (targets plan)

-- unless its number is negative, the node has the host and the port of no target
abbrev pub IsAtNoTarget : ClusterPlan → NodeAddress → Type 0
IsAtNoTarget plan address =
    (n : ℕ) → address.node ≡ pos n → All (λ (target : Address). address.host ≡ Some target.host → address.port ≡ pos target.port → ⊥) (targets plan)
