use Rattle.std.proofs.Common.{arith, ◌-◌}
use Rattle.std.proofs.lemmas.Int.{ints}
use Rattle.virtual_cluster.proofs.Bounds.{first_node-bound, nodes-bound}
use Rattle.node_ports.proofs.PortLaws.{node_role}
use Rattle.node_ports.proofs.role_of.Goals as goal

pub overflow_add-result : goal.overflow_add-result
overflow_add-result c =
    let first = first_node-bound c.args.plan.now c.requires in
    let few = nodes-bound c.args.plan.now c.requires in
    omega (arith, ints)

pub returns-then-behind-len : goal.returns-then-behind-len
returns-then-behind-len c =
    let first = first_node-bound c.args.plan.now c.requires in
    let few = nodes-bound c.args.plan.now c.requires in
    node_role c.args.plan.now c.args.port (c.args.port - c.args.plan.now.port - 1) _ (omega (arith, ints)) (omega arith) (omega arith) (omega arith)
