use Rattle.std.proofs.Common.{◌≡◌, drop}
use Rattle.std.specs.List.{list_any}
use Rattle.virtual_cluster.specs.Pairs.{leads_to}
use Rattle.virtual_cluster.proofs.pairs.leads_to_any.Given as goal

-- what is left decides
abbrev pub invariant-loop-node : goal.invariant-loop-node
invariant-loop-node l = list_any (λ target. leads_to l.plan target) (drop l.node-index l.nodes) ≡ list_any (λ target. leads_to l.plan target) l.nodes
