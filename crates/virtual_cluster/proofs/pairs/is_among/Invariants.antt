use Rattle.std.proofs.Common.{◌≡◌, drop}
use Rattle.std.specs.List.{list_any}
use Rattle.virtual_cluster.specs.Pairs.{is_same_address}
use Rattle.virtual_cluster.proofs.pairs.is_among.Given as goal

-- what is left decides
abbrev pub invariant-loop-node : goal.invariant-loop-node
invariant-loop-node l = list_any (λ target. is_same_address target l.address) (drop l.node-index l.nodes) ≡ list_any (λ target. is_same_address target l.address) l.nodes
