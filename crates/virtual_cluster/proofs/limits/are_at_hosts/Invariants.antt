use Rattle.std.proofs.Common.{◌≡◌, drop}
use Rattle.std.specs.List.{list_all}
use Rattle.virtual_cluster.specs.Limits.{is_host}
use Rattle.virtual_cluster.proofs.limits.are_at_hosts.Given as goal

-- what is left decides
abbrev pub invariant-loop-node : goal.invariant-loop-node
invariant-loop-node l = list_all (λ node. is_host node.host) (drop l.node-index l.nodes) ≡ list_all (λ node. is_host node.host) l.nodes
