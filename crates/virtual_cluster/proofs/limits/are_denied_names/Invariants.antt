use Rattle.std.proofs.Common.{◌≡◌, drop, length}
use Rattle.std.specs.List.{list_all}
use Rattle.virtual_cluster.specs.Limits.{is_in_range}
use Rattle.virtual_cluster.proofs.limits.are_denied_names.Given as goal

-- what is left decides
abbrev pub invariant-loop-name : goal.invariant-loop-name
invariant-loop-name l = list_all (λ name. is_in_range 1 249 (length name)) (drop l.name-index l.names) ≡ list_all (λ name. is_in_range 1 249 (length name)) l.names
