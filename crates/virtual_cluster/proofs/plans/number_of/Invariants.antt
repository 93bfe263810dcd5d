use Rattle.std.proofs.Common.{◌≡◌, drop}
use Rattle.std.specs.Str.{bytes_eq}
use Rattle.std.specs.List.{position_from}
use Rattle.virtual_cluster.proofs.plans.number_of.Given as goal

-- none of the plans so far has the name
abbrev pub invariant-loop-a : goal.invariant-loop-a
invariant-loop-a l =
    position_from (λ plan. bytes_eq plan.name l.name) l.a (drop l.a l.plans) ≡ position_from (λ plan. bytes_eq plan.name l.name) 0 l.plans
