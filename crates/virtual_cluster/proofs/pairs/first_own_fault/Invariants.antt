use Rattle.std.proofs.Common.{◌≡◌, drop}
use Rattle.virtual_cluster.specs.Pairs.{first_own_fault}
use Rattle.virtual_cluster.proofs.pairs.first_own_fault.Given as goal

-- the plans so far have no fault
abbrev pub invariant-loop-a : goal.invariant-loop-a
invariant-loop-a l = first_own_fault l.a (drop l.a l.plans) ≡ first_own_fault 0 l.plans
