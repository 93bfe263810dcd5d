use Rattle.std.proofs.Common.{◌≡◌, ◌+◌, drop}
use Rattle.virtual_cluster.specs.Pairs.{first_fault_with}
use Rattle.virtual_cluster.proofs.pairs.first_fault_with.Given as goal

-- the pairs so far have no fault
abbrev pub invariant-loop-i : goal.invariant-loop-i
invariant-loop-i l = first_fault_with l.a l.plan (l.a + 1 + l.i) (drop l.i l.others) ≡ first_fault_with l.a l.plan (l.a + 1) l.others
