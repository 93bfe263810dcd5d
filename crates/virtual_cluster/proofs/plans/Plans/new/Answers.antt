use Rattle.std.proofs.Common.{◌≡◌, None}
use Rattle.virtual_cluster.specs.Pairs.{plans_fault}
use Rattle.virtual_cluster.proofs.Faultless.{All-valid, ArePrefixesApart-faultless}
use Rattle.virtual_cluster.proofs.plans.Plans.new.Goals as goal

pub returns-in-None-clause-valid : goal.returns-in-None-clause-valid
returns-in-None-clause-valid c =
    let none : plans_fault c.args.list.items ≡ None = rw (← c.as_slice.ensures.value, ← c.plans_fault-fault.ensures) c.in-None.is in
    rw c.from_vec.ensures (All-valid c.args.list.items none)

pub returns-in-None-clause-apart : goal.returns-in-None-clause-apart
returns-in-None-clause-apart c =
    let none : plans_fault c.args.list.items ≡ None = rw (← c.as_slice.ensures.value, ← c.plans_fault-fault.ensures) c.in-None.is in
    rw c.from_vec.ensures (ArePrefixesApart-faultless c.args.list.items none)
