use Rattle.virtual_cluster.proofs.Faultless.{All-valid, ArePrefixesApart-faultless}
use Rattle.virtual_cluster.proofs.plans.Plans.list.Goals as goal

pub returns-clause-valid : goal.returns-clause-valid
returns-clause-valid c = rw c.as_slice.ensures (All-valid c.self.inside.list c.self.invariant.faultless)

pub returns-clause-apart : goal.returns-clause-apart
returns-clause-apart c = rw c.as_slice.ensures (ArePrefixesApart-faultless c.self.inside.list c.self.invariant.faultless)
