use Rattle.conn_rules.proofs.Resting.{work_stays}
use Rattle.conn_rules.proofs.laws.work_law.Goals as goal

pub returns : goal.returns
returns c = work_stays
