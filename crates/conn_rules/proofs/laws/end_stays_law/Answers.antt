use Rattle.conn_rules.proofs.Ends.{end_stays}
use Rattle.conn_rules.proofs.laws.end_stays_law.Goals as goal

pub returns : goal.returns
returns c = end_stays
