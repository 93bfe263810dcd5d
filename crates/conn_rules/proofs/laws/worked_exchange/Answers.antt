use Rattle.conn_rules.proofs.Worked.{goes_so}
use Rattle.conn_rules.proofs.laws.worked_exchange.Goals as goal

pub returns : goal.returns
returns c = goes_so
