use Rattle.conn_core.proofs.OwnEnds.{chain_fails_by_own_ends}
use Rattle.conn_core.proofs.laws.own_ends_law.Goals as goal

pub returns : goal.returns
returns c = chain_fails_by_own_ends
