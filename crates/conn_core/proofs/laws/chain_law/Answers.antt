use Rattle.conn_core.proofs.Lasting.{chain_lasts}
use Rattle.conn_core.proofs.laws.chain_law.Goals as goal

pub returns : goal.returns
returns c = chain_lasts
