use Rattle.conn_rules.proofs.Sweep.{sweeps}
use Rattle.conn_rules.proofs.laws.sweep_laws.Goals as goal

pub returns : goal.returns
returns c = sweeps
