use Rattle.correlation.proofs.WindowLaws.{laws}
use Rattle.correlation.proofs.laws.window_laws.Goals as goal

pub returns : goal.returns
returns c = laws
