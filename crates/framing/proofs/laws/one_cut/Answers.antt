use Rattle.framing.proofs.Cutting.{one_cut}
use Rattle.framing.proofs.laws.one_cut.Goals as goal

pub returns : goal.returns
returns c = one_cut
