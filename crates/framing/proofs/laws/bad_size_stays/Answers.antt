use Rattle.framing.proofs.Cutting.{bad_size_stays}
use Rattle.framing.proofs.laws.bad_size_stays.Goals as goal

pub returns : goal.returns
returns c = bad_size_stays
