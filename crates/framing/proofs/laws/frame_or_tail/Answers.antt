use Rattle.framing.proofs.Cutting.{frame_or_tail}
use Rattle.framing.proofs.laws.frame_or_tail.Goals as goal

pub returns-clause-one : goal.returns-clause-one
returns-clause-one c = frame_or_tail
