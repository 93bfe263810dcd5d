use Rattle.framing.proofs.Cutting.{cut_in_pieces}
use Rattle.framing.proofs.laws.cut_in_pieces.Goals as goal

pub returns : goal.returns
returns c = cut_in_pieces
