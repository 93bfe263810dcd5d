use Rattle.framing.proofs.Cutting.{first_frames_of_a_cut}
use Rattle.framing.proofs.laws.first_frames_of_a_cut.Goals as goal

pub returns : goal.returns
returns c = first_frames_of_a_cut
