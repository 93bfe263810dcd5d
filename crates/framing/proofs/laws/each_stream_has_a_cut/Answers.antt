use Rattle.framing.proofs.Cutting.{each_stream_has_a_cut}
use Rattle.framing.proofs.laws.each_stream_has_a_cut.Goals as goal

pub returns : goal.returns
returns c = each_stream_has_a_cut
