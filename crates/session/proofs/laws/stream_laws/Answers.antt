use Rattle.session.proofs.Streaming.{stream_fresh, stream_piece, stream_piece_lost, stream_push, stream_end, stream_elsewhere, stream_cut, stream_whole, other_piece, other_push, other_end}
use Rattle.session.proofs.Showing.{piece_silent, push_silent, end_silent, piece_unsent, push_unsent, end_unsent}
use Rattle.session.proofs.laws.stream_laws.Goals as goal

pub returns : goal.returns
returns c = record { opening = stream_fresh; piece = stream_piece; no_memory = stream_piece_lost; push = stream_push; end = stream_end; elsewhere = stream_elsewhere; other_piece = other_piece; other_push = other_push; other_end = other_end; silent_piece = piece_silent; silent_push = push_silent; silent_end = end_silent; unsent_piece = piece_unsent; unsent_push = push_unsent; unsent_end = end_unsent; first = stream_cut; whole = stream_whole }
