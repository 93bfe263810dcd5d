use Rattle.std.proofs.Common.{◌∷◌, [], refl, sym, ap, inr, length}
use Rattle.session.specs.Peers.{end_event}
use Rattle.session.specs.Pushes.{noted_entry}
use Rattle.session.specs.Sides.{stream_of}
use Rattle.session.proofs.Pieces.{from_open, none_kept}
use Rattle.session.proofs.side.Side.end.Goals as goal

pub returns-then-not-has_frame : goal.returns-then-not-has_frame
returns-then-not-has_frame g c =
    let side = c.args.self.now in
    let none = none_kept side.kept side.framer.rest c.if-not-has_frame.ensures.0 in (
      noted_entry (end_event side.peer (length side.framer.rest)) ∷ [],
      c.tell_end.ensures.told,
      from_open side.ended _ _ c.if-self.false (record {
        answered = refl;
        ends = inr (record {
          tail_is = c.if-not-has_frame.ensures.1;
          told = ap (λ xs. noted_entry (end_event side.peer (length xs)) ∷ []) (sym none);
          after_is = ap stream_of c.tell_end.ensures.after;
        });
      }),
    )
