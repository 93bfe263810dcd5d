use Rattle.std.proofs.Common.{◌∷◌, [], refl, ap, inr, subst}
use Rattle.conn_rules.specs.declared.event.Event.TheVariants as event
use Rattle.conn_rules.specs.declared.event.Fault.TheVariants as fault
use Rattle.conn_rules.proofs.Brings.{brings_one}
use Rattle.session.proofs.Counting.{counted_idle}
use Rattle.session.specs.Pushes.{noted_entry, IsPush}
use Rattle.session.specs.Sides.{stream_of}
use Rattle.session.proofs.Pieces.{from_open, nonempty, with_piece_is, takes_piece, side_stream}
use Rattle.session.proofs.side.Side.piece.Goals as goal

pub returns-in-Ok : goal.returns-in-Ok
returns-in-Ok g c =
    let side = c.args.self.now in
    let push = c.push.ensures in
    let fed = with_piece_is side.peer side.kept side.framer c.feed.new.self c.args.piece.now side.bad_told side.ended side.end_told c.in-Ok.ensures.ok in
    (push.0, push.1, takes_piece (stream_of side) c.args.piece.now push.0 c.push.result (stream_of c.push.new.self) c.if-self.false (subst (λ s. IsPush s push.0 c.push.result (stream_of c.push.new.self)) fed push.2))

pub returns-in-Err : goal.returns-in-Err
returns-in-Err g c =
    let side = c.args.self.now in
    let e = noted_entry (event.Fault fault.NoMemory) in (
      e ∷ [],
      counted_idle g.C.Connection.meaning g.C.Connection.stands c.args.connection.now c.out_of_memory.new.connection (e ∷ []) c.args.steps.now (brings_one g.C.Connection.meaning g.C.Connection.stands c.args.connection.now c.out_of_memory.new.connection e c.out_of_memory.ensures) (refl, tt),
      from_open side.ended _ _ c.if-self.false (inr (record {
        some = nonempty c.args.piece.now (λ none. let ok = c.in-Err.ensures.nothing none in cc);
        told = refl;
        same = ap (λ f. side_stream side.peer side.kept f side.bad_told side.ended side.end_told) c.in-Err.ensures.err;
      })),
    )
