use Rattle.std.proofs.Common.{◌≤◌, subst, ◌∙◌, refl, arith, take, length}
use Rattle.std.specs.Prelude.{IfSome}
use Rattle.kp_edge.specs.Source.{ComesNext}
use Rattle.proxy_main.specs.Written.{TakesAll, TakeStops}
use Rattle.proxy_main.proofs.SoFar.{none_read, some_read}
use Rattle.proxy_main.proofs.Going.{turn_output, turn_input, turn_taken, turn_stopped, turn_too_long}
use Rattle.proxy_main.proofs.replay.Replay.turn.Goals as goal

pub returns-in-Err-clause-turn : goal.returns-in-Err-clause-turn
returns-in-Err-clause-turn g c M begun script first k =
    turn_output g.C.Connection.meaning g.C.Connection.stands M begun (length c.args.buffer.now) script c.args.self.now c.flush.new.self (g.I.Source.coming c.args.input.now) first (g.O.Sink.taken c.args.out.now) (g.O.Sink.taken c.flush.new.out) c.args.left k c.in-Err.ensures.err c.flush.new.self (g.I.Source.coming c.args.input.now)

pub returns-in-Err-read-clause-turn : goal.returns-in-Err-read-clause-turn
returns-in-Err-read-clause-turn g c M begun script first k =
    turn_input g.C.Connection.meaning g.C.Connection.stands M begun (length c.args.buffer.now) script c.args.self.now c.flush.new.self (g.I.Source.coming c.args.input.now) first (g.O.Sink.taken c.args.out.now) (g.O.Sink.taken c.flush.new.out) c.args.left k c.in-Ok.ensures.ok (g.I.Source.coming c.read.new.self)

pub returns-in-Ok-take_all-clause-turn : goal.returns-in-Ok-take_all-clause-turn
returns-in-Ok-take_all-clause-turn g c M begun script first k =
    let gives : ComesNext c.in-Ok-read.count k.rest (g.I.Source.coming c.read.new.self) c.read.new.buf = subst (λ o. IfSome o (λ xs. ComesNext c.in-Ok-read.count xs (g.I.Source.coming c.read.new.self) c.read.new.buf)) k.unread_is c.in-Ok-read.ensures.bytes in
    turn_too_long g.C.Connection.meaning g.C.Connection.stands M begun (length c.args.buffer.now) script c.args.self.now c.flush.new.self (g.I.Source.coming c.args.input.now) first (g.O.Sink.taken c.args.out.now) (g.O.Sink.taken c.flush.new.out) c.args.left k c.in-Ok.ensures.ok c.take_all.new.self c.in-Ok-read.count c.read.new.buf (g.I.Source.coming c.read.new.self) (g.I.Source.coming c.read.new.self) (g.O.Sink.taken c.take_all.new.out) gives c.if-count-left.true
    (subst (λ xs. TakesAll g.C.Connection.meaning g.C.Connection.stands c.flush.new.self (g.O.Sink.taken c.flush.new.out) xs c.take_all.new.self (g.O.Sink.taken c.take_all.new.out)) c.split_at.ensures.front c.in-Ok-take_all.ensures.ok)

pub returns-in-Err-take_all-clause-turn : goal.returns-in-Err-take_all-clause-turn
returns-in-Err-take_all-clause-turn g c M begun script first k =
    let gives : ComesNext c.in-Ok-read.count k.rest (g.I.Source.coming c.read.new.self) c.read.new.buf = subst (λ o. IfSome o (λ xs. ComesNext c.in-Ok-read.count xs (g.I.Source.coming c.read.new.self) c.read.new.buf)) k.unread_is c.in-Ok-read.ensures.bytes in
    let below : c.args.left ≤ c.in-Ok-read.count = omega (arith, c.if-count-left.true) in
    turn_stopped g.C.Connection.meaning g.C.Connection.stands M begun (length c.args.buffer.now) script c.args.self.now c.flush.new.self (g.I.Source.coming c.args.input.now) first (g.O.Sink.taken c.args.out.now) (g.O.Sink.taken c.flush.new.out) c.args.left k c.in-Ok.ensures.ok c.take_all.new.self c.in-Ok-read.count c.read.new.buf (take c.in-Ok-read.count c.read.new.buf) (g.I.Source.coming c.read.new.self) (g.O.Sink.taken c.take_all.new.out) c.in-Err-take_all.stop gives (omega (arith, c.in-Ok-read.ensures.bound, c.read.auto.buf)) refl c.args.left (omega arith) below
    (subst (λ xs. TakeStops g.C.Connection.meaning g.C.Connection.stands c.flush.new.self (g.O.Sink.taken c.flush.new.out) xs c.take_all.new.self (g.O.Sink.taken c.take_all.new.out) c.in-Err-take_all.stop) c.split_at.ensures.front c.in-Err-take_all.ensures.err)

pub returns-in-Ok-take_all-2-clause-turn : goal.returns-in-Ok-take_all-2-clause-turn
returns-in-Ok-take_all-2-clause-turn g c M begun script first k =
    let gives : ComesNext c.in-Ok-read.count k.rest (g.I.Source.coming c.read.new.self) c.read.new.buf = subst (λ o. IfSome o (λ xs. ComesNext c.in-Ok-read.count xs (g.I.Source.coming c.read.new.self) c.read.new.buf)) k.unread_is c.in-Ok-read.ensures.bytes in
    turn_taken g.C.Connection.meaning g.C.Connection.stands M begun (length c.args.buffer.now) script c.args.self.now c.flush.new.self (g.I.Source.coming c.args.input.now) first (g.O.Sink.taken c.args.out.now) (g.O.Sink.taken c.flush.new.out) c.args.left k c.in-Ok.ensures.ok c.take_all-2.new.self c.in-Ok-read.count c.read.new.buf c.split_at-2.result.0.now (g.I.Source.coming c.read.new.self) (g.O.Sink.taken c.take_all-2.new.out) gives c.split_at-2.ensures.front c.if-count-left.false c.in-Ok-take_all-2.ensures.ok

pub returns-in-Err-take_all-2-clause-turn : goal.returns-in-Err-take_all-2-clause-turn
returns-in-Err-take_all-2-clause-turn g c M begun script first k =
    let gives : ComesNext c.in-Ok-read.count k.rest (g.I.Source.coming c.read.new.self) c.read.new.buf = subst (λ o. IfSome o (λ xs. ComesNext c.in-Ok-read.count xs (g.I.Source.coming c.read.new.self) c.read.new.buf)) k.unread_is c.in-Ok-read.ensures.bytes in
    turn_stopped g.C.Connection.meaning g.C.Connection.stands M begun (length c.args.buffer.now) script c.args.self.now c.flush.new.self (g.I.Source.coming c.args.input.now) first (g.O.Sink.taken c.args.out.now) (g.O.Sink.taken c.flush.new.out) c.args.left k c.in-Ok.ensures.ok c.take_all-2.new.self c.in-Ok-read.count c.read.new.buf (take c.in-Ok-read.count c.read.new.buf) (g.I.Source.coming c.read.new.self) (g.O.Sink.taken c.take_all-2.new.out) c.in-Err-take_all-2.stop gives (omega (arith, c.in-Ok-read.ensures.bound, c.read.auto.buf)) refl c.in-Ok-read.count c.if-count-left.false (omega arith)
    (subst (λ xs. TakeStops g.C.Connection.meaning g.C.Connection.stands c.flush.new.self (g.O.Sink.taken c.flush.new.out) xs c.take_all-2.new.self (g.O.Sink.taken c.take_all-2.new.out) c.in-Err-take_all-2.stop) c.split_at-2.ensures.front c.in-Err-take_all-2.ensures.err)

pub returns-in-Ok-take_all-clause-once : goal.returns-in-Ok-take_all-clause-once
returns-in-Ok-take_all-clause-once g c =
    some_read (length c.args.buffer.now) c.in-Ok-read.count (g.I.Source.coming c.args.input.now) (g.I.Source.coming c.read.new.self) c.read.new.buf _ c.in-Ok-read.ensures.bytes (omega (arith, c.in-Ok-read.ensures.bound, c.read.auto.buf)) tt

pub returns-in-Err-take_all-clause-once : goal.returns-in-Err-take_all-clause-once
returns-in-Err-take_all-clause-once g c =
    some_read (length c.args.buffer.now) c.in-Ok-read.count (g.I.Source.coming c.args.input.now) (g.I.Source.coming c.read.new.self) c.read.new.buf _ c.in-Ok-read.ensures.bytes (omega (arith, c.in-Ok-read.ensures.bound, c.read.auto.buf)) tt

pub returns-in-Ok-take_all-2-clause-once : goal.returns-in-Ok-take_all-2-clause-once
returns-in-Ok-take_all-2-clause-once g c =
    some_read (length c.args.buffer.now) c.in-Ok-read.count (g.I.Source.coming c.args.input.now) (g.I.Source.coming c.read.new.self) c.read.new.buf _ c.in-Ok-read.ensures.bytes (omega (arith, c.in-Ok-read.ensures.bound, c.read.auto.buf)) refl

pub returns-in-Err-take_all-2-clause-once : goal.returns-in-Err-take_all-2-clause-once
returns-in-Err-take_all-2-clause-once g c =
    some_read (length c.args.buffer.now) c.in-Ok-read.count (g.I.Source.coming c.args.input.now) (g.I.Source.coming c.read.new.self) c.read.new.buf _ c.in-Ok-read.ensures.bytes (omega (arith, c.in-Ok-read.ensures.bound, c.read.auto.buf)) tt

pub returns-in-Err-clause-once : goal.returns-in-Err-clause-once
returns-in-Err-clause-once g c = none_read (length c.args.buffer.now) (g.I.Source.coming c.args.input.now) _ tt

pub returns-in-Err-read-clause-once : goal.returns-in-Err-read-clause-once
returns-in-Err-read-clause-once g c coming is =
    record { taken = 0; within = omega arith; short = omega arith; unread_is = c.in-Err-read.ensures.failed ∙ is; told = tt }
