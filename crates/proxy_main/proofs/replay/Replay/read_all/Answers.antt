use Rattle.std.proofs.Common.{refl, sym, subst, ap, Err, [], ◌-◌, ◌∙◌, length}
use Rattle.proxy_main.specs.Scripts.{ReadSoFar}
use Rattle.proxy_main.specs.declared.stop.Stop.TheVariants as stop
use Rattle.proxy_main.specs.Written.{ReadEnds}
use Rattle.proxy_main.proofs.Counting.{is_no_err}
use Rattle.proxy_main.proofs.SoFar.{none_consumed, consumed_more, so_far_of}
use Rattle.proxy_main.proofs.Going.{finish_whole, finish_stops}
use Rattle.proxy_main.proofs.replay.Replay.read_all.Goals as goal

pub loop-self-init : goal.loop-self-init
loop-self-init g c = record {
  reads = λ M begun script is running. record { read = []; rest = script; parts = refl; unread_is = is; allowed_is = refl; running = running };
  so_far = λ script is. none_consumed script (g.I.Source.coming c.args.input.now) is;
  input = refl;
  output = refl;
}

pub loop-self-preserved : goal.loop-self-preserved
loop-self-preserved g c = record {
  reads = λ M begun script is running. (c.in-Ok.ensures.turn M begun script (g.O.Sink.taken c.args.out.now) (c.loop-self.invariant.reads M begun script is running)).0;
  so_far = λ script is. consumed_more (length c.loop-self.buffer) script (g.I.Source.coming c.loop-self.input) (g.I.Source.coming c.turn.new.input) c.loop-self.left c.in-Ok.count (c.loop-self.invariant.so_far script is) c.in-Ok.ensures.once c.in-Ok.ensures.bound;
  input = c.turn.ensures.faults.input.stays (is_no_err c.turn.result c.in-Ok.count stop.Input c.in-Ok.is) ∙ c.loop-self.invariant.input;
  output = c.turn.ensures.faults.output.stays (is_no_err c.turn.result c.in-Ok.count stop.Output c.in-Ok.is) ∙ c.loop-self.invariant.output;
}

pub returns-in-Ok-finish-clause-read : goal.returns-in-Ok-finish-clause-read
returns-in-Ok-finish-clause-read g c M begun script is running =
    let k = c.in-Ok-eq0.ensures.turn M begun script (g.O.Sink.taken c.args.out.now) (c.loop-self.invariant.reads M begun script is running) in
    finish_whole g.C.Connection.meaning g.C.Connection.stands M begun (length c.args.buffer.now) script c.turn.new.self c.finish.new.self (g.I.Source.coming c.turn.new.input) (g.O.Sink.taken c.args.out.now) (g.O.Sink.taken c.turn.new.out) (c.loop-self.left - c.in-Ok-eq0.field-0) k.0 (k.1 c.in-Ok-eq0.field-0-test) c.in-Ok-finish.ensures.ok

pub returns-in-Err-finish-clause-read : goal.returns-in-Err-finish-clause-read
returns-in-Err-finish-clause-read g c M begun script is running =
    let k = c.in-Ok-eq0.ensures.turn M begun script (g.O.Sink.taken c.args.out.now) (c.loop-self.invariant.reads M begun script is running) in
    subst (λ w. ReadEnds M begun (length c.args.buffer.now) script c.finish.new.self (g.I.Source.coming c.turn.new.input) (g.O.Sink.taken c.args.out.now) (g.O.Sink.taken c.turn.new.out) (Err w)) (sym c.from.ensures)
    (finish_stops g.C.Connection.meaning g.C.Connection.stands M begun (length c.args.buffer.now) script c.turn.new.self c.finish.new.self (g.I.Source.coming c.turn.new.input) (g.O.Sink.taken c.args.out.now) (g.O.Sink.taken c.turn.new.out) (c.loop-self.left - c.in-Ok-eq0.field-0) k.0 (k.1 c.in-Ok-eq0.field-0-test) c.in-Err-finish.stop (λ bad. c.in-Err-finish.ensures.bad (ap Err bad)) c.in-Err-finish.ensures.err)

pub returns-in-Err-clause-read : goal.returns-in-Err-clause-read
returns-in-Err-clause-read g c M begun script is running =
    subst (λ most. ReadEnds M begun most script c.turn.new.self (g.I.Source.coming c.turn.new.input) (g.O.Sink.taken c.args.out.now) (g.O.Sink.taken c.turn.new.out) (Err c.in-Err.stop)) c.loop-self.auto.buffer
    (c.in-Err.ensures.turn M begun script (g.O.Sink.taken c.args.out.now) (c.loop-self.invariant.reads M begun script is running))

pub returns-in-Ok-finish-clause-so_far : goal.returns-in-Ok-finish-clause-so_far
returns-in-Ok-finish-clause-so_far g c script is = subst (λ most. ReadSoFar most script (g.I.Source.coming c.turn.new.input)) c.loop-self.auto.buffer (so_far_of (length c.loop-self.buffer) script (g.I.Source.coming c.loop-self.input) (g.I.Source.coming c.turn.new.input) c.loop-self.left c.turn.result (c.loop-self.invariant.so_far script is) c.turn.ensures.once)

pub returns-in-Err-finish-clause-so_far : goal.returns-in-Err-finish-clause-so_far
returns-in-Err-finish-clause-so_far g c script is = subst (λ most. ReadSoFar most script (g.I.Source.coming c.turn.new.input)) c.loop-self.auto.buffer (so_far_of (length c.loop-self.buffer) script (g.I.Source.coming c.loop-self.input) (g.I.Source.coming c.turn.new.input) c.loop-self.left c.turn.result (c.loop-self.invariant.so_far script is) c.turn.ensures.once)

pub returns-in-Err-clause-so_far : goal.returns-in-Err-clause-so_far
returns-in-Err-clause-so_far g c script is = subst (λ most. ReadSoFar most script (g.I.Source.coming c.turn.new.input)) c.loop-self.auto.buffer (so_far_of (length c.loop-self.buffer) script (g.I.Source.coming c.loop-self.input) (g.I.Source.coming c.turn.new.input) c.loop-self.left c.turn.result (c.loop-self.invariant.so_far script is) c.turn.ensures.once)
