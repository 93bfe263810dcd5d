use Rattle.std.proofs.Common.{refl, [], ◌≡◌, ◌++◌, ◌∙◌, sym, ap, subst, take, drop, append_assoc, Err}
use Rattle.std.proofs.lemmas.List.{take-append-drop, nil_from_length}
use Rattle.std.proofs.lemmas.Bool.{eqb-true}
use Rattle.proxy_main.specs.Written.{TakeStops, HasWritten}
use Rattle.proxy_main.specs.Stops.{stop_of}
use Rattle.proxy_main.specs.declared.stop.Stop.TheVariants as stop
use Rattle.proxy_main.proofs.Lists.{append_nil}
use Rattle.proxy_main.proofs.Going.{takes_more, stops_at, stops_writing}
use Rattle.proxy_main.proofs.replay.Replay.take_all.Goals as goal

pub loop-rest-preserved : goal.loop-rest-preserved
loop-rest-preserved g c =
    let inv = c.loop-rest.invariant in
    let n = c.in-Ok.taken in
    let rest = c.loop-rest.rest.now in
    record {
      front = inv.front ++ take n rest;
      parts = inv.parts ∙ ap (λ r. inv.front ++ r) (sym (take-append-drop n rest)) ∙ sym (append_assoc inv.front (take n rest) (drop n rest)) ∙ ap (λ r. inv.front ++ take n rest ++ r) (sym c.split_at.ensures.back);
      takes = takes_more g.C.Connection.meaning g.C.Connection.stands _ _ _ _ _ _ _ inv.front (take n rest) inv.takes c.in-Ok.ensures.ok c.in-Ok-flush_many.ensures.ok;
      same = c.in-Ok-flush_many.ensures.cause.kept refl ∙ inv.same;
    }

pub returns-in-Err-clause-err : goal.returns-in-Err-clause-err
returns-in-Err-clause-err g c =
    let inv = c.loop-rest.invariant in
    let rest = c.loop-rest.rest.now in
    subst (λ w. TakeStops g.C.Connection.meaning g.C.Connection.stands c.args.self.now (g.O.Sink.taken c.args.out.now) c.args.bytes.now c.advance.new.self (g.O.Sink.taken c.loop-rest.out) w) (sym c.from.ensures)
    (subst (λ xs. TakeStops g.C.Connection.meaning g.C.Connection.stands c.args.self.now (g.O.Sink.taken c.args.out.now) xs c.advance.new.self (g.O.Sink.taken c.loop-rest.out) (stop_of c.in-Err.stop)) (sym inv.parts)
    (stops_at g.C.Connection.meaning g.C.Connection.stands _ _ _ _ _ inv.front rest c.in-Err.stop inv.takes (λ is. c.in-Err.ensures.bad (ap Err is)) c.in-Err.ensures.err))

pub returns-in-Err-flush_many-clause-err : goal.returns-in-Err-flush_many-clause-err
returns-in-Err-flush_many-clause-err g c =
    let inv = c.loop-rest.invariant in
    let n = c.in-Ok.taken in
    let rest = c.loop-rest.rest.now in
    let whole : inv.front ++ (take n rest ++ drop n rest) ≡ c.args.bytes.now = ap (λ r. inv.front ++ r) (take-append-drop n rest) ∙ sym inv.parts in
    subst (λ xs. TakeStops g.C.Connection.meaning g.C.Connection.stands c.args.self.now (g.O.Sink.taken c.args.out.now) xs c.flush_many.new.self (g.O.Sink.taken c.flush_many.new.out) stop.Output) whole
    (stops_writing g.C.Connection.meaning g.C.Connection.stands c.args.self.now c.loop-rest.self c.advance.new.self c.flush_many.new.self _ _ _ inv.front (take n rest) (drop n rest) inv.takes c.in-Ok.ensures.ok c.in-Err-flush_many.ensures.err)

pub returns-clause-ok : goal.returns-clause-ok
returns-clause-ok g c M begun first read r =
    let inv = c.loop-rest.invariant in
    let none : c.loop-rest.rest.now ≡ [] = nil_from_length _ (eqb-true _ _ (sym c.is_empty.ensures ∙ c.loop-rest-test.false)) in
    subst (λ xs. HasWritten g.C.Connection.meaning g.C.Connection.stands M begun c.loop-rest.self first (g.O.Sink.taken c.loop-rest.out) (read ++ xs)) (sym (append_nil inv.front) ∙ ap (λ xs. inv.front ++ xs) (sym none) ∙ sym inv.parts) (inv.takes M begun first read r)
