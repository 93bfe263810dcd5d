use Rattle.std.proofs.Common.{◌∙◌, sym, refl, Ok, Err, ℕ}
use Rattle.conn_rules.specs.declared.event.Event.{Event}
use Rattle.conn_rules.specs.declared.event.Event.TheVariants as event
use Rattle.conn_rules.specs.declared.event.Reply.{Reply}
use Rattle.conn_rules.specs.declared.event.Reply.TheVariants as reply
use Rattle.conn_rules.specs.declared.event.CompleteFault.TheVariants as complete_fault
use Rattle.conn_rules.specs.Room.{limited}
use Rattle.serving.proofs.Working.{complete_refused}
use Rattle.serving.proofs.Follows.{LeadsBy, follows_by, follows_counting, counts_growth}
use Rattle.serving.proofs.Responses.{complete_still, complete_other, complete_wanting, complete_ok, number_true, number_false}
use Rattle.serving.proofs.connection.ServingConnection.complete.Goals as goal
use Rattle.serving.proofs.connection.ServingConnection.complete.Goals.{then-are_still-via-then-are_still, then-are_still-via-else-are_still+then-not-awaits}

pub returns-then-are_still-clause-follows : goal.returns-then-are_still-clause-follows
returns-then-are_still-clause-follows g c =
    let v = c.args.self.now.service in
    let f = c.args.self.now.flight in (
      refl,
      λ s h. elim c.then-are_still.branch [
        | then-are_still-via-then-are_still w ↦ complete_still (g.S.Service.meaning v) (g.S.Service.stands v) f s h c.args.request c.args.index c.args.verdict (sym w.if-are_still.ensures)
        | then-are_still-via-else-are_still+then-not-awaits w ↦ complete_other (g.S.Service.meaning v) (g.S.Service.stands v) f s h c.args.request c.args.index c.args.verdict (sym w.if-are_still.ensures) (number_false c.args.index _ (sym w.awaits.ensures ∙ w.if-not-awaits.true))
      ],
    )

-- a refusal counts nothing
pub returns-then-are_still-clause-counted : goal.returns-then-are_still-clause-counted
returns-then-are_still-clause-counted g c = λ s t h step.
    complete_refused (limited c.args.self.now.flight.limit (g.S.Service.meaning c.args.self.now.service)) s t h.rest c.args.steps.now c.args.steps.now refl c.args.request c.args.index c.args.verdict _ step

pub returns-in-Ok : goal.returns-in-Ok
returns-in-Ok g c =
    let v = c.args.self.now.service in
    let f = c.args.self.now.flight in
    let n : ℕ = c.args.steps.now in
    let m : ℕ = c.give.new.steps in
    let e : Event = event.Complete c.args.request c.args.index c.args.verdict in
    let ok : Reply = reply.Complete (Ok tt) in
    let leads : LeadsBy g.S.Service.meaning g.S.Service.stands v f e ok n m c.give.new.self.flight =
    λ s h. complete_ok (g.S.Service.meaning v) (g.S.Service.stands v) f s h c.args.request c.args.index c.args.verdict (sym c.if-are_still.ensures) (number_true c.args.index _ (sym c.awaits.ensures ∙ c.if-not-awaits.false)) c.give.new.self.flight c.in-Ok.ensures.outside n m c.in-Ok.ensures.gives in
    record {
      follows = follows_counting g.S.Service.meaning g.S.Service.stands v f e ok n m c.give.new.self.service c.give.new.self.flight c.in-Ok.ensures.service c.in-Ok.ensures.outside.limit_is leads;
      counted = counts_growth g.S.Service.meaning g.S.Service.stands v f e ok n m c.give.new.self.flight leads;
      back = tt;
    }

pub returns-in-Err-clause-follows : goal.returns-in-Err-clause-follows
returns-in-Err-clause-follows g c =
    let v = c.args.self.now.service in
    let f = c.args.self.now.flight in
    rw c.halt.ensures (follows_by g.S.Service.meaning g.S.Service.stands v f (event.Complete c.args.request c.args.index c.args.verdict) (reply.Complete (Err complete_fault.NoMemory)) c.give.new.self.service _ c.give.ensures.service c.give.ensures.outside.limit_is
    (λ s h. complete_wanting (g.S.Service.meaning v) (g.S.Service.stands v) f s h c.args.request c.args.index c.args.verdict (sym c.if-are_still.ensures) (number_true c.args.index _ (sym c.awaits.ensures ∙ c.if-not-awaits.false)) c.give.new.self.flight c.give.ensures.outside))
