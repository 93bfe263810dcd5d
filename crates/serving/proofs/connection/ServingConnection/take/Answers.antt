use Rattle.std.proofs.Common.{◌∙◌, refl, sym, Ok, Err, ℕ}
use Rattle.conn_rules.specs.declared.event.Event.{Event}
use Rattle.conn_rules.specs.declared.event.Event.TheVariants as event
use Rattle.conn_rules.specs.declared.event.Reply.{Reply}
use Rattle.conn_rules.specs.declared.event.Reply.TheVariants as reply
use Rattle.conn_rules.specs.declared.event.TakeFault.TheVariants as take_fault
use Rattle.serving.proofs.Takes.{take_ok, take_wanting, limit_taken}
use Rattle.conn_rules.specs.Room.{limited}
use Rattle.serving.proofs.Working.{take_refused}
use Rattle.serving.proofs.Follows.{LeadsBy, follows_by, follows_counting, counts_growth}
use Rattle.serving.proofs.connection.ServingConnection.take.Goals as goal

-- a refusal counts nothing
pub returns-then-are_ending-clause-counted : goal.returns-then-are_ending-clause-counted
returns-then-are_ending-clause-counted g c = λ s t h step.
    take_refused (limited c.args.self.now.flight.limit (g.S.Service.meaning c.args.self.now.service)) s t h.rest c.args.steps.now c.args.steps.now refl c.args.frame _ step

pub returns-then-not-has_room-clause-counted : goal.returns-then-not-has_room-clause-counted
returns-then-not-has_room-clause-counted g c = λ s t h step.
    take_refused (limited c.args.self.now.flight.limit (g.S.Service.meaning c.args.self.now.service)) s t h.rest c.args.steps.now c.args.steps.now refl c.args.frame _ step

pub returns-in-Ok : goal.returns-in-Ok
returns-in-Ok g c =
    let v = c.args.self.now.service in
    let f = c.args.self.now.flight in
    let n : ℕ = c.args.steps.now in
    let m : ℕ = c.accept.new.steps in
    let e : Event = event.Take c.args.frame in
    let ok : Reply = reply.Take (Ok tt) in
    let leads : LeadsBy g.S.Service.meaning g.S.Service.stands v f e ok n m c.accept.new.self.flight =
    λ s h. take_ok (g.S.Service.meaning v) (g.S.Service.stands v) f s h c.args.frame (sym c.if-are_ending.ensures) (rw (← c.len.ensures.value) (sym c.has_room.ensures ∙ c.if-not-has_room.false)) c.accept.new.self.flight n m c.in-Ok.ensures.takes in
    record {
      follows = follows_counting g.S.Service.meaning g.S.Service.stands v f e ok n m c.accept.new.self.service c.accept.new.self.flight c.in-Ok.ensures.service (limit_taken (g.S.Service.meaning v) (g.S.Service.stands v) f c.args.frame c.accept.new.self.flight n m c.in-Ok.ensures.takes) leads;
      counted = counts_growth g.S.Service.meaning g.S.Service.stands v f e ok n m c.accept.new.self.flight leads;
      back = tt;
    }

pub returns-clause-follows : goal.returns-clause-follows
returns-clause-follows g c =
    let v = c.args.self.now.service in
    let f = c.args.self.now.flight in
    rw c.halt.ensures (follows_by g.S.Service.meaning g.S.Service.stands v f (event.Take c.args.frame) (reply.Take (Err take_fault.NoMemory)) c.accept.new.self.service _ c.accept.ensures.service c.in-Err.ensures.outside.limit_is
    (λ s h. take_wanting (g.S.Service.meaning v) (g.S.Service.stands v) f s h c.args.frame (sym c.if-are_ending.ensures) (rw (← c.len.ensures.value) (sym c.has_room.ensures ∙ c.if-not-has_room.false)) c.accept.new.self.flight c.in-Err.ensures.outside))
