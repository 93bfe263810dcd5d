use Rattle.std.proofs.Common.{◌≡◌, ◌∙◌, ap, sym, refl, Ok, Err, ℕ, ℤ}
use Rattle.std.specs.Int.{w32, cast_signed, cast_unsigned}
use Rattle.std.proofs.lemmas.Int.{to_z-of_z}
use Rattle.framing.specs.CorrelationIds.{response_id}
use Rattle.conn_rules.specs.declared.event.Event.{Event}
use Rattle.conn_rules.specs.declared.event.Event.TheVariants as event
use Rattle.conn_rules.specs.declared.event.Reply.{Reply}
use Rattle.conn_rules.specs.declared.event.Reply.TheVariants as reply
use Rattle.conn_rules.specs.declared.event.AnswerFault.TheVariants as answer_fault
use Rattle.conn_rules.specs.Room.{limited}
use Rattle.serving.specs.Stands.{refusal_end, dead_flight}
use Rattle.serving.proofs.Working.{answer_dead}
use Rattle.serving.proofs.Follows.{LeadsBy, follows_by, follows_counting, counts_growth}
use Rattle.serving.proofs.Responses.{answer_refused, answer_ok, answer_no_memory}
use Rattle.serving.proofs.connection.ServingConnection.answer.Goals as goal

-- a refusal counts nothing
pub returns-then-are_dead-clause-counted : goal.returns-then-are_dead-clause-counted
returns-then-are_dead-clause-counted g c = λ s t h step.
    answer_dead (limited c.args.self.now.flight.limit (g.S.Service.meaning c.args.self.now.service)) s t h.rest c.args.steps.now c.args.steps.now refl c.args.frame _ step

pub returns-in-Err : goal.returns-in-Err
returns-in-Err g c =
    let v = c.args.self.now.service in
    let f = c.args.self.now.flight in
    let n : ℕ = c.args.steps.now in
    let id : ℤ = cast_signed w32 (cast_unsigned w32 c.response_id.result) in
    let own : id ≡ c.response_id.result = to_z-of_z w32 c.response_id.result (record { sfits = c.response_id.type_inv }) in
    let is : id ≡ response_id c.args.frame = own ∙ (c.response_id.ensures ∙ ap (λ x. response_id x) c.as_slice.ensures) in
    let e : Event = event.Answer c.args.frame in
    let ok : Reply = reply.Answer (Ok tt) in
    let g' = record f { sends = c.answer.new.self } in
    let new = dead_flight (refusal_end c.in-Err.refusal) g' in
    let leads : LeadsBy g.S.Service.meaning g.S.Service.stands v f e ok n n new =
    λ s h. answer_refused (g.S.Service.meaning v) (g.S.Service.stands v) f s h c.args.frame (sym c.if-are_dead.ensures) g' id c.in-Err.refusal refl c.answer.ensures.answered is (sym c.answer.ensures.owner ∙ c.in-Err.is) n n refl in
    rw (c.die.ensures, c.refused.ensures) (record {
      follows = follows_counting g.S.Service.meaning g.S.Service.stands v f e ok n n v new refl refl leads;
      counted = counts_growth g.S.Service.meaning g.S.Service.stands v f e ok n n new leads;
      back = tt;
    })

pub returns-in-Ok-give_body : goal.returns-in-Ok-give_body
returns-in-Ok-give_body g c =
    let v = c.args.self.now.service in
    let f = c.args.self.now.flight in
    let n : ℕ = c.args.steps.now in
    let m : ℕ = c.give_body.new.steps in
    let id : ℤ = cast_signed w32 (cast_unsigned w32 c.response_id.result) in
    let own : id ≡ c.response_id.result = to_z-of_z w32 c.response_id.result (record { sfits = c.response_id.type_inv }) in
    let is : id ≡ response_id c.args.frame = own ∙ (c.response_id.ensures ∙ ap (λ x. response_id x) c.as_slice.ensures) in
    let e : Event = event.Answer c.args.frame in
    let ok : Reply = reply.Answer (Ok tt) in
    let leads : LeadsBy g.S.Service.meaning g.S.Service.stands v f e ok n m c.give_body.new.self.flight =
    λ s h. answer_ok (g.S.Service.meaning v) (g.S.Service.stands v) f s h c.args.frame (sym c.if-are_dead.ensures) (record f { sends = c.answer.new.self }) id c.in-Ok.owner refl c.answer.ensures.answered is (sym c.answer.ensures.owner ∙ c.in-Ok.is) c.give_body.new.self.flight c.in-Ok-give_body.ensures.outside n m c.in-Ok-give_body.ensures.gives in
    record {
      follows = follows_counting g.S.Service.meaning g.S.Service.stands v f e ok n m c.give_body.new.self.service c.give_body.new.self.flight c.in-Ok-give_body.ensures.service c.in-Ok-give_body.ensures.outside.limit_is leads;
      counted = counts_growth g.S.Service.meaning g.S.Service.stands v f e ok n m c.give_body.new.self.flight leads;
      back = tt;
    }

pub returns-clause-follows : goal.returns-clause-follows
returns-clause-follows g c =
    let v = c.args.self.now.service in
    let f = c.args.self.now.flight in
    let id : ℤ = cast_signed w32 (cast_unsigned w32 c.response_id.result) in
    let own : id ≡ c.response_id.result = to_z-of_z w32 c.response_id.result (record { sfits = c.response_id.type_inv }) in
    let is : id ≡ response_id c.args.frame = own ∙ (c.response_id.ensures ∙ ap (λ x. response_id x) c.as_slice.ensures) in
    rw c.halt.ensures (follows_by g.S.Service.meaning g.S.Service.stands v f (event.Answer c.args.frame) (reply.Answer (Err answer_fault.NoMemory)) c.give_body.new.self.service _ c.give_body.ensures.service c.give_body.ensures.outside.limit_is
    (λ s h. answer_no_memory (g.S.Service.meaning v) (g.S.Service.stands v) f s h c.args.frame (sym c.if-are_dead.ensures) (record f { sends = c.answer.new.self }) id c.in-Ok.owner refl c.answer.ensures.answered is (sym c.answer.ensures.owner ∙ c.in-Ok.is) c.give_body.new.self.flight c.give_body.ensures.outside c.in-Err-give_body.ensures.wanting))
