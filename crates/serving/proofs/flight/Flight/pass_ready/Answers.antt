use Rattle.std.proofs.Common.{◌≡◌, ◌∙◌, ap, sym, true, false, slice_get}
use Rattle.std.proofs.lemmas.Option.{get_or_from_slice_get}
use Rattle.serving.proofs.flight.Flight.pass_ready.Goals as goal
use Rattle.serving.proofs.flight.Flight.pass_ready.Goals.{in-Some+in-Ready-Some, in-Some+in_default, in-Some+in_default-2, in-None}

pub returns-in-Some-pass_front : goal.returns-in-Some-pass_front
returns-in-Some-pass_front g c =
    elim c.match-front.branch [
      | in-Some+in-Ready-Some w ↦ absurd (c.in_default-stage.not-Ready w.in-Ready-Some.field-0 (ap (λ x. x.stage) (sym (w.in-Some.ensures.lookup ∙ get_or_from_slice_get c.args.self.now.slots.items 0 c.in-Some-pass_front.slot w.in-Some.slot.now (ap (λ x. slice_get x.slots.items 0) (sym w.self-is) ∙ c.in-Some-pass_front.ensures.there))) ∙ w.in-Ready-Some.is))
      | in-Some+in_default w ↦ absurd (let never : true ≡ false = sym c.if-not-is_ready.false ∙ w.is_ready-is in cc)
      | in-Some+in_default-2 w ↦ absurd (let never : true ≡ false = sym c.if-not-is_ready.false ∙ w.is_ready-is in cc)
      | in-None w ↦ absurd (let never : true ≡ false = sym c.if-not-is_ready.false ∙ w.is_ready-is in cc)
    ]
