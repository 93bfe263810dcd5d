use Rattle.std.proofs.Common.{◌≡◌, ◌∙◌, ap, sym, ℕ, ◌+◌, ◌<◌, ◌^◌, arith, slice_get, slice_set}
use Rattle.conn_rules.specs.Causes.{below}
use Rattle.conn_rules.specs.declared.event.Ticket.{Ticket}
use Rattle.serving.specs.declared.flight.Flight.{Flight}
use Rattle.serving.specs.declared.slot.Stage.TheVariants as stage
use Rattle.serving.specs.Flights.{first_of, SameFlight, PicksSlot}
use Rattle.serving.proofs.flight.Flight.pick_first.Goals as goal

picks_from : {R : Type 0} → (f g new : Flight R) (place : ℕ) (ticket : Ticket) → SameFlight f g → PicksSlot place g new ticket → PicksSlot place f new ticket
picks_from f g new place ticket same h =
    record {
      rest = record { limit_is = h.rest.limit_is ∙ same.0.limit_is; count = h.rest.count ∙ same.0.count; held = h.rest.held ∙ same.0.held; requests = h.rest.requests ∙ same.0.requests; causes = h.rest.causes ∙ same.0.causes; free = h.rest.free ∙ same.0.free; sends = h.rest.sends ∙ same.0.sends };
      slot = h.slot;
      there = ap (λ xs. slice_get xs place) (sym same.1) ∙ h.there;
      run = h.run;
      held = h.held;
      index = h.index;
      slots = h.slots ∙ ap (λ xs. slice_set xs place (record h.slot { stage = stage.Picked h.run })) same.1;
    }

pub returns-in-Some-clause-picks : goal.returns-in-Some-clause-picks
returns-in-Some-clause-picks g c =
    let f = c.args.self.now in
    let place = c.loop-place.place in
    let number : first_of f + place < 2 ^ 64 → c.saturating_add-request.result ≡ first_of f + place = λ fits. omega (arith, c.saturating_add-request.ensures, c.first-first.ensures.first, fits) in (
      place,
      λ fits. (
        c.in-Some.ensures.0 ∙ number fits,
        ap (λ x. below x.cut (first_of f + place)) (sym c.loop-place.invariant.0.0.causes) ∙ (ap (λ n. below c.loop-place.self.causes.cut n) (sym (number fits)) ∙ sym c.if-is_below_cut.ensures),
        λ before lt low. c.loop-place.invariant.2 before lt (omega (arith, fits, lt)) low,
      ),
      picks_from f c.loop-place.self c.pick_at.new.self place c.in-Some.ticket c.loop-place.invariant.0 c.in-Some.ensures.1,
    )
