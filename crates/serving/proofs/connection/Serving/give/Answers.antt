use Rattle.std.proofs.Common.{◌≡◌, ◌∙◌, ap, sym, refl, subst, ℕ, ◌-◌, arith, true, false, Result, Ok, Err, slice_get}
use Rattle.std.specs.Prelude.{OnOk}
use Rattle.conn_rules.specs.Room.{limited}
use Rattle.serving.specs.Services.{outside_of}
use Rattle.serving.specs.Flights.{first_of}
use Rattle.serving.specs.Slots.{rests_in}
use Rattle.serving.specs.Listing.{GivesAt, CountsAt, FlightSettles}
use Rattle.serving.proofs.Choices.{if_true, if_false}
use Rattle.serving.proofs.Sweeping.{from_first}
use Rattle.serving.proofs.connection.Serving.give.Goals as goal

on_ok : {T E P Q : Type 0} → (r : Result T E) → (P → Q) → OnOk r P → OnOk r Q
on_ok (Ok x) f h = f h
on_ok (Err e) f h = h

pub returns-then-rests_at-clause-gives : goal.returns-then-rests_at-clause-gives
returns-then-rests_at-clause-gives g c =
    let f = c.args.self.now.flight in
    let mid = c.give.new.flight in
    let place : c.in-Some.place ≡ c.args.request - first_of f = omega (arith, c.in-Some.ensures, c.first.ensures.first) in
    let rest : rests_in (slice_get mid.slots.items (c.args.request - first_of f)) ≡ true = ap (λ n. rests_in (slice_get mid.slots.items n)) (sym place) ∙ sym c.if-rests_at.ensures in
    record {
      small = c.first.ensures.small;
      mid = mid;
      in_flight = omega (arith, c.in-Some.ensures, c.first.ensures.first);
      gives = subst (λ n. GivesAt (g.S.Service.meaning c.args.self.now.service) (g.S.Service.stands c.args.self.now.service) n (outside_of (g.S.Service.read_from c.args.self.now.service) c.args.given) f mid) place c.in_ok-give.ensures.gives;
      between = c.give.new.steps;
      counts = subst (λ n. CountsAt (g.S.Service.meaning c.args.self.now.service) (g.S.Service.stands c.args.self.now.service) n (outside_of (g.S.Service.read_from c.args.self.now.service) c.args.given) f c.args.steps.now c.give.new.steps) place c.in_ok-give.ensures.counted;
      settles = if_true ((mid ≡ mid) × (c.give.new.steps ≡ c.give.new.steps)) ((limit : ℕ) → FlightSettles (limited limit (g.S.Service.meaning c.args.self.now.service)) (g.S.Service.stands c.args.self.now.service) mid mid c.give.new.steps c.give.new.steps) _ rest (refl, refl);
    }

pub returns-clause-gives : goal.returns-clause-gives
returns-clause-gives g c =
    let f = c.args.self.now.flight in
    let mid = c.give.new.flight in
    let place : c.in-Some.place ≡ c.args.request - first_of f = omega (arith, c.in-Some.ensures, c.first.ensures.first) in
    let rest : rests_in (slice_get mid.slots.items (c.args.request - first_of f)) ≡ false = ap (λ n. rests_in (slice_get mid.slots.items n)) (sym place) ∙ sym c.if-rests_at.ensures in
    on_ok c.settle.result (λ settles. record {
      small = c.first.ensures.small;
      mid = mid;
      in_flight = omega (arith, c.in-Some.ensures, c.first.ensures.first);
      gives = subst (λ n. GivesAt (g.S.Service.meaning c.args.self.now.service) (g.S.Service.stands c.args.self.now.service) n (outside_of (g.S.Service.read_from c.args.self.now.service) c.args.given) f mid) place c.in_ok-give.ensures.gives;
      between = c.give.new.steps;
      counts = subst (λ n. CountsAt (g.S.Service.meaning c.args.self.now.service) (g.S.Service.stands c.args.self.now.service) n (outside_of (g.S.Service.read_from c.args.self.now.service) c.args.given) f c.args.steps.now c.give.new.steps) place c.in_ok-give.ensures.counted;
      settles = if_false ((c.settle.new.flight ≡ mid) × (c.settle.new.steps ≡ c.give.new.steps)) ((limit : ℕ) → FlightSettles (limited limit (g.S.Service.meaning c.args.self.now.service)) (g.S.Service.stands c.args.self.now.service) mid c.settle.new.flight c.give.new.steps c.settle.new.steps) _ rest (λ limit. from_first (limited limit (g.S.Service.meaning c.args.self.now.service)) (g.S.Service.stands c.args.self.now.service) mid c.settle.new.flight c.give.new.steps c.settle.new.steps (settles limit));
    }) c.settle.ensures.settles
