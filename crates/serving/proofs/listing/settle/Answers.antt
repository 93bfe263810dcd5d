use Rattle.std.proofs.Common.{◌≡◌, ◌∙◌, ap, refl, sym, subst, ℕ, ◌+◌, ◌-◌, ◌<◌, ◌^◌, min, Some, length, arith}
use Rattle.std.proofs.lemmas.Option.{slice_get-get_or}
use Rattle.conn_rules.specs.Room.{limited}
use Rattle.correlation.specs.WindowOf.{window_of}
use Rattle.serving.specs.declared.flight.Flight.{Flight}
use Rattle.serving.specs.Flights.{first_of}
use Rattle.serving.specs.Listing.{SameOutside, SettlesAt}
use Rattle.serving.proofs.Sweeping.{outside_refl, outside_trans, begins, goes_on, ends_early, ends}
use Rattle.serving.proofs.listing.settle.Goals as goal

first_same : {R : Type 0} → (old mid : Flight R) (first place at : ℕ) → SameOutside old mid → first ≡ first_of old → at ≡ min (first + place) (2 ^ 64 - 1) → (k : ℕ) → k ≡ first_of mid + place → k < 2 ^ 64 → at ≡ k
first_same old mid first place at same is number k e lt =
    let here : first_of mid ≡ first_of old = ap (λ n. n - mid.count) same.requests ∙ ap (λ n. old.requests - n) same.count in
    omega (arith, here, is, number, e, lt)

pub loop-place-init : goal.loop-place-init
loop-place-init g c = (outside_refl c.args.flight.now, λ limit. begins (limited limit (g.S.Service.meaning c.args.service.now)) (g.S.Service.stands c.args.service.now) c.args.flight.now c.args.from c.args.free c.args.steps.now)

pub returns-in-None-clause-settles : goal.returns-in-None-clause-settles
returns-in-None-clause-settles g c = λ limit.
    ends_early (limited limit (g.S.Service.meaning c.args.service.now)) (g.S.Service.stands c.args.service.now) c.args.from c.args.free c.loop-place.place c.loop-place.free c.args.flight.now c.loop-place.flight _ c.in-Some.slot.now c.settle_at.new.slot c.in_ok-free_behind.field-0 c.args.steps.now c.loop-place.steps c.settle_at.new.steps (c.loop-place.invariant.1 limit)
    (slice_get-get_or c.loop-place.flight.slots.items c.loop-place.place c.in-Some.slot.now (let lt : c.loop-place.place < length c.loop-place.flight.slots.items = omega (arith, c.in-Some.ensures.variant.0 refl) in lt) ∙ ap (λ x. Some x) (sym c.in-Some.ensures.value))
    refl (refl, refl)
    (λ k is fits. let e : c.saturating_add-request.result ≡ k = first_same c.args.flight.now c.loop-place.flight c.first-first.result c.loop-place.place c.saturating_add-request.result c.loop-place.invariant.0 c.first-first.ensures.first c.saturating_add-request.ensures k is fits in subst (λ n. SettlesAt (limited limit (g.S.Service.meaning c.args.service.now)) (g.S.Service.stands c.args.service.now) n c.loop-place.free c.loop-place.flight.causes c.in-Some.slot.now (window_of c.loop-place.flight.sends) c.in_ok-free_behind.field-0 c.settle_at.new.causes c.settle_at.new.slot (window_of c.settle_at.new.sends) c.loop-place.steps c.settle_at.new.steps) e (c.in_ok-free_behind.ensures.settles limit))
    c.in-None.is

pub returns-in-None-clause-outside : goal.returns-in-None-clause-outside
returns-in-None-clause-outside g c =
    outside_trans c.args.flight.now c.loop-place.flight _ c.loop-place.invariant.0
    (record { limit_is = refl; count = refl; held = refl; requests = refl; halt = c.in_ok-free_behind.ensures.halt; over = c.in_ok-free_behind.ensures.over })

pub loop-place-preserved : goal.loop-place-preserved
loop-place-preserved g c = (
  outside_trans c.args.flight.now c.loop-place.flight _ c.loop-place.invariant.0 (record { limit_is = refl; count = refl; held = refl; requests = refl; halt = c.in_ok-free_behind.ensures.halt; over = c.in_ok-free_behind.ensures.over }),
  λ limit. goes_on (limited limit (g.S.Service.meaning c.args.service.now)) (g.S.Service.stands c.args.service.now) c.args.from c.args.free c.loop-place.place c.loop-place.free c.args.flight.now c.loop-place.flight _ c.in-Some.slot.now c.settle_at.new.slot c.in_ok-free_behind.field-0 c.args.steps.now c.loop-place.steps c.settle_at.new.steps (c.loop-place.invariant.1 limit)
      (slice_get-get_or c.loop-place.flight.slots.items c.loop-place.place c.in-Some.slot.now (let lt : c.loop-place.place < length c.loop-place.flight.slots.items = omega (arith, c.in-Some.ensures.variant.0 refl) in lt) ∙ ap (λ x. Some x) (sym c.in-Some.ensures.value))
      refl (refl, refl)
      (λ k is fits. let e : c.saturating_add-request.result ≡ k = first_same c.args.flight.now c.loop-place.flight c.first-first.result c.loop-place.place c.saturating_add-request.result c.loop-place.invariant.0 c.first-first.ensures.first c.saturating_add-request.ensures k is fits in subst (λ n. SettlesAt (limited limit (g.S.Service.meaning c.args.service.now)) (g.S.Service.stands c.args.service.now) n c.loop-place.free c.loop-place.flight.causes c.in-Some.slot.now (window_of c.loop-place.flight.sends) c.in_ok-free_behind.field-0 c.settle_at.new.causes c.settle_at.new.slot (window_of c.settle_at.new.sends) c.loop-place.steps c.settle_at.new.steps) e (c.in_ok-free_behind.ensures.settles limit))
      c.in-Some-2.free_behind c.in-Some-2.is,
)

pub returns-clause-settles : goal.returns-clause-settles
returns-clause-settles g c = λ limit.
    ends (limited limit (g.S.Service.meaning c.args.service.now)) (g.S.Service.stands c.args.service.now) c.args.from c.args.free c.loop-place.place c.loop-place.free c.args.flight.now c.loop-place.flight c.args.steps.now c.loop-place.steps (c.loop-place.invariant.1 limit) (omega (arith, c.len-place-end.ensures, c.loop-place-test.false))
