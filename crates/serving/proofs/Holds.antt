-- Which request waits for a hold.
use Rattle.std.proofs.Common.{◌≡◌, ◌∙◌, ap, refl, sym, subst, ℕ, zero, suc, ◌+◌, ◌-◌, ◌≤◌, ◌<◌, nat_lt, Bool, true, false, not, ◌&&◌, is_some, if◌then◌else◌, List, [], ◌∷◌, length, Option, Some, None, option_map, slice_get, arith}
use Rattle.std.proofs.lemmas.Bool.{ltb-true, ltb-false}
use Rattle.std.proofs.lemmas.Option.{slice_get_past}
use Rattle.conn_rules.specs.Causes.{below}
use Rattle.conn_rules.specs.Meaning.{Meaning}
use Rattle.conn_rules.specs.State.{Outside, Request, State}
use Rattle.conn_rules.specs.Steps.{hold_of, hold_in, open_hold}
use Rattle.serving.specs.declared.flight.Flight.{Flight}
use Rattle.serving.specs.declared.slot.Slot.{Slot}
use Rattle.serving.specs.declared.slot.Stage.{Stage}
use Rattle.serving.specs.declared.slot.Stage.TheVariants as stage
use Rattle.serving.specs.Slots.{has_hold, IsStage, Keeps, IsPassed}
use Rattle.serving.specs.Flights.{first_of, slot_hold, hold_at}
use Rattle.serving.specs.Listing.{Carries}

abbrev pub number_of : Option (ℕ × List ℕ) → Option ℕ
number_of hold = option_map (λ h. h.0) hold

if_false : {X : Type 0} → (b : Bool) (x y : X) → b ≡ false → (if b then x else y) ≡ y
if_false true x y h = absurd (let never : true ≡ false = h in cc)
if_false false x y h = refl

if_true : {X : Type 0} → (b : Bool) (x y : X) → b ≡ true → (if b then x else y) ≡ x
if_true true x y h = refl
if_true false x y h = absurd (let never : false ≡ true = h in cc)

pub not_there_by : {X : Type 0} → (xs : List X) (i : ℕ) → slice_get xs i ≡ None → length xs ≤ i
not_there_by [] i h = omega arith
not_there_by (x ∷ xs) zero h = cc
not_there_by (x ∷ xs) (suc i) h = let e : length xs ≤ i = not_there_by xs i h in omega (arith, e)

module _ {R : Type 0} (M : Meaning) (runs : R → List ℕ → List Outside → Type 0) where
  pub hold_by : (frame : List ℕ) (given : List Outside) (n : ℕ) (at : Stage R) → IsStage M runs frame given at → n ≡ length given → (if has_hold at then Some n else None) ≡ number_of (hold_of (length given) (M.status frame given))
  hold_by frame given n (stage.Unlisted m run) h is = ap (λ x. number_of (hold_of (length given) x)) (sym h.0)
  hold_by frame given n (stage.Listed run) h is = ap (λ x. number_of (hold_of (length given) x)) (sym h.3)
  hold_by frame given n (stage.Held key run) h is = ap (λ k. Some k) is ∙ ap (λ x. number_of (hold_of (length given) x)) (sym h.0)
  hold_by frame given n (stage.Picked run) h is = ap (λ k. Some k) is ∙ ap (λ x. number_of (hold_of (length given) x)) (sym h.1)
  hold_by frame given n (stage.Ready None) h is = ap (λ x. number_of (hold_of (length given) x)) (sym h.1)
  hold_by frame given n (stage.Ready (Some response)) h is = ap (λ x. number_of (hold_of (length given) x)) (sym h.1)
  hold_by frame given n (stage.Failed cause) h is = ap (λ x. number_of (hold_of (length given) x)) (sym h)
  hold_by frame given n stage.AtWork h is = absurd h

  module _ (f : Flight R) (s : State) (h : Carries M runs f s) (k : ℕ) where
    above : (found : Option Request) → below s.causes.cut k ≡ false → number_of (hold_in M s.causes.cut k found) ≡ None
    above None e = refl
    above (Some r) e = ap number_of (if_false (below s.causes.cut k) _ _ e)

    low_hold : (r : Request) → slice_get s.requests k ≡ Some r → below s.causes.cut k ≡ true → open_hold M s k ≡ hold_of (length r.given) (M.status r.frame r.given)
    low_hold r is low = ap (λ found. hold_in M s.causes.cut k found) is ∙ if_true (below s.causes.cut k) _ _ low

    -- a request that was passed waits for nothing
    passed_none : k < s.passed → below s.causes.cut k ≡ true → number_of (open_hold M s k) ≡ None
    passed_none lt low =
        let p : IsPassed M s k = h.passed k lt in
        ap number_of (low_hold p.request p.there low) ∙ ap (λ x. number_of (hold_of (length p.request.given) x)) p.done

    in_slot : s.passed ≤ k → below s.causes.cut k ≡ true → (found : Option (Slot R)) → slice_get f.slots.items (k - s.passed) ≡ found → slot_hold found ≡ number_of (open_hold M s k)
    in_slot le low None is =
        let short : length f.slots.items ≤ k - s.passed = not_there_by f.slots.items (k - s.passed) is in
        let none : slice_get s.requests k ≡ None = slice_get_past s.requests k (omega (arith, short, le, h.there)) in
        ap (λ found. number_of (hold_in M s.causes.cut k found)) (sym none)
    in_slot le low (Some slot) is =
        let number : s.passed + (k - s.passed) ≡ k = omega (arith, le) in
        let kept : Keeps M runs s k slot = subst (λ n. Keeps M runs s n slot) number (h.slots (k - s.passed) slot is) in
        hold_by kept.request.frame kept.request.given slot.given slot.stage kept.stage kept.given ∙ ap number_of (sym (low_hold kept.request kept.there low))

    by_place : (low early : Bool) → below f.causes.cut k ≡ low → nat_lt k (first_of f) ≡ early → (if low && not early then slot_hold (slice_get f.slots.items (k - first_of f)) else None) ≡ number_of (open_hold M s k)
    by_place false early is lt = sym (above (slice_get s.requests k) (ap (λ c. below c.cut k) (sym h.causes_is) ∙ is))
    by_place true true is lt = sym (passed_none (let e : k < first_of f = ltb-true k (first_of f) lt in omega (arith, e, h.first_is)) (ap (λ c. below c.cut k) (sym h.causes_is) ∙ is))
    by_place true false is lt =
        let le : s.passed ≤ k = (let e : first_of f ≤ k = ltb-false k (first_of f) lt in omega (arith, e, h.first_is)) in
        ap (λ n. slot_hold (slice_get f.slots.items (k - n))) h.first_is ∙ in_slot le (ap (λ c. below c.cut k) (sym h.causes_is) ∙ is) (slice_get f.slots.items (k - s.passed)) refl

    pub hold_is : hold_at f k ≡ number_of (open_hold M s k)
    hold_is = by_place (below f.causes.cut k) (nat_lt k (first_of f)) refl refl

    some_number : (hold : Option (ℕ × List ℕ)) → is_some (number_of hold) ≡ is_some hold
    some_number None = refl
    some_number (Some x) = refl

    pub hold_there : is_some (hold_at f k) ≡ is_some (open_hold M s k)
    hold_there = ap (λ o. is_some o) hold_is ∙ some_number (open_hold M s k)

    not_some : (b : Bool) → (o : Option ℕ) → is_some o ≡ true → o ≡ None → ⊥
    not_some b o e n = let never : true ≡ false = sym e ∙ ap (λ x. is_some x) n in cc

    not_passed_by : (early low : Bool) → nat_lt k s.passed ≡ early → below s.causes.cut k ≡ low → is_some (open_hold M s k) ≡ true → s.passed ≤ k
    not_passed_by false low lt is some = ltb-false k s.passed lt
    not_passed_by true true lt is some = absurd (not_some true (number_of (open_hold M s k)) (some_number (open_hold M s k) ∙ some) (passed_none (ltb-true k s.passed lt) is))
    not_passed_by true false lt is some = absurd (not_some true (number_of (open_hold M s k)) (some_number (open_hold M s k) ∙ some) (above (slice_get s.requests k) is))

    pub not_passed : is_some (open_hold M s k) ≡ true → s.passed ≤ k
    not_passed some = not_passed_by (nat_lt k s.passed) (below s.causes.cut k) refl refl some
