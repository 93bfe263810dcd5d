-- A request in flight is given what it waits for.
use Rattle.std.proofs.Common.{◌≡◌, ◌≢◌, ◌∙◌, ap, refl, sym, subst, ℕ, suc, ◌+◌, ◌-◌, ◌≤◌, ◌<◌, ◌==◌, Bool, true, false, ◌&&◌, List, [], ◌∷◌, ◌++◌, length, Some, slice_get, slice_set, arith, length-set, inl, inr}
use Rattle.std.proofs.lemmas.Bool.{ne_eqb}
use Rattle.std.proofs.lemmas.Option.{slice_get_within}
use Rattle.conn_rules.specs.Causes.{below}
use Rattle.conn_rules.specs.Meaning.{Meaning}
use Rattle.conn_rules.specs.Room.{limited}
use Rattle.conn_rules.specs.State.{Outside, Request, State, give}
use Rattle.correlation.specs.WindowOf.{window_of}
use Rattle.correlation.specs.IsWindow.{IsWindow}
use Rattle.correlation.proofs.WindowLaws.{laws}
use Rattle.serving.specs.declared.flight.Flight.{Flight}
use Rattle.serving.specs.declared.slot.Stage.{Stage}
use Rattle.serving.specs.declared.slot.Stage.TheVariants as stage
use Rattle.serving.specs.Flights.{first_of}
use Rattle.serving.specs.Slots.{awaits_response, awaits_verdict, waiting_run, pending, IsStage, Keeps}
use Rattle.serving.specs.Listing.{SameFor, SameOutside, SameCounts, Carries, IsSettled, GivesAt}
use Rattle.serving.specs.Stands.{Stands}
use Rattle.serving.proofs.Places.{set_here, set_other, size_given}
use Rattle.serving.proofs.Same.{keeps_same, passed_same, untouched_same}
use Rattle.serving.proofs.Asks.{given_at, give_is, keeps_given}
use Rattle.serving.proofs.Sweeping.{at_or_not}

-- What the code runs with and the machine's other limit are one.
module _ {R : Type 0} (M : Meaning) (runs : R → List ℕ → List Outside → Type 0) where
  pub run_stands : (frame : List ℕ) (given : List Outside) (at : Stage R) (run : R) → IsStage M runs frame given at → waiting_run at ≡ Some run → runs run frame given
  run_stands frame given (stage.Unlisted m x) run h is = cc
  run_stands frame given (stage.Listed x) run h is = let e : x ≡ run = cc in subst (λ y. runs y frame given) e h.4
  run_stands frame given (stage.Held key x) run h is = let e : x ≡ run = cc in subst (λ y. runs y frame given) e h.1
  run_stands frame given (stage.Picked x) run h is = let e : x ≡ run = cc in subst (λ y. runs y frame given) e h.2
  run_stands frame given (stage.Ready response) run h is = cc
  run_stands frame given (stage.Failed cause) run h is = cc
  run_stands frame given stage.AtWork run h is = absurd h

not_asked : (b : Bool) (i n : ℕ) → suc n ≤ i → (b && (i == n)) ≡ false
not_asked true i n le = ne_eqb i n (λ e. omega (arith, le, e))
not_asked false i n le = refl

module _ {R : Type 0} (M : Meaning) (runs : R → List ℕ → List Outside → Type 0) (limit : ℕ) where
  abbrev N : Meaning
  N = limited limit M

  -- the connection is as it was, but that request k may have had a response, and what it is given is this
  pub carries_given : (f g mid : Flight R) (s : State) (k a : ℕ) (x : Outside) → Carries N runs f s
      → first_of g ≡ first_of f → g.causes ≡ f.causes → g.slots.items ≡ f.slots.items
      → first_of g ≤ k → GivesAt M runs (k - first_of g) x g mid
      → IsWindow (record s { answered = a }) (window_of g.sends)
      → ((j : ℕ) → j ≢ k → below s.causes.cut j ≡ true → pending (record s { answered = a }) j ≡ pending s j)
      → (below s.causes.cut k ≡ true → pending (record s { answered = a }) k ≡ 0)
      → Carries N runs mid (give k x (record s { answered = a }))
  carries_given f g mid s k a x h first causes slots le goes window others unowed =
      let b : State = record s { answered = a } in
      let place : ℕ = k - first_of g in
      let number : s.passed + place ≡ k = omega (arith, le, first, h.first_is) in
      let found : slice_get f.slots.items place ≡ Some goes.slot = ap (λ xs. slice_get xs place) (sym slots) ∙ goes.there in
      let kept : Keeps N runs s k goes.slot = subst (λ n. Keeps N runs s n goes.slot) number (h.slots place goes.slot found) in
      let r : Request = kept.request in
      let u : State = given_at k r x b in
      let is : give k x b ≡ u = give_is k r x b kept.there in
      let after : Keeps N runs u k goes.after =
      keeps_given N runs u k r x goes.run goes.slot goes.after (set_here s.requests k r _ kept.there) kept.size kept.silent kept.given kept.main
      (run_stands N runs r.frame r.given goes.slot.stage goes.run kept.stage goes.waits) goes.goes
      (λ i lt. kept.listed i (omega (arith, lt)) ∙ not_asked (awaits_response goes.slot.stage) i goes.slot.given lt)
      (λ i lt. kept.picked i (omega (arith, lt)) ∙ not_asked (awaits_verdict goes.slot.stage) i goes.slot.given lt)
      unowed in
      let like : (j : ℕ) → j ≢ k → SameFor j s u = λ j ne. record { request = set_other s.requests k j _ ne; main = refl; listed = λ i. refl; picked = λ i. refl; pending = others j ne; served = λ y. y } in
      let there : place < length f.slots.items = slice_get_within f.slots.items place goes.slot found in
      let slots' : mid.slots.items ≡ slice_set f.slots.items place goes.after = goes.slots ∙ ap (λ xs. slice_set xs place goes.after) slots in
      let long : length (slice_set s.requests k (record r { given = r.given ++ x ∷ [] })) ≡ length s.requests = length-set s.requests k _ in
      let long' : length mid.slots.items ≡ length f.slots.items = ap (λ xs. length xs) slots' ∙ length-set f.slots.items place goes.after in
      let first' : first_of mid ≡ first_of g = ap (λ n. n - mid.count) goes.rest.requests ∙ ap (λ n. g.requests - n) goes.rest.count in
      let carried : Carries N runs mid u = record {
        first_is = first' ∙ (first ∙ h.first_is);
        causes_is = goes.rest.causes ∙ (causes ∙ h.causes_is);
        window = laws.stays b u (window_of mid.sends) (refl, refl, refl) (subst (λ w. IsWindow b (window_of w)) (sym goes.rest.sends) window);
        there = omega (arith, h.there, long, long');
        slots = λ i slot at.
            elim (at_or_not i place) [
              | inl e ↦
                  let here : slice_get mid.slots.items i ≡ Some goes.after = ap (λ xs. slice_get xs i) slots' ∙ (ap (λ n. slice_get (slice_set f.slots.items place goes.after) n) e ∙ set_here f.slots.items place goes.slot goes.after found) in
                  let same : goes.after ≡ slot = (let y : Some goes.after ≡ Some slot = sym here ∙ at in cc) in
                  let n : k ≡ s.passed + i = omega (arith, number, e) in
                  subst (λ m. Keeps N runs u m slot) n (subst (λ y. Keeps N runs u k y) same after)
              | inr ne ↦
                  let old : slice_get f.slots.items i ≡ Some slot = sym (set_other f.slots.items place i goes.after ne) ∙ (ap (λ xs. slice_get xs i) (sym slots') ∙ at) in
                  keeps_same N runs s u (s.passed + i) slot (like (s.passed + i) (λ e. ne (omega (arith, number, e)))) (h.slots i slot old)
            ];
        passed = λ j lt. passed_same N s u j (like j (λ e. omega (arith, lt, e, le, first, h.first_is))) (h.passed j lt);
        later = λ j far. let far' : length s.requests ≤ j = omega (arith, far, long) in untouched_same s u j (like j (λ e. omega (arith, far', e, number, there, h.there))) (h.later j far');
        cut_behind = h.cut_behind;
      } in
      subst (λ t. Carries N runs mid t) (sym is) carried

  -- the counts stay where a request is given something
  pub counts_given : (s : State) (k a : ℕ) (x : Outside) (r : Request) → slice_get s.requests k ≡ Some r → SameCounts s (give k x (record s { answered = a }))
  counts_given s k a x r there =
      subst (λ t. SameCounts s t) (sym (give_is k r x (record s { answered = a }) there))
      (record { count = length-set s.requests k _; passed = refl; held_is = size_given s.passed k s.requests r _ there refl; halt = refl; over = refl })

  -- what is settled stands
  pub stands_settled : (f new : Flight R) (s u t : State) → Stands N runs f s → Carries N runs f s → f.requests ≡ length s.requests → SameOutside f new → SameCounts s u → IsSettled N runs new u t → Stands N runs new t
  stands_settled f new s u t h c number outside counts settled =
      let long : length t.requests ≡ length s.requests = settled.counts.count ∙ counts.count in
      let passed : t.passed ≡ s.passed = settled.counts.passed ∙ counts.passed in
      record {
        halt_is = ap (λ x. x.halt) settled.carries.causes_is;
        over_is = ap (λ x. x.over) settled.carries.causes_is;
        count_is = omega (arith, outside.count, h.count_is, long, passed);
        held_is = outside.held ∙ (h.held_is ∙ sym (settled.counts.held_is ∙ counts.held_is));
        rest = settled.settles.rest;
        whole = λ none. (outside.requests ∙ (number ∙ sym long), settled.carries);
        free = λ none. settled.free;
      }
