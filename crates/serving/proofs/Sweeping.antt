-- All requests settle, one after another.
use Rattle.std.proofs.Common.{◌≡◌, ◌≢◌, ◌∙◌, ap, refl, sym, subst, ℕ, zero, suc, ◌+◌, ◌-◌, ◌≤◌, ◌<◌, ◌^◌, Bool, true, List, [], ◌∷◌, length, take, Option, Some, None, slice_get, slice_set, arith, length-set, ◌⊎◌, inl, inr}
use Rattle.std.specs.Prelude.{All}
use Rattle.std.proofs.lemmas.Option.{slice_get_within}
use Rattle.conn_rules.specs.Meaning.{Meaning, Done}
use Rattle.conn_rules.specs.Settling.{next_act}
use Rattle.conn_rules.specs.State.{Outside, State}
use Rattle.conn_rules.specs.Sweep.{IsQuietBefore, free_before, HasResponse}
use Rattle.conn_rules.specs.Work.{TakesGrowth}
use Rattle.conn_rules.proofs.Sweep.{sweeps}
use Rattle.correlation.specs.WindowOf.{window_of}
use Rattle.serving.specs.declared.flight.Flight.{Flight}
use Rattle.serving.specs.declared.slot.Slot.{Slot}
use Rattle.serving.specs.Flights.{first_of}
use Rattle.serving.specs.Slots.{Keeps, IsPassed}
use Rattle.serving.specs.Listing.{OnlyAt, IsCutBehind, SameOutside, SameCounts, IsSweptTo, IsSweptPast, IsSettledAt, SettlesAt, Carries, AreQuiet, FlightSettles, FlightSettlesFrom, IsSweptUpTo, SettlesUpTo}
use Rattle.serving.proofs.Freed.{free_past}
use Rattle.serving.proofs.Working.{grows_trans}
use Rattle.serving.proofs.Places.{set_here, set_other, all_of}
use Rattle.serving.proofs.Same.{keeps_same, passed_same, untouched_same}

pub outside_refl : {R : Type 0} → (f : Flight R) → SameOutside f f
outside_refl f = record { limit_is = refl; count = refl; held = refl; requests = refl; halt = refl; over = refl }

pub outside_trans : {R : Type 0} → (f g h : Flight R) → SameOutside f g → SameOutside g h → SameOutside f h
outside_trans f g h a b = record { limit_is = b.limit_is ∙ a.limit_is; count = b.count ∙ a.count; held = b.held ∙ a.held; requests = b.requests ∙ a.requests; halt = b.halt ∙ a.halt; over = b.over ∙ a.over }

pub counts_refl : (s : State) → SameCounts s s
counts_refl s = record { count = refl; passed = refl; held_is = refl; halt = refl; over = refl }

counts_only : (k : ℕ) (s t u : State) → SameCounts s t → OnlyAt k t u → SameCounts s u
counts_only k s t u a b = record { count = b.count ∙ a.count; passed = b.passed ∙ a.passed; held_is = b.held_is ∙ a.held_is; halt = b.halt ∙ a.halt; over = b.over ∙ a.over }

take_there : {X : Type 0} → (n i : ℕ) (xs : List X) (x : X) → slice_get (take n xs) i ≡ Some x → (i < n) × (slice_get xs i ≡ Some x)
take_there zero i xs x h = cc
take_there (suc n) i [] x h = cc
take_there (suc n) zero (y ∷ xs) x h = (omega arith, h)
take_there (suc n) (suc i) (y ∷ xs) x h = let e = take_there n i xs x h in (omega (arith, e.0), e.1)

pub at_or_not : (i j : ℕ) → (i ≡ j) ⊎ (i ≢ j)
at_or_not zero zero = inl refl
at_or_not zero (suc j) = inr (λ e. omega (arith, e))
at_or_not (suc i) zero = inr (λ e. omega (arith, e))
at_or_not (suc i) (suc j) = elim (at_or_not i j) [ inl e ↦ inl (ap (λ n. suc n) e) | inr e ↦ inr (λ h. e (omega (arith, h))) ]

module _ {R : Type 0} (M : Meaning) (runs : R → List ℕ → List Outside → Type 0) where
  all_done : (f : Flight R) (s : State) → Carries M runs f s → All (HasResponse M) (take s.passed s.requests)
  all_done f s h = all_of (HasResponse M) (take s.passed s.requests) (λ i r is.
      let e : (i < s.passed) × (slice_get s.requests i ≡ Some r) = take_there s.passed i s.requests r is in
      let p : IsPassed M s i = h.passed i e.0 in
      let same : p.request ≡ r = (let x : Some p.request ≡ Some r = sym p.there ∙ e.1 in cc) in
      (p.response, subst (λ x. M.status x.frame x.given ≡ Done p.response) same p.done))

  -- the requests that were passed have nothing to do
  pub quiet_first : (f : Flight R) (s : State) → Carries M runs f s → IsQuietBefore M s (s.passed + 0)
  quiet_first f s h = subst (λ n. IsQuietBefore M s n) (let at : s.passed ≡ s.passed + 0 = omega arith in at) ((sweeps M).answered_quiet s s.passed (all_done f s h))

  -- and hold back no later main send
  free_first : (f : Flight R) (s : State) → Carries M runs f s → true ≡ free_before M s (s.passed + 0)
  free_first f s h = sym (subst (λ n. free_before M s n ≡ true) (let at : s.passed ≡ s.passed + 0 = omega arith in at) ((sweeps M).answered_free s s.passed (all_done f s h)))

  pub from_first : (old new : Flight R) (n m : ℕ) → FlightSettlesFrom M runs 0 true old new n m → FlightSettles M runs old new n m
  from_first old new n m settles s small h = settles s small h (record { quiet = quiet_first old s h; free_is = free_first old s h })

  -- the sweep begins at a place before which nothing is to be done
  pub begins : (f : Flight R) (from : ℕ) (free : Bool) (n : ℕ) → SettlesUpTo M runs from free from free f f n n
  begins f from free n s small h before = (
    s,
    record {
      settles = λ u done. done;
      carries = h;
      counts = counts_refl s;
      quiet = before.quiet;
      free_is = before.free_is;
    },
    refl,
  )

  -- and goes on to the next, or ends
  module _ (from : ℕ) (first : Bool) (place : ℕ) (free : Bool) (old mid new : Flight R) (before after : Slot R) (past : Option Bool) (n m o : ℕ) (so_far : SettlesUpTo M runs from first place free old mid n m)
      (there : slice_get mid.slots.items place ≡ Some before)
      (slots : new.slots.items ≡ slice_set mid.slots.items place after)
      (counts : (new.count ≡ mid.count) × (new.requests ≡ mid.requests))
      (settles : (k : ℕ) → k ≡ first_of mid + place → k < 2 ^ 64 → SettlesAt M runs k free mid.causes before (window_of mid.sends) past new.causes after (window_of new.sends) m o) where
    carried : (k : ℕ) (t u : State) → k ≡ t.passed + place → Carries M runs mid t → IsSettledAt M runs k t new.causes after (window_of new.sends) past u → Carries M runs new u
    carried k t u is h g =
        let long : length (slice_set mid.slots.items place after) ≡ length mid.slots.items = length-set mid.slots.items place after in
        record {
          first_is = ap (λ n. n - new.count) counts.1 ∙ (ap (λ n. mid.requests - n) counts.0 ∙ (h.first_is ∙ sym g.goes.only.passed));
          causes_is = g.causes_is;
          window = g.window;
          there = omega (arith, h.there, g.goes.only.passed, g.goes.only.count, ap (λ xs. length xs) slots, long);
          slots = λ i slot is'.
              elim (at_or_not i place) [
                | inl e ↦
                    let found : slice_get new.slots.items i ≡ Some after = ap (λ xs. slice_get xs i) slots ∙ (ap (λ n. slice_get (slice_set mid.slots.items place after) n) e ∙ set_here mid.slots.items place before after there) in
                    let same : after ≡ slot = (let x : Some after ≡ Some slot = sym found ∙ is' in cc) in
                    let number : k ≡ u.passed + i = omega (arith, is, e, g.goes.only.passed) in
                    subst (λ n. Keeps M runs u n slot) number (subst (λ x. Keeps M runs u k x) same g.kept)
                | inr ne ↦
                    let found : slice_get mid.slots.items i ≡ Some slot = sym (set_other mid.slots.items place i after ne) ∙ (ap (λ xs. slice_get xs i) (sym slots) ∙ is') in
                    let other : t.passed + i ≢ k = λ e. ne (omega (arith, is, e)) in
                    let number : t.passed + i ≡ u.passed + i = omega (arith, g.goes.only.passed) in
                    subst (λ n. Keeps M runs u n slot) number (keeps_same M runs t u (t.passed + i) slot (g.goes.only.others (t.passed + i) other) (h.slots i slot found))
              ];
          passed = λ j lt.
              let lt' : j < t.passed = omega (arith, lt, g.goes.only.passed) in
              passed_same M t u j (g.goes.only.others j (λ e. omega (arith, is, e, lt'))) (h.passed j lt');
          later = λ j le.
              let le' : length t.requests ≤ j = omega (arith, le, g.goes.only.count) in
              let within : place < length mid.slots.items = slice_get_within mid.slots.items place before there in
              untouched_same t u j (g.goes.only.others j (λ e. omega (arith, is, e, le', within, h.there))) (h.later j le');
          cut_behind = subst (λ n. IsCutBehind u.causes.cut n) (sym g.goes.only.passed) (g.goes.only.behind t.passed (omega (arith, is)) h.cut_behind);
        }

    record Went (s : State) : Type 0 where
      before_it : State
      to : State
      k : ℕ
      number : k ≡ before_it.passed + place
      far : IsSweptUpTo M runs place free mid s before_it
      here : IsSettledAt M runs k before_it new.causes after (window_of new.sends) past to
      grows : TakesGrowth M n o s to

    went : (s : State) → length s.requests < 2 ^ 64 → Carries M runs old s → AreQuiet M from first s → Went s
    went s small h q =
        let far = so_far s small h q in
        let t : State = far.0 in
        let k : ℕ = first_of mid + place in
        let number : k ≡ t.passed + place = ap (λ n. n + place) far.1.carries.first_is in
        let within : place < length mid.slots.items = slice_get_within mid.slots.items place before there in
        let fits : k < 2 ^ 64 = omega (arith, number, within, far.1.carries.there, far.1.counts.count, small) in
        let slot : Keeps M runs t k before = subst (λ n. Keeps M runs t n before) (sym number) (far.1.carries.slots place before there) in
        let swept : IsSweptTo M runs k free before (window_of mid.sends) t = record {
          quiet = subst (λ n. IsQuietBefore M t n) (sym number) far.1.quiet;
          free_is = far.1.free_is ∙ ap (λ n. free_before M t n) (sym number);
          kept = slot;
          window = far.1.carries.window;
        } in
        let here = settles k refl fits t far.1.carries.causes_is swept in
        record { before_it = t; to = here.0; k = k; number = number; far = far.1; here = here.1; grows = grows_trans M n m o s t here.0 far.2 here.2 }

    pub goes_on : (lets : Bool) → past ≡ Some lets → SettlesUpTo M runs from first (place + 1) lets old new n o
    goes_on lets is s small h q =
        let w : Went s = went s small h q in
        let next : (IsQuietBefore M w.to (suc w.k)) × (lets ≡ free_before M w.to (suc w.k)) = subst (λ p. IsSweptPast M w.to w.k p) is w.here.past_is in
        let number : suc w.k ≡ w.to.passed + (place + 1) = omega (arith, w.number, w.here.goes.only.passed) in (
          w.to,
          record {
            settles = λ u done. w.far.settles u (w.here.goes.settles u done);
            carries = carried w.k w.before_it w.to w.number w.far.carries w.here;
            counts = counts_only w.k s w.before_it w.to w.far.counts w.here.goes.only;
            quiet = subst (λ n. IsQuietBefore M w.to n) number next.0;
            free_is = next.1 ∙ ap (λ n. free_before M w.to n) number;
          },
          w.grows,
        )

    pub ends_early : past ≡ None → FlightSettlesFrom M runs from first old new n o
    ends_early is s small h q =
        let w : Went s = went s small h q in
        let rest : (next_act M w.to ≡ None) × (w.to.causes.cut ≢ None) = subst (λ p. IsSweptPast M w.to w.k p) is w.here.past_is in (
          w.to,
          record {
            settles = w.far.settles w.to (w.here.goes.settles w.to ((sweeps M).rests w.to rest.0));
            carries = carried w.k w.before_it w.to w.number w.far.carries w.here;
            counts = counts_only w.k s w.before_it w.to w.far.counts w.here.goes.only;
            free = λ none. absurd (rest.1 none);
          },
          w.grows,
        )

  -- behind the last request nothing is left to do
  pub ends : (from : ℕ) (first : Bool) (place : ℕ) (free : Bool) (old new : Flight R) (n m : ℕ) → SettlesUpTo M runs from first place free old new n m → length old.slots.items ≤ place → FlightSettlesFrom M runs from first old (record new { free = free }) n m
  ends from first place free old new n m so_far le s small h q =
      let far = so_far s small h q in
      let t : State = far.0 in
      let past : length t.requests ≤ t.passed + place = omega (arith, le, h.there, far.1.counts.passed, far.1.counts.count) in
      let rest : next_act M t ≡ None = (sweeps M).ends t (t.passed + place) past far.1.quiet in
      let c : Carries M runs new t = far.1.carries in (
        t,
        record {
          settles = far.1.settles t ((sweeps M).rests t rest);
          carries = record { first_is = c.first_is; causes_is = c.causes_is; window = c.window; there = c.there; slots = c.slots; passed = c.passed; later = c.later; cut_behind = c.cut_behind };
          counts = far.1.counts;
          free = λ none. far.1.free_is ∙ free_past M t (t.passed + place) past;
        },
        far.2,
      )
