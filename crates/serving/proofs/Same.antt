-- What is known of a request stays known where nothing of it changes.
use Rattle.std.proofs.Common.{◌≡◌, ◌∙◌, ap, refl, sym, ℕ, zero, suc, ◌≤◌, ◌<◌, nat_lt, Bool, true, false, ◌&&◌, if◌then◌else◌, List, length, Option, Some, arith}
use Rattle.std.proofs.lemmas.Bool.{ltb-true}
use Rattle.kp_edge.specs.declared.end.End.{End}
use Rattle.conn_rules.specs.declared.causes.Causes.{Causes}
use Rattle.conn_rules.specs.Causes.{below, with_cut}
use Rattle.conn_rules.specs.Meaning.{Meaning, Status, Waits, Done, Fails}
use Rattle.conn_rules.specs.Settling.{lets_later_go}
use Rattle.conn_rules.specs.State.{Outside, Request, ListedSend, State, cut_at}
use Rattle.conn_rules.specs.Sweep.{free_before}
use Rattle.conn_rules.proofs.Sweep.{sweeps}
use Rattle.conn_rules.proofs.Resting.{low_before_cut}
use Rattle.serving.specs.declared.slot.Slot.{Slot}
use Rattle.serving.specs.Slots.{has_main, Keeps, IsPassed, IsUntouched}
use Rattle.serving.specs.Listing.{SameFor, OnlyAt, IsCutBehind, SettlesOn, GoesTo}
use Rattle.serving.proofs.Places.{is_there}

pub same_refl : (j : ℕ) (s : State) → SameFor j s s
same_refl j s = record { request = refl; main = refl; listed = λ i. refl; picked = λ i. refl; pending = λ low. refl; served = λ h. h }

pub same_trans : (j : ℕ) (s t u : State) → SameFor j s t → SameFor j t u → SameFor j s u
same_trans j s t u f g =
    record {
      request = g.request ∙ f.request;
      main = g.main ∙ f.main;
      listed = λ i. g.listed i ∙ f.listed i;
      picked = λ i. g.picked i ∙ f.picked i;
      pending = λ low. g.pending low ∙ f.pending (g.served low);
      served = λ h. f.served (g.served h);
    }

-- a cut at request k
not_below : (k : ℕ) (lt : Bool) → nat_lt k k ≡ lt → lt ≡ false
not_below k true h = absurd (let e : k < k = ltb-true k k h in omega (arith, e))
not_below k false h = refl

cut_here : (k : ℕ) (why : End) (cut : Option (ℕ × End)) (low : Bool) → below cut k ≡ low → below (if low then Some (k, why) else cut) k ≡ false
cut_here k why cut true is = not_below k (nat_lt k k) refl
cut_here k why cut false is = is

pub not_low_at_cut : (k : ℕ) (why : End) (c : Causes) → below (with_cut k why c).cut k ≡ false
not_low_at_cut k why c = cut_here k why c.cut (below c.cut k) refl

behind_by : (k : ℕ) (why : End) (cut : Option (ℕ × End)) (passed : ℕ) (low : Bool) → passed ≤ k → IsCutBehind cut passed → IsCutBehind (if low then Some (k, why) else cut) passed
behind_by k why cut passed true le h = le
behind_by k why cut passed false le h = h

pub behind_cut : (k : ℕ) (why : End) (c : Causes) (passed : ℕ) → passed ≤ k → IsCutBehind c.cut passed → IsCutBehind (with_cut k why c).cut passed
behind_cut k why c passed le h = behind_by k why c.cut passed (below c.cut k) le h

pub same_cut : (j k : ℕ) (why : End) (s : State) → SameFor j s (cut_at k why s)
same_cut j k why s = record { request = refl; main = refl; listed = λ i. refl; picked = λ i. refl; pending = λ low. refl; served = low_before_cut k why s.causes j }

pub only_refl : (k : ℕ) (s : State) → OnlyAt k s s
only_refl k s = record { others = λ j ne. same_refl j s; count = refl; passed = refl; held_is = refl; halt = refl; over = refl; behind = λ n le h. h }

pub only_cut : (k : ℕ) (why : End) (s : State) → OnlyAt k s (cut_at k why s)
only_cut k why s = record { others = λ j ne. same_cut j k why s; count = refl; passed = refl; held_is = refl; halt = refl; over = refl; behind = λ n le h. behind_cut k why s.causes n le h }

pub only_trans : (k : ℕ) (s t u : State) → OnlyAt k s t → OnlyAt k t u → OnlyAt k s u
only_trans k s t u f g =
    record {
      others = λ j ne. same_trans j s t u (f.others j ne) (g.others j ne);
      count = g.count ∙ f.count;
      passed = g.passed ∙ f.passed;
      held_is = g.held_is ∙ f.held_is;
      halt = g.halt ∙ f.halt;
      over = g.over ∙ f.over;
      behind = λ n le h. g.behind n le (f.behind n le h);
    }

module _ {R : Type 0} (M : Meaning) (runs : R → List ℕ → List Outside → Type 0) where
  pub keeps_same : (s t : State) (k : ℕ) (slot : Slot R) → SameFor k s t → Keeps M runs s k slot → Keeps M runs t k slot
  keeps_same s t k slot f h =
      record {
        request = h.request;
        there = f.request ∙ h.there;
        size = h.size;
        silent = h.silent;
        given = h.given;
        main = h.main ∙ sym f.main;
        stage = h.stage;
        listed = λ i le. f.listed i ∙ h.listed i le;
        picked = λ i le. f.picked i ∙ h.picked i le;
        pending = λ low. f.pending low ∙ h.pending (f.served low);
      }

module _ (M : Meaning) where
  pub passed_same : (s t : State) (k : ℕ) → SameFor k s t → IsPassed M s k → IsPassed M t k
  passed_same s t k f h = record { request = h.request; there = f.request ∙ h.there; response = h.response; done = h.done; pending = λ low. f.pending low ∙ h.pending (f.served low) }

  pub settles_trans : (s t u : State) → SettlesOn M s t → SettlesOn M t u → SettlesOn M s u
  settles_trans s t u f g = λ v h. f v (g v h)

  pub goes_refl : (k : ℕ) (s : State) → GoesTo M k s s
  goes_refl k s = record { settles = λ u h. h; only = only_refl k s }

  pub goes_trans : (k : ℕ) (s t u : State) → GoesTo M k s t → GoesTo M k t u → GoesTo M k s u
  goes_trans k s t u f g = record { settles = settles_trans s t u f.settles g.settles; only = only_trans k s t u f.only g.only }

  -- main sends of requests that stay hold back what they held back
  lets_same : (sends sends' : List ListedSend) (k : ℕ) (status : Status) → has_main sends' k ≡ has_main sends k → lets_later_go sends' k status ≡ lets_later_go sends k status
  lets_same sends sends' k (Done response) h = refl
  lets_same sends sends' k (Waits ask) h = h
  lets_same sends sends' k (Fails why) h = h

  pub free_same : (s t : State) (k : ℕ) → k ≤ length s.requests → ((j : ℕ) → j < k → SameFor j s t) → free_before M t k ≡ free_before M s k
  free_same s t zero le same = refl
  free_same s t (suc k) le same =
      let found = is_there s.requests k (omega (arith, le)) in
      let f : SameFor k s t = same k (omega arith) in
      let r : Request = found.0 in
      (sweeps M).freed t k r (f.request ∙ found.1)
      ∙ (ap (λ b. b && lets_later_go t.sends k (M.status r.frame r.given)) (free_same s t k (omega (arith, le)) (λ j lt. same j (omega (arith, lt))))
      ∙ (ap (λ b. free_before M s k && b) (lets_same s.sends t.sends k (M.status r.frame r.given) f.main)
      ∙ sym ((sweeps M).freed s k r found.1)))

pub untouched_same : (s t : State) (k : ℕ) → SameFor k s t → IsUntouched s k → IsUntouched t k
untouched_same s t k f h = record { main = f.main ∙ h.main; listed = λ i. f.listed i ∙ h.listed i; picked = λ i. f.picked i ∙ h.picked i; pending = λ low. f.pending low ∙ h.pending (f.served low) }
