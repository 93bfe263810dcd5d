-- What becomes of a connection whose causes change, and nothing else.
use Rattle.std.proofs.Common.{◌≡◌, ◌∙◌, ap, refl, sym, subst, ℕ, ◌+◌, ◌≤◌, true, List, length, Option, Some, None, slice_get, arith, inl, inr}
use Rattle.kp_edge.specs.declared.end.End.{End}
use Rattle.kp_edge.specs.declared.end.End.TheVariants as end
use Rattle.conn_rules.specs.declared.causes.Causes.{Causes}
use Rattle.conn_rules.specs.declared.event.Event.{Event}
use Rattle.conn_rules.specs.declared.event.Reply.{Reply}
use Rattle.conn_rules.specs.Causes.{first_cause, below, with_cut, with_death, with_halt, with_told}
use Rattle.conn_rules.specs.Meaning.{Meaning}
use Rattle.conn_rules.specs.Settling.{next_act}
use Rattle.conn_rules.specs.State.{Outside, State, halted}
use Rattle.conn_rules.specs.Steps.{answer_to, memory_answer, TakesMemory, StepOrNoMemory}
use Rattle.conn_rules.proofs.Sweep.{sweeps}
use Rattle.conn_rules.proofs.Resting.{rest_from, low_before_cut}
use Rattle.correlation.specs.IsWindow.{IsWindow}
use Rattle.serving.specs.Flights.{first_of}
use Rattle.serving.specs.Slots.{Keeps}
use Rattle.correlation.proofs.WindowLaws.{laws}
use Rattle.correlation.specs.WindowOf.{window_of}
use Rattle.serving.specs.declared.flight.Flight.{Flight}
use Rattle.serving.specs.Listing.{SameFor, IsCutBehind, Carries}
use Rattle.serving.specs.Stands.{Stands}
use Rattle.serving.proofs.Freed.{uncut}
use Rattle.serving.proofs.Same.{keeps_same, passed_same, untouched_same, behind_cut}

-- where nothing is to be done, nothing is at a lesser cut
pub rest_lower : (M : Meaning) (s : State) (c : Causes) → ((j : ℕ) → below c.cut j ≡ true → below s.causes.cut j ≡ true) → next_act M s ≡ None → next_act M (record s { causes = c }) ≡ None
rest_lower M s c lower h = rest_from M s.sends s.causes.cut c.cut lower 0 true s.requests h

-- The machine goes on to a state where nothing is left to do, or memory is wanting.
pub steps : (M : Meaning) (s t : State) (e : Event) (r : Reply) → answer_to M s e ≡ (r, t) → next_act M t ≡ None → StepOrNoMemory M s e r t
steps M s t e r is rest = inl (record { reply = ap (λ x. x.0) (sym is); settles = rw is ((sweeps M).rests t rest) })

pub gives_up : (M : Meaning) (s t : State) (e : Event) (taken r : Reply) → TakesMemory s e → answer_to M s e ≡ (taken, t) → memory_answer taken ≡ Some r → StepOrNoMemory M s e r (halted end.NoMemory s)
gives_up M s t e taken r takes is refused = inr (record { takes = takes; reply = rw is refused; halts = refl })

none_before : (h : Option End) (why : End) → first_cause h why ≡ None → h ≡ None
none_before None why e = refl
none_before (Some x) why e = e

module _ {R : Type 0} (M : Meaning) (runs : R → List ℕ → List Outside → Type 0) (f : Flight R) (s : State) where
  pub carries_causes : (c d : Causes) → c ≡ d → ((j : ℕ) → below d.cut j ≡ true → below s.causes.cut j ≡ true) → IsCutBehind d.cut s.passed → Carries M runs f s → Carries M runs (record f { causes = c }) (record s { causes = d })
  carries_causes c d same lower behind h =
      let t : State = record s { causes = d } in
      let like : (j : ℕ) → SameFor j s t = λ j. record { request = refl; main = refl; listed = λ i. refl; picked = λ i. refl; pending = λ low. refl; served = lower j } in
      record {
        first_is = h.first_is;
        causes_is = same;
        window = laws.stays s t (window_of f.sends) (refl, refl, refl) h.window;
        there = h.there;
        slots = λ i slot is. keeps_same M runs s t (s.passed + i) slot (like (s.passed + i)) (h.slots i slot is);
        passed = λ k lt. passed_same M s t k (like k) (h.passed k lt);
        later = λ k le. untouched_same s t k (like k) (h.later k le);
        cut_behind = behind;
      }

  -- Other causes: the same where no halt stands.
  pub stands_causes : Stands M runs f s → (c d : Causes) → c.halt ≡ d.halt → c.over ≡ d.over → (d.halt ≡ None → s.causes.halt ≡ None)
      → ((j : ℕ) → below d.cut j ≡ true → below s.causes.cut j ≡ true) → (Carries M runs f s → IsCutBehind d.cut s.passed)
      → (Carries M runs f s → f.requests ≡ length s.requests → c ≡ d) → Stands M runs (record f { causes = c }) (record s { causes = d })
  stands_causes h c d halt over back lower behind same =
      record {
        halt_is = halt;
        over_is = over;
        count_is = h.count_is;
        held_is = h.held_is;
        rest = rest_lower M s d lower h.rest;
        whole = λ none.
            let w : (f.requests ≡ length s.requests) × Carries M runs f s = h.whole (back none) in
            (w.0, carries_causes c d (same w.1 w.0) lower (behind w.1) w.1);
        free = λ none uncut_now. h.free (back none) (uncut s.causes.cut d.cut lower uncut_now);
      }

  module _ (h : Stands M runs f s) where
    pub stands_halted : (why : End) → Stands M runs (record f { causes = with_halt why f.causes }) (record s { causes = with_halt why s.causes })
    stands_halted why = stands_causes h (with_halt why f.causes) (with_halt why s.causes) (ap (λ o. first_cause o why) h.halt_is) h.over_is (none_before s.causes.halt why) (λ j x. x) (λ x. x.cut_behind) (λ x n. ap (λ c. with_halt why c) x.causes_is)

    pub stands_dead : (why why' : End) → (f.causes ≡ s.causes → Carries M runs f s → why ≡ why') → Stands M runs (record f { causes = with_death why f.causes }) (record s { causes = with_death why' s.causes })
    stands_dead why why' same = record {
      halt_is = h.halt_is;
      over_is = h.over_is;
      count_is = h.count_is;
      held_is = h.held_is;
      rest = h.rest;
      whole = λ none.
          let w : (f.requests ≡ length s.requests) × Carries M runs f s = h.whole none in
          (w.0, carries_causes (with_death why f.causes) (with_death why' s.causes) (ap (λ c. with_death why c) w.1.causes_is ∙ ap (λ y. with_death y s.causes) (same w.1.causes_is w.1)) (λ j x. x) w.1.cut_behind w.1);
      free = h.free;
    }

    pub stands_cut : (k k' : ℕ) (why : End) → (s.causes.halt ≡ None → (k ≡ k') × (s.passed ≤ k')) → Stands M runs (record f { causes = with_cut k why f.causes }) (record s { causes = with_cut k' why s.causes })
    stands_cut k k' why same = record {
      halt_is = h.halt_is;
      over_is = h.over_is;
      count_is = h.count_is;
      held_is = h.held_is;
      rest = rest_lower M s (with_cut k' why s.causes) (low_before_cut k' why s.causes) h.rest;
      whole = λ none.
          let w : (f.requests ≡ length s.requests) × Carries M runs f s = h.whole none in
          let e : (k ≡ k') × (s.passed ≤ k') = same none in
          (w.0, carries_causes (with_cut k why f.causes) (with_cut k' why s.causes) (ap (λ c. with_cut k why c) w.1.causes_is ∙ ap (λ n. with_cut n why s.causes) e.0) (low_before_cut k' why s.causes) (behind_cut k' why s.causes s.passed e.1 w.1.cut_behind) w.1);
      free = λ none uncut_now. h.free none (uncut s.causes.cut (with_cut k' why s.causes).cut (low_before_cut k' why s.causes) uncut_now);
    }

    pub stands_told : (why : End) → Stands M runs (record f { causes = with_told why f.causes }) (record s { causes = with_told why s.causes })
    stands_told why = record {
      halt_is = h.halt_is;
      over_is = refl;
      count_is = h.count_is;
      held_is = h.held_is;
      rest = h.rest;
      whole = λ none.
          let w : (f.requests ≡ length s.requests) × Carries M runs f s = h.whole none in
          (w.0, carries_causes (with_told why f.causes) (with_told why s.causes) (ap (λ c. with_told why c) w.1.causes_is) (λ j x. x) w.1.cut_behind w.1);
      free = h.free;
    }

-- The same is known of each request, and the slots are as they were.
module _ {R : Type 0} (M : Meaning) (runs : R → List ℕ → List Outside → Type 0) (f g : Flight R) (s t : State) where
  pub carries_same : Carries M runs f s → ((j : ℕ) → SameFor j s t) → t.passed ≡ s.passed → length t.requests ≡ length s.requests → first_of g ≡ first_of f → g.causes ≡ t.causes → g.slots.items ≡ f.slots.items → IsWindow t (window_of g.sends) → IsCutBehind t.causes.cut s.passed → Carries M runs g t
  carries_same h like passed count first causes slots window behind =
      record {
        first_is = first ∙ (h.first_is ∙ sym passed);
        causes_is = causes;
        window = window;
        there = omega (arith, h.there, passed, count, ap (λ xs. length xs) slots);
        slots = λ i slot at. subst (λ n. Keeps M runs t (n + i) slot) (sym passed) (keeps_same M runs s t (s.passed + i) slot (like (s.passed + i)) (h.slots i slot (ap (λ xs. slice_get xs i) (sym slots) ∙ at)));
        passed = λ k lt. passed_same M s t k (like k) (h.passed k (omega (arith, lt, passed)));
        later = λ k le. untouched_same s t k (like k) (h.later k (omega (arith, le, count)));
        cut_behind = subst (λ n. IsCutBehind t.causes.cut n) (sym passed) behind;
      }
