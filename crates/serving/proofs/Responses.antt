-- A frame comes from the broker, and verdicts from an authority.
use Rattle.std.specs.Prelude.{MatchBool}
use Rattle.serving.proofs.Freed.{cut_stands}
use Rattle.serving.proofs.Resting.{at_limit, rest_given, free_rested, settled_given}
use Rattle.serving.proofs.Asks.{give_is}
use Rattle.std.proofs.Common.{◌≡◌, ◌≢◌, ◌∙◌, ap, refl, sym, subst, ℕ, suc, ◌+◌, ◌-◌, ◌≤◌, ◌==◌, nat_lt, Bool, true, false, not, cond, ◌&&◌, ◌||◌, is_some, if◌then◌else◌, List, [], ◌∷◌, ◌++◌, length, drop, Option, Some, None, Ok, Err, ℤ, pos, slice_get, arith, ◌⊎◌, inl, inr}
use Rattle.std.specs.Ordering.{int_eq}
use Rattle.std.proofs.lemmas.Bool.{ltb-true, ltb-false}
use Rattle.std.proofs.lemmas.Bool.Decides.{Decides-int_eq}
use Rattle.kp_edge.specs.declared.end.End.{End}
use Rattle.kp_edge.specs.declared.end.End.TheVariants as end
use Rattle.framing.specs.CorrelationIds.{response_id}
use Rattle.conn_rules.specs.declared.event.Event.TheVariants as event
use Rattle.conn_rules.specs.declared.event.Reply.TheVariants as reply
use Rattle.conn_rules.specs.declared.event.AnswerFault.TheVariants as answer_fault
use Rattle.conn_rules.specs.declared.event.CompleteFault.TheVariants as complete_fault
use Rattle.conn_rules.specs.Causes.{below, with_cut, with_halt, are_dead, are_still}
use Rattle.conn_rules.specs.Meaning.{Meaning}
use Rattle.conn_rules.specs.Room.{limited}
use Rattle.conn_rules.specs.Work.{TakesGrowth}
use Rattle.conn_rules.specs.State.{Outside, Body, Verdict, ListedSend, State, cut_at, dead, halted, give, due_send, upstream_id}
use Rattle.conn_rules.specs.Steps.{attributed, matched, read_body, answer_to, open_hold, is_hold, TakesMemory, StepOrNoMemory}
use Rattle.correlation.specs.declared.owner.Owner.{Owner}
use Rattle.correlation.specs.declared.owner.Numbered.{Numbered}
use Rattle.correlation.specs.declared.owner.AnswerRefusal.{AnswerRefusal}
use Rattle.correlation.specs.declared.owner.AnswerRefusal.TheVariants.{Unasked, Mismatch}
use Rattle.correlation.specs.Windows.{Window, due_owner, owner_of_frame, with_answered}
use Rattle.correlation.specs.WindowOf.{window_of}
use Rattle.correlation.specs.IsWindow.{IsWindow, owner_of, numbered}
use Rattle.correlation.proofs.WindowLaws.{laws}
use Rattle.serving.specs.declared.cause.Cause.{Cause}
use Rattle.serving.specs.declared.flight.Flight.{Flight}
use Rattle.serving.specs.declared.slot.Slot.{Slot}
use Rattle.serving.specs.declared.slot.Stage.{Stage}
use Rattle.serving.specs.declared.slot.Stage.TheVariants as stage
use Rattle.std.proofs.lemmas.Bool.{ne_eqb, eqb-true, eqb-false}
use Rattle.serving.proofs.Holds.{number_of, hold_is}
use Rattle.serving.specs.Causes.{why_of}
use Rattle.serving.specs.Services.{cause_function}
use Rattle.serving.specs.Flights.{first_of, hold_at, is_number, slot_hold}
use Rattle.serving.specs.Slots.{awaits_response, has_hold, one_if, pending, Keeps, IsPassed, rests_in}
use Rattle.serving.specs.Listing.{SameFor, SameOutside, SameCounts, Carries, GivesAt, CountsAt, FlightSettles}
use Rattle.serving.specs.Stands.{Stands, FlightGives, GivesBodyBy, FlightGivesBodyBy, FlightGivesBody, cut_flight, dead_flight, refusal_end}
use Rattle.serving.proofs.Places.{eqb_same, eqb_other, set_here}
use Rattle.conn_rules.proofs.Resting.{low_before_cut}
use Rattle.serving.proofs.Same.{not_low_at_cut, behind_cut}
use Rattle.serving.proofs.Owed.{owed, pending_is, owed_answered}
use Rattle.serving.proofs.Notes.{carries_same, rest_lower, steps, gives_up, stands_dead}
use Rattle.serving.proofs.Working.{Reaches, reaches_rest, grows_given, grows_trans}
use Rattle.serving.proofs.Giving.{run_stands, carries_given, counts_given, stands_settled}
use Rattle.serving.proofs.Takes.{none_of, stands_wanting}
use Rattle.serving.proofs.Sweeping.{outside_trans}

mismatched : (b : Bool) (owner : Owner) (id expected expected' found : ℤ) → (if b then Ok owner else Err (Mismatch expected id)) ≡ Err (Mismatch expected' found) → (b ≡ false) × (expected' ≡ expected) × (found ≡ id)
mismatched true owner id expected expected' found h = cc
mismatched false owner id expected expected' found h = (refl, cc, cc)

owned : (b : Bool) (owner owner' : Owner) (id expected : ℤ) → (if b then Ok owner else Err (Mismatch expected id)) ≡ Ok owner' → (b ≡ true) × (owner' ≡ owner)
owned true owner owner' id expected h = (refl, cc)
owned false owner owner' id expected h = cc

never_unasked : (b : Bool) (owner : Owner) (id expected found : ℤ) → (if b then Ok owner else Err (Mismatch expected id)) ≡ Err (Unasked found) → ⊥
never_unasked true owner id expected found h = cc
never_unasked false owner id expected found h = cc

module _ (s : State) (w : Window) (h : IsWindow s w) (id : ℤ) where
  unasked_by : (found : ℤ) (due : Option (ℕ × ListedSend)) → due_send s ≡ due → owner_of_frame id (due_owner w) ≡ Err (Unasked found) → (due_send s ≡ None) × (found ≡ id)
  unasked_by found None is says =
      let e : Err (Unasked id) ≡ Err (Unasked found) = ap (λ o. owner_of_frame id o) (sym (laws.none_due s w h is)) ∙ says in
      (is, cc)
  unasked_by found (Some due) is says =
      absurd (never_unasked (int_eq id (pos (upstream_id due.0))) (owner_of due.1) id (pos (upstream_id due.0)) found (ap (λ o. owner_of_frame id o) (sym (laws.due_is s w due h is)) ∙ says))

  pub unasked : (found : ℤ) → owner_of_frame id (due_owner w) ≡ Err (Unasked found) → (due_send s ≡ None) × (found ≡ id)
  unasked found says = unasked_by found (due_send s) refl says

  record Mismatched (expected found : ℤ) : Type 0 where
    due : ℕ × ListedSend
    is_due : due_send s ≡ Some due
    other : int_eq id (pos (upstream_id due.0)) ≡ false
    expected_is : expected ≡ pos (upstream_id due.0)
    found_is : found ≡ id

  mismatch_by : (expected found : ℤ) (due : Option (ℕ × ListedSend)) → due_send s ≡ due → owner_of_frame id (due_owner w) ≡ Err (Mismatch expected found) → Mismatched expected found
  mismatch_by expected found None is says =
      let e : Err (Unasked id) ≡ Err (Mismatch expected found) = ap (λ o. owner_of_frame id o) (sym (laws.none_due s w h is)) ∙ says in
      cc
  mismatch_by expected found (Some due) is says =
      let m = mismatched (int_eq id (pos (upstream_id due.0))) (owner_of due.1) id (pos (upstream_id due.0)) expected found (ap (λ o. owner_of_frame id o) (sym (laws.due_is s w due h is)) ∙ says) in
      record { due = due; is_due = is; other = m.0; expected_is = m.1; found_is = m.2 }

  record Owned (owner : Owner) : Type 0 where
    due : ℕ × ListedSend
    is_due : due_send s ≡ Some due
    same : int_eq id (pos (upstream_id due.0)) ≡ true
    owner_is : owner ≡ owner_of due.1

  owner_by : (owner : Owner) (due : Option (ℕ × ListedSend)) → due_send s ≡ due → owner_of_frame id (due_owner w) ≡ Ok owner → Owned owner
  owner_by owner None is says =
      let e : Err (Unasked id) ≡ Ok owner = ap (λ o. owner_of_frame id o) (sym (laws.none_due s w h is)) ∙ says in
      cc
  owner_by owner (Some due) is says =
      let m = owned (int_eq id (pos (upstream_id due.0))) (owner_of due.1) owner id (pos (upstream_id due.0)) (ap (λ o. owner_of_frame id o) (sym (laws.due_is s w due h is)) ∙ says) in
      record { due = due; is_due = is; same = m.0; owner_is = m.1 }

no_halt_by : (a b c : Bool) → (a || b || c) ≡ false → b ≡ false
no_halt_by true b c h = cc
no_halt_by false true c h = cc
no_halt_by false false c h = refl

first_owner : (b : Bool) (owners : List Numbered) (n : Numbered) → (if b then slice_get owners 0 else None) ≡ Some n → slice_get owners 0 ≡ Some n
first_owner true owners n h = h
first_owner false owners n h = cc

module _ {R : Type 0} (M : Meaning) (runs : R → List ℕ → List Outside → Type 0) (f : Flight R) (s : State) where
  abbrev N : Meaning
  N = limited f.limit M

  abbrev pub Leads : Rattle.conn_rules.specs.declared.event.Event.Event → Rattle.conn_rules.specs.declared.event.Reply.Reply → Flight R → Type 0
  Leads e r new = (t : State) × StepOrNoMemory N s e r t × Stands N runs new t

  -- the same, with the steps that are counted between
  abbrev pub LeadsBy : Rattle.conn_rules.specs.declared.event.Event.Event → Rattle.conn_rules.specs.declared.event.Reply.Reply → Flight R → (before after : ℕ) → Type 0
  LeadsBy e r new n m = (t : State) × Reaches N s e r n m t × Stands N runs new t

  module _ (h : Stands N runs f s) (frame : List ℕ) (alive : are_dead f.causes ≡ false) where
    abbrev e : Rattle.conn_rules.specs.declared.event.Event.Event
    e = event.Answer frame

    abbrev ok : Rattle.conn_rules.specs.declared.event.Reply.Reply
    ok = reply.Answer (Ok tt)

    no_halt : s.causes.halt ≡ None
    no_halt = sym h.halt_is ∙ none_of f.causes.halt (no_halt_by (is_some f.causes.death) (is_some f.causes.halt) (is_some f.causes.over) alive)

    whole : (f.requests ≡ length s.requests) × Carries N runs f s
    whole = h.whole no_halt

    living : are_dead s.causes ≡ false
    living = ap (λ c. are_dead c) (sym whole.1.causes_is) ∙ alive

    answers : (due : Option (ℕ × ListedSend)) → due_send s ≡ due → answer_to N s e ≡ (ok, attributed N s frame due)
    answers due is = ap (λ b. if b then (reply.Answer (Err (answer_fault.Dead frame)), s) else (ok, attributed N s frame (due_send s))) living ∙ ap (λ d. (ok, attributed N s frame d)) is

    -- the sends are as they were
    same_sends : (g : Flight R) → window_of g.sends ≡ window_of f.sends → g ≡ record f { sends = g.sends } → Stands N runs g s
    same_sends g window is = subst (λ x. Stands N runs x s) (sym is) (record {
      halt_is = h.halt_is;
      over_is = h.over_is;
      count_is = h.count_is;
      held_is = h.held_is;
      rest = h.rest;
      whole = λ none. (whole.0, (let c : Carries N runs f s = whole.1 in record { first_is = c.first_is; causes_is = c.causes_is; window = subst (λ x. IsWindow s x) (sym window) c.window; there = c.there; slots = c.slots; passed = c.passed; later = c.later; cut_behind = c.cut_behind }));
      free = h.free;
    })

    -- no send waits, or another one is due
    answer_unasked : (g : Flight R) (id found : ℤ) → g ≡ record f { sends = g.sends } → window_of g.sends ≡ with_answered (owner_of_frame id (due_owner (window_of f.sends))) (window_of f.sends) → id ≡ response_id frame → owner_of_frame id (due_owner (window_of f.sends)) ≡ Err (Unasked found) → (n m : ℕ) → m ≡ n → LeadsBy e ok (dead_flight (end.Unasked found) g) n m
    answer_unasked g id found is window id_is says n m same_steps =
        let none : (due_send s ≡ None) × (found ≡ id) = unasked s (window_of f.sends) whole.1.window id found says in
        let same : window_of g.sends ≡ window_of f.sends = window ∙ ap (λ r. with_answered r (window_of f.sends)) says in
        let t : State = dead (end.Unasked (response_id frame)) s in
        let stands : Stands N runs (dead_flight (end.Unasked found) g) t = stands_dead N runs g s (same_sends g same is) (end.Unasked found) (end.Unasked (response_id frame)) (λ x c. ap (λ n. end.Unasked n) (none.1 ∙ id_is)) in
        (t, reaches_rest N s e ok n m t (answers None none.0) stands.rest same_steps refl, stands)

    answer_mismatch : (g : Flight R) (id expected found : ℤ) → g ≡ record f { sends = g.sends } → window_of g.sends ≡ with_answered (owner_of_frame id (due_owner (window_of f.sends))) (window_of f.sends) → id ≡ response_id frame → owner_of_frame id (due_owner (window_of f.sends)) ≡ Err (Mismatch expected found) → (n n' : ℕ) → n' ≡ n → LeadsBy e ok (dead_flight (end.Mismatch expected found) g) n n'
    answer_mismatch g id expected found is window id_is says n n' same_steps =
        let m : Mismatched s (window_of f.sends) whole.1.window id expected found = mismatch_by s (window_of f.sends) whole.1.window id expected found (due_send s) refl says in
        let same : window_of g.sends ≡ window_of f.sends = window ∙ ap (λ r. with_answered r (window_of f.sends)) says in
        let why : End = end.Mismatch (pos (upstream_id m.due.0)) (response_id frame) in
        let t : State = dead why s in
        let differs : int_eq (response_id frame) (pos (upstream_id m.due.0)) ≡ false = ap (λ n. int_eq n (pos (upstream_id m.due.0))) (sym id_is) ∙ m.other in
        let step : answer_to N s e ≡ (ok, t) = answers (Some m.due) m.is_due ∙ ap (λ b. (ok, if b then matched N s m.due.1 (drop 4 frame) else t)) differs in
        let stands : Stands N runs (dead_flight (end.Mismatch expected found) g) t = stands_dead N runs g s (same_sends g same is) (end.Mismatch expected found) why (λ x c. ap (λ n. end.Mismatch n found) m.expected_is ∙ ap (λ n. end.Mismatch (pos (upstream_id m.due.0)) n) (m.found_is ∙ id_is)) in
        (t, reaches_rest N s e ok n n' t step stands.rest same_steps refl, stands)

    pub answer_refused : (g : Flight R) (id : ℤ) (refusal : AnswerRefusal) → g ≡ record f { sends = g.sends } → window_of g.sends ≡ with_answered (owner_of_frame id (due_owner (window_of f.sends))) (window_of f.sends) → id ≡ response_id frame → owner_of_frame id (due_owner (window_of f.sends)) ≡ Err refusal → (n m : ℕ) → m ≡ n → LeadsBy e ok (dead_flight (refusal_end refusal) g) n m
    answer_refused g id (Unasked found) is window id_is says = answer_unasked g id found is window id_is says
    answer_refused g id (Mismatch expected found) is window id_is says = answer_mismatch g id expected found is window id_is says

    -- the frame is the due send's
    module _ (g : Flight R) (id : ℤ) (owner : Owner) (is : g ≡ record f { sends = g.sends }) (answered : window_of g.sends ≡ with_answered (owner_of_frame id (due_owner (window_of f.sends))) (window_of f.sends)) (id_is : id ≡ response_id frame) (says : owner_of_frame id (due_owner (window_of f.sends)) ≡ Ok owner) where
      o : Owned s (window_of f.sends) whole.1.window id owner
      o = owner_by s (window_of f.sends) whole.1.window id owner (due_send s) refl says

      abbrev k : ℕ
      k = o.due.1.request

      abbrev b : State
      b = record s { answered = s.answered + 1 }

      abbrev body : List ℕ
      body = drop 4 frame

      k_is : owner.request ≡ k
      k_is = ap (λ x. x.request) o.owner_is

      window : IsWindow b (window_of g.sends)
      window = subst (λ x. IsWindow b x) (sym (answered ∙ ap (λ r. with_answered r (window_of f.sends)) says)) (laws.answers s (window_of f.sends) o.due owner whole.1.window o.is_due)

      owed_one : (j : ℕ) → pending s j ≡ cond (k == j) 1 0 + pending b j
      owed_one j =
          let first : slice_get (window_of f.sends).owners 0 ≡ Some (numbered o.due) = first_owner (nat_lt 0 (window_of f.sends).waiting) (window_of f.sends).owners (numbered o.due) (laws.due_is s (window_of f.sends) o.due whole.1.window o.is_due) in
          pending_is s (window_of f.sends) j whole.1.window
          ∙ (owed_answered (window_of f.sends) (numbered o.due) owner j first
          ∙ ap (λ n. cond (k == j) 1 0 + n) (sym (pending_is b (window_of g.sends) j window ∙ ap (λ w. owed w j) (answered ∙ ap (λ r. with_answered r (window_of f.sends)) says))))

      none_of_others : (j : ℕ) → j ≢ k → pending b j ≡ pending s j
      none_of_others j ne = let n : cond (k == j) 1 0 ≡ (let z : ℕ = 0 in z) = ap (λ c. cond c 1 0) (eqb_other j k ne) in omega (arith, owed_one j, n)

      one_of_it : pending s k ≡ suc (pending b k)
      one_of_it = let n : cond (k == k) 1 0 ≡ (let z : ℕ = 1 in z) = ap (λ c. cond c 1 0) (eqb_same k) in omega (arith, owed_one k, n)

      at_most_one : (c : Bool) → one_if c ≤ 1
      at_most_one true = omega arith
      at_most_one false = omega arith

      matched_is : answer_to N s e ≡ (ok, if below s.causes.cut k then read_body (N.unreadable o.due.1.before body) k body b else b)
      matched_is =
          let same : int_eq (response_id frame) (pos (upstream_id o.due.0)) ≡ true = ap (λ n. int_eq n (pos (upstream_id o.due.0))) (sym id_is) ∙ o.same in
          answers (Some o.due) o.is_due ∙ ap (λ c. (ok, if c then matched N s o.due.1 body else dead (end.Mismatch (pos (upstream_id o.due.0)) (response_id frame)) s)) same

      g_first : first_of g ≡ first_of f
      g_first = ap (λ x. first_of x) is

      g_causes : g.causes ≡ f.causes
      g_causes = ap (λ x. x.causes) is

      g_slots : g.slots.items ≡ f.slots.items
      g_slots = ap (λ x. x.slots.items) is

      g_outside : SameOutside f g
      g_outside = record { limit_is = ap (λ x. x.limit) is; count = ap (λ x. x.count) is; held = ap (λ x. x.held) is; requests = ap (λ x. x.requests) is; halt = ap (λ x. x.causes.halt) is; over = ap (λ x. x.causes.over) is }

      low_is : (low : Bool) → below g.causes.cut owner.request ≡ low → below s.causes.cut k ≡ low
      low_is low i = ap (λ c. below c.cut k) (sym whole.1.causes_is ∙ sym g_causes) ∙ (ap (λ n. below g.causes.cut n) (sym k_is) ∙ i)

      -- its request stands at the cut or behind it
      answer_dropped : below s.causes.cut k ≡ false → (n m : ℕ) → m ≡ n → LeadsBy e ok g n m
      answer_dropped low n m none =
          let like : (j : ℕ) → SameFor j s b = λ j. record { request = refl; main = refl; listed = λ i. refl; picked = λ i. refl; pending = λ x. none_of_others j (λ i. (let never : true ≡ false = sym x ∙ (ap (λ n. below s.causes.cut n) i ∙ low) in cc)); served = λ x. x } in
          let carries : Carries N runs g b = carries_same N runs f g s b whole.1 like refl refl g_first (g_causes ∙ whole.1.causes_is) g_slots window whole.1.cut_behind in
          let stands : Stands N runs g b = record { halt_is = g_outside.halt ∙ h.halt_is; over_is = g_outside.over ∙ h.over_is; count_is = g_outside.count ∙ h.count_is; held_is = g_outside.held ∙ h.held_is; rest = h.rest; whole = λ none. (g_outside.requests ∙ whole.0, carries); free = λ none uncut. ap (λ x. x.free) is ∙ h.free none uncut } in
          (b, reaches_rest N s e ok n m b (matched_is ∙ ap (λ c. (ok, if c then read_body (N.unreadable o.due.1.before body) k body b else b)) low) h.rest none refl, stands)

      module _ (low : below s.causes.cut k ≡ true) where
        read_is : (why : Option (ℕ → End)) → N.unreadable o.due.1.before body ≡ why → answer_to N s e ≡ (ok, read_body why k body b)
        read_is why i = matched_is ∙ (ap (λ c. (ok, if c then read_body (N.unreadable o.due.1.before body) k body b else b)) low ∙ ap (λ y. (ok, read_body y k body b)) i)

        not_passed_by : (early : Bool) → nat_lt k s.passed ≡ early → s.passed ≤ k
        not_passed_by false i = ltb-false k s.passed i
        not_passed_by true i =
            let p : IsPassed N s k = whole.1.passed k (ltb-true k s.passed i) in
            absurd (omega (arith, p.pending low, one_of_it))

        not_passed : s.passed ≤ k
        not_passed = not_passed_by (nat_lt k s.passed) refl

        -- its body can't be read
        answer_unreadable : (cause : Cause) (new : Flight R) → Some (why_of cause) ≡ N.unreadable owner.before body → new ≡ cut_flight owner.request (why_of cause owner.request) g → (n m : ℕ) → m ≡ n → LeadsBy e ok new n m
        answer_unreadable cause new bad new_is n m same_steps =
            let why : End = why_of cause k in
            let t : State = cut_at k why b in
            let step : answer_to N s e ≡ (ok, t) = read_is (Some (why_of cause)) (ap (λ x. N.unreadable x.before body) (sym o.owner_is) ∙ sym bad) in
            let same : cut_flight k why g ≡ new = ap (λ n. cut_flight n (why_of cause n) g) (sym k_is) ∙ sym new_is in
            let like : (j : ℕ) → SameFor j s t = λ j. record { request = refl; main = refl; listed = λ i. refl; picked = λ i. refl; pending = λ x. none_of_others j (λ i. (let never : true ≡ false = sym x ∙ (ap (λ n. below (with_cut k why s.causes).cut n) i ∙ not_low_at_cut k why s.causes) in cc)); served = low_before_cut k why s.causes j } in
            let carries : Carries N runs (cut_flight k why g) t = carries_same N runs f (cut_flight k why g) s t whole.1 like refl refl g_first (ap (λ c. with_cut k why c) (g_causes ∙ whole.1.causes_is)) g_slots (laws.stays b t (window_of g.sends) (refl, refl, refl) window) (behind_cut k why s.causes s.passed not_passed whole.1.cut_behind) in
            let rest = rest_lower N s (with_cut k why s.causes) (low_before_cut k why s.causes) h.rest in
            let stands : Stands N runs (cut_flight k why g) t = record { halt_is = g_outside.halt ∙ h.halt_is; over_is = g_outside.over ∙ h.over_is; count_is = g_outside.count ∙ h.count_is; held_is = g_outside.held ∙ h.held_is; rest = rest; whole = λ none. (g_outside.requests ∙ whole.0, carries); free = λ none cut. absurd (cut_stands (with_cut k why s.causes).cut k (not_low_at_cut k why s.causes) cut) } in
            (t, reaches_rest N s e ok n m t step rest same_steps refl, subst (λ x. Stands N runs x t) same stands)

        given_by : (new : Flight R) (n : ℕ) → n ≡ k → N.unreadable o.due.1.before body ≡ None → SameOutside f new → (a a' : ℕ) → FlightGives M runs n (Body body) g new a a' → LeadsBy e ok new a a'
        given_by new n n_is readable outside a a' gives =
            let le : first_of g ≤ k = subst (λ m. first_of g ≤ m) n_is gives.in_flight in
            let gives' : GivesAt M runs (k - first_of g) (Body body) g gives.mid = subst (λ m. GivesAt M runs (m - first_of g) (Body body) g gives.mid) n_is gives.gives in
            let number : s.passed + (k - first_of g) ≡ k = omega (arith, le, g_first, whole.1.first_is) in
            let kept : Keeps N runs s k gives'.slot = subst (λ m. Keeps N runs s m gives'.slot) number (whole.1.slots (k - first_of g) gives'.slot (ap (λ xs. slice_get xs (k - first_of g)) (sym g_slots) ∙ gives'.there)) in
            let u : State = give k (Body body) b in
            let carries : Carries N runs gives.mid u = carries_given M runs f.limit f g gives.mid s k (s.answered + 1) (Body body) whole.1 g_first g_causes g_slots le gives' window (λ j ne x. none_of_others j ne) (λ x. omega (arith, kept.pending x, one_of_it, at_most_one (awaits_response gives'.slot.stage))) in
            let counts : SameCounts s u = counts_given M runs f.limit s k (s.answered + 1) (Body body) kept.request kept.there in
            let place : ℕ = k - first_of g in
            let there' : slice_get u.requests k ≡ Some (record kept.request { given = kept.request.given ++ Body body ∷ [] }) = ap (λ t. slice_get t.requests k) (give_is k kept.request (Body body) b kept.there) ∙ set_here s.requests k kept.request _ kept.there in
            let settles' : MatchBool (rests_in (slice_get gives.mid.slots.items place)) ((new ≡ gives.mid) × (a' ≡ gives.between)) (FlightSettles N runs gives.mid new gives.between a') = at_limit ((new ≡ gives.mid) × (a' ≡ gives.between)) (λ limit. FlightSettles (limited limit M) runs gives.mid new gives.between a') (rests_in (slice_get gives.mid.slots.items place)) (subst (λ m. MatchBool (rests_in (slice_get gives.mid.slots.items (m - first_of g))) ((new ≡ gives.mid) × (a' ≡ gives.between)) ((limit : ℕ) → FlightSettles (limited limit M) runs gives.mid new gives.between a')) n_is gives.settles) f.limit in
            let counts' : CountsAt M runs (k - first_of g) (Body body) g a gives.between = subst (λ m. CountsAt M runs (m - first_of g) (Body body) g a gives.between) n_is gives.counts in
            let run : runs gives'.run kept.request.frame kept.request.given = run_stands N runs kept.request.frame kept.request.given gives'.slot.stage gives'.run kept.stage gives'.waits in
            let grows : TakesGrowth N a gives.between s u = grows_given N a gives.between s u k kept.request (Body body) kept.there (ap (λ x. x.requests) (give_is k kept.request (Body body) b kept.there)) (counts' gives'.slot gives'.run gives'.there gives'.waits kept.request.frame kept.request.given run) in
            let done = settled_given N runs gives.mid new u place gives.between a' (rests_in (slice_get gives.mid.slots.items place)) refl settles' (omega (arith, counts.count, whole.0, gives.small, g_outside.requests)) carries (λ after found rest.
            let there_kept : Keeps N runs u k after = subst (λ m. Keeps N runs u m after) (let e : u.passed + place ≡ k = omega (arith, number, counts.passed) in e) (carries.slots place after found) in (
              rest_given N runs b k (Body body) kept.request gives'.slot after gives'.run kept.there there' kept.stage kept.main gives'.waits there_kept rest h.rest,
              λ uncut. gives'.rest.free ∙ (ap (λ x. x.free) is ∙ (h.free no_halt uncut ∙ sym (free_rested N runs b k (Body body) kept.request gives'.slot after gives'.run kept.there there' kept.stage kept.main gives'.waits there_kept rest))),
            )) in
            (done.0, record { from = u; step = read_is None readable; settles = done.1.settles; grows = grows_trans N a gives.between a' s u done.0 grows done.2 }, stands_settled M runs f.limit f new s u done.0 h whole.1 whole.0 outside counts done.1)

        answer_read : (cause : Option Cause) (new : Flight R) → cause_function cause ≡ N.unreadable owner.before body → SameOutside f new → (n m : ℕ) → GivesBodyBy M runs cause owner body g new n m → LeadsBy e ok new n m
        answer_read (Some cause) new bad outside n m gives = answer_unreadable cause new bad gives.0 n m gives.1
        answer_read None new readable outside n m gives = given_by new owner.request k_is (ap (λ x. N.unreadable x.before body) (sym o.owner_is) ∙ sym readable) outside n m gives

        answer_wanting : (left : Flight R) → SameOutside f left → Leads e (reply.Answer (Err answer_fault.NoMemory)) (record left { causes = with_halt end.NoMemory left.causes })
        answer_wanting left outside =
            let takes : TakesMemory s e = (o.due, o.is_due, ap (λ n. n) (sym id_is) ∙ (Decides-int_eq id (pos (upstream_id o.due.0))).0 o.same, low) in
            (halted end.NoMemory s, gives_up N s _ e ok (reply.Answer (Err answer_fault.NoMemory)) takes matched_is refl, stands_wanting N runs f left s h outside)

      answer_by : (low : Bool) (new : Flight R) → below s.causes.cut k ≡ low → SameOutside f new → (n m : ℕ) → FlightGivesBodyBy M runs low owner frame g new n m → LeadsBy e ok new n m
      answer_by false new low outside n m gives = subst (λ x. LeadsBy e ok x n m) (sym gives.0) (answer_dropped low n m gives.1)
      answer_by true new low outside n m gives = answer_read low gives.0 new gives.1 outside n m gives.2

      pub answer_ok : (new : Flight R) → SameOutside g new → (n m : ℕ) → FlightGivesBody M runs owner frame g new n m → LeadsBy e ok new n m
      answer_ok new outside n m gives = answer_by (below g.causes.cut owner.request) new (low_is (below g.causes.cut owner.request) refl) (outside_trans f g new g_outside outside) n m gives

      pub answer_no_memory : (left : Flight R) → SameOutside g left → below g.causes.cut owner.request ≡ true → Leads e (reply.Answer (Err answer_fault.NoMemory)) (record left { causes = with_halt end.NoMemory left.causes })
      answer_no_memory left outside low = answer_wanting (low_is true low) left (outside_trans f g left g_outside outside)

-- verdicts
pub number_true : (i : ℕ) (o : Option ℕ) → is_number i o ≡ true → o ≡ Some i
number_true i None e = cc
number_true i (Some n) e = ap (λ m. Some m) (eqb-true n i e)

pub number_false : (i : ℕ) (o : Option ℕ) → is_number i o ≡ false → o ≡ Some i → ⊥
number_false i None e is = cc
number_false i (Some n) e is = let m : n ≡ i = cc in eqb-false n i e m

hold_flag : {R : Type 0} → (at : Stage R) → has_hold at ≡ true → awaits_response at ≡ false
hold_flag (stage.Unlisted m run) h = refl
hold_flag (stage.Listed run) h = cc
hold_flag (stage.Held key run) h = refl
hold_flag (stage.Picked run) h = refl
hold_flag (stage.Ready response) h = refl
hold_flag (stage.Failed cause) h = refl
hold_flag stage.AtWork h = refl

some_hold : {R : Type 0} → (slot : Slot R) (n : ℕ) (b : Bool) → has_hold slot.stage ≡ b → (if b then Some slot.given else None) ≡ Some n → has_hold slot.stage ≡ true
some_hold slot n true is h = is
some_hold slot n false is h = cc

when : {X : Type 0} → (b : Bool) (o : Option X) (x : X) → (if b then o else None) ≡ Some x → o ≡ Some x
when true o x h = h
when false o x h = cc

still_none : (a b : Bool) → (a || b) ≡ false → a ≡ false
still_none true b h = cc
still_none false b h = refl

is_hold_by : (i : ℕ) (hold : Option (ℕ × List ℕ)) → number_of hold ≡ Some i → is_hold i hold ≡ true
is_hold_by i None e = cc
is_hold_by i (Some x) e = let n : x.0 ≡ i = cc in ap (λ m. m == i) n ∙ eqb_same i

other_hold : (i : ℕ) (hold : Option (ℕ × List ℕ)) → (number_of hold ≡ Some i → ⊥) → is_hold i hold ≡ false
other_hold i None e = refl
other_hold i (Some x) e = ne_eqb x.0 i (λ n. e (ap (λ m. Some m) n))

and_false : (b : Bool) → (b && false) ≡ false
and_false true = refl
and_false false = refl

module _ {R : Type 0} (M : Meaning) (runs : R → List ℕ → List Outside → Type 0) (f : Flight R) (s : State) where
  module _ (h : Stands (limited f.limit M) runs f s) (k i : ℕ) (verdict : List ℕ) where
    abbrev V : Rattle.conn_rules.specs.declared.event.Event.Event
    V = event.Complete k i verdict

    refused_by : are_still s.causes ≡ true ⊎ (is_hold i (open_hold (limited f.limit M) s k) ≡ false) → answer_to (limited f.limit M) s V ≡ (reply.Complete (Err (complete_fault.NotWaiting verdict)), s)
    refused_by (inl e) = ap (λ b. if not b && is_hold i (open_hold (limited f.limit M) s k) then (reply.Complete (Ok tt), give k (Verdict verdict) s) else (reply.Complete (Err (complete_fault.NotWaiting verdict)), s)) e
    refused_by (inr e) = ap (λ b. if not (are_still s.causes) && b then (reply.Complete (Ok tt), give k (Verdict verdict) s) else (reply.Complete (Err (complete_fault.NotWaiting verdict)), s)) e ∙ ap (λ b. if b then (reply.Complete (Ok tt), give k (Verdict verdict) s) else (reply.Complete (Err (complete_fault.NotWaiting verdict)), s)) (and_false (not (are_still s.causes)))

    still_is : are_still f.causes ≡ are_still s.causes
    still_is = ap (λ o. is_some o || is_some f.causes.over) h.halt_is ∙ ap (λ o. is_some s.causes.halt || is_some o) h.over_is

    pub complete_still : are_still f.causes ≡ true → Leads M runs f s V (reply.Complete (Err (complete_fault.NotWaiting verdict))) f
    complete_still still = (s, steps (limited f.limit M) s s V _ (refused_by (inl (sym still_is ∙ still))) h.rest, h)

    module _ (going : are_still f.causes ≡ false) where
      moving : are_still s.causes ≡ false
      moving = sym still_is ∙ going

      unhalted : s.causes.halt ≡ None
      unhalted = sym h.halt_is ∙ none_of f.causes.halt (still_none (is_some f.causes.halt) (is_some f.causes.over) going)

      all : (f.requests ≡ length s.requests) × Carries (limited f.limit M) runs f s
      all = h.whole unhalted

      pub complete_other : (hold_at f k ≡ Some i → ⊥) → Leads M runs f s V (reply.Complete (Err (complete_fault.NotWaiting verdict))) f
      complete_other other = (s, steps (limited f.limit M) s s V _ (refused_by (inr (other_hold i (open_hold (limited f.limit M) s k) (λ e. other (hold_is (limited f.limit M) runs f s all.1 k ∙ e))))) h.rest, h)

      module _ (at : hold_at f k ≡ Some i) where
        completes : answer_to (limited f.limit M) s V ≡ (reply.Complete (Ok tt), give k (Verdict verdict) s)
        completes =
            ap (λ b. if not b && is_hold i (open_hold (limited f.limit M) s k) then (reply.Complete (Ok tt), give k (Verdict verdict) s) else (reply.Complete (Err (complete_fault.NotWaiting verdict)), s)) moving
            ∙ ap (λ b. if b then (reply.Complete (Ok tt), give k (Verdict verdict) s) else (reply.Complete (Err (complete_fault.NotWaiting verdict)), s)) (is_hold_by i (open_hold (limited f.limit M) s k) (sym (hold_is (limited f.limit M) runs f s all.1 k) ∙ at))

        pub complete_wanting : (left : Flight R) → SameOutside f left → Leads M runs f s V (reply.Complete (Err complete_fault.NoMemory)) (record left { causes = with_halt end.NoMemory left.causes })
        complete_wanting left outside = (halted end.NoMemory s, gives_up (limited f.limit M) s _ V (reply.Complete (Ok tt)) (reply.Complete (Err complete_fault.NoMemory)) tt completes refl, stands_wanting (limited f.limit M) runs f left s h outside)

        pub complete_ok : (new : Flight R) → SameOutside f new → (n m : ℕ) → FlightGives M runs k (Verdict verdict) f new n m → LeadsBy M runs f s V (reply.Complete (Ok tt)) new n m
        complete_ok new outside n n' gives =
            let place : ℕ = k - first_of f in
            let number : s.passed + place ≡ k = omega (arith, gives.in_flight, all.1.first_is) in
            let kept : Keeps (limited f.limit M) runs s k gives.gives.slot = subst (λ m. Keeps (limited f.limit M) runs s m gives.gives.slot) number (all.1.slots place gives.gives.slot gives.gives.there) in
            let found : slot_hold (Some gives.gives.slot) ≡ Some i = ap (λ o. slot_hold o) (sym gives.gives.there) ∙ when _ _ i at in
            let holds : awaits_response gives.gives.slot.stage ≡ false = hold_flag gives.gives.slot.stage (some_hold gives.gives.slot i (has_hold gives.gives.slot.stage) refl found) in
            let u : State = give k (Verdict verdict) s in
            let carries : Carries (limited f.limit M) runs gives.mid u = carries_given M runs f.limit f f gives.mid s k s.answered (Verdict verdict) all.1 refl refl refl gives.in_flight gives.gives all.1.window (λ j ne x. refl) (λ x. kept.pending x ∙ ap (λ b. one_if b) holds) in
            let counts : SameCounts s u = counts_given M runs f.limit s k s.answered (Verdict verdict) kept.request kept.there in
            let there' : slice_get u.requests k ≡ Some (record kept.request { given = kept.request.given ++ Verdict verdict ∷ [] }) = ap (λ t. slice_get t.requests k) (give_is k kept.request (Verdict verdict) s kept.there) ∙ set_here s.requests k kept.request _ kept.there in
            let run : runs gives.gives.run kept.request.frame kept.request.given = run_stands (limited f.limit M) runs kept.request.frame kept.request.given gives.gives.slot.stage gives.gives.run kept.stage gives.gives.waits in
            let grows : TakesGrowth (limited f.limit M) n gives.between s u = grows_given (limited f.limit M) n gives.between s u k kept.request (Verdict verdict) kept.there (ap (λ x. x.requests) (give_is k kept.request (Verdict verdict) s kept.there)) (gives.counts gives.gives.slot gives.gives.run gives.gives.there gives.gives.waits kept.request.frame kept.request.given run) in
            let settles' : MatchBool (rests_in (slice_get gives.mid.slots.items place)) ((new ≡ gives.mid) × (n' ≡ gives.between)) (FlightSettles (limited f.limit M) runs gives.mid new gives.between n') = at_limit ((new ≡ gives.mid) × (n' ≡ gives.between)) (λ limit. FlightSettles (limited limit M) runs gives.mid new gives.between n') (rests_in (slice_get gives.mid.slots.items place)) gives.settles f.limit in
            let done = settled_given (limited f.limit M) runs gives.mid new u place gives.between n' (rests_in (slice_get gives.mid.slots.items place)) refl settles' (omega (arith, counts.count, all.0, gives.small)) carries (λ after found rest.
            let there_kept : Keeps (limited f.limit M) runs u k after = subst (λ m. Keeps (limited f.limit M) runs u m after) (let e : u.passed + place ≡ k = omega (arith, number, counts.passed) in e) (carries.slots place after found) in (
              rest_given (limited f.limit M) runs s k (Verdict verdict) kept.request gives.gives.slot after gives.gives.run kept.there there' kept.stage kept.main gives.gives.waits there_kept rest h.rest,
              λ uncut. gives.gives.rest.free ∙ (h.free unhalted uncut ∙ sym (free_rested (limited f.limit M) runs s k (Verdict verdict) kept.request gives.gives.slot after gives.gives.run kept.there there' kept.stage kept.main gives.gives.waits there_kept rest)),
            )) in
            (done.0, record { from = u; step = completes; settles = done.1.settles; grows = grows_trans (limited f.limit M) n gives.between n' s u done.0 grows done.2 }, stands_settled M runs f.limit f new s u done.0 h all.1 all.0 outside counts done.1)
