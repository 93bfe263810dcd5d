-- The oldest requests are passed, and the next send is taken.
use Rattle.std.proofs.Common.{◌≡◌, ◌∙◌, ap, refl, sym, subst, ℕ, zero, suc, ◌+◌, ◌-◌, ◌≤◌, ◌<◌, nat_lt, ◌==◌, Bool, true, false, ◌&&◌, is_some, if◌then◌else◌, List, [], ◌∷◌, length, take, drop, Option, Some, None, slice_get, arith, add-one}
use Rattle.std.specs.Prelude.{sum_by}
use Rattle.std.proofs.lemmas.List.Sums.{sum_by-cons}
use Rattle.std.proofs.lemmas.Bool.{ltb-true, ltb-false, lt-ltb, eqb-false}
use Rattle.std.proofs.lemmas.Option.{slice_get_within, slice_get_past}
use Rattle.kp_edge.specs.declared.end.End.{End}
use Rattle.conn_rules.specs.declared.event.Event.TheVariants as event
use Rattle.conn_rules.specs.declared.event.Reply.TheVariants as reply
use Rattle.conn_rules.specs.declared.event.Emit.TheVariants as emit
use Rattle.conn_rules.specs.Causes.{below, cut_cause, with_told}
use Rattle.conn_rules.specs.Meaning.{Meaning, Done}
use Rattle.conn_rules.specs.State.{Outside, Request, ListedSend, State, held}
use Rattle.conn_rules.specs.Steps.{response_of, response_in, silent_run, silent_passed, over_or, respond_or, emit_next, told_again, sent_next, answer_to, StepOrNoMemory}
use Rattle.conn_rules.specs.Settling.{next_act}
use Rattle.conn_rules.specs.Sweep.{free_from}
use Rattle.conn_rules.proofs.Lists.{found_first}
use Rattle.correlation.specs.Windows.{first_frame, with_taken}
use Rattle.correlation.specs.WindowOf.{window_of}
use Rattle.correlation.specs.IsWindow.{IsWindow, one_taken}
use Rattle.correlation.proofs.WindowLaws.{laws}
use Rattle.serving.specs.declared.frame.WholeFrame.{WholeFrame}
use Rattle.serving.specs.declared.flight.Flight.{Flight}
use Rattle.serving.specs.declared.slot.Slot.{Slot}
use Rattle.serving.specs.declared.slot.Stage.{Stage}
use Rattle.serving.specs.declared.slot.Stage.TheVariants as stage
use Rattle.serving.specs.Services.{IsDone}
use Rattle.serving.specs.Flights.{first_of, OnlySlots, SameFlight, PassesSlot, is_passable, IsStuck, PassesReady}
use Rattle.serving.specs.Slots.{is_ready, awaits_response, one_if, IsStage, Keeps, IsPassed}
use Rattle.serving.specs.Listing.{SameFor, IsCutBehind, Carries}
use Rattle.serving.specs.Stands.{Stands, HavePassed, told_flight}
use Rattle.serving.proofs.Places.{dropped}
use Rattle.serving.proofs.Same.{same_refl, keeps_same, passed_same, untouched_same}
use Rattle.serving.proofs.Notes.{steps, stands_told, carries_same}

and3_first : (a b c : Bool) → (a && b && c) ≡ true → a ≡ true
and3_first true b c h = refl
and3_first false b c h = cc

and3_second : (a b c : Bool) → (a && b && c) ≡ true → b ≡ true
and3_second true true c h = refl
and3_second true false c h = cc
and3_second false b c h = cc

and3_third : (a b c : Bool) → (a && b && c) ≡ true → c ≡ true
and3_third true true true h = refl
and3_third true true false h = cc
and3_third true false c h = cc
and3_third false b c h = cc

behind_low : (cut : Option (ℕ × End)) (passed : ℕ) → below cut passed ≡ true → IsCutBehind cut (passed + 1)
behind_low None passed h = tt
behind_low (Some cut) passed h = let e : passed < cut.0 = ltb-true passed cut.0 h in omega (arith, e)

no_cause : (b : Bool) (why : End) → (if b then Some why else None) ≡ None → b ≡ false
no_cause true why h = cc
no_cause false why h = refl

low_by : (cut : Option (ℕ × End)) (passed : ℕ) → IsCutBehind cut passed → cut_cause cut passed ≡ None → below cut passed ≡ true
low_by None passed h none = refl
low_by (Some cut) passed h none = lt-ltb passed cut.0 (let ne : cut.0 ≡ passed → ⊥ = eqb-false cut.0 passed (no_cause (cut.0 == passed) cut.1 none) in omega (arith, h, ne))

none_there : {X : Type 0} → (xs : List X) → slice_get xs 0 ≡ None → length xs ≤ 0
none_there [] h = omega arith
none_there (x ∷ xs) h = cc

drop_all : {X : Type 0} → (n : ℕ) (xs : List X) → length xs ≤ n → drop n xs ≡ []
drop_all zero [] h = refl
drop_all zero (x ∷ xs) h = absurd (omega (arith, h))
drop_all (suc n) [] h = refl
drop_all (suc n) (x ∷ xs) h = drop_all n xs (omega (arith, h))

not_run : (b : Bool) (n : ℕ) → b ≡ false → (if b then suc n else 0) ≡ 0
not_run true n e = cc
not_run false n e = refl

one_less : {X : Type 0} → (xs : List X) → length (drop 1 xs) ≡ length xs - 1
one_less [] = refl
one_less (x ∷ xs) = omega arith

module _ {R : Type 0} (M : Meaning) (runs : R → List ℕ → List Outside → Type 0) where
  done_is : (frame : List ℕ) (given : List Outside) (at : Stage R) → IsStage M runs frame given at → is_ready at ≡ true → (response : List ℕ) × (M.status frame given ≡ Done response)
  done_is frame given (stage.Unlisted m run) h is = cc
  done_is frame given (stage.Listed run) h is = cc
  done_is frame given (stage.Held key run) h is = cc
  done_is frame given (stage.Picked run) h is = cc
  done_is frame given (stage.Ready None) h is = ([], h.1)
  done_is frame given (stage.Ready (Some response)) h is = (response.bytes, h.1)
  done_is frame given (stage.Failed cause) h is = cc
  done_is frame given stage.AtWork h is = cc

  ready_is : (frame : List ℕ) (given : List Outside) (at : Stage R) → IsStage M runs frame given at → is_some (response_of (M.status frame given)) ≡ is_ready at
  ready_is frame given (stage.Unlisted m run) h = ap (λ x. is_some (response_of x)) h.0
  ready_is frame given (stage.Listed run) h = ap (λ x. is_some (response_of x)) h.3
  ready_is frame given (stage.Held key run) h = ap (λ x. is_some (response_of x)) h.0
  ready_is frame given (stage.Picked run) h = ap (λ x. is_some (response_of x)) h.1
  ready_is frame given (stage.Ready None) h = ap (λ x. is_some (response_of x)) h.1
  ready_is frame given (stage.Ready (Some response)) h = ap (λ x. is_some (response_of x)) h.1
  ready_is frame given (stage.Failed cause) h = ap (λ x. is_some (response_of x)) h
  ready_is frame given stage.AtWork h = absurd h

  ready_unawaited : (at : Stage R) → is_ready at ≡ true → awaits_response at ≡ false
  ready_unawaited (stage.Unlisted m run) is = cc
  ready_unawaited (stage.Listed run) is = cc
  ready_unawaited (stage.Held key run) is = cc
  ready_unawaited (stage.Picked run) is = cc
  ready_unawaited (stage.Ready response) is = refl
  ready_unawaited (stage.Failed cause) is = cc
  ready_unawaited stage.AtWork is = cc

  module _ (f new : Flight R) (s : State) (h : Stands M runs f s) (c : Carries M runs f s) (number : f.requests ≡ length s.requests) (slot : Slot R) (pass : PassesSlot f slot new) where
    abbrev pub t : State
    t = record s { passed = s.passed + 1 }

    pub front : Keeps M runs s s.passed slot
    front = subst (λ n. Keeps M runs s n slot) (let e : s.passed + 0 ≡ s.passed = omega arith in e) (c.slots 0 slot pass.there)

    abbrev r : Request
    r = front.request

    rest_is : drop s.passed s.requests ≡ r ∷ drop (suc s.passed) s.requests
    rest_is = found_first s.requests s.passed r front.there

    some_slots : 0 < length f.slots.items
    some_slots = slice_get_within f.slots.items 0 slot pass.there

    held_rest : f.held - slot.size ≡ held t
    held_rest =
        let all : held s ≡ length r.frame + sum_by (λ x. length x.frame) (drop (suc s.passed) s.requests) = ap (λ rs. sum_by (λ x. length x.frame) rs) rest_is ∙ sum_by-cons (λ x. length x.frame) r (drop (suc s.passed) s.requests) in
        let after : held t ≡ sum_by (λ x. length x.frame) (drop (suc s.passed) s.requests) = ap (λ n. sum_by (λ x. length x.frame) (drop n s.requests)) (add-one s.passed) in
        omega (arith, h.held_is, all, after, front.size)

    -- the oldest request is done, below the cut, and passed
    module _ (ready : is_ready slot.stage ≡ true) (low : below s.causes.cut s.passed ≡ true) where
      like : (j : ℕ) → SameFor j s t
      like j = record { request = refl; main = refl; listed = λ i. refl; picked = λ i. refl; pending = λ x. refl; served = λ x. x }

      passed_by : (k : ℕ) (early : Bool) → nat_lt k s.passed ≡ early → k < s.passed + 1 → IsPassed M t k
      passed_by k true is lt = passed_same M s t k (like k) (c.passed k (ltb-true k s.passed is))
      passed_by k false is lt =
          let le : s.passed ≤ k = ltb-false k s.passed is in
          let e : s.passed ≡ k = omega (arith, le, lt) in
          let done = done_is r.frame r.given slot.stage front.stage ready in
          subst (λ n. IsPassed M t n) e (record { request = r; there = front.there; response = done.0; done = done.1; pending = λ x. front.pending x ∙ ap (λ b. one_if b) (ready_unawaited slot.stage ready) })

      passed_carries : Carries M runs new t
      passed_carries = record {
        first_is = omega (arith, pass.requests, pass.count, h.count_is, number, c.there, some_slots);
        causes_is = pass.causes ∙ c.causes_is;
        window = laws.stays s t (window_of new.sends) (refl, refl, refl) (subst (λ x. IsWindow s (window_of x)) (sym pass.sends) c.window);
        there = omega (arith, c.there, some_slots, ap (λ xs. length xs) pass.slots, one_less f.slots.items);
        slots = λ i x at.
            let found : slice_get f.slots.items (1 + i) ≡ Some x = sym (dropped f.slots.items 1 i) ∙ (ap (λ xs. slice_get xs i) (sym pass.slots) ∙ at) in
            let n : s.passed + (1 + i) ≡ (s.passed + 1) + i = omega arith in
            subst (λ m. Keeps M runs t m x) n (keeps_same M runs s t (s.passed + (1 + i)) x (like (s.passed + (1 + i))) (c.slots (1 + i) x found));
        passed = λ k lt. passed_by k (nat_lt k s.passed) refl lt;
        later = λ k le. untouched_same s t k (like k) (c.later k le);
        cut_behind = behind_low s.causes.cut s.passed low;
      }

      pub passed_stands : Stands M runs new t
      passed_stands = record {
        halt_is = ap (λ x. x.halt) pass.causes ∙ h.halt_is;
        over_is = ap (λ x. x.over) pass.causes ∙ h.over_is;
        count_is = omega (arith, pass.count, h.count_is, c.there, some_slots);
        held_is = pass.held ∙ held_rest;
        rest = h.rest;
        whole = λ none. (pass.requests ∙ number, passed_carries);
        free = λ none uncut. pass.free ∙ h.free none uncut;
      }

      run_by : (b : Bool) (n : ℕ) → b ≡ true → (if b then suc n else 0) ≡ suc n
      run_by true n e = refl
      run_by false n e = cc

      -- a silent one is passed as the machine does
      pub passed_silently : M.silent r.frame ≡ true → silent_passed M t ≡ silent_passed M s
      passed_silently silent =
          let done = done_is r.frame r.given slot.stage front.stage ready in
          let some : is_some (response_of (M.status r.frame r.given)) ≡ true = ap (λ x. is_some (response_of x)) done.1 in
          let test : (below s.causes.cut s.passed && M.silent r.frame && is_some (response_of (M.status r.frame r.given))) ≡ true = rw (low, silent, some) refl in
          let n : ℕ = silent_run M s.causes.cut (suc s.passed) (drop (suc s.passed) s.requests) in
          let one : silent_run M s.causes.cut s.passed (drop s.passed s.requests) ≡ suc n = ap (λ rs. silent_run M s.causes.cut s.passed rs) rest_is ∙ run_by _ n test in
          let same : silent_run M s.causes.cut (s.passed + 1) (drop (s.passed + 1) s.requests) ≡ n = ap (λ k. silent_run M s.causes.cut k (drop k s.requests)) (add-one s.passed) in
          ap (λ p. record s { passed = p }) (let e : (s.passed + 1) + silent_run M s.causes.cut (s.passed + 1) (drop (s.passed + 1) s.requests) ≡ s.passed + silent_run M s.causes.cut s.passed (drop s.passed s.requests) = omega (arith, one, same) in e)

  -- where the oldest request isn't silent and done, none is passed over
  stuck_by : (f : Flight R) (s : State) → Carries M runs f s → IsStuck f → (found : Option (Slot R)) → slice_get f.slots.items 0 ≡ found → silent_run M s.causes.cut s.passed (drop s.passed s.requests) ≡ 0
  stuck_by f s c stuck None is =
      let short : length f.slots.items ≤ 0 = none_there f.slots.items is in
      let none : drop s.passed s.requests ≡ [] = drop_all s.passed s.requests (omega (arith, short, c.there)) in
      ap (λ rs. silent_run M s.causes.cut s.passed rs) none
  stuck_by f s c stuck (Some slot) is =
      let kept : Keeps M runs s s.passed slot = subst (λ n. Keeps M runs s n slot) (let e : s.passed + 0 ≡ s.passed = omega arith in e) (c.slots 0 slot is) in
      let r : Request = kept.request in
      let test : (below s.causes.cut s.passed && M.silent r.frame && is_some (response_of (M.status r.frame r.given))) ≡ false =
      ap (λ b. b && M.silent r.frame && is_some (response_of (M.status r.frame r.given))) (ap (λ x. below x.cut s.passed) (sym c.causes_is) ∙ ap (λ n. below f.causes.cut n) (sym c.first_is))
      ∙ (ap (λ b. below f.causes.cut (first_of f) && b && is_some (response_of (M.status r.frame r.given))) (sym kept.silent)
      ∙ (ap (λ b. below f.causes.cut (first_of f) && slot.silent && b) (ready_is r.frame r.given slot.stage kept.stage)
      ∙ stuck slot is)) in
      ap (λ rs. silent_run M s.causes.cut s.passed rs) (found_first s.requests s.passed r kept.there) ∙ not_run _ _ test

  pub stuck_is : (f : Flight R) (s : State) → Carries M runs f s → IsStuck f → silent_passed M s ≡ s
  stuck_is f s c stuck = ap (λ p. record s { passed = p }) (let e : s.passed + silent_run M s.causes.cut s.passed (drop s.passed s.requests) ≡ s.passed = omega (arith, stuck_by f s c stuck (slice_get f.slots.items 0) refl) in e)

  -- silent requests are passed, one after another
  pub passes_one : (f new : Flight R) (s : State) → s.causes.halt ≡ None → Stands M runs f s → (slot : Slot R) → is_passable f slot ≡ true → PassesSlot f slot new → HavePassed M runs new s (record s { passed = s.passed + 1 })
  passes_one f new s none h slot may pass =
      let w : (f.requests ≡ length s.requests) × Carries M runs f s = h.whole none in
      let low : below s.causes.cut s.passed ≡ true = ap (λ x. below x.cut s.passed) (sym w.1.causes_is) ∙ (ap (λ n. below f.causes.cut n) (sym w.1.first_is) ∙ and3_first (below f.causes.cut (first_of f)) slot.silent (is_ready slot.stage) may) in
      let ready : is_ready slot.stage ≡ true = and3_third (below f.causes.cut (first_of f)) slot.silent (is_ready slot.stage) may in
      let silent : slot.silent ≡ true = and3_second (below f.causes.cut (first_of f)) slot.silent (is_ready slot.stage) may in
      record {
        same = passed_silently f new s h w.1 w.0 slot pass ready low (sym (front f new s h w.1 w.0 slot pass).silent ∙ silent);
        stands = passed_stands f new s h w.1 w.0 slot pass ready low;
        no_halt = none;
      }

  pub have_passed : (new : Flight R) (s t u : State) → HavePassed M runs new s t → (g : Flight R) → HavePassed M runs g t u → HavePassed M runs g s u
  have_passed new s t u a g b = record { same = b.same ∙ a.same; stands = b.stands; no_halt = b.no_halt }

  pub passes_all : (new : Flight R) (s t : State) → HavePassed M runs new s t → IsStuck new → Stands M runs new (silent_passed M s)
  passes_all new s t h stuck =
      let same : t ≡ silent_passed M s = sym (stuck_is new t (h.stands.whole h.no_halt).1 stuck) ∙ h.same in
      subst (λ x. Stands M runs new x) same h.stands

  -- where the connection has ended, and where it halts
  module _ (f : Flight R) (s : State) (h : Stands M runs f s) where
    abbrev pub Emits : Rattle.conn_rules.specs.declared.event.Emit.Emit → Flight R → Type 0
    Emits e new = (t : State) × StepOrNoMemory M s event.Emit (reply.Emit e) t × Stands M runs new t

    module _ (going : f.causes.over ≡ None) where
      not_told : answer_to M s event.Emit ≡ over_or s.causes.halt s (emit_next M (silent_passed M s))
      not_told = ap (λ o. told_again o s (over_or s.causes.halt s (emit_next M (silent_passed M s)))) (sym h.over_is ∙ going)

      pub emit_halt : (why : End) → f.causes.halt ≡ Some why → Emits (emit.Over why) (told_flight why f)
      emit_halt why halt =
          let t : State = record s { causes = with_told why s.causes } in
          let stands : Stands M runs (told_flight why f) t = stands_told M runs f s h why in
          (t, steps M s t event.Emit (reply.Emit (emit.Over why)) (not_told ∙ ap (λ o. over_or o s (emit_next M (silent_passed M s))) (sym h.halt_is ∙ halt)) stands.rest, stands)

      -- the silent requests were passed
      module _ (none : f.causes.halt ≡ None) (new : Flight R) (p : Stands M runs new (silent_passed M s)) (stuck : IsStuck new) where
        abbrev u : State
        u = silent_passed M s

        going_on : answer_to M s event.Emit ≡ emit_next M u
        going_on = not_told ∙ ap (λ o. over_or o s (emit_next M u)) (sym h.halt_is ∙ none)

        w : (new.requests ≡ length u.requests) × Carries M runs new u
        w = p.whole (sym h.halt_is ∙ none)

        cause_is : cut_cause new.causes.cut (first_of new) ≡ cut_cause u.causes.cut u.passed
        cause_is = ap (λ x. cut_cause x.cut (first_of new)) w.1.causes_is ∙ ap (λ n. cut_cause u.causes.cut n) w.1.first_is

        pub emit_cut : (why : End) → cut_cause new.causes.cut (first_of new) ≡ Some why → Emits (emit.Over why) (told_flight why new)
        emit_cut why cut =
            let t : State = record u { causes = with_told why u.causes } in
            let stands : Stands M runs (told_flight why new) t = stands_told M runs new u p why in
            (t, steps M s t event.Emit (reply.Emit (emit.Over why)) (going_on ∙ ap (λ o. over_or o u (respond_or (response_in M (slice_get u.requests u.passed)) u (over_or u.causes.death u (reply.Emit emit.Later, u)))) (sym cause_is ∙ cut)) stands.rest, stands)

        module _ (uncut : cut_cause new.causes.cut (first_of new) ≡ None) where
          no_cut : answer_to M s event.Emit ≡ respond_or (response_in M (slice_get u.requests u.passed)) u (over_or u.causes.death u (reply.Emit emit.Later, u))
          no_cut = going_on ∙ ap (λ o. over_or o u (respond_or (response_in M (slice_get u.requests u.passed)) u (over_or u.causes.death u (reply.Emit emit.Later, u)))) (sym cause_is ∙ uncut)

          low : below u.causes.cut u.passed ≡ true
          low = low_by u.causes.cut u.passed w.1.cut_behind (sym cause_is ∙ uncut)

          pub emit_response : (response : WholeFrame) (last : Flight R) → PassesReady new (Some response) last → Emits (emit.Bytes response.bytes) last
          emit_response response last pass =
              let slot : Slot R = pass.0 in
              let ready : is_ready slot.stage ≡ true = ap (λ x. is_ready x) pass.1 in
              let kept : Keeps M runs u u.passed slot = front new last u p w.1 w.0 slot pass.2 in
              let done : IsDone (M.silent kept.request.frame) (M.status kept.request.frame kept.request.given) (Some response) = subst (λ x. IsStage M runs kept.request.frame kept.request.given x) pass.1 kept.stage in
              let found : response_in M (slice_get u.requests u.passed) ≡ Some response.bytes = ap (λ o. response_in M o) kept.there ∙ ap (λ x. response_of x) done.1 in
              let stands = passed_stands new last u p w.1 w.0 slot pass.2 ready low in
              (record u { passed = u.passed + 1 }, steps M s (record u { passed = u.passed + 1 }) event.Emit (reply.Emit (emit.Bytes response.bytes)) (no_cut ∙ ap (λ o. respond_or o u (over_or u.causes.death u (reply.Emit emit.Later, u))) found) stands.rest, stands)

          silent_ready : (slot : Slot R) → slice_get new.slots.items 0 ≡ Some slot → slot.silent ≡ true → is_ready slot.stage ≡ true → ⊥
          silent_ready slot there silent ready =
              let here : below new.causes.cut (first_of new) ≡ true = ap (λ x. below x.cut (first_of new)) w.1.causes_is ∙ (ap (λ n. below u.causes.cut n) w.1.first_is ∙ low) in
              let may : is_passable new slot ≡ true = rw (here, silent, ready) refl in
              let never : true ≡ false = sym may ∙ stuck slot there in
              cc

          unready_by : (slot : Slot R) → slice_get new.slots.items 0 ≡ Some slot → (frame : List ℕ) (given : List Outside) (at : Stage R) → slot.stage ≡ at → IsStage M runs frame given at → slot.silent ≡ M.silent frame → ((response : WholeFrame) → slot.stage ≡ stage.Ready (Some response) → ⊥) → response_of (M.status frame given) ≡ None
          unready_by slot there frame given (stage.Unlisted m run) is x silent other = ap (λ y. response_of y) x.0
          unready_by slot there frame given (stage.Listed run) is x silent other = ap (λ y. response_of y) x.3
          unready_by slot there frame given (stage.Held key run) is x silent other = ap (λ y. response_of y) x.0
          unready_by slot there frame given (stage.Picked run) is x silent other = ap (λ y. response_of y) x.1
          unready_by slot there frame given (stage.Ready None) is x silent other = absurd (silent_ready slot there (silent ∙ x.0) (ap (λ y. is_ready y) is))
          unready_by slot there frame given (stage.Ready (Some response)) is x silent other = absurd (other response is)
          unready_by slot there frame given (stage.Failed cause) is x silent other = ap (λ y. response_of y) x
          unready_by slot there frame given stage.AtWork is x silent other = absurd x

          module _ (last : Flight R) (pass : PassesReady new None last) where
            response_none : (found : Option (Slot R)) → slice_get new.slots.items 0 ≡ found → response_in M (slice_get u.requests u.passed) ≡ None
            response_none None is =
                let short : length new.slots.items ≤ 0 = none_there new.slots.items is in
                ap (λ o. response_in M o) (slice_get_past u.requests u.passed (omega (arith, short, w.1.there)))
            response_none (Some slot) is =
                let kept : Keeps M runs u u.passed slot = subst (λ n. Keeps M runs u n slot) (let e : u.passed + 0 ≡ u.passed = omega arith in e) (w.1.slots 0 slot is) in
                ap (λ o. response_in M o) kept.there ∙ unready_by slot is kept.request.frame kept.request.given slot.stage refl kept.stage kept.silent (λ response e. pass.1 slot response is e)

            nothing : answer_to M s event.Emit ≡ over_or u.causes.death u (reply.Emit emit.Later, u)
            nothing = no_cut ∙ ap (λ o. respond_or o u (over_or u.causes.death u (reply.Emit emit.Later, u))) (response_none (slice_get new.slots.items 0) refl)

            same_stands : Stands M runs last u
            same_stands =
                let o : OnlySlots new last = pass.0.0 in
                let first : first_of last ≡ first_of new = ap (λ n. n - last.count) o.requests ∙ ap (λ n. new.requests - n) o.count in
                record {
                  halt_is = ap (λ x. x.halt) o.causes ∙ p.halt_is;
                  over_is = ap (λ x. x.over) o.causes ∙ p.over_is;
                  count_is = o.count ∙ p.count_is;
                  held_is = o.held ∙ p.held_is;
                  rest = p.rest;
                  whole = λ x. (o.requests ∙ w.0, carries_same M runs new last u u w.1 (λ j. same_refl j u) refl refl first (o.causes ∙ w.1.causes_is) pass.0.1 (subst (λ y. IsWindow u (window_of y)) (sym o.sends) w.1.window) w.1.cut_behind);
                  free = λ x uncut. o.free ∙ p.free x uncut;
                }

            death_is : last.causes.death ≡ u.causes.death
            death_is = ap (λ x. x.death) (pass.0.0.causes ∙ w.1.causes_is)

            pub emit_death : (why : End) → last.causes.death ≡ Some why → Emits (emit.Over why) (told_flight why last)
            emit_death why dead =
                let t : State = record u { causes = with_told why u.causes } in
                let stands : Stands M runs (told_flight why last) t = stands_told M runs last u same_stands why in
                (t, steps M s t event.Emit (reply.Emit (emit.Over why)) (nothing ∙ ap (λ o. over_or o u (reply.Emit emit.Later, u)) (sym death_is ∙ dead)) stands.rest, stands)

            pub emit_later : last.causes.death ≡ None → Emits emit.Later last
            emit_later alive = (u, steps M s u event.Emit (reply.Emit emit.Later) (nothing ∙ ap (λ o. over_or o u (reply.Emit emit.Later, u)) (sym death_is ∙ alive)) p.rest, same_stands)

    -- the next send
    module _ (dead : f.causes.death ≡ None) (none : f.causes.halt ≡ None) (g : Flight R) (is : g ≡ record f { sends = g.sends }) (taken : window_of g.sends ≡ with_taken (window_of f.sends)) where
      v : (f.requests ≡ length s.requests) × Carries M runs f s
      v = h.whole (sym h.halt_is ∙ none)

      sends_on : answer_to M s event.Send ≡ sent_next s (slice_get s.sends s.taken)
      sends_on =
          let d : is_some s.causes.death ≡ false = ap (λ x. is_some x.death) (sym v.1.causes_is) ∙ ap (λ o. is_some o) dead in
          let l : is_some s.causes.halt ≡ false = ap (λ o. is_some o) (sym h.halt_is ∙ none) in
          rw (d, l) refl

      took : (t : State) → ((j : ℕ) → SameFor j s t) → t.requests ≡ s.requests → t.sends ≡ s.sends → t.passed ≡ s.passed → t.causes ≡ s.causes → next_act M t ≡ None → IsWindow t (window_of g.sends) → Stands M runs g t
      took t like requests sends passed causes rest window =
          let count : length t.requests ≡ length s.requests = ap (λ rs. length rs) requests in
          let carries : Carries M runs g t = carries_same M runs f g s t v.1 like passed count (ap (λ x. first_of x) is) (ap (λ x. x.causes) is ∙ (v.1.causes_is ∙ sym causes)) (ap (λ x. x.slots.items) is) window (subst (λ x. IsCutBehind x.cut s.passed) (sym causes) v.1.cut_behind) in
          record {
            halt_is = ap (λ x. x.causes.halt) is ∙ (h.halt_is ∙ ap (λ x. x.halt) (sym causes));
            over_is = ap (λ x. x.causes.over) is ∙ (h.over_is ∙ ap (λ x. x.over) (sym causes));
            count_is = omega (arith, ap (λ x. x.count) is, h.count_is, count, passed);
            held_is = ap (λ x. x.held) is ∙ (h.held_is ∙ (ap (λ n. sum_by (λ x. length x.frame) (drop n s.requests)) (sym passed) ∙ ap (λ rs. sum_by (λ x. length x.frame) (drop t.passed rs)) (sym requests)));
            rest = rest;
            whole = λ x. (ap (λ y. y.requests) is ∙ (v.0 ∙ sym count), carries);
            free = λ x uncut. ap (λ y. y.free) is ∙ (h.free (ap (λ c. c.halt) (sym causes) ∙ x) (ap (λ c. c.cut) (sym causes) ∙ uncut) ∙ (ap (λ rs. free_from M s.sends 0 true (take (length rs) rs)) (sym requests) ∙ ap (λ xs. free_from M xs 0 true (take (length t.requests) t.requests)) (sym sends)));
          }

      send_by : (found : Option ListedSend) → slice_get s.sends s.taken ≡ found → (result : Option (List ℕ)) → result ≡ first_frame (window_of f.sends).unsent → (t : State) × StepOrNoMemory M s event.Send (reply.Send result) t × Stands M runs g t
      send_by None at result first =
          let no = laws.no_first s (window_of f.sends) v.1.window at in
          let stands : Stands M runs g s = took s (λ j. same_refl j s) refl refl refl refl h.rest (subst (λ x. IsWindow s x) (sym (taken ∙ no.1)) v.1.window) in
          (s, steps M s s event.Send (reply.Send result) (sends_on ∙ (ap (λ o. sent_next s o) at ∙ ap (λ o. (reply.Send o, s)) (sym (first ∙ no.0)))) h.rest, stands)
      send_by (Some d) at result first =
          let yes = laws.first s (window_of f.sends) d v.1.window at in
          let like : (j : ℕ) → SameFor j s (one_taken s) = λ j. record { request = refl; main = refl; listed = λ i. refl; picked = λ i. refl; pending = λ x. refl; served = λ x. x } in
          let stands : Stands M runs g (one_taken s) = took (one_taken s) like refl refl refl refl h.rest (subst (λ x. IsWindow (one_taken s) x) (sym taken) yes.1) in
          (one_taken s, steps M s (one_taken s) event.Send (reply.Send result) (sends_on ∙ (ap (λ o. sent_next s o) at ∙ ap (λ o. (reply.Send o, one_taken s)) (sym (first ∙ yes.0)))) h.rest, stands)

      pub send_next : (result : Option (List ℕ)) → result ≡ first_frame (window_of f.sends).unsent → (t : State) × StepOrNoMemory M s event.Send (reply.Send result) t × Stands M runs g t
      send_next result first = send_by (slice_get s.sends s.taken) refl result first

  -- a connection that keeps the same stands for the same
  pub stands_like : (f g : Flight R) (s : State) → SameFlight f g → Stands M runs f s → Stands M runs g s
  stands_like f g s same h =
      let o : OnlySlots f g = same.0 in
      let first : first_of g ≡ first_of f = ap (λ n. n - g.count) o.requests ∙ ap (λ n. f.requests - n) o.count in
      record {
        halt_is = ap (λ x. x.halt) o.causes ∙ h.halt_is;
        over_is = ap (λ x. x.over) o.causes ∙ h.over_is;
        count_is = o.count ∙ h.count_is;
        held_is = o.held ∙ h.held_is;
        rest = h.rest;
        whole = λ none.
            let w : (f.requests ≡ length s.requests) × Carries M runs f s = h.whole none in
            (o.requests ∙ w.0, carries_same M runs f g s s w.1 (λ j. same_refl j s) refl refl first (o.causes ∙ w.1.causes_is) same.1 (subst (λ y. IsWindow s (window_of y)) (sym o.sends) w.1.window) w.1.cut_behind);
        free = λ none uncut. o.free ∙ h.free none uncut;
      }

pub passable_like : {R : Type 0} → (f g : Flight R) → SameFlight f g → (slot : Slot R) → is_passable g slot ≡ is_passable f slot
passable_like f g same slot =
    let o : OnlySlots f g = same.0 in
    let first : first_of g ≡ first_of f = ap (λ n. n - g.count) o.requests ∙ ap (λ n. f.requests - n) o.count in
    ap (λ x. below x.cut (first_of g) && slot.silent && is_ready slot.stage) o.causes ∙ ap (λ n. below f.causes.cut n && slot.silent && is_ready slot.stage) first
