-- A hold is handed out.
use Rattle.std.proofs.Common.{◌≡◌, ◌≢◌, ◌∙◌, ap, refl, sym, subst, ℕ, zero, suc, ◌+◌, ◌-◌, ◌≤◌, ◌<◌, ◌^◌, nat_lt, ◌==◌, Bool, true, false, ◌&&◌, ◌||◌, is_some, if◌then◌else◌, List, [], ◌∷◌, ◌++◌, length, drop, Option, Some, None, slice_get, slice_set, arith, length-set, inl, inr}
use Rattle.std.proofs.lemmas.List.Folds.{list_any-append}
use Rattle.std.proofs.lemmas.Bool.{ltb-true, ltb-false}
use Rattle.std.proofs.lemmas.Option.{slice_get_within}
use Rattle.kp_edge.specs.declared.end.End.{End}
use Rattle.conn_rules.specs.declared.event.Event.TheVariants as event
use Rattle.conn_rules.specs.declared.event.Reply.TheVariants as reply
use Rattle.conn_rules.specs.declared.event.Ticket.{Ticket}
use Rattle.conn_rules.specs.Causes.{below, are_still}
use Rattle.conn_rules.specs.Meaning.{Meaning, Hold, Waits, Done}
use Rattle.conn_rules.specs.State.{Outside, Request, State}
use Rattle.conn_rules.specs.Steps.{hold_of, hold_in, hold_or_later, first_hold, picked_next, answer_to, StepOrNoMemory}
use Rattle.conn_rules.proofs.Lists.{found_first}
use Rattle.correlation.specs.WindowOf.{window_of}
use Rattle.correlation.specs.IsWindow.{IsWindow}
use Rattle.correlation.proofs.WindowLaws.{laws}
use Rattle.serving.specs.declared.flight.Flight.{Flight}
use Rattle.serving.specs.declared.slot.Slot.{Slot}
use Rattle.serving.specs.declared.slot.Stage.{Stage}
use Rattle.serving.specs.declared.slot.Stage.TheVariants as stage
use Rattle.serving.specs.Flights.{first_of, OnlySlots, HasNoHold, PicksSlot, PicksFirst}
use Rattle.serving.specs.Slots.{is_unpicked, is_picked, awaits_verdict, awaits_response, one_if, IsStage, Keeps, IsPassed}
use Rattle.serving.specs.Listing.{SameFor, Carries}
use Rattle.serving.specs.Stands.{Stands}
use Rattle.serving.proofs.Places.{eqb_same, eqb_other, eqb_back, or_false, set_here, set_other}
use Rattle.serving.proofs.Same.{keeps_same, passed_same, untouched_same}
use Rattle.serving.proofs.Notes.{steps}
use Rattle.serving.proofs.Sweeping.{at_or_not}
use Rattle.serving.proofs.Takes.{none_of}
use Rattle.serving.proofs.Passing.{stands_like}

no_halt : (a b : Bool) → (a || b) ≡ false → a ≡ false
no_halt true b h = cc
no_halt false b h = refl

if_false : {X : Type 0} → (b : Bool) (x y : X) → b ≡ false → (if b then x else y) ≡ y
if_false true x y h = cc
if_false false x y h = refl

if_true : {X : Type 0} → (b : Bool) (x y : X) → b ≡ true → (if b then x else y) ≡ x
if_true true x y h = refl
if_true false x y h = cc

module _ (M : Meaning) (cut : Option (ℕ × End)) (picked : List (ℕ × ℕ)) where
  -- request k has no hold to hand out
  abbrev pub IsSkipped : ℕ → Request → Type 0
  IsSkipped k r = (later : Option (ℕ × ℕ × List ℕ)) → hold_or_later picked k (hold_in M cut k (Some r)) later ≡ later

  pub skips : (n k : ℕ) (rs : List Request) → n ≤ length rs → ((i : ℕ) (r : Request) → i < n → slice_get rs i ≡ Some r → IsSkipped (k + i) r) → first_hold M cut picked k rs ≡ first_hold M cut picked (k + n) (drop n rs)
  skips zero k rs le h = ap (λ m. first_hold M cut picked m rs) (let e : k ≡ k + 0 = omega arith in e)
  skips (suc n) k [] le h = absurd (omega (arith, le))
  skips (suc n) k (r ∷ rs) le h =
      let here : IsSkipped (k + 0) r = h 0 r (omega arith) refl in
      let e : k + 0 ≡ k = omega arith in
      let number : suc k + n ≡ k + suc n = omega arith in
      subst (λ m. IsSkipped m r) e here (first_hold M cut picked (suc k) rs)
      ∙ (skips n (suc k) rs (omega (arith, le)) (λ i t lt is. subst (λ m. IsSkipped m t) (let x : k + suc i ≡ suc k + i = omega arith in x) (h (suc i) t (omega (arith, lt)) is))
      ∙ ap (λ m. first_hold M cut picked m (drop n rs)) number)

there_is : {X : Type 0} → (xs : List X) (n : ℕ) → n < length xs → (x : X) × (slice_get xs n ≡ Some x)
there_is [] n h = absurd (omega arith)
there_is (x ∷ xs) zero h = (x, refl)
there_is (x ∷ xs) (suc n) h = there_is xs n (omega arith)

all_dropped : {X : Type 0} → (n : ℕ) (xs : List X) → length xs ≤ n → drop n xs ≡ []
all_dropped zero [] h = refl
all_dropped zero (x ∷ xs) h = absurd (omega (arith, h))
all_dropped (suc n) [] h = refl
all_dropped (suc n) (x ∷ xs) h = all_dropped n xs (omega (arith, h))

nothing_either : (picked : List (ℕ × ℕ)) (k : ℕ) (later : Option (ℕ × ℕ × List ℕ)) (b : Bool) → hold_or_later picked k (if b then None else None) later ≡ later
nothing_either picked k later true = refl
nothing_either picked k later false = refl

already : (b : Bool) (x later : Option (ℕ × ℕ × List ℕ)) → b ≡ true → (if b then later else x) ≡ later
already true x later h = refl
already false x later h = cc

picked_already : (picked : List (ℕ × ℕ)) (k i : ℕ) (key : List ℕ) (later : Option (ℕ × ℕ × List ℕ)) (b : Bool) → is_picked picked k i ≡ true → hold_or_later picked k (if b then Some (i, key) else None) later ≡ later
picked_already picked k i key later true h = already (is_picked picked k i) _ later h
picked_already picked k i key later false h = refl

module _ {R : Type 0} (M : Meaning) (runs : R → List ℕ → List Outside → Type 0) where
  -- a request whose hold was handed out, or that has none
  skipped_by : (cut : Option (ℕ × End)) (picked : List (ℕ × ℕ)) (k : ℕ) (r : Request) (at : Stage R) → IsStage M runs r.frame r.given at → is_unpicked at ≡ false → (awaits_verdict at ≡ true → is_picked picked k (length r.given) ≡ true) → IsSkipped M cut picked k r
  skipped_by cut picked k r (stage.Unlisted m run) h is at later = ap (λ x. hold_or_later picked k (if below cut k then hold_of (length r.given) x else None) later) h.0 ∙ nothing_either picked k later (below cut k)
  skipped_by cut picked k r (stage.Listed run) h is at later = ap (λ x. hold_or_later picked k (if below cut k then hold_of (length r.given) x else None) later) h.3 ∙ nothing_either picked k later (below cut k)
  skipped_by cut picked k r (stage.Held key run) h is at later = cc
  skipped_by cut picked k r (stage.Picked run) h is at later = ap (λ x. hold_or_later picked k (if below cut k then hold_of (length r.given) x else None) later) h.1 ∙ picked_already picked k (length r.given) h.0 later (below cut k) (at refl)
  skipped_by cut picked k r (stage.Ready None) h is at later = ap (λ x. hold_or_later picked k (if below cut k then hold_of (length r.given) x else None) later) h.1 ∙ nothing_either picked k later (below cut k)
  skipped_by cut picked k r (stage.Ready (Some response)) h is at later = ap (λ x. hold_or_later picked k (if below cut k then hold_of (length r.given) x else None) later) h.1 ∙ nothing_either picked k later (below cut k)
  skipped_by cut picked k r (stage.Failed cause) h is at later = ap (λ x. hold_or_later picked k (if below cut k then hold_of (length r.given) x else None) later) h ∙ nothing_either picked k later (below cut k)
  skipped_by cut picked k r stage.AtWork h is at later = absurd h

  cut_skipped : (cut : Option (ℕ × End)) (picked : List (ℕ × ℕ)) (k : ℕ) (r : Request) → below cut k ≡ false → IsSkipped M cut picked k r
  cut_skipped cut picked k r low later = ap (λ b. hold_or_later picked k (if b then hold_of (length r.given) (M.status r.frame r.given) else None) later) low

  done_skipped : (cut : Option (ℕ × End)) (picked : List (ℕ × ℕ)) (k : ℕ) (r : Request) (response : List ℕ) → M.status r.frame r.given ≡ Done response → IsSkipped M cut picked k r
  done_skipped cut picked k r response is later = ap (λ x. hold_or_later picked k (if below cut k then hold_of (length r.given) x else None) later) is ∙ nothing_either picked k later (below cut k)

  module _ (f : Flight R) (s : State) (c : Carries M runs f s) where
    -- requests that emits passed, and those in flight below this place
    skipped_at : (place : ℕ) → ((before : ℕ) → before < place → below s.causes.cut (s.passed + before) ≡ true → HasNoHold f before) → (i : ℕ) (r : Request) → i < s.passed + place → slice_get s.requests i ≡ Some r → (early low : Bool) → nat_lt i s.passed ≡ early → below s.causes.cut i ≡ low → IsSkipped M s.causes.cut s.picked i r
    skipped_at place none i r lt is true low e l =
        let p : IsPassed M s i = c.passed i (ltb-true i s.passed e) in
        let same : p.request ≡ r = (let x : Some p.request ≡ Some r = sym p.there ∙ is in cc) in
        subst (λ x. IsSkipped M s.causes.cut s.picked i x) same (done_skipped s.causes.cut s.picked i p.request p.response p.done)
    skipped_at place none i r lt is false false e l = cut_skipped s.causes.cut s.picked i r l
    skipped_at place none i r lt is false true e l =
        let le : s.passed ≤ i = ltb-false i s.passed e in
        let j : ℕ = i - s.passed in
        let number : s.passed + j ≡ i = omega (arith, le) in
        let within : i < length s.requests = slice_get_within s.requests i r is in
        let found = there_is f.slots.items j (omega (arith, within, number, c.there)) in
        let kept : Keeps M runs s i found.0 = subst (λ n. Keeps M runs s n found.0) number (c.slots j found.0 found.1) in
        let same : kept.request ≡ r = (let x : Some kept.request ≡ Some r = sym kept.there ∙ is in cc) in
        let unheld : is_unpicked found.0.stage ≡ false = none j (omega (arith, lt, number)) (ap (λ n. below s.causes.cut n) number ∙ l) found.0 found.1 in
        subst (λ x. IsSkipped M s.causes.cut s.picked i x) same
        (skipped_by s.causes.cut s.picked i kept.request found.0.stage kept.stage unheld
        (λ verdict. ap (λ n. is_picked s.picked i n) (sym kept.given) ∙ (kept.picked found.0.given (omega arith) ∙ (ap (λ b. b && (found.0.given == found.0.given)) verdict ∙ eqb_same found.0.given))))

    skipped_to : (place : ℕ) → place ≤ length f.slots.items → ((before : ℕ) → before < place → below s.causes.cut (s.passed + before) ≡ true → HasNoHold f before) → first_hold M s.causes.cut s.picked 0 s.requests ≡ first_hold M s.causes.cut s.picked (s.passed + place) (drop (s.passed + place) s.requests)
    skipped_to place le none =
        skips M s.causes.cut s.picked (s.passed + place) 0 s.requests (omega (arith, le, c.there)) (λ i r lt is. subst (λ n. IsSkipped M s.causes.cut s.picked n r) (let x : i ≡ 0 + i = omega arith in x) (skipped_at place none i r lt is (nat_lt i s.passed) (below s.causes.cut i) refl refl))
        ∙ ap (λ n. first_hold M s.causes.cut s.picked n (drop (s.passed + place) s.requests)) (let x : 0 + (s.passed + place) ≡ s.passed + place = omega arith in x)

    none_left : ((place : ℕ) → place < length f.slots.items → below s.causes.cut (s.passed + place) ≡ true → HasNoHold f place) → first_hold M s.causes.cut s.picked 0 s.requests ≡ None
    none_left none =
        skipped_to (length f.slots.items) (omega arith) none
        ∙ ap (λ rs. first_hold M s.causes.cut s.picked (s.passed + length f.slots.items) rs) (all_dropped (s.passed + length f.slots.items) s.requests (omega (arith, c.there)))

    -- the hold at this place is the first
    first_at : (place : ℕ) (slot : Slot R) (key : List ℕ) (run : R) → slice_get f.slots.items place ≡ Some slot → slot.stage ≡ stage.Held key run → below s.causes.cut (s.passed + place) ≡ true → ((before : ℕ) → before < place → below s.causes.cut (s.passed + before) ≡ true → HasNoHold f before) → first_hold M s.causes.cut s.picked 0 s.requests ≡ Some (s.passed + place, slot.given, key)
    first_at place slot key run there held low none =
        let k : ℕ = s.passed + place in
        let kept : Keeps M runs s k slot = c.slots place slot there in
        let within : place < length f.slots.items = slice_get_within f.slots.items place slot there in
        let status : M.status kept.request.frame kept.request.given ≡ Waits (Hold key) = (subst (λ x. IsStage M runs kept.request.frame kept.request.given x) held kept.stage).0 in
        let unpicked : is_picked s.picked k (length kept.request.given) ≡ false = ap (λ n. is_picked s.picked k n) (sym kept.given) ∙ (kept.picked slot.given (omega arith) ∙ ap (λ x. awaits_verdict x && (slot.given == slot.given)) held) in
        skipped_to place (omega (arith, within)) none
        ∙ (ap (λ rs. first_hold M s.causes.cut s.picked k rs) (found_first s.requests k kept.request kept.there)
        ∙ (ap (λ h. hold_or_later s.picked k h (first_hold M s.causes.cut s.picked (suc k) (drop (suc k) s.requests))) (if_true (below s.causes.cut k) _ _ low ∙ ap (λ x. hold_of (length kept.request.given) x) status)
        ∙ (if_false (is_picked s.picked k (length kept.request.given)) _ _ unpicked
        ∙ ap (λ n. Some (k, n, key)) (sym kept.given))))

    -- what is kept once it is handed out
    module _ (new : Flight R) (place : ℕ) (ticket : Ticket) (picks : PicksSlot place f new ticket) where
      abbrev k : ℕ
      k = s.passed + place

      abbrev pub u : State
      u = record s { picked = s.picked ++ (k, picks.slot.given) ∷ [] }

      picked_behind : (j i : ℕ) → is_picked u.picked j i ≡ (is_picked s.picked j i || ((k == j) && (picks.slot.given == i)))
      picked_behind j i = list_any-append (λ x. (x.0 == j) && (x.1 == i)) s.picked ((k, picks.slot.given) ∷ []) ∙ ap (λ b. is_picked s.picked j i || b) (or_false ((k == j) && (picks.slot.given == i)))

      like : (j : ℕ) → j ≢ k → SameFor j s u
      like j ne = record {
        request = refl;
        main = refl;
        listed = λ i. refl;
        picked = λ i. picked_behind j i ∙ (ap (λ b. is_picked s.picked j i || (b && (picks.slot.given == i))) (eqb_other j k ne) ∙ or_false (is_picked s.picked j i));
        pending = λ x. refl;
        served = λ x. x;
      }

      kept : Keeps M runs s k picks.slot
      kept = c.slots place picks.slot picks.there

      abbrev after : Slot R
      after = record picks.slot { stage = stage.Picked picks.run }

      kept_picked : Keeps M runs u k after
      kept_picked =
          let held = subst (λ x. IsStage M runs kept.request.frame kept.request.given x) picks.held kept.stage in
          record {
            request = kept.request;
            there = kept.there;
            size = kept.size;
            silent = kept.silent;
            given = kept.given;
            main = kept.main;
            stage = (ticket.key, held.0, held.1);
            listed = λ i le. kept.listed i le ∙ ap (λ x. awaits_response x && (i == picks.slot.given)) picks.held;
            picked = λ i le. picked_behind k i ∙ (ap (λ b. b || ((k == k) && (picks.slot.given == i))) (kept.picked i le ∙ ap (λ x. awaits_verdict x && (i == picks.slot.given)) picks.held) ∙ (ap (λ b. b && (picks.slot.given == i)) (eqb_same k) ∙ eqb_back i picks.slot.given));
            pending = λ low. kept.pending low ∙ ap (λ x. one_if (awaits_response x)) picks.held;
          }

      carries_picked : Carries M runs new u
      carries_picked =
          let o : OnlySlots f new = picks.rest in
          record {
            first_is = ap (λ n. n - new.count) o.requests ∙ (ap (λ n. f.requests - n) o.count ∙ c.first_is);
            causes_is = o.causes ∙ c.causes_is;
            window = laws.stays s u (window_of new.sends) (refl, refl, refl) (subst (λ x. IsWindow s (window_of x)) (sym o.sends) c.window);
            there = omega (arith, c.there, ap (λ xs. length xs) picks.slots, length-set f.slots.items place after);
            slots = λ i slot at.
                elim (at_or_not i place) [
                  | inl e ↦
                      let here : slice_get new.slots.items i ≡ Some after = ap (λ xs. slice_get xs i) picks.slots ∙ (ap (λ n. slice_get (slice_set f.slots.items place after) n) e ∙ set_here f.slots.items place picks.slot after picks.there) in
                      let same : after ≡ slot = (let y : Some after ≡ Some slot = sym here ∙ at in cc) in
                      subst (λ m. Keeps M runs u (s.passed + m) slot) (sym e) (subst (λ y. Keeps M runs u k y) same kept_picked)
                  | inr ne ↦
                      let old : slice_get f.slots.items i ≡ Some slot = sym (set_other f.slots.items place i after ne) ∙ (ap (λ xs. slice_get xs i) (sym picks.slots) ∙ at) in
                      keeps_same M runs s u (s.passed + i) slot (like (s.passed + i) (λ e. ne (omega (arith, e)))) (c.slots i slot old)
                ];
            passed = λ j lt. passed_same M s u j (like j (λ e. omega (arith, lt, e))) (c.passed j lt);
            later = λ j le. (let within : place < length f.slots.items = slice_get_within f.slots.items place picks.slot picks.there in untouched_same s u j (like j (λ e. omega (arith, le, e, within, c.there))) (c.later j le));
            cut_behind = c.cut_behind;
          }

  module _ (f new : Flight R) (s : State) (h : Stands M runs f s) where
    abbrev pub Picks : Option Ticket → Type 0
    Picks ticket = (t : State) × StepOrNoMemory M s event.Pick (reply.Pick ticket) t × Stands M runs new t

    module _ (going : are_still f.causes ≡ false) where
      w : (f.requests ≡ length s.requests) × Carries M runs f s
      w = h.whole (sym h.halt_is ∙ none_of f.causes.halt (no_halt (is_some f.causes.halt) (is_some f.causes.over) going))

      picks_on : answer_to M s event.Pick ≡ picked_next s (first_hold M s.causes.cut s.picked 0 s.requests)
      picks_on = ap (λ b. if b then (reply.Pick None, s) else picked_next s (first_hold M s.causes.cut s.picked 0 s.requests)) (ap (λ x. are_still x) (sym w.1.causes_is) ∙ going)

      low_is : (place : ℕ) → below f.causes.cut (first_of f + place) ≡ below s.causes.cut (s.passed + place)
      low_is place = ap (λ x. below x.cut (first_of f + place)) w.1.causes_is ∙ ap (λ n. below s.causes.cut (n + place)) w.1.first_is

      pub pick_by : (small : f.requests < 2 ^ 64) (ticket : Option Ticket) → PicksFirst f ticket new → Picks ticket
      pick_by small None is =
          let none : first_hold M s.causes.cut s.picked 0 s.requests ≡ None = none_left f s w.1 (λ place lt low. is.1 place (omega (arith, lt, small, w.0, w.1.there, w.1.first_is)) (low_is place ∙ low)) in
          (s, steps M s s event.Pick (reply.Pick None) (picks_on ∙ ap (λ o. picked_next s o) none) h.rest, stands_like M runs f new s is.0 h)
      pick_by small (Some ticket) is =
          let place : ℕ = is.0 in
          let picks : PicksSlot place f new ticket = is.2 in
          let within : place < length f.slots.items = slice_get_within f.slots.items place picks.slot picks.there in
          let facts = is.1 (omega (arith, within, small, w.0, w.1.there, w.1.first_is)) in
          let first : first_hold M s.causes.cut s.picked 0 s.requests ≡ Some (s.passed + place, picks.slot.given, ticket.key) = first_at f s w.1 place picks.slot ticket.key picks.run picks.there picks.held (sym (low_is place) ∙ facts.1) (λ before lt low. facts.2 before lt (low_is before ∙ low)) in
          let t : State = u f s w.1 new place ticket picks in
          let number : ticket.request ≡ s.passed + place = facts.0 ∙ ap (λ n. n + place) w.1.first_is in
          let same : Some (record { request = s.passed + place; index = picks.slot.given; key = ticket.key }) ≡ Some ticket = rw (← number, ← picks.index) refl in
          let step : answer_to M s event.Pick ≡ (reply.Pick (Some ticket), t) = picks_on ∙ (ap (λ o. picked_next s o) first ∙ ap (λ o. (reply.Pick o, t)) same) in
          let o : OnlySlots f new = picks.rest in
          let stands : Stands M runs new t = record {
            halt_is = ap (λ x. x.halt) o.causes ∙ h.halt_is;
            over_is = ap (λ x. x.over) o.causes ∙ h.over_is;
            count_is = o.count ∙ h.count_is;
            held_is = o.held ∙ h.held_is;
            rest = h.rest;
            whole = λ none. (o.requests ∙ w.0, carries_picked f s w.1 new place ticket picks);
            free = λ none uncut. o.free ∙ h.free none uncut;
          } in
          (t, steps M s t event.Pick (reply.Pick (Some ticket)) step h.rest, stands)
