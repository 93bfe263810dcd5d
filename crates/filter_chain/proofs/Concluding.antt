-- What stands for a request that stopped is the request's own state.
use Rattle.std.proofs.Common.{◌≡◌, ◌∙◌, ap, refl, sym, subst, ℕ, zero, suc, ◌+◌, ◌-◌, ◌<◌, ◌≤◌, Bool, true, false, if◌then◌else◌, nat_lt, List, [], ◌∷◌, ◌++◌, length, map, drop, arith, append-nil, append_assoc}
use Rattle.std.proofs.lemmas.Bool.{lt-ltb, le-ltb}
use Rattle.tree_spelling.specs.Body.{Contents}
use Rattle.filter_core.specs.declared.input.Input.{Input}
use Rattle.filter_core.specs.Decision.{Turn}
use Rattle.side_requests.specs.AskNumbers.{ask_limit}
use Rattle.side_requests.specs.declared.ask.Ask.{Ask}
use Rattle.filter_chain.specs.declared.outside.Outside.{Outside}
use Rattle.filter_chain.specs.declared.passing.Passing.TheVariants as passing
use Rattle.filter_chain.specs.declared.passing.Stop.{Stop}
use Rattle.filter_chain.specs.declared.passing.Stop.TheVariants as stop
use Rattle.filter_chain.specs.declared.passing.Next.TheVariants as next
use Rattle.filter_chain.specs.declared.run.Run.{Run}
use Rattle.filter_chain.specs.declared.state.State.{State}
use Rattle.filter_chain.specs.declared.state.State.TheVariants as state
use Rattle.filter_chain.specs.declared.state.ShutCause.TheVariants as cause
use Rattle.filter_chain.specs.declared.suspended.Suspended.{Suspended}
use Rattle.filter_core.specs.Responses.{response_given}
use Rattle.filter_chain.specs.Chain.{Fate, Back, Awaits, Closes, Course, behind_turns, asked_outside, way_from}
use Rattle.filter_chain.specs.Outcomes.{Outcome, Needs, Completed, Shuts, outcome_after, course, run, turns}
use Rattle.filter_chain.specs.Suspensions.{resumed, stopped, as_awaited, awaited_by, AreSuspended, StandFor, Leads, IsConclusion}
use Rattle.filter_chain.specs.RunStates.{RunsFor, IsState, state_budget_unused}
use Rattle.filter_chain.proofs.Courses.{behind_none, resumed_asks}
use Rattle.filter_chain.proofs.Suspensions.{one_longer}

may_ask : (given : ℕ) (ask : Ask) → given < ask_limit → outcome_after given (Awaits ask) ≡ Needs ask
may_ask given ask h = ap (λ b. if b then Needs ask else Shuts cause.AskBudget) (lt-ltb given ask_limit h)

may_not_ask : (given : ℕ) (ask : Ask) → ask_limit ≤ given → outcome_after given (Awaits ask) ≡ Shuts cause.AskBudget
may_not_ask given ask h = ap (λ b. if b then Needs ask else Shuts cause.AskBudget) (le-ltb given ask_limit h)

-- who asks has one ask fewer unused
pub fewer_left : {P : Type 0} (ss : List (Suspended P)) (asked : ℕ) (st : Stop) (r : State P) → IsConclusion ss asked st r → state_budget_unused r ≤ ask_limit - asked
fewer_left ss asked (stop.Needs question) (state.Needs r ask) h = omega (arith, h.1, h.4)
fewer_left ss asked (stop.Needs question) (state.Done response) h = omega arith
fewer_left ss asked (stop.Needs question) (state.Shut cause) h = omega arith
fewer_left ss asked (stop.Done input) (state.Needs r ask) h = absurd h
fewer_left ss asked (stop.Done input) (state.Done response) h = omega arith
fewer_left ss asked (stop.Done input) (state.Shut cause) h = omega arith
fewer_left ss asked (stop.Shut k reason) (state.Needs r ask) h = absurd h
fewer_left ss asked (stop.Shut k reason) (state.Done response) h = omega arith
fewer_left ss asked (stop.Shut k reason) (state.Shut cause) h = omega arith

module _ {F P : Type 0} (turn : F → Turn) (stands : F → P → Contents → List Input → Type 0) (chain : List F) (request : Contents) (given : List Outside) where
  -- what becomes of the request, whatever more it is given
  abbrev pub later : List Outside → Course
  later more = course (map turn chain) request (given ++ more)

  now : later [] ≡ course (map turn chain) request given
  now = ap (course (map turn chain) request) (append-nil given)

  module _ (ss : List (Suspended P)) (n : ℕ) where
    asks_now : (question : Ask) → StandFor turn stands chain ss (next.Stops (stop.Needs question)) n later → course (map turn chain) request given ≡ record { fate = Awaits question; unused = []; turns = n + 0 }
    asks_now question s = sym now ∙ s.goes [] ∙ ap (behind_turns n) (resumed_asks s.suspensions question [] 0)

    no_more : n + 0 ≡ n
    no_more = omega arith

    -- how many turns there were
    pub turns_now : (st : Stop) → StandFor turn stands chain ss (next.Stops st) n later → turns (map turn chain) request given ≡ n
    turns_now (stop.Needs question) s = ap (λ (c : Course). c.turns) (asks_now question s) ∙ no_more
    turns_now (stop.Done input) s = ap (λ (c : Course). c.turns) (sym now ∙ s.goes []) ∙ no_more
    turns_now (stop.Shut k reason) s = ap (λ (c : Course). c.turns) (sym now ∙ s.goes []) ∙ no_more

    waits_for : (question : Ask) (asked : ℕ) (r : Run P) → asked ≡ length given → StandFor turn stands chain ss (next.Stops (stop.Needs question)) n later
        → r.suspended.items ≡ ss → r.awaits ≡ awaited_by question → r.book ≡ asked + 1 → RunsFor turn stands chain request given r
    waits_for question asked r e s e1 e2 e3 =
        record {
          ask = question;
          awaits = e2;
          asked = e3 ∙ ap (λ k. k + 1) e ∙ let z : length given + 1 ≡ suc (length given) = omega arith in z;
          stand = subst (λ ts. StandFor turn stands chain ts (next.Stops (stop.Needs question)) (turns (map turn chain) request given) later) (sym e1)
              (subst (λ k. StandFor turn stands chain ss (next.Stops (stop.Needs question)) k later) (sym (turns_now (stop.Needs question) s)) s);
        }

    outcome_asks : (question : Ask) → StandFor turn stands chain ss (next.Stops (stop.Needs question)) n later → run (map turn chain) request given ≡ outcome_after (length given) (Awaits question)
    outcome_asks question s = ap (λ (c : Course). outcome_after (length given) c.fate) (asks_now question s)

    pub concluded : (st : Stop) (asked : ℕ) (r : State P) → asked ≡ length given → StandFor turn stands chain ss (next.Stops st) n later
        → IsConclusion ss asked st r → IsState turn stands chain request given r
    concluded (stop.Needs question) asked (state.Needs r ask) e s h = (
      outcome_asks question s ∙ may_ask (length given) question (subst (λ k. k < ask_limit) e h.1) ∙ ap Needs (sym h.0),
      waits_for question asked r e s h.2 h.3 h.4,
    )
    concluded (stop.Needs question) asked (state.Done response) e s h = absurd h
    concluded (stop.Needs question) asked (state.Shut (cause.Filter filter why)) e s h = absurd h
    concluded (stop.Needs question) asked (state.Shut cause.AskBudget) e s h = outcome_asks question s ∙ may_not_ask (length given) question (subst (λ k. ask_limit ≤ k) e h)
    concluded (stop.Done input) asked (state.Needs r ask) e s h = absurd h
    concluded (stop.Done input) asked (state.Done response) e s h = ap (λ (c : Course). outcome_after (length given) c.fate) (sym now ∙ s.goes []) ∙ ap Completed (sym h)
    concluded (stop.Done input) asked (state.Shut cause) e s h = absurd h
    concluded (stop.Shut k reason) asked (state.Needs r ask) e s h = absurd h
    concluded (stop.Shut k reason) asked (state.Done response) e s h = absurd h
    concluded (stop.Shut k reason) asked (state.Shut (cause.Filter filter why)) e s h =
        ap (λ (c : Course). outcome_after (length given) c.fate) (sym now ∙ s.goes []) ∙ ap (λ j. Shuts (cause.Filter j reason)) (sym h.0) ∙ ap (λ w. Shuts (cause.Filter filter w)) (sym h.1)
    concluded (stop.Shut k reason) asked (state.Shut cause.AskBudget) e s h = absurd h

module _ {F P : Type 0} (turn : F → Turn) (stands : F → P → Contents → List Input → Type 0) (chain : List F) (request : Contents) where
  drop_none : (fs : List F) → fs ≡ drop 0 fs
  drop_none [] = refl
  drop_none (f ∷ fs) = refl

  none_yet : (fs : List F) → AreSuspended turn stands 0 fs [] []
  none_yet [] = tt
  none_yet (f ∷ fs) = tt

  begins : StandFor turn stands chain [] (next.Passes (passing.Message request true)) 0 (later turn stands chain request [])
  begins = record {
    suspensions = [];
    are = none_yet chain;
    goes = λ xs. ap (λ fs. way_from 0 (map turn fs) request true xs) (drop_none chain) ∙ sym (behind_none (way_from 0 (map turn (drop 0 chain)) request true xs));
  }

  -- `Run::start`
  pub started : (ss : List (Suspended P)) (st : Stop) (r : State P) (steps steps' : ℕ)
      → Leads turn stands chain [] (next.Passes (passing.Message request true)) steps ss (next.Stops st) steps' → IsConclusion ss 0 st r
      → IsState turn stands chain request [] r × (steps' ≡ steps + turns (map turn chain) request [])
  started ss st r steps steps' leads is =
      let x = leads 0 (later turn stands chain request []) begins in
      let t = turns_now turn stands chain request [] ss (0 + x.0) st x.2 in (
        concluded turn stands chain request [] ss (0 + x.0) st 0 r refl x.2 is,
        x.1 ∙ ap (λ k. steps + k) (sym (t ∙ let z : 0 + x.0 ≡ x.0 = omega arith in z)),
      )

  module _ (given : List Outside) (outside : Outside) where
    one_more : (more : List Outside) → (given ++ outside ∷ []) ++ more ≡ given ++ outside ∷ more
    one_more more = append_assoc given (outside ∷ []) more

    goes_on_with : (r : Run P) → RunsFor turn stands chain request given r
        → StandFor turn stands chain r.suspended.items (next.Passes (passing.Input (as_awaited r.awaits outside))) (turns (map turn chain) request given) (later turn stands chain request (given ++ outside ∷ []))
    goes_on_with r h = record {
      suspensions = h.stand.suspensions;
      are = h.stand.are;
      goes = λ xs.
          ap (course (map turn chain) request) (one_more xs) ∙ h.stand.goes (outside ∷ xs)
          ∙ ap (λ a. behind_turns (turns (map turn chain) request given) (resumed h.stand.suspensions (record { fate = Back (as_awaited a outside); unused = xs; turns = 0 }))) (sym h.awaits);
    }

    -- `Run::poll`
    pub polled : (old : Run P) (ss : List (Suspended P)) (st : Stop) (r : State P) (steps steps' : ℕ)
        → Leads turn stands chain old.suspended.items (next.Passes (passing.Input (as_awaited old.awaits outside))) steps ss (next.Stops st) steps'
        → IsConclusion ss old.book st r → RunsFor turn stands chain request given old
        → IsState turn stands chain request (given ++ outside ∷ []) r × (steps' + turns (map turn chain) request given ≡ steps + turns (map turn chain) request (given ++ outside ∷ []))
    polled old ss st r steps steps' leads is h =
        let n = turns (map turn chain) request given in
        let x = leads n (later turn stands chain request (given ++ outside ∷ [])) (goes_on_with old h) in
        let t : turns (map turn chain) request (given ++ outside ∷ []) ≡ n + x.0 = turns_now turn stands chain request (given ++ outside ∷ []) ss (n + x.0) st x.2 in (
          concluded turn stands chain request (given ++ outside ∷ []) ss (n + x.0) st old.book r (h.asked ∙ sym (one_longer given outside)) x.2 is,
          ap (λ k. k + n) x.1 ∙ (let z : (steps + x.0) + n ≡ steps + (n + x.0) = omega arith in z) ∙ ap (λ k. steps + k) (sym t),
        )
