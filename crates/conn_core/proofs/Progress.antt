-- How a request stands under its chain is how the machine sees it.
use Rattle.std.proofs.Common.{◌≡◌, ℕ, ◌+◌, ◌≤◌, ◌<◌, nat_le, Bool, true, false, if◌then◌else◌, List, [], ◌∷◌, ◌++◌, length, map, Some, None, Result, Ok, Err, IfOk, sym, ap, subst, ◌∙◌}
use Rattle.std.proofs.lemmas.Bool.{le-leb, lt-leb}
use Rattle.tree_spelling.specs.Spelling.{spelling}
use Rattle.tree_spelling.specs.Body.{Contents}
use Rattle.filter_core.specs.declared.input.Input.{Input}
use Rattle.filter_core.specs.Decision.{Turn}
use Rattle.side_requests.specs.declared.ask.Ask.{Ask}
use Rattle.filter_chain.specs.declared.outside.Outside as chains
use Rattle.filter_chain.specs.declared.state.State.{State}
use Rattle.filter_chain.specs.declared.state.State.TheVariants as state
use Rattle.filter_chain.specs.Outcomes.{Needs, turns}
use Rattle.filter_chain.specs.RunStates.{RunsFor, IsState}
use Rattle.conn_rules.specs.Meaning.{Done}
use Rattle.conn_rules.specs.State.{Outside}
use Rattle.serving.specs.Services.{IsProgress}
use Rattle.serving.specs.declared.progress.Progress.{Progress}
use Rattle.serving.specs.declared.progress.Progress.TheVariants as progress
use Rattle.conn_core.specs.declared.envelope.Envelope.{Envelope}
use Rattle.conn_core.specs.declared.chain_run.ChainRun.{ChainRun}
use Rattle.conn_core.specs.Requests.{request_of, is_silent, is_told_versions, versions_told}
use Rattle.conn_core.specs.Chained.{taken_as, given_to, most_out, grown_past, sent_for, message_size, message_status, outcome_status, chain_outcome, chain_status, chain_work, chain_meaning}
use Rattle.conn_core.specs.Underway.{IsEnvelopeOf, IsUnderway, KeepsRun, IsToldAs, outcome_in}
use Rattle.conn_core.proofs.Lasting.{given_later}

-- ---- sizes

pub size_here : (envelope : Envelope) (frame : List ℕ) (message : Contents) (size : ℕ) → IsEnvelopeOf envelope frame → size ≡ 8 + length envelope.client_id + length (spelling message.items) → size ≡ message_size frame message
size_here envelope frame message size is e = e ∙ ap (λ x. 8 + length x + length (spelling message.items)) is.client_id

message_by : (frame : List ℕ) (message : Contents) (main b : Bool) → nat_le (message_size frame message) most_out ≡ b → message_status frame message main ≡ (if b then sent_for frame message main else grown_past (message_size frame message))
message_by frame message main b e = ap (λ x. if x then sent_for frame message main else grown_past (message_size frame message)) e

pub is_grown : (frame : List ℕ) (message : Contents) (main : Bool) (size : ℕ) → size ≡ message_size frame message → most_out < size → message_status frame message main ≡ grown_past size
is_grown frame message main size e h = message_by frame message main false (lt-leb (message_size frame message) most_out (subst (λ n. most_out < n) e h)) ∙ ap grown_past (sym e)

pub is_small : (frame : List ℕ) (message : Contents) (main : Bool) (size : ℕ) → size ≡ message_size frame message → size ≤ most_out → message_status frame message main ≡ sent_for frame message main
is_small frame message main size e h = message_by frame message main true (le-leb (message_size frame message) most_out (subst (λ n. n ≤ most_out) e h))

-- ---- progress

pub on_ok : {A E : Type 0} {P Q : A → Type 0} → (r : Result A E) → ((x : A) → P x → Q x) → IfOk r P → IfOk r Q
on_ok (Ok x) f h = f x h
on_ok (Err e) f h = tt

module _ {F P : Type 0} (turn : F → Turn) (stands : F → P → Contents → List Input → Type 0) (filters : List F) (frame : List ℕ) where
  module _ (given : List Outside) (told : is_told_versions frame ≡ false) where
    outcome_is : (st : State P) → IsState turn stands filters (request_of frame) (given_to (map turn filters) (request_of frame) given) st → chain_outcome (map turn filters) frame given ≡ outcome_in st
    outcome_is (state.Needs r question) h = h.0
    outcome_is (state.Done response) h = h
    outcome_is (state.Shut cause) h = h

    status_is : (st : State P) → IsState turn stands filters (request_of frame) (given_to (map turn filters) (request_of frame) given) st → chain_status (map turn filters) frame given ≡ outcome_status frame (outcome_in st)
    status_is st h = ap (λ b. if b then Done (versions_told frame) else outcome_status frame (chain_outcome (map turn filters) frame given)) told ∙ ap (outcome_status frame) (outcome_is st h)

    underway : (envelope : Envelope) (st : State P) (kept : ChainRun P) → IsEnvelopeOf envelope frame → IsState turn stands filters (request_of frame) (given_to (map turn filters) (request_of frame) given) st → KeepsRun envelope st kept → IsUnderway turn stands filters kept frame given
    underway envelope (state.Needs r question) kept is h k =
        record {
          not_told = told;
          envelope = subst (λ e. IsEnvelopeOf e frame) (sym k.0) is;
          question = question;
          waits = h.0;
          asked = k.1;
          is_run = subst (RunsFor turn stands filters (request_of frame) (given_to (map turn filters) (request_of frame) given)) (sym k.2) h.1;
        }
    underway envelope (state.Done response) kept is h k = absurd k
    underway envelope (state.Shut cause) kept is h k = absurd k

    pub told_so : (envelope : Envelope) (st : State P) (p : Progress (ChainRun P)) → IsEnvelopeOf envelope frame → IsState turn stands filters (request_of frame) (given_to (map turn filters) (request_of frame) given) st
        → IsToldAs (is_silent frame) (outcome_status frame (outcome_in st)) (KeepsRun envelope st) p → IsProgress (chain_meaning (map turn filters)) (IsUnderway turn stands filters) frame given p
    told_so envelope st (progress.Sends message kept) is h t = (status_is st h ∙ t.0, underway envelope st kept is h t.1)
    told_so envelope st (progress.Holds key kept) is h t = (status_is st h ∙ t.0, underway envelope st kept is h t.1)
    told_so envelope st (progress.Done None) is h t = (t.0, status_is st h ∙ t.1)
    told_so envelope st (progress.Done (Some response)) is h t = (t.0, status_is st h ∙ t.1)
    told_so envelope st (progress.Failed cause) is h t = status_is st h ∙ t

  -- what is given once more
  pub given_once_more : (before : List Outside) (x : Outside) (question : Ask) → chain_outcome (map turn filters) frame before ≡ Needs question
      → given_to (map turn filters) (request_of frame) before ++ taken_as (Needs question) x ∷ [] ≡ given_to (map turn filters) (request_of frame) (before ++ x ∷ [])
  given_once_more before x question e =
      sym (given_later (map turn filters) (request_of frame) before (x ∷ []) [] ∙ ap (λ o. given_to (map turn filters) (request_of frame) before ++ taken_as o x ∷ []) e)

  -- a run goes on
  pub goes_on : (r : ChainRun P) (before : List Outside) (x : Outside) (came : chains.Outside) (st : State P) (p : Progress (ChainRun P)) (w : IsUnderway turn stands filters r frame before)
      → came ≡ taken_as (Needs w.question) x
      → ((request : Contents) (given : List chains.Outside) → RunsFor turn stands filters request given r.run → IsState turn stands filters request (given ++ came ∷ []) st)
      → (IsEnvelopeOf r.envelope frame → IsToldAs (is_silent frame) (outcome_status frame (outcome_in st)) (KeepsRun r.envelope st) p)
      → IsProgress (chain_meaning (map turn filters)) (IsUnderway turn stands filters) frame (before ++ x ∷ []) p
  goes_on r before x came st p w e polled told =
      let given = given_to (map turn filters) (request_of frame) before in
      let h = polled (request_of frame) given w.is_run in
      let same : given ++ came ∷ [] ≡ given_to (map turn filters) (request_of frame) (before ++ x ∷ []) = ap (λ y. given ++ y ∷ []) e ∙ given_once_more before x w.question w.waits in
      told_so (before ++ x ∷ []) w.not_told r.envelope st p w.envelope (subst (λ gs. IsState turn stands filters (request_of frame) gs st) same h) (told w.envelope)

  -- ---- turns

  -- the work of a request that its chain sees is the turns of its filters
  pub work_is : (given : List Outside) → is_told_versions frame ≡ false → chain_work (map turn filters) frame given ≡ turns (map turn filters) (request_of frame) (given_to (map turn filters) (request_of frame) given)
  work_is given told = ap (λ b. if b then 0 else turns (map turn filters) (request_of frame) (given_to (map turn filters) (request_of frame) given)) told

  -- a run that goes on has the turns by which the request's work grows
  pub work_grows : (r : ChainRun P) (before : List Outside) (x : Outside) (came : chains.Outside) (n m : ℕ) (w : IsUnderway turn stands filters r frame before)
      → came ≡ taken_as (Needs w.question) x
      → ((request : Contents) (given : List chains.Outside) → RunsFor turn stands filters request given r.run → m + turns (map turn filters) request given ≡ n + turns (map turn filters) request (given ++ came ∷ []))
      → m + chain_work (map turn filters) frame before ≡ n + chain_work (map turn filters) frame (before ++ x ∷ [])
  work_grows r before x came n m w e counted =
      let given = given_to (map turn filters) (request_of frame) before in
      let same : given ++ came ∷ [] ≡ given_to (map turn filters) (request_of frame) (before ++ x ∷ []) = ap (λ y. given ++ y ∷ []) e ∙ given_once_more before x w.question w.waits in
      let h : m + turns (map turn filters) (request_of frame) given ≡ n + turns (map turn filters) (request_of frame) (given_to (map turn filters) (request_of frame) (before ++ x ∷ [])) =
      subst (λ gs. m + turns (map turn filters) (request_of frame) given ≡ n + turns (map turn filters) (request_of frame) gs) same (counted (request_of frame) given w.is_run) in
      ap (λ k. m + k) (work_is before w.not_told) ∙ h ∙ ap (λ k. n + k) (sym (work_is (before ++ x ∷ []) w.not_told))
