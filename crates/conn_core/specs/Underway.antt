-- What the code keeps of a request that waits, and how it tells the connection where a request stands.
use Rattle.std.specs.Prelude.{◌≡◌, ℕ, Bool, false, List, map}
use Rattle.tree_spelling.specs.Body.{Contents}
use Rattle.tree_spelling.specs.Spelling.{spelling}
use Rattle.framing.specs.CorrelationIds.{request_id}
use Rattle.filter_core.specs.declared.input.Input.{Input}
use Rattle.filter_core.specs.Decision.{Turn}
use Rattle.side_requests.specs.declared.ask.Ask.{Ask}
use Rattle.side_requests.specs.declared.ask.Ask.TheVariants as ask
use Rattle.filter_chain.specs.declared.state.State.{State}
use Rattle.filter_chain.specs.declared.state.State.TheVariants as state
use Rattle.filter_chain.specs.Outcomes.{Outcome, Needs, Completed, Shuts}
use Rattle.filter_chain.specs.RunStates.{RunsFor}
use Rattle.conn_rules.specs.Meaning.{Status, Waits, Fails, Hold}
use Rattle.conn_rules.specs.State.{Outside}
use Rattle.serving.specs.Causes.{why_of}
use Rattle.serving.specs.Services.{IsDone, awaits_answer_to}
use Rattle.serving.specs.declared.progress.Progress.{Progress}
use Rattle.serving.specs.declared.progress.Progress.TheVariants as progress
use Rattle.conn_core.specs.declared.envelope.Envelope.{Envelope}
use Rattle.conn_core.specs.declared.answer_body.AnswerBody.{AnswerBody}
use Rattle.conn_core.specs.declared.chain_run.Asked.{Asked}
use Rattle.conn_core.specs.declared.chain_run.Asked.TheVariants as asked
use Rattle.conn_core.specs.declared.chain_run.ChainRun.{ChainRun}
use Rattle.framing.specs.Heads.{client_id_spelled}
use Rattle.conn_core.specs.Requests.{request_of, is_silent, is_told_versions}
use Rattle.conn_core.specs.Chained.{given_to, chain_outcome}

-- the envelope is that of the request in this frame
pub record IsEnvelopeOf (envelope : Envelope) (frame : List ℕ) : Type 0 where
  pub own_id : envelope.correlation_id ≡ request_id frame
  pub client_id : envelope.client_id ≡ client_id_spelled frame
  pub silent : envelope.silent ≡ is_silent frame

-- what is kept of the ask that a request waits for
abbrev pub IsAskedBy : Asked → Ask → Type 0
IsAskedBy (asked.Response key version) (ask.Broker message main) = (key ≡ message.key) × (version ≡ message.version)
IsAskedBy asked.Verdict (ask.Hold filter key) = Unit {0}
IsAskedBy _ _ = ⊥

-- the bytes that an answer was read from
abbrev pub answer_bytes : AnswerBody → List ℕ
answer_bytes answer = spelling answer.body.items

-- the run is that of the request in this frame, which was given so much
pub record IsUnderway {F P : Type 0} (turn : F → Turn) (stands : F → P → Contents → List Input → Type 0) (filters : List F) (r : ChainRun P) (frame : List ℕ) (given : List Outside) : Type 0 where
  pub not_told : is_told_versions frame ≡ false
  pub envelope : IsEnvelopeOf r.envelope frame
  pub question : Ask
  pub waits : chain_outcome (map turn filters) frame given ≡ Needs question
  pub asked : IsAskedBy r.asked question
  pub is_run : RunsFor turn stands filters (request_of frame) (given_to (map turn filters) (request_of frame) given) r.run

-- ---- how the connection is told

module _ {P : Type 0} where
  -- the outcome that the chain's state is
  abbrev pub outcome_in : State P → Outcome
  outcome_in (state.Needs r question) = Needs question
  outcome_in (state.Done response) = Completed response
  outcome_in (state.Shut cause) = Shuts cause

  -- a request that waits keeps its envelope, and what it waits for
  abbrev pub KeepsRun : Envelope → State P → ChainRun P → Type 0
  KeepsRun envelope (state.Needs r question) kept = (kept.envelope ≡ envelope) × IsAskedBy kept.asked question × (kept.run ≡ r)
  KeepsRun envelope (state.Done response) kept = ⊥
  KeepsRun envelope (state.Shut cause) kept = ⊥

  -- the status of a request, silent or not, is told so
  abbrev pub IsToldAs : Bool → Status → (ChainRun P → Type 0) → Progress (ChainRun P) → Type 0
  IsToldAs silent status keeps (progress.Sends message kept) = (status ≡ awaits_answer_to message) × keeps kept
  IsToldAs silent status keeps (progress.Holds key kept) = (status ≡ Waits (Hold key)) × keeps kept
  IsToldAs silent status keeps (progress.Done response) = IsDone silent status response
  IsToldAs silent status keeps (progress.Failed cause) = status ≡ Fails (why_of cause)
