-- What a service answers is what its meaning says.
use Rattle.std.specs.Prelude.{◌≡◌, ℕ, suc, ◌+◌, Bool, true, false, List, [], ◌∷◌, ◌++◌, drop, Option, Some, None, Result, Ok, Err}
use Rattle.kp_edge.specs.declared.end.End.{End}
use Rattle.conn_rules.specs.Meaning.{Meaning, ToBroker, Hold, Status, Waits, Done, Fails}
use Rattle.conn_rules.specs.State.{Outside, Body, NoResponse, Verdict}
use Rattle.serving.specs.declared.cause.Cause.{Cause}
use Rattle.serving.specs.declared.frame.WholeFrame.{WholeFrame}
use Rattle.serving.specs.declared.given.Given.{Given}
use Rattle.serving.specs.declared.given.Given.TheVariants as given
use Rattle.serving.specs.declared.message.Message.{Message}
use Rattle.serving.specs.declared.progress.Begun.{Begun}
use Rattle.serving.specs.declared.progress.Begun.TheVariants as begun
use Rattle.serving.specs.declared.progress.Progress.{Progress}
use Rattle.serving.specs.declared.progress.Progress.TheVariants as progress
use Rattle.serving.specs.Causes.{why_of}

-- what the machine calls what a request is given, by the bytes that an answer was read from
abbrev pub outside_of : {A : Type 0} → (A → List ℕ) → Given A → Outside
outside_of read_from (given.Answer answer) = Body (read_from answer)
outside_of read_from given.NoResponse = NoResponse
outside_of read_from (given.Verdict bytes) = Verdict bytes

abbrev pub cause_function : Option Cause → Option (ℕ → End)
cause_function None = None
cause_function (Some cause) = Some (why_of cause)

-- the body of a response was read, or can't be for this cause, if there is one
abbrev pub IsBodyRead : {A : Type 0} → Option (ℕ → End) → (A → List ℕ) → List ℕ → Result A Cause → Type 0
IsBodyRead why read_from body (Ok answer) = (why ≡ None) × (read_from answer ≡ body)
IsBodyRead why read_from body (Err cause) = why ≡ Some (why_of cause)

abbrev pub IsRead : {A : Type 0} → Meaning → (A → List ℕ) → List ℕ → List ℕ → Result A Cause → Type 0
IsRead M read_from before body read = IsBodyRead (M.unreadable before body) read_from body read

-- what stands behind the correlation id of a message: it lies in the draft behind twelve bytes for the head
abbrev pub behind_id : Message → List ℕ
behind_id m = drop 12 m.draft.items

-- a request waits for this message to be sent
abbrev pub awaits_answer_to : Message → Status
awaits_answer_to m = Waits (ToBroker m.before (behind_id m) m.main m.responds)

-- A request is done with this response: a silent one with no bytes, any other with a whole frame.
abbrev pub IsDone : Bool → Status → Option WholeFrame → Type 0
IsDone silent status None = (silent ≡ true) × (status ≡ Done [])
IsDone silent status (Some frame) = (silent ≡ false) × (status ≡ Done frame.bytes)

module _ {R : Type 0} (M : Meaning) (runs : R → List ℕ → List Outside → Type 0) where
  -- a request with this frame that was given so much has come so far
  abbrev pub IsProgress : List ℕ → List Outside → Progress R → Type 0
  IsProgress frame given (progress.Sends message run) = (M.status frame given ≡ awaits_answer_to message) × runs run frame given
  IsProgress frame given (progress.Holds key run) = (M.status frame given ≡ Waits (Hold key)) × runs run frame given
  IsProgress frame given (progress.Done response) = IsDone (M.silent frame) (M.status frame given) response
  IsProgress frame given (progress.Failed cause) = M.status frame given ≡ Fails (why_of cause)

  -- a client's frame is no request, or begins one
  abbrev pub Begins : List ℕ → Begun R → Type 0
  Begins frame (begun.NoRequest cause) = M.no_request frame ≡ Some (why_of cause)
  Begins frame (begun.Request silent p) = (M.no_request frame ≡ None) × (M.silent frame ≡ silent) × IsProgress frame [] p

  -- a run that goes on with this takes the steps by which the work of its request grows
  abbrev pub CountsOn : R → Outside → (before after : ℕ) → Type 0
  CountsOn run x before after = (frame : List ℕ) (given : List Outside) → runs run frame given → after + M.work frame given ≡ before + M.work frame (given ++ x ∷ [])

-- how many steps a client's frame takes: a request those of its work so far, and any other none
abbrev pub work_begun : {R : Type 0} → Meaning → List ℕ → Begun R → ℕ
work_begun M frame (begun.NoRequest cause) = 0
work_begun M frame (begun.Request silent p) = M.work frame []

-- how often a request that has come so far may still wait, by how often its run may wait again
abbrev pub progress_remaining : {R : Type 0} → (R → ℕ) → Progress R → ℕ
progress_remaining remaining (progress.Sends message run) = suc (remaining run)
progress_remaining remaining (progress.Holds key run) = suc (remaining run)
progress_remaining remaining (progress.Done response) = 0
progress_remaining remaining (progress.Failed cause) = 0
