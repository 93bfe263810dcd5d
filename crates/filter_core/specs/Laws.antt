-- The laws of a filter. They speak of whole requests, and of inputs that may have come.
use Rattle.std.specs.Prelude.{◌≡◌, ◌≤◌, true, false, List, ◌∷◌, ◌++◌, length, Option, Some, None, IsTrue}
use Rattle.kp_schema.specs.Messages.{is_supported}
use Rattle.tree_spelling.specs.Body.{Contents}
use Rattle.filter_core.specs.declared.input.Input.{Input}
use Rattle.filter_core.specs.Acks.{has_acks_zero}
use Rattle.filter_core.specs.Decision.{Decision, Turn, Forward, Side, Return, Shut}
use Rattle.filter_core.specs.Inputs.{IsWholeRequest, IsResponseTo, AreInputs}

abbrev pub IsForward : Decision → Type 0
IsForward (Forward message) = Unit {0}
IsForward _ = ⊥

-- the filter goes on no more
abbrev pub IsLast : Decision → Type 0
IsLast (Return response) = Unit {0}
IsLast (Shut reason) = Unit {0}
IsLast _ = ⊥

-- it is the same request to the broker, with other fields at most
pub record IsSentOnAs (request message : Contents) : Type 0 where
  pub is_request : IsWholeRequest message
  pub same_key : message.key ≡ request.key
  pub same_version : message.version ≡ request.version
  pub same_acks : has_acks_zero message ≡ has_acks_zero request

-- it is a request that the broker answers, and whose answer is read
pub record WillBeAnswered (message : Contents) : Type 0 where
  pub is_request : IsWholeRequest message
  pub supported : IsTrue (is_supported message.key message.version)
  pub response_comes : has_acks_zero message ≡ false

abbrev pub AnswersRequest : Contents → Option Contents → Type 0
AnswersRequest request (Some response) = IsResponseTo request response
AnswersRequest request None = has_acks_zero request ≡ true

-- once it has forwarded a request it forwards it no more
abbrev pub ForwardsOnce : Turn → Type 0
ForwardsOnce turn =
    (request : Contents) (inputs : List Input) (next : Input) (more : List Input) → IsWholeRequest request
    → AreInputs turn request (inputs ++ next ∷ more)
    → IsForward (turn request inputs) → IsForward (turn request (inputs ++ next ∷ more)) → ⊥

-- after six inputs it returns or shuts
abbrev pub EndsAfterSix : Turn → Type 0
EndsAfterSix turn =
    (request : Contents) (inputs : List Input) → IsWholeRequest request → AreInputs turn request inputs
    → 6 ≤ length inputs → IsLast (turn request inputs)

abbrev pub ForwardsTheSame : Turn → Type 0
ForwardsTheSame turn =
    (request : Contents) (inputs : List Input) (message : Contents) → IsWholeRequest request → AreInputs turn request inputs
    → turn request inputs ≡ Forward message → IsSentOnAs request message

abbrev pub QuestionsAreAnswered : Turn → Type 0
QuestionsAreAnswered turn =
    (request : Contents) (inputs : List Input) (message : Contents) → IsWholeRequest request → AreInputs turn request inputs
    → turn request inputs ≡ Side message → WillBeAnswered message

abbrev pub ReturnsAnAnswer : Turn → Type 0
ReturnsAnAnswer turn =
    (request : Contents) (inputs : List Input) (response : Option Contents) → IsWholeRequest request → AreInputs turn request inputs
    → turn request inputs ≡ Return response → AnswersRequest request response

-- a turn that keeps all of them
pub record IsLawful (turn : Turn) : Type 0 where
  pub forwards_once : ForwardsOnce turn
  pub ends_after_six : EndsAfterSix turn
  pub forwards_the_same : ForwardsTheSame turn
  pub questions_are_answered : QuestionsAreAnswered turn
  pub returns_an_answer : ReturnsAnAnswer turn
