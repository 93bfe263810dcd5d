-- What holds of a chain whose filters keep their laws, on whole requests and on what may have come for them.
use Rattle.std.specs.Prelude.{◌≡◌, ◌≢◌, ◌≤◌, ◌<◌, ℕ, zero, suc, ◌+◌, ◌*◌, true, false, List, ◌∷◌, ◌++◌, length, Option}
use Rattle.tree_spelling.specs.Body.{Contents}
use Rattle.filter_core.specs.declared.reason.Reason.{Reason}
use Rattle.filter_core.specs.Decision.{Turn}
use Rattle.filter_core.specs.Inputs.{IsWholeRequest}
use Rattle.filter_core.specs.Laws.{IsSentOnAs, WillBeAnswered, AnswersRequest}
use Rattle.side_requests.specs.declared.ask.Ask.{Ask}
use Rattle.side_requests.specs.declared.ask.Ask.TheVariants as ask
use Rattle.filter_chain.specs.declared.outside.Outside.{Outside}
use Rattle.filter_chain.specs.declared.state.ShutCause.TheVariants as cause
use Rattle.filter_chain.specs.Outcomes.{Needs, Completed, Shuts, NeverEnds, run, turns}
use Rattle.proxy_laws.specs.Coming.{MayHaveCome}

-- A completed request has a response of its own API and version, or none where it is a Produce with acks 0.
abbrev pub CompletesWithOwnResponse : List Turn → Type 0
CompletesWithOwnResponse chain =
    (request : Contents) (given : List Outside) (response : Option Contents) → IsWholeRequest request → MayHaveCome chain request given
    → run chain request given ≡ Completed response → AnswersRequest request response

-- What a request needs of a broker is the request itself, with other fields at most, or a message aside that the broker answers
-- and whose response is read. A hold is for one of the chain's filters.
abbrev pub IsNeedOf : List Turn → Contents → Ask → Type 0
IsNeedOf chain request (ask.Broker message true) = IsSentOnAs request message
IsNeedOf chain request (ask.Broker message false) = WillBeAnswered message
IsNeedOf chain request (ask.Hold filter key) = filter < length chain

abbrev pub NeedsWholeMessages : List Turn → Type 0
NeedsWholeMessages chain =
    (request : Contents) (given : List Outside) (question : Ask) → IsWholeRequest request → MayHaveCome chain request given
    → run chain request given ≡ Needs question → IsNeedOf chain request question

-- A request goes on to the broker once at most: where it needed the answer to itself, it needs no such answer again, whatever came.
abbrev pub HasOneMainSend : List Turn → Type 0
HasOneMainSend chain =
    (request : Contents) (given : List Outside) (x : Outside) (more : List Outside) (message again : Contents) → IsWholeRequest request → MayHaveCome chain request (given ++ x ∷ more)
    → run chain request given ≡ Needs (ask.Broker message true) → run chain request (given ++ x ∷ more) ≢ Needs (ask.Broker again true)

-- No filter goes on without an end, and one that shuts is a filter of the chain.
abbrev pub ComesToAnEnd : List Turn → Type 0
ComesToAnEnd chain =
    (request : Contents) (given : List Outside) (filter : ℕ) → IsWholeRequest request → MayHaveCome chain request given
    → run chain request given ≢ NeverEnds filter

abbrev pub IsShutByOwnFilter : List Turn → Type 0
IsShutByOwnFilter chain =
    (request : Contents) (given : List Outside) (filter : ℕ) (reason : Reason) → IsWholeRequest request → MayHaveCome chain request given
    → run chain request given ≡ Shuts (cause.Filter filter reason) → filter < length chain

-- A filter has seven turns on a message at most, and sends six at most towards the broker.
abbrev pub turns_within : ℕ → ℕ
turns_within zero = 0
turns_within (suc filters) = 7 + 6 * turns_within filters

abbrev pub HasFewTurns : List Turn → Type 0
HasFewTurns chain =
    (request : Contents) (given : List Outside) → IsWholeRequest request → MayHaveCome chain request given
    → turns chain request given ≤ turns_within (length chain)
