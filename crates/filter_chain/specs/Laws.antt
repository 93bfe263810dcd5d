-- What holds of every chain, whatever its filters do.
use Rattle.std.specs.Prelude.{◌≡◌, ◌≢◌, ◌≤◌, ℕ, suc, ◌+◌, Bool, false, List, [], ◌∷◌, ◌++◌, length, map, Option}
use Rattle.tree_spelling.specs.Body.{Contents}
use Rattle.filter_core.specs.declared.input.Input.{Input}
use Rattle.filter_core.specs.declared.input.Input.TheVariants as input
use Rattle.filter_core.specs.declared.reason.Reason.{Reason}
use Rattle.filter_core.specs.Decision.{Decision, Turn, Forward, Side, HoldFor, Return, Shut}
use Rattle.side_requests.specs.declared.ask.Ask.{Ask}
use Rattle.filter_chain.specs.declared.outside.Outside.{Outside}
use Rattle.filter_chain.specs.declared.outside.Outside.TheVariants as outside
use Rattle.filter_chain.specs.declared.state.ShutCause.{ShutCause}
use Rattle.filter_chain.specs.declared.state.ShutCause.TheVariants as cause
use Rattle.filter_chain.specs.Answers.{as_verdict}
use Rattle.filter_chain.specs.Chain.{Fate, Back, Awaits, Closes, Endless, Course, Way, way_from}
use Rattle.filter_chain.specs.Outcomes.{Outcome, Needs, Completed, Shuts, run, turns}

-- a response stays what it is, whatever more comes, and so does a filter's end
abbrev pub DoneStays : Type 0
DoneStays =
    (chain : List Turn) (request : Contents) (given more : List Outside) (response : Option Contents)
    → run chain request given ≡ Completed response → run chain request (given ++ more) ≡ Completed response

abbrev pub EndStays : Type 0
EndStays =
    (chain : List Turn) (request : Contents) (given more : List Outside) (filter : ℕ) (reason : Reason)
    → run chain request given ≡ Shuts (cause.Filter filter reason) → run chain request (given ++ more) ≡ Shuts (cause.Filter filter reason)

-- behind its 64th answer a request asks for nothing
abbrev pub NothingBehindBudget : Type 0
NothingBehindBudget =
    (chain : List Turn) (request : Contents) (given : List Outside) (ask : Ask) → 64 ≤ length given → run chain request given ≢ Needs ask

abbrev pub IsSettled : Fate → Type 0
IsSettled (Awaits ask) = ⊥
IsSettled _ = Unit {0}

-- What was used of the answers is a front of them. What comes behind it makes no difference, and who asks has used all.
pub record UsesFront (way : List Outside → Course) (xs : List Outside) : Type 0 where
  pub used : List Outside
  pub front : xs ≡ used ++ (way xs).unused
  pub whatever_follows : IsSettled (way xs).fate → (more : List Outside) → way (used ++ more) ≡ record { fate = (way xs).fate; unused = more; turns = (way xs).turns }
  pub all_used : (ask : Ask) → (way xs).fate ≡ Awaits ask → (way xs).unused ≡ []

abbrev pub AnswersAreUsedInOrder : Type 0
AnswersAreUsedInOrder =
    (k : ℕ) (chain : List Turn) (message : Contents) (main : Bool) (xs : List Outside) → UsesFront (way_from k chain message main) xs

-- What may have come back to a filter that decided so: what the filters nearer the broker make of its message with some
-- answers from outside, or a verdict.
abbrev pub CameFrom : (nearer : Way) → Bool → Decision → Input → Type 0
CameFrom nearer main (Forward message) x = (xs : List Outside) × ((nearer message main xs).fate ≡ Back x)
CameFrom nearer main (Side message) x = (xs : List Outside) × ((nearer message false xs).fate ≡ Back x)
CameFrom nearer main (HoldFor key) x = (y : Outside) × (as_verdict y ≡ x)
CameFrom nearer main (Return response) x = ⊥
CameFrom nearer main (Shut reason) x = ⊥

-- each of these inputs, which came behind `before`, came so
abbrev pub SeenFrom : Way → Bool → Turn → Contents → List Input → List Input → Type 0
SeenFrom nearer main turn request before [] = Unit {0}
SeenFrom nearer main turn request before (x ∷ xs) =
    CameFrom nearer main (turn request before) x × SeenFrom nearer main turn request (before ++ x ∷ []) xs

-- What a filter sees passed the filters nearer the broker alone: two filters that decide alike on all that can have come
-- to them in this way can stand for one another in every chain, wherever they stand and whatever stands before them.
abbrev pub DecideAlike : Way → Turn → Turn → Type 0
DecideAlike nearer one other =
    (request : Contents) (main : Bool) (inputs : List Input) → SeenFrom nearer main one request [] inputs → one request inputs ≡ other request inputs

abbrev pub SeesOnlyNearer : Type 0
SeesOnlyNearer =
    (k : ℕ) (before nearer : List Turn) (one other : Turn) → DecideAlike (way_from (suc (k + length before)) nearer) one other
    → (message : Contents) (main : Bool) (xs : List Outside)
    → way_from k (before ++ one ∷ nearer) message main xs ≡ way_from k (before ++ other ∷ nearer) message main xs

-- the answers of a broker, put through a function
abbrev pub seen_input : (Contents → Contents) → Input → Input
seen_input view (input.Response response) = input.Response (view response)
seen_input view input.NoResponse = input.NoResponse
seen_input view (input.Verdict verdict) = input.Verdict verdict

abbrev pub seen_answer : (Contents → Contents) → Outside → Outside
seen_answer view (outside.Answer response) = outside.Answer (view response)
seen_answer view outside.NoResponse = outside.NoResponse
seen_answer view (outside.Verdict verdict) = outside.Verdict verdict

-- a filter that looks at responses through the function alone
abbrev pub LooksThrough : (Contents → Contents) → Turn → Type 0
LooksThrough view turn =
    (request : Contents) (inputs : List Input) → turn request (map (seen_input view) inputs) ≡ turn request inputs

-- Where the last filter looks at a broker's answers through a function alone, so does the chain: it can't tell the
-- answers from the answers put through that function.
abbrev pub ChainLooksThrough : Type 0
ChainLooksThrough =
    (view : Contents → Contents) (chain : List Turn) (last : Turn) → LooksThrough view last
    → (request : Contents) (given : List Outside)
    → (run (chain ++ last ∷ []) request (map (seen_answer view) given) ≡ run (chain ++ last ∷ []) request given)
    × (turns (chain ++ last ∷ []) request (map (seen_answer view) given) ≡ turns (chain ++ last ∷ []) request given)
