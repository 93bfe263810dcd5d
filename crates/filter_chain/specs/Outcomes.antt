-- How a request stands under a chain, with what it was given from outside so far.
use Rattle.std.specs.Prelude.{ℕ, nat_lt, true, if◌then◌else◌, List, length, Option}
use Rattle.tree_spelling.specs.Body.{Contents}
use Rattle.filter_core.specs.Decision.{Turn}
use Rattle.side_requests.specs.declared.ask.Ask.{Ask}
use Rattle.side_requests.specs.AskNumbers.{ask_limit}
use Rattle.filter_chain.specs.declared.outside.Outside.{Outside}
use Rattle.filter_chain.specs.declared.state.ShutCause.{ShutCause}
use Rattle.filter_chain.specs.declared.state.ShutCause.TheVariants as cause
use Rattle.filter_core.specs.Responses.{response_given}
use Rattle.filter_chain.specs.Chain.{Fate, Back, Awaits, Closes, Endless, Course, way_from}

pub data Outcome : Type 0 where
  -- it waits for this
  Needs : (ask : Ask) → Outcome
  -- it has its response, or is done without one
  Completed : (response : Option Contents) → Outcome
  -- the connection ends
  Shuts : (cause : ShutCause) → Outcome
  -- a filter goes on after six inputs, which its laws forbid
  NeverEnds : (filter : ℕ) → Outcome

-- A request that was given so much may ask once more only where that was less than 64.
abbrev pub outcome_after : ℕ → Fate → Outcome
outcome_after given (Back input) = Completed (response_given input)
outcome_after given (Awaits ask) = if nat_lt given ask_limit then Needs ask else Shuts cause.AskBudget
outcome_after given (Closes filter reason) = Shuts (cause.Filter filter reason)
outcome_after given (Endless filter) = NeverEnds filter

-- what becomes of a client's request
abbrev pub course : List Turn → Contents → List Outside → Course
course chain request given = way_from 0 chain request true given

abbrev pub run : List Turn → Contents → List Outside → Outcome
run chain request given = outcome_after (length given) (course chain request given).fate

-- how many turns its filters had
abbrev pub turns : List Turn → Contents → List Outside → ℕ
turns chain request given = (course chain request given).turns
