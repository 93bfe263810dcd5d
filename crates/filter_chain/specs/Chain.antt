-- What becomes of a request on its way through a chain of filters. The filters stand in order from the client to the
-- broker, and are known by their turns.
use Rattle.std.specs.Prelude.{ℕ, suc, zero, ◌+◌, Bool, true, false, List, [], ◌∷◌, ◌++◌}
use Rattle.tree_spelling.specs.Body.{Contents}
use Rattle.filter_core.specs.declared.input.Input.{Input}
use Rattle.filter_core.specs.declared.reason.Reason.{Reason}
use Rattle.filter_core.specs.Decision.{Decision, Turn, Forward, Side, HoldFor, Return, Shut}
use Rattle.side_requests.specs.declared.ask.Ask.{Ask}
use Rattle.side_requests.specs.declared.ask.Ask.TheVariants as ask
use Rattle.filter_chain.specs.declared.outside.Outside.{Outside}
use Rattle.filter_core.specs.Responses.{input_with}
use Rattle.filter_chain.specs.Answers.{as_answer, as_verdict}

-- What becomes of a message.
pub data Fate : Type 0 where
  -- this comes back for it
  Back : (input : Input) → Fate
  -- it waits for an answer from outside
  Awaits : (ask : Ask) → Fate
  -- a filter ends the connection
  Closes : (filter : ℕ) (reason : Reason) → Fate
  -- a filter goes on after six inputs, which its laws forbid
  Endless : (filter : ℕ) → Fate

pub record Course : Type 0 where
  pub fate : Fate
  -- the answers from outside that weren't used
  pub unused : List Outside
  -- how many turns filters had
  pub turns : ℕ

-- what becomes of a message from some place of the chain on: by the message, whether it is the main request, and the
-- answers that come from outside
abbrev pub Way : Type 0
Way = Contents → Bool → List Outside → Course

-- with so many turns before
abbrev pub behind_turns : ℕ → Course → Course
behind_turns n c = record { fate = c.fate; unused = c.unused; turns = n + c.turns }

-- who asks takes the next answer, and waits where there is none
abbrev pub asked_outside : Ask → (Outside → Input) → List Outside → Course
asked_outside question as_given [] = record { fate = Awaits question; unused = []; turns = 0 }
asked_outside question as_given (x ∷ xs) = record { fate = Back (as_given x); unused = xs; turns = 0 }

-- behind the last filter stands the broker
abbrev pub broker : Way
broker message main xs = asked_outside (ask.Broker message main) as_answer xs

-- What comes back for a message goes on so. Else what became of the message becomes of the request.
abbrev pub given_back : (Input → List Outside → Course) → ℕ → List Outside → Fate → Course
given_back given_next n unused (Back x) = behind_turns n (given_next x unused)
given_back given_next n unused (Awaits question) = record { fate = Awaits question; unused = unused; turns = n }
given_back given_next n unused (Closes filter reason) = record { fate = Closes filter reason; unused = unused; turns = n }
given_back given_next n unused (Endless filter) = record { fate = Endless filter; unused = unused; turns = n }

abbrev pub gives : (Input → List Outside → Course) → Course → Course
gives given_next c = given_back given_next c.turns c.unused c.fate

-- What becomes of a request by the decision of filter `k`. What the filter forwards, or asks aside, goes through those
-- nearer the broker alone (`nearer`), and so does what comes back. A main request goes on as the main one, and what is
-- asked aside is none.
abbrev pub decided : (nearer : Way) (k : ℕ) (main : Bool) (given_next : Input → List Outside → Course) → List Outside → Decision → Course
decided nearer k main given_next xs (Forward message) = gives given_next (nearer message main xs)
decided nearer k main given_next xs (Side message) = gives given_next (nearer message false xs)
decided nearer k main given_next xs (HoldFor key) = gives given_next (asked_outside (ask.Hold k key) as_verdict xs)
decided nearer k main given_next xs (Return response) = record { fate = Back (input_with response); unused = xs; turns = 0 }
decided nearer k main given_next xs (Shut reason) = record { fate = Closes k reason; unused = xs; turns = 0 }

-- Filter `k` has its turns on a request, so many at most, from these inputs on.
unfoldable pub turns_on : (most : ℕ) (nearer : Way) (k : ℕ) → Turn → Contents → Bool → List Input → List Outside → Course
turns_on zero nearer k turn request main inputs xs = record { fate = Endless k; unused = xs; turns = 0 }
turns_on (suc n) nearer k turn request main inputs xs =
    behind_turns 1 (decided nearer k main (λ x unused. turns_on n nearer k turn request main (inputs ++ x ∷ []) unused) xs (turn request inputs))

-- a filter is given six inputs at most, so it has seven turns
abbrev pub most_turns : ℕ
most_turns = 7

-- what becomes of a message at filter `k`, which is the first of these
abbrev pub way_from : (k : ℕ) → List Turn → Way
way_from k [] = broker
way_from k (turn ∷ turns) = λ message main xs. turns_on most_turns (way_from (suc k) turns) k turn message main [] xs
