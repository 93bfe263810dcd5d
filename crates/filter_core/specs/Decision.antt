-- What a filter decides on its turn.
use Rattle.std.specs.Prelude.{◌≡◌, ℕ, List, Option}
use Rattle.tree_spelling.specs.Body.{Contents}
use Rattle.filter_core.specs.declared.input.Input.{Input}
use Rattle.filter_core.specs.declared.reason.Reason.{Reason}
use Rattle.filter_core.specs.declared.moves.Move.{Move}
use Rattle.filter_core.specs.declared.moves.Move.TheVariants as move

-- A move without the value that the filter keeps for its next turn.
pub data Decision : Type 0 where
  -- the request goes on towards the broker as this message
  Forward : (message : Contents) → Decision
  -- this message is asked of the broker aside
  Side : (message : Contents) → Decision
  -- an authority is asked for a verdict on this key
  HoldFor : (key : List ℕ) → Decision
  -- this response, or none, goes back towards the client
  Return : (response : Option Contents) → Decision
  -- the connection ends
  Shut : (reason : Reason) → Decision

-- A filter's meaning: what it decides on a request, by all inputs that it was given since it started on it.
abbrev pub Turn : Type 0
Turn = Contents → List Input → Decision

-- The move is this decision, and what the filter keeps for its next turn stands for what it was given.
abbrev pub Makes : {P : Type 0} → (P → Type 0) → Decision → Move P → Type 0
Makes keeps decision (move.Forward message pending) = (decision ≡ Forward message) × keeps pending
Makes keeps decision (move.Side message pending) = (decision ≡ Side message) × keeps pending
Makes keeps decision (move.Hold key pending) = (decision ≡ HoldFor key) × keeps pending
Makes keeps decision (move.Return response) = decision ≡ Return response
Makes keeps decision (move.Shut reason) = decision ≡ Shut reason
