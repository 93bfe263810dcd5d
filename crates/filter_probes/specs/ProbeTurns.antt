-- What each probe decides, and what it keeps between two moves.
use Rattle.std.specs.Prelude.{◌≡◌, ℕ, suc, List, [], ◌∷◌, ◌++◌, Option, Some, None}
use Rattle.std.proofs.Common.{◌∙◌, ap, append_assoc}
use Rattle.tree_spelling.specs.Body.{Contents}
use Rattle.filter_core.specs.declared.input.Input.{Input}
use Rattle.filter_core.specs.Decision.{Decision, Turn}
use Rattle.filter_core.specs.Laws.{ForwardsOnce, EndsAfterSix, ForwardsTheSame, QuestionsAreAnswered, ReturnsAnAnswer}
use Rattle.filter_core.specs.TwoTurns.{two_turns, handed_back}
use Rattle.filter_core.specs.Lawful as lawful
use Rattle.filter_probes.specs.declared.habit.Habit.{Habit}
use Rattle.filter_probes.specs.declared.habit.Habit.TheVariants.{Asking, TwoTurns, Heeding}
use Rattle.filter_probes.specs.Probes.{probe_asking, how_often, on_request_of, on_input_of, two_turns_keep, asking_forwards_once, asking_ends, asking_forwards_same, asking_answered, asking_returns}
use Rattle.filter_probes.specs.Heeding.{probe_heeding, HeedingIsWaiting, heeding_forwards_once, heeding_ends, heeding_forwards_same, heeding_answered, heeding_returns}

abbrev pub probe_turn : Habit → Turn
probe_turn (Asking what times) = probe_asking what (how_often times)
probe_turn (TwoTurns what) = two_turns (on_request_of what) (on_input_of what)
probe_turn Heeding = probe_heeding

-- what it does with a response to what it forwarded
abbrev pub last_turn : Habit → Input → Decision
last_turn (Asking what times) input = handed_back input
last_turn (TwoTurns what) input = on_input_of what input
last_turn Heeding input = handed_back input

-- It waits with the request that it forwards later. One with two turns never does.
abbrev pub KeepsRequest : Habit → Contents → ℕ → Contents → List Input → Type 0
KeepsRequest (Asking what times) later left request inputs =
    (later ≡ request) × ((x : Input) (xs : List Input) → probe_asking what (how_often times) request (inputs ++ x ∷ xs) ≡ probe_asking what left request xs)
KeepsRequest (TwoTurns what) later left request inputs = ⊥
KeepsRequest Heeding later left request inputs = HeedingIsWaiting (Some later) request inputs

-- It waits with the request that it forwards later, or it has forwarded it.
abbrev pub ProbeIsWaiting : Habit → Option Contents → ℕ → Contents → List Input → Type 0
ProbeIsWaiting habit None left request inputs = (x : Input) (xs : List Input) → probe_turn habit request (inputs ++ x ∷ xs) ≡ last_turn habit x
ProbeIsWaiting habit (Some later) left request inputs = KeepsRequest habit later left request inputs

-- what it keeps where it asks with so many to go
abbrev pub AskingNow : ℕ → Contents → Option Contents → ℕ → Type 0
AskingNow left request None l = left ≡ 0
AskingNow left request (Some later) l = (later ≡ request) × (left ≡ suc l)

pub probe_forwards_once : (habit : Habit) → ForwardsOnce (probe_turn habit)
probe_forwards_once (Asking what times) = asking_forwards_once what (how_often times)
probe_forwards_once (TwoTurns what) = lawful.forwards_once (on_request_of what) (on_input_of what) (two_turns_keep what)
probe_forwards_once Heeding = heeding_forwards_once

pub probe_ends : (habit : Habit) → EndsAfterSix (probe_turn habit)
probe_ends (Asking what times) = asking_ends what times
probe_ends (TwoTurns what) = lawful.ends_after_six (on_request_of what) (on_input_of what) (two_turns_keep what)
probe_ends Heeding = heeding_ends

pub probe_forwards_same : (habit : Habit) → ForwardsTheSame (probe_turn habit)
probe_forwards_same (Asking what times) = asking_forwards_same what (how_often times)
probe_forwards_same (TwoTurns what) = lawful.forwards_the_same (on_request_of what) (on_input_of what) (two_turns_keep what)
probe_forwards_same Heeding = heeding_forwards_same

pub probe_answered : (habit : Habit) → QuestionsAreAnswered (probe_turn habit)
probe_answered (Asking what times) = asking_answered what (how_often times)
probe_answered (TwoTurns what) = lawful.questions_are_answered (on_request_of what) (on_input_of what) (two_turns_keep what)
probe_answered Heeding = heeding_answered

pub probe_returns : (habit : Habit) → ReturnsAnAnswer (probe_turn habit)
probe_returns (Asking what times) = asking_returns what (how_often times)
probe_returns (TwoTurns what) = lawful.returns_an_answer (on_request_of what) (on_input_of what) (two_turns_keep what)
probe_returns Heeding = heeding_returns
