-- What a value of the program is that stands for a connection: it means something by its requests, it stands for states
-- of the machine, and its calls lead from state to state.
use Rattle.std.specs.Prelude.{◌≡◌, ℕ, List, Result, Ok, Err}
use Rattle.conn_rules.specs.declared.event.Event.{Event}
use Rattle.conn_rules.specs.declared.event.Reply.{Reply}
use Rattle.conn_rules.specs.declared.event.TakeFault.{TakeFault}
use Rattle.conn_rules.specs.declared.event.TakeFault.TheVariants as take_fault
use Rattle.conn_rules.specs.declared.event.AnswerFault.{AnswerFault}
use Rattle.conn_rules.specs.declared.event.AnswerFault.TheVariants as answer_fault
use Rattle.conn_rules.specs.declared.event.CompleteFault.{CompleteFault}
use Rattle.conn_rules.specs.declared.event.CompleteFault.TheVariants as complete_fault
use Rattle.conn_rules.specs.Meaning.{Meaning}
use Rattle.conn_rules.specs.State.{State}
use Rattle.conn_rules.specs.Steps.{Step, StepOrNoMemory}
use Rattle.conn_rules.specs.Work.{TakesGrowth}
use Rattle.conn_rules.specs.History.{Entry, LeadsTo}

module _ {C : Type 0} (meaning : C → Meaning) (stands : C → State → Type 0) where
  -- Whatever state the old value stands for, the machine may answer so to the event, and go on to a state that the new
  -- value stands for. The meaning stays.
  abbrev pub Follows : C → Event → Reply → C → Type 0
  Follows old e r new = (meaning new ≡ meaning old) × ((s : State) → stands old s → (t : State) × StepOrNoMemory (meaning old) s e r t × stands new t)

  -- Nothing is worked out anew: the steps that are counted at an event are those by which the work of all requests grows as
  -- the machine goes on. A refusal counts none. Where memory is wanting, this says nothing.
  abbrev pub CountsWork : C → Event → Reply → (before after : ℕ) → Type 0
  CountsWork old e r before after = (s t : State) → stands old s → Step (meaning old) s e r t → TakesGrowth (meaning old) before after s t

  -- the same of many events, one after another
  abbrev pub Brings : C → List Entry → C → Type 0
  Brings old hs new = (meaning new ≡ meaning old) × ((s : State) → stands old s → (t : State) × LeadsTo (meaning old) s hs t × stands new t)

-- What a refusal hands back is what was handed in.
abbrev pub FrameComesBack : List ℕ → Result (Unit {0}) TakeFault → Type 0
FrameComesBack frame (Ok _) = Unit {0}
FrameComesBack frame (Err (take_fault.Ending back)) = back ≡ frame
FrameComesBack frame (Err (take_fault.Full count held back)) = back ≡ frame
FrameComesBack frame (Err take_fault.NoMemory) = Unit {0}

abbrev pub AnswerComesBack : List ℕ → Result (Unit {0}) AnswerFault → Type 0
AnswerComesBack frame (Ok _) = Unit {0}
AnswerComesBack frame (Err (answer_fault.Dead back)) = back ≡ frame
AnswerComesBack frame (Err answer_fault.NoMemory) = Unit {0}

abbrev pub VerdictComesBack : List ℕ → Result (Unit {0}) CompleteFault → Type 0
VerdictComesBack verdict (Ok _) = Unit {0}
VerdictComesBack verdict (Err (complete_fault.NotWaiting back)) = back ≡ verdict
VerdictComesBack verdict (Err complete_fault.NoMemory) = Unit {0}
