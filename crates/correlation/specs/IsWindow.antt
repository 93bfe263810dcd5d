-- When a window stands for a state of the machine, whose list of sends is whole and for good.
use Rattle.std.specs.Prelude.{◌≡◌, ℕ, suc, ◌+◌, ◌<◌, ◌≤◌, not, true, false, List, [], ◌∷◌, ◌++◌, length, map, drop, slice_get, Option, Some, None, ℤ, pos, Ok, Err}
use Rattle.conn_rules.specs.State.{ListedSend, State, opening, upstream_id, upstream_frame, responding, asked, due_send, waiting}
use Rattle.correlation.specs.declared.owner.Owner.{Owner}
use Rattle.correlation.specs.declared.owner.Numbered.{Numbered}
use Rattle.correlation.specs.declared.owner.AnswerRefusal.TheVariants.{Unasked, Mismatch}
use Rattle.correlation.specs.declared.sends.Unsent.{Unsent}
use Rattle.correlation.specs.Windows.{Window, fresh_window, with_listed, first_frame, with_taken, due_owner, owner_of_frame, with_answered}

-- whose a send of the machine is
abbrev pub owner_of : ListedSend → Owner
owner_of d = record { request = d.request; main = d.main; silent = not d.responds; before = d.before }

abbrev pub numbered : ℕ × ListedSend → Numbered
numbered send = record { number = send.0; owner = owner_of send.1 }

-- the frames of sends, the first of them number j
abbrev pub unsent_from : ℕ → List ListedSend → List Unsent
unsent_from j [] = []
unsent_from j (d ∷ ds) = record { silent = not d.responds; frame = upstream_frame j d } ∷ unsent_from (suc j) ds

pub record IsWindow (s : State) (w : Window) : Type 0 where
  pub next_is : w.next ≡ length s.sends
  pub waiting_is : w.waiting ≡ waiting s
  pub owners_are : w.owners ≡ map numbered (drop s.answered (responding 0 s.sends))
  pub unsent_are : w.unsent ≡ unsent_from s.taken (drop s.taken s.sends)
  pub taken_there : s.taken ≤ length s.sends
  pub answered_asked : s.answered ≤ length (asked s)

-- What a window knows of a state is its sends and two counts.
abbrev pub SameSends : State → State → Type 0
SameSends s t = (t.sends ≡ s.sends) × (t.taken ≡ s.taken) × (t.answered ≡ s.answered)

-- the state with one send more, with one more taken, and with one more answered
abbrev pub one_listed : ListedSend → State → State
one_listed d s = record s { sends = s.sends ++ d ∷ [] }

abbrev pub one_taken : State → State
one_taken s = record s { taken = s.taken + 1 }

abbrev pub one_answered : State → State
one_answered s = record s { answered = s.answered + 1 }

pub record WindowLaws : Type 0 where
  pub opens : IsWindow opening fresh_window
  -- what else changes in a state doesn't concern its window
  pub stays : (s t : State) (w : Window) → SameSends s t → IsWindow s w → IsWindow t w
  pub lists : (s : State) (w : Window) (d : ListedSend) → IsWindow s w → IsWindow (one_listed d s) (with_listed (owner_of d) (upstream_frame w.next d) w)
  -- the first frame that wasn't taken is the next send's
  pub first : (s : State) (w : Window) (d : ListedSend) → IsWindow s w → slice_get s.sends s.taken ≡ Some d → (first_frame w.unsent ≡ Some (upstream_frame s.taken d)) × IsWindow (one_taken s) (with_taken w)
  pub no_first : (s : State) (w : Window) → IsWindow s w → slice_get s.sends s.taken ≡ None → (first_frame w.unsent ≡ None) × (with_taken w ≡ w)
  -- the send that is due is the machine's
  pub due_is : (s : State) (w : Window) (due : ℕ × ListedSend) → IsWindow s w → due_send s ≡ Some due → due_owner w ≡ Some (numbered due)
  pub none_due : (s : State) (w : Window) → IsWindow s w → due_send s ≡ None → due_owner w ≡ None
  pub answers : (s : State) (w : Window) (due : ℕ × ListedSend) (owner : Owner) → IsWindow s w → due_send s ≡ Some due → IsWindow (one_answered s) (with_answered (Ok owner) w)
