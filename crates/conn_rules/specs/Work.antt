-- How much work requests are, and that no more of it is done than there is.
use Rattle.std.specs.Prelude.{◌≡◌, ℕ, ◌+◌, Bool, true, false, List, sum_by, Ok}
use Rattle.conn_rules.specs.declared.event.Reply.{Reply}
use Rattle.conn_rules.specs.declared.event.Reply.TheVariants as reply
use Rattle.conn_rules.specs.Meaning.{Meaning}
use Rattle.conn_rules.specs.State.{State}
use Rattle.conn_rules.specs.Steps.{StepOrNoMemory}
use Rattle.conn_rules.specs.History.{Entry, IsHistory}

-- how many steps all requests take together
abbrev pub total_work : Meaning → State → ℕ
total_work M s = sum_by (λ r. M.work r.frame r.given) s.requests

-- From one count of steps to the other there are as many as the requests' work grew by, from one state to the other.
abbrev pub TakesGrowth : Meaning → (before after : ℕ) → (s t : State) → Type 0
TakesGrowth M before after s t = after + total_work M s ≡ before + total_work M t

-- whether a frame or a verdict is accepted
abbrev pub is_accepted : Reply → Bool
is_accepted (reply.Take (Ok _)) = true
is_accepted (reply.Answer (Ok _)) = true
is_accepted (reply.Complete (Ok _)) = true
is_accepted _ = false

-- the work of all requests stays at each entry that accepts nothing
abbrev pub WorkStays : Meaning → Type 0
WorkStays M = (hs : List Entry) (h : Entry) (s t : State) → IsHistory M hs s → StepOrNoMemory M s h.event h.reply t → is_accepted h.reply ≡ false → total_work M t ≡ total_work M s
