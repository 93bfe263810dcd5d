-- The origin of a halt, a cut or a death: the entry of the history that brought it, and which entry that is. Each line of
-- the tables `HaltComesOf`, `DeathComesOf` and `CutComesOf` is a row of docs/ENDS.md.
use Rattle.std.specs.Prelude.{◌≡◌, ◌≢◌, ◌<◌, ◌⊎◌, ℕ, Bool, true, false, is_some, List, ◌∷◌, ◌++◌, length, drop, slice_get, Some, None, Ok, Err, pos}
use Rattle.framing.specs.CorrelationIds.{response_id}
use Rattle.kp_edge.specs.declared.end.End.{End}
use Rattle.kp_edge.specs.declared.end.End.TheVariants as end
use Rattle.conn_rules.specs.declared.event.Event.TheVariants as event
use Rattle.conn_rules.specs.declared.event.Reply.{Reply}
use Rattle.conn_rules.specs.declared.event.Reply.TheVariants as reply
use Rattle.conn_rules.specs.declared.event.Fault.TheVariants as fault
use Rattle.conn_rules.specs.declared.event.TakeFault.TheVariants as take_fault
use Rattle.conn_rules.specs.declared.event.AnswerFault.TheVariants as answer_fault
use Rattle.conn_rules.specs.declared.event.CompleteFault.TheVariants as complete_fault
use Rattle.conn_rules.specs.Meaning.{Meaning, Fails}
use Rattle.conn_rules.specs.State.{Request, ListedSend, State, upstream_id, due_send, waiting}
use Rattle.conn_rules.specs.Causes.{below}
use Rattle.conn_rules.specs.Steps.{open_hold, StepOrNoMemory}
use Rattle.conn_rules.specs.History.{Entry, LeadsTo, IsHistory}

-- One entry of a history that led to s: what came earlier and what came later, and the states right before the entry and
-- right behind it.
pub record Moment (M : Meaning) (hs : List Entry) (s : State) : Type 0 where
  pub earlier : List Entry
  pub entry : Entry
  pub later : List Entry
  pub before : State
  pub behind : State
  pub parts : hs ≡ earlier ++ entry ∷ later
  pub history : IsHistory M earlier before
  pub step : StepOrNoMemory M before entry.event entry.reply behind
  pub leads : LeadsTo M behind later s

-- whether this is the answer that want of memory gives
abbrev pub wants_memory : Reply → Bool
wants_memory (reply.Take (Err take_fault.NoMemory)) = true
wants_memory (reply.Answer (Err answer_fault.NoMemory)) = true
wants_memory (reply.Complete (Err complete_fault.NoMemory)) = true
wants_memory _ = false

-- Halts, by their ends. The entry is a fault, or its answer is want of memory.
abbrev pub HaltComesOf : End → Entry → Type 0
HaltComesOf end.ClientWriteFault h = h.event ≡ event.Fault fault.ClientWrite
HaltComesOf end.ThreadRefused h = h.event ≡ event.Fault fault.Thread
HaltComesOf end.NoMemory h = (h.event ≡ event.Fault fault.NoMemory) ⊎ (wants_memory h.reply ≡ true)
HaltComesOf _ h = ⊥

-- Deaths, by their ends, where the connection stood so before the entry.
abbrev pub DeathComesOf : End → State → Entry → Type 0
DeathComesOf (end.BrokerEnd waits) s h = (h.event ≡ event.BrokerEnd 0) × (waits ≡ waiting s)
DeathComesOf (end.BrokerTorn rest) s h = (h.event ≡ event.BrokerEnd rest) × (0 < rest)
DeathComesOf (end.BrokerBadSize at size) s h = h.event ≡ event.Fault (fault.BrokerBadSize at size)
DeathComesOf (end.Unasked found) s h =
    (frame : List ℕ) × (h.event ≡ event.Answer frame) × (h.reply ≡ reply.Answer (Ok tt)) × (response_id frame ≡ found) × (due_send s ≡ None)
DeathComesOf (end.Mismatch expected found) s h =
    (frame : List ℕ) × (due : ℕ × ListedSend) × (h.event ≡ event.Answer frame) × (h.reply ≡ reply.Answer (Ok tt)) × (response_id frame ≡ found)
    × (due_send s ≡ Some due) × (pos (upstream_id due.0) ≡ expected) × (found ≢ expected)
DeathComesOf end.BrokerReadFault s h = h.event ≡ event.Fault fault.BrokerRead
DeathComesOf end.BrokerWriteFault s h = h.event ≡ event.Fault fault.BrokerWrite
DeathComesOf _ s h = ⊥

-- Cuts at request k that the event alone brings, by their ends, where the connection stood so before the entry.
abbrev pub CutComesOf : Meaning → End → ℕ → State → Entry → Type 0
CutComesOf M end.Ended k s h = (h.event ≡ event.ClientEnd 0) × (k ≡ length s.requests) × (s.causes.death ≡ None)
CutComesOf M (end.ClientTorn rest) k s h = (h.event ≡ event.ClientEnd rest) × (0 < rest) × (k ≡ length s.requests) × (s.causes.death ≡ None)
CutComesOf M (end.BadSize at size) k s h = (h.event ≡ event.Fault (fault.ClientBadSize at size)) × (k ≡ length s.requests)
CutComesOf M end.ClientReadFault k s h = (h.event ≡ event.Fault fault.ClientRead) × (k ≡ length s.requests)
CutComesOf M (end.AuthorityFault request) k s h = (h.event ≡ event.Fault (fault.Authority k)) × (request ≡ k) × (is_some (open_hold M s k) ≡ true)
CutComesOf M _ k s h = ⊥

-- Cuts by the meaning of requests, which gives their ends. The frame of a Take was to be request k, and is none.
pub record IsCutByFrame (M : Meaning) (s : State) (h : Entry) (k : ℕ) (why : End) : Type 0 where
  pub frame : List ℕ
  pub is_take : h.event ≡ event.Take frame
  pub accepted : h.reply ≡ reply.Take (Ok tt)
  pub place : k ≡ length s.requests
  pub cause : ℕ → End
  pub no_request : M.no_request frame ≡ Some cause
  pub end_is : why ≡ cause k

-- The broker's frame answers the due send, which is for request k below the cut. Its body can't be read.
pub record IsCutByAnswer (M : Meaning) (s : State) (h : Entry) (k : ℕ) (why : End) : Type 0 where
  pub frame : List ℕ
  pub is_answer : h.event ≡ event.Answer frame
  pub accepted : h.reply ≡ reply.Answer (Ok tt)
  pub due : ℕ × ListedSend
  pub is_due : due_send s ≡ Some due
  pub own_id : response_id frame ≡ pos (upstream_id due.0)
  pub place : k ≡ due.1.request
  pub cause : ℕ → End
  pub unreadable : M.unreadable due.1.before (drop 4 frame) ≡ Some cause
  pub end_is : why ≡ cause k

-- Request k fails, as it stands right behind the entry.
pub record IsCutByStatus (M : Meaning) (t : State) (k : ℕ) (why : End) : Type 0 where
  pub request : Request
  pub there : slice_get t.requests k ≡ Some request
  pub cause : ℕ → End
  pub fails : M.status request.frame request.given ≡ Fails cause
  pub end_is : why ≡ cause k

-- Where the halt comes from. No end was told before, and none had halted the connection.
pub record HaltOrigin (M : Meaning) (hs : List Entry) (s : State) (why : End) : Type 0 where
  pub moment : Moment M hs s
  pub untold : moment.before.causes.over ≡ None
  pub first : moment.before.causes.halt ≡ None
  pub stands : moment.behind.causes.halt ≡ Some why
  pub comes : HaltComesOf why moment.entry

-- Where the death comes from.
pub record DeathOrigin (M : Meaning) (hs : List Entry) (s : State) (why : End) : Type 0 where
  pub moment : Moment M hs s
  pub untold : moment.before.causes.over ≡ None
  pub first : moment.before.causes.death ≡ None
  pub stands : moment.behind.causes.death ≡ Some why
  pub comes : DeathComesOf why moment.before moment.entry

-- Where the cut at request k comes from. No cut stood there before, nor at a request before it. What stands at number k, a
-- request or none, is the same ever after.
pub record CutOrigin (M : Meaning) (hs : List Entry) (s : State) (k : ℕ) (why : End) : Type 0 where
  pub moment : Moment M hs s
  pub untold : moment.before.causes.over ≡ None
  pub first : below moment.before.causes.cut k ≡ true
  pub stands : moment.behind.causes.cut ≡ Some (k, why)
  pub stays : slice_get s.requests k ≡ slice_get moment.behind.requests k
  pub comes : CutComesOf M why k moment.before moment.entry
      ⊎ IsCutByFrame M moment.before moment.entry k why
      ⊎ IsCutByAnswer M moment.before moment.entry k why
      ⊎ IsCutByStatus M moment.behind k why

-- Where an end comes from that the client's writer was told: from a halt, from the cut at the next request, or from a death.
abbrev pub ToldOrigin : Meaning → List Entry → State → End → Type 0
ToldOrigin M hs s why = HaltOrigin M hs s why ⊎ CutOrigin M hs s s.passed why ⊎ DeathOrigin M hs s why
