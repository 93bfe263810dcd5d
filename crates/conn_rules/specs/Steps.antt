-- One event: what is answered, and how the connection stands then.
use Rattle.std.specs.Prelude.{◌≡◌, ℕ, suc, ◌+◌, ◌==◌, ◌&&◌, ◌||◌, not, Bool, false, is_some, if◌then◌else◌, List, [], ◌∷◌, ◌++◌, length, drop, slice_get, Option, Some, None, Ok, Err, pos, ◌⊎◌, IsTrue}
use Rattle.std.specs.List.{list_any}
use Rattle.std.specs.Ordering.{int_eq}
use Rattle.kp_edge.specs.declared.end.End.{End}
use Rattle.kp_edge.specs.declared.end.End.TheVariants as end
use Rattle.conn_rules.specs.declared.event.Event.{Event}
use Rattle.conn_rules.specs.declared.event.Event.TheVariants as event
use Rattle.conn_rules.specs.declared.event.Reply.{Reply}
use Rattle.conn_rules.specs.declared.event.Reply.TheVariants as reply
use Rattle.conn_rules.specs.declared.event.Fault.{Fault}
use Rattle.conn_rules.specs.declared.event.Fault.TheVariants as fault
use Rattle.conn_rules.specs.declared.event.Emit.TheVariants as emit
use Rattle.conn_rules.specs.declared.event.TakeFault.TheVariants as take_fault
use Rattle.conn_rules.specs.declared.event.AnswerFault.TheVariants as answer_fault
use Rattle.conn_rules.specs.declared.event.CompleteFault.TheVariants as complete_fault
use Rattle.conn_rules.specs.Meaning.{Meaning, Hold, Status, Waits, Done, Fails}
use Rattle.conn_rules.specs.State.{Body, Verdict, Request, ListedSend, State, cut_at, dead, halted, in_flight, held, give, upstream_id, upstream_frame, due_send, waiting}
use Rattle.conn_rules.specs.Causes.{below, cut_cause, with_told, are_ending, are_dead, are_still, broker_ended, after_client_end}
use Rattle.conn_rules.specs.Settling.{Settles}
use Rattle.framing.specs.CorrelationIds.{response_id}

-- Take: the frame becomes the next request, or is the cause of a cut in its place.
abbrev pub joined : Option (ℕ → End) → List ℕ → State → State
joined None frame s = record s { requests = s.requests ++ record { frame = frame; given = [] } ∷ [] }
joined (Some why) frame s = cut_at (length s.requests) (why (length s.requests)) s

abbrev pub take_step : Meaning → State → List ℕ → Reply × State
take_step M s frame =
    if are_ending s.causes then (reply.Take (Err (take_fault.Ending frame)), s)
    else if M.room (in_flight s) (held s) (length frame) then (reply.Take (Ok tt), joined (M.no_request frame) frame s)
    else (reply.Take (Err (take_fault.Full (in_flight s) (held s) frame)), s)

-- Answer: the frame belongs to the send that is due, if its correlation id says so.
abbrev pub read_body : Option (ℕ → End) → ℕ → List ℕ → State → State
read_body None k body s = give k (Body body) s
read_body (Some why) k body s = cut_at k (why k) s

abbrev pub matched : Meaning → State → ListedSend → List ℕ → State
matched M s d body =
    let t = record s { answered = s.answered + 1 } in
    if below s.causes.cut d.request then read_body (M.unreadable d.before body) d.request body t else t

abbrev pub attributed : Meaning → State → List ℕ → Option (ℕ × ListedSend) → State
attributed M s frame None = dead (end.Unasked (response_id frame)) s
attributed M s frame (Some due) =
    if int_eq (response_id frame) (pos (upstream_id due.0)) then matched M s due.1 (drop 4 frame)
    else dead (end.Mismatch (pos (upstream_id due.0)) (response_id frame)) s

abbrev pub answer_step : Meaning → State → List ℕ → Reply × State
answer_step M s frame =
    if are_dead s.causes then (reply.Answer (Err (answer_fault.Dead frame)), s)
    else (reply.Answer (Ok tt), attributed M s frame (due_send s))

-- the hold that a request with this status waits for: the ask's number and its key
abbrev pub hold_of : ℕ → Status → Option (ℕ × List ℕ)
hold_of i (Waits (Hold key)) = Some (i, key)
hold_of i _ = None

-- the same of a request, if it is there and below the cut
abbrev pub hold_in : Meaning → Option (ℕ × End) → ℕ → Option Request → Option (ℕ × List ℕ)
hold_in M cut k None = None
hold_in M cut k (Some r) = if below cut k then hold_of (length r.given) (M.status r.frame r.given) else None

abbrev pub open_hold : Meaning → State → ℕ → Option (ℕ × List ℕ)
open_hold M s k = hold_in M s.causes.cut k (slice_get s.requests k)

abbrev pub is_hold : ℕ → Option (ℕ × List ℕ) → Bool
is_hold i None = false
is_hold i (Some hold) = hold.0 == i

abbrev pub complete_step : Meaning → State → (k i : ℕ) → List ℕ → Reply × State
complete_step M s k i verdict =
    if not (are_still s.causes) && is_hold i (open_hold M s k) then (reply.Complete (Ok tt), give k (Verdict verdict) s)
    else (reply.Complete (Err (complete_fault.NotWaiting verdict)), s)

-- The ends of the streams, and what failed outside.
abbrev pub client_end : ℕ → State → State
client_end rest s = record s { causes = after_client_end (length s.requests) rest s.causes }

abbrev pub faulted : Meaning → State → Fault → State
faulted M s fault.ClientRead = cut_at (length s.requests) end.ClientReadFault s
faulted M s fault.ClientWrite = halted end.ClientWriteFault s
faulted M s fault.BrokerRead = dead end.BrokerReadFault s
faulted M s fault.BrokerWrite = dead end.BrokerWriteFault s
faulted M s (fault.ClientBadSize at size) = cut_at (length s.requests) (end.BadSize at size) s
faulted M s (fault.BrokerBadSize at size) = dead (end.BrokerBadSize at size) s
faulted M s (fault.Authority k) = if is_some (open_hold M s k) then cut_at k (end.AuthorityFault k) s else s
faulted M s fault.Thread = halted end.ThreadRefused s
faulted M s fault.NoMemory = halted end.NoMemory s

-- after Over they change nothing
abbrev pub noted : State → State → Reply × State
noted s t = (reply.Noted, if is_some s.causes.over then s else t)

-- Send: the next one in the list, with its size.
abbrev pub sent_next : State → Option ListedSend → Reply × State
sent_next s None = (reply.Send None, s)
sent_next s (Some d) = (reply.Send (Some (upstream_frame s.taken d)), record s { taken = s.taken + 1 })

abbrev pub send_step : State → Reply × State
send_step s = if is_some s.causes.death || is_some s.causes.halt then (reply.Send None, s) else sent_next s (slice_get s.sends s.taken)

-- Pick: the hold of the least request that waits for one and wasn't handed out.
abbrev pub hold_or_later : List (ℕ × ℕ) → ℕ → Option (ℕ × List ℕ) → Option (ℕ × ℕ × List ℕ) → Option (ℕ × ℕ × List ℕ)
hold_or_later picked k None later = later
hold_or_later picked k (Some hold) later = if list_any (λ p. (p.0 == k) && (p.1 == hold.0)) picked then later else Some (k, hold.0, hold.1)

abbrev pub first_hold : Meaning → Option (ℕ × End) → List (ℕ × ℕ) → ℕ → List Request → Option (ℕ × ℕ × List ℕ)
first_hold M cut picked k [] = None
first_hold M cut picked k (r ∷ rs) = hold_or_later picked k (hold_in M cut k (Some r)) (first_hold M cut picked (suc k) rs)

abbrev pub picked_next : State → Option (ℕ × ℕ × List ℕ) → Reply × State
picked_next s None = (reply.Pick None, s)
picked_next s (Some hold) = (reply.Pick (Some (record { request = hold.0; index = hold.1; key = hold.2 })), record s { picked = s.picked ++ (hold.0, hold.1) ∷ [] })

abbrev pub pick_step : Meaning → State → Reply × State
pick_step M s = if are_still s.causes then (reply.Pick None, s) else picked_next s (first_hold M s.causes.cut s.picked 0 s.requests)

abbrev pub look_step : State → Reply × State
look_step s = (reply.Look (record { over = is_some s.causes.over; dead = is_some s.causes.death || is_some s.causes.halt; in_flight = in_flight s; held = held s }), s)

-- Emit: the oldest request that no emit step has passed gets its response once it is done. Silent requests
-- that are done are passed over. A cut comes in its request's turn, death only where nothing is done.
abbrev pub response_of : Status → Option (List ℕ)
response_of (Done response) = Some response
response_of (Waits ask) = None
response_of (Fails why) = None

abbrev pub response_in : Meaning → Option Request → Option (List ℕ)
response_in M None = None
response_in M (Some r) = response_of (M.status r.frame r.given)

-- how many requests from number k on, in a row, are silent, done and below the cut
abbrev pub silent_run : Meaning → Option (ℕ × End) → ℕ → List Request → ℕ
silent_run M cut k [] = 0
silent_run M cut k (r ∷ rs) =
    if below cut k && M.silent r.frame && is_some (response_of (M.status r.frame r.given)) then suc (silent_run M cut (suc k) rs) else 0

abbrev pub silent_passed : Meaning → State → State
silent_passed M s = record s { passed = s.passed + silent_run M s.causes.cut s.passed (drop s.passed s.requests) }

abbrev pub over_with : End → State → Reply × State
over_with why s = (reply.Emit (emit.Over why), record s { causes = with_told why s.causes })

abbrev pub over_or : Option End → State → Reply × State → Reply × State
over_or None s later = later
over_or (Some why) s later = over_with why s

abbrev pub respond_or : Option (List ℕ) → State → Reply × State → Reply × State
respond_or None s later = later
respond_or (Some response) s later = (reply.Emit (emit.Bytes response), record s { passed = s.passed + 1 })

abbrev pub emit_next : Meaning → State → Reply × State
emit_next M s =
    over_or (cut_cause s.causes.cut s.passed) s
    (respond_or (response_in M (slice_get s.requests s.passed)) s
    (over_or s.causes.death s (reply.Emit emit.Later, s)))

abbrev pub told_again : Option End → State → Reply × State → Reply × State
told_again None s later = later
told_again (Some why) s later = (reply.Emit (emit.Over why), s)

abbrev pub emit_step : Meaning → State → Reply × State
emit_step M s = told_again s.causes.over s (over_or s.causes.halt s (emit_next M (silent_passed M s)))

-- what is answered to an event, and the state before it settles
abbrev pub answer_to : Meaning → State → Event → Reply × State
answer_to M s (event.Take frame) = take_step M s frame
answer_to M s (event.Answer frame) = answer_step M s frame
answer_to M s (event.Complete k i verdict) = complete_step M s k i verdict
answer_to M s (event.ClientEnd rest) = noted s (client_end rest s)
answer_to M s (event.BrokerEnd rest) = noted s (dead (broker_ended rest (waiting s)) s)
answer_to M s (event.Fault x) = noted s (faulted M s x)
answer_to M s event.Send = send_step s
answer_to M s event.Emit = emit_step M s
answer_to M s event.Pick = pick_step M s
answer_to M s event.Look = look_step s

-- One step of the machine.
pub record Step (M : Meaning) (s : State) (e : Event) (r : Reply) (t : State) : Type 0 where
  pub reply : r ≡ (answer_to M s e).0
  pub settles : Settles M (answer_to M s e).1 t

-- the answer that want of memory gives in place of an Ok
abbrev pub memory_answer : Reply → Option Reply
memory_answer (reply.Take (Ok _)) = Some (reply.Take (Err take_fault.NoMemory))
memory_answer (reply.Answer (Ok _)) = Some (reply.Answer (Err answer_fault.NoMemory))
memory_answer (reply.Complete (Ok _)) = Some (reply.Complete (Err complete_fault.NoMemory))
memory_answer _ = None

-- Which events take memory, among those that an Ok answers. A broker's frame does where it has a request to go to.
abbrev pub TakesMemory : State → Event → Type 0
TakesMemory s (event.Take frame) = Unit {0}
TakesMemory s (event.Answer frame) = (due : ℕ × ListedSend) × (due_send s ≡ Some due) × (response_id frame ≡ pos (upstream_id due.0)) × IsTrue (below s.causes.cut due.1.request)
TakesMemory s (event.Complete k i verdict) = Unit {0}
TakesMemory s _ = ⊥

-- Want of memory, in place of Ok and of nothing else: the connection halts, and all else stays.
pub record GivesUp (M : Meaning) (s : State) (e : Event) (r : Reply) (t : State) : Type 0 where
  pub takes : TakesMemory s e
  pub reply : memory_answer (answer_to M s e).0 ≡ Some r
  pub halts : t ≡ halted end.NoMemory s

-- what may happen at an event: the step, or want of memory. The machine has no other choice
abbrev pub StepOrNoMemory : Meaning → State → Event → Reply → State → Type 0
StepOrNoMemory M s e r t = Step M s e r t ⊎ GivesUp M s e r t
