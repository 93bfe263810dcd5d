-- All events but Take and Emit give the client nothing, and take and pass no request.
use Rattle.std.proofs.Common.{◌≡◌, ℕ, ◌+◌, Bool, true, false, ◌&&◌, ◌||◌, not, if◌then◌else◌, is_some, List, [], refl, drop, length, Option, Some, None, Ok, Err, slice_get, pos}
use Rattle.std.specs.Ordering.{int_eq}
use Rattle.kp_edge.specs.declared.end.End.{End}
use Rattle.kp_edge.specs.declared.end.End.TheVariants as end
use Rattle.conn_rules.specs.declared.event.Event.{Event}
use Rattle.conn_rules.specs.declared.event.Event.TheVariants as event
use Rattle.conn_rules.specs.declared.event.Reply.{Reply}
use Rattle.conn_rules.specs.declared.event.Reply.TheVariants as reply
use Rattle.conn_rules.specs.declared.event.Fault.{Fault}
use Rattle.conn_rules.specs.declared.event.Fault.TheVariants as fault
use Rattle.conn_rules.specs.declared.event.TakeFault.TheVariants as take_fault
use Rattle.conn_rules.specs.declared.event.AnswerFault.TheVariants as answer_fault
use Rattle.conn_rules.specs.declared.event.CompleteFault.TheVariants as complete_fault
use Rattle.conn_rules.specs.Meaning.{Meaning}
use Rattle.conn_rules.specs.State.{Body, Verdict, ListedSend, State, upstream_id, due_send, waiting}
use Rattle.conn_rules.specs.Causes.{below, with_cut, client_ended, broker_ended, are_dead, are_still}
use Rattle.framing.specs.CorrelationIds.{response_id}
use Rattle.conn_rules.specs.Steps.{read_body, matched, attributed, answer_step, open_hold, is_hold, complete_step, client_end, faulted, noted, sent_next, first_hold, picked_next, answer_to, memory_answer}
use Rattle.conn_rules.specs.History.{to_client}
use Rattle.conn_rules.proofs.Keeps.{Keeps, keeps_all, keeps_same, keeps_keeps, keeps_either, keeps_give, keeps_cut, keeps_dead, keeps_halted}

pub record Quiet (s : State) (answer : Reply × State) : Type 0 where
  pub keeps : Keeps s [] answer.1
  pub silent : to_client answer.0 ≡ []

-- all but Take and Emit
abbrev pub IsQuiet : Event → Type 0
IsQuiet (event.Take frame) = ⊥
IsQuiet (event.Answer frame) = Unit {0}
IsQuiet (event.Complete k i verdict) = Unit {0}
IsQuiet (event.ClientEnd rest) = Unit {0}
IsQuiet (event.BrokerEnd rest) = Unit {0}
IsQuiet (event.Fault x) = Unit {0}
IsQuiet event.Send = Unit {0}
IsQuiet event.Emit = ⊥
IsQuiet event.Pick = Unit {0}
IsQuiet event.Look = Unit {0}

pub quiet_either : (s : State) (b : Bool) (x y : Reply × State) → Quiet s x → Quiet s y → Quiet s (if b then x else y)
quiet_either s true x y h k = h
quiet_either s false x y h k = k

module _ (M : Meaning) (s : State) where
  pub quiet_same : (r : Reply) → to_client r ≡ [] → Quiet s (r, s)
  quiet_same r none = record { keeps = keeps_same s; silent = none }

  keeps_counted : Keeps s [] (record s { answered = s.answered + 1 })
  keeps_counted = keeps_all s _ refl refl refl (λ e. e)

  keeps_body : (why : Option (ℕ → End)) (k : ℕ) (body : List ℕ) (t : State) → Keeps s [] t → Keeps s [] (read_body why k body t)
  keeps_body None k body t h = keeps_keeps s t _ [] h (keeps_give k (Body body) t)
  keeps_body (Some why) k body t h = keeps_keeps s t _ [] h (keeps_cut k (why k) t)

  keeps_matched : (d : ListedSend) (body : List ℕ) → Keeps s [] (matched M s d body)
  keeps_matched d body =
      let t : State = record s { answered = s.answered + 1 } in
      keeps_either (below s.causes.cut d.request) s _ t [] (keeps_body (M.unreadable d.before body) d.request body t keeps_counted) keeps_counted

  keeps_attributed : (frame : List ℕ) (due : Option (ℕ × ListedSend)) → Keeps s [] (attributed M s frame due)
  keeps_attributed frame None = keeps_dead (end.Unasked (response_id frame)) s
  keeps_attributed frame (Some due) =
      keeps_either (int_eq (response_id frame) (pos (upstream_id due.0))) s _ _ [] (keeps_matched due.1 (drop 4 frame))
      (keeps_dead (end.Mismatch (pos (upstream_id due.0)) (response_id frame)) s)

  quiet_answer : (frame : List ℕ) → Quiet s (answer_step M s frame)
  quiet_answer frame =
      quiet_either s (are_dead s.causes) _ _ (quiet_same _ refl) (record { keeps = keeps_attributed frame (due_send s); silent = refl })

  quiet_complete : (k i : ℕ) (verdict : List ℕ) → Quiet s (complete_step M s k i verdict)
  quiet_complete k i verdict =
      quiet_either s (not (are_still s.causes) && is_hold i (open_hold M s k)) _ _ (record { keeps = keeps_give k (Verdict verdict) s; silent = refl }) (quiet_same _ refl)

  quiet_noted : (t : State) → Keeps s [] t → Quiet s (noted s t)
  quiet_noted t h = record { keeps = keeps_either (is_some s.causes.over) s s t [] (keeps_same s) h; silent = refl }

  keeps_ended : (dead : Bool) (why : End) → Keeps s [] (record s { causes = if dead then s.causes else with_cut (length s.requests) why s.causes })
  keeps_ended true why = keeps_all s _ refl refl refl (λ e. e)
  keeps_ended false why = keeps_cut (length s.requests) why s

  keeps_client_end : (rest : ℕ) → Keeps s [] (client_end rest s)
  keeps_client_end rest = keeps_ended (is_some s.causes.death) (client_ended rest)

  keeps_fault : (x : Fault) → Keeps s [] (faulted M s x)
  keeps_fault fault.ClientRead = keeps_cut (length s.requests) end.ClientReadFault s
  keeps_fault fault.ClientWrite = keeps_halted end.ClientWriteFault s
  keeps_fault fault.BrokerRead = keeps_dead end.BrokerReadFault s
  keeps_fault fault.BrokerWrite = keeps_dead end.BrokerWriteFault s
  keeps_fault (fault.ClientBadSize at size) = keeps_cut (length s.requests) (end.BadSize at size) s
  keeps_fault (fault.BrokerBadSize at size) = keeps_dead (end.BrokerBadSize at size) s
  keeps_fault (fault.Authority k) = keeps_either (is_some (open_hold M s k)) s _ s [] (keeps_cut k (end.AuthorityFault k) s) (keeps_same s)
  keeps_fault fault.Thread = keeps_halted end.ThreadRefused s
  keeps_fault fault.NoMemory = keeps_halted end.NoMemory s

  quiet_sent : (next : Option ListedSend) → Quiet s (sent_next s next)
  quiet_sent None = quiet_same _ refl
  quiet_sent (Some d) = record { keeps = keeps_all s _ refl refl refl (λ e. e); silent = refl }

  quiet_picked : (hold : Option (ℕ × ℕ × List ℕ)) → Quiet s (picked_next s hold)
  quiet_picked None = quiet_same _ refl
  quiet_picked (Some hold) = record { keeps = keeps_all s _ refl refl refl (λ e. e); silent = refl }

  pub quiet_event : (e : Event) → IsQuiet e → Quiet s (answer_to M s e)
  quiet_event (event.Take frame) h = absurd h
  quiet_event (event.Answer frame) h = quiet_answer frame
  quiet_event (event.Complete k i verdict) h = quiet_complete k i verdict
  quiet_event (event.ClientEnd rest) h = quiet_noted _ (keeps_client_end rest)
  quiet_event (event.BrokerEnd rest) h = quiet_noted _ (keeps_dead (broker_ended rest (waiting s)) s)
  quiet_event (event.Fault x) h = quiet_noted _ (keeps_fault x)
  quiet_event event.Send h = quiet_either s (is_some s.causes.death || is_some s.causes.halt) _ _ (quiet_same _ refl) (quiet_sent (slice_get s.sends s.taken))
  quiet_event event.Emit h = absurd h
  quiet_event event.Pick h = quiet_either s (are_still s.causes) _ _ (quiet_same _ refl) (quiet_picked (first_hold M s.causes.cut s.picked 0 s.requests))
  quiet_event event.Look h = quiet_same _ refl

-- want of memory gives the client nothing
pub memory_gives : (r taken : Reply) → memory_answer taken ≡ Some r → to_client r ≡ []
memory_gives r (reply.Take (Ok _)) h = let e : r ≡ reply.Take (Err take_fault.NoMemory) = cc in rw e
memory_gives r (reply.Take (Err _)) h = cc
memory_gives r (reply.Answer (Ok _)) h = let e : r ≡ reply.Answer (Err answer_fault.NoMemory) = cc in rw e
memory_gives r (reply.Answer (Err _)) h = cc
memory_gives r (reply.Complete (Ok _)) h = let e : r ≡ reply.Complete (Err complete_fault.NoMemory) = cc in rw e
memory_gives r (reply.Complete (Err _)) h = cc
memory_gives r reply.Noted h = cc
memory_gives r (reply.Send _) h = cc
memory_gives r (reply.Emit _) h = cc
memory_gives r (reply.Pick _) h = cc
memory_gives r (reply.Look _) h = cc
