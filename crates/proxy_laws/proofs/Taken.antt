-- What a broker is sent in a history: the first of the sends, each under its upstream id.
use Rattle.std.proofs.Common.{◌≡◌, ◌∙◌, ap, refl, sym, subst, ℕ, zero, suc, ◌+◌, ◌≤◌, Bool, true, false, ◌&&◌, ◌||◌, not, is_some, if◌then◌else◌, List, [], ◌∷◌, ◌++◌, length, take, drop, append_assoc, append-nil, Option, Some, None, Ok, Err, slice_get, inl, inr, pos, arith}
use Rattle.std.specs.Ordering.{int_eq}
use Rattle.std.proofs.lemmas.List.{take-append-le, length-take-le, length-append}
use Rattle.kp_edge.specs.declared.end.End.{End}
use Rattle.kp_edge.specs.declared.end.End.TheVariants as end
use Rattle.framing.specs.CorrelationIds.{response_id}
use Rattle.conn_rules.specs.declared.event.Event.{Event}
use Rattle.conn_rules.specs.declared.event.Event.TheVariants as event
use Rattle.conn_rules.specs.declared.event.Reply.{Reply}
use Rattle.conn_rules.specs.declared.event.Reply.TheVariants as reply
use Rattle.conn_rules.specs.declared.event.Fault.{Fault}
use Rattle.conn_rules.specs.declared.event.Fault.TheVariants as fault
use Rattle.conn_rules.specs.declared.event.TakeFault.TheVariants as take_fault
use Rattle.conn_rules.specs.declared.event.AnswerFault.TheVariants as answer_fault
use Rattle.conn_rules.specs.declared.event.CompleteFault.TheVariants as complete_fault
use Rattle.conn_rules.specs.Meaning.{Meaning}
use Rattle.conn_rules.specs.State.{NoResponse, ListedSend, State, opening, cut_at, halted, in_flight, held, give, upstream_id, upstream_frame, due_send}
use Rattle.conn_rules.specs.Causes.{below, cut_cause, are_ending, are_dead, are_still}
use Rattle.conn_rules.specs.Settling.{Act, CutAt, Lists, acted, next_act, after_acts}
use Rattle.conn_rules.specs.Steps.{joined, read_body, matched, attributed, answer_step, open_hold, is_hold, complete_step, faulted, noted, sent_next, first_hold, picked_next, response_in, silent_passed, over_or, respond_or, told_again, emit_step, answer_to, memory_answer, StepOrNoMemory}
use Rattle.conn_rules.specs.History.{Entry, LeadsTo, IsHistory, to_broker, sent}
use Rattle.conn_rules.proofs.Lists.{one_more}
use Rattle.proxy_laws.specs.OwnResponses.{upstream_bytes}
use Rattle.proxy_laws.proofs.Lists.{inside}

upstream_more : (ds : List ListedSend) (d : ListedSend) (j : ℕ) → upstream_bytes j (ds ++ d ∷ []) ≡ upstream_bytes j ds ++ upstream_frame (j + length ds) d
upstream_more [] d j = append-nil (upstream_frame j d) ∙ ap (λ n. upstream_frame n d) (let z : j ≡ j + 0 = omega arith in z)
upstream_more (x ∷ ds) d j =
    ap (λ l. upstream_frame j x ++ l) (upstream_more ds d (suc j))
    ∙ ap (λ n. upstream_frame j x ++ (upstream_bytes (suc j) ds ++ upstream_frame n d)) (let z : suc j + length ds ≡ j + suc (length ds) = omega arith in z)
    ∙ sym (append_assoc (upstream_frame j x) (upstream_bytes (suc j) ds) (upstream_frame (j + suc (length ds)) d))

abbrev gone : State → List ℕ
gone s = upstream_bytes 0 (take s.taken s.sends)

-- from one state to another the broker's writer was given these bytes
record IsSending (s : State) (bytes : List ℕ) (t : State) : Type 0 where
  gone_is : gone t ≡ gone s ++ bytes
  within : t.taken ≤ length t.sends

-- no send was taken, and others may be listed
record IsIdle (s : State) (answer : Reply × State) : Type 0 where
  more : List ListedSend
  sends : answer.1.sends ≡ s.sends ++ more
  taken : answer.1.taken ≡ s.taken
  silent : to_broker answer.0 ≡ []

idle_as : (s t : State) (r : Reply) → t.sends ≡ s.sends → t.taken ≡ s.taken → to_broker r ≡ [] → IsIdle s (r, t)
idle_as s t r e k n = record { more = []; sends = e ∙ sym (append-nil s.sends); taken = k; silent = n }

idle_sending : (s : State) (answer : Reply × State) → s.taken ≤ length s.sends → IsIdle s answer → IsSending s (to_broker answer.0) answer.1
idle_sending s answer le h =
    record {
      gone_is =
          ap (λ n. upstream_bytes 0 (take n answer.1.sends)) h.taken ∙ ap (λ ds. upstream_bytes 0 (take s.taken ds)) h.sends ∙ ap (upstream_bytes 0) (take-append-le s.taken s.sends h.more le)
          ∙ sym (append-nil (gone s)) ∙ ap (λ l. gone s ++ l) (sym h.silent);
      within = subst (λ n. n ≤ length answer.1.sends) (sym h.taken) (subst (λ ds. s.taken ≤ length ds) (sym h.sends) (omega (arith, le, length-append s.sends h.more)));
    }

idle_either : (s : State) (b : Bool) (x y : Reply × State) → IsIdle s x → IsIdle s y → IsIdle s (if b then x else y)
idle_either s true x y h k = h
idle_either s false x y h k = k

-- states alike in their sends
record IsAlike (s t : State) : Type 0 where
  sends : t.sends ≡ s.sends
  taken : t.taken ≡ s.taken

alike_either : (s : State) (b : Bool) (t u : State) → IsAlike s t → IsAlike s u → IsAlike s (if b then t else u)
alike_either s true t u h k = h
alike_either s false t u h k = k

alike_idle : (s t : State) (r : Reply) → IsAlike s t → to_broker r ≡ [] → IsIdle s (r, t)
alike_idle s t r h n = idle_as s t r h.sends h.taken n

module _ (M : Meaning) (s : State) where
  same : IsAlike s s
  same = record { sends = refl; taken = refl }

  alike_joined : (frame : List ℕ) (why : Option (ℕ → End)) → IsAlike s (joined why frame s)
  alike_joined frame None = record { sends = refl; taken = refl }
  alike_joined frame (Some why) = record { sends = refl; taken = refl }

  idle_take : (frame : List ℕ) → IsIdle s (answer_to M s (event.Take frame))
  idle_take frame =
      idle_either s (are_ending s.causes) _ _ (alike_idle s s _ same refl)
      (idle_either s (M.room (in_flight s) (held s) (length frame)) _ _ (alike_idle s _ _ (alike_joined frame (M.no_request frame)) refl) (alike_idle s s _ same refl))

  alike_body : (why : Option (ℕ → End)) (k : ℕ) (body : List ℕ) → IsAlike s (read_body why k body (record s { answered = s.answered + 1 }))
  alike_body None k body = record { sends = refl; taken = refl }
  alike_body (Some why) k body = record { sends = refl; taken = refl }

  alike_matched : (d : ListedSend) (body : List ℕ) → IsAlike s (matched M s d body)
  alike_matched d body = alike_either s (below s.causes.cut d.request) _ _ (alike_body (M.unreadable d.before body) d.request body) (record { sends = refl; taken = refl })

  alike_attributed : (frame : List ℕ) (due : Option (ℕ × ListedSend)) → IsAlike s (attributed M s frame due)
  alike_attributed frame None = record { sends = refl; taken = refl }
  alike_attributed frame (Some due) = alike_either s (int_eq (response_id frame) (pos (upstream_id due.0))) _ _ (alike_matched due.1 (drop 4 frame)) (record { sends = refl; taken = refl })

  idle_answer : (frame : List ℕ) → IsIdle s (answer_step M s frame)
  idle_answer frame = idle_either s (are_dead s.causes) _ _ (alike_idle s s _ same refl) (alike_idle s _ _ (alike_attributed frame (due_send s)) refl)

  idle_complete : (k i : ℕ) (verdict : List ℕ) → IsIdle s (complete_step M s k i verdict)
  idle_complete k i verdict = idle_either s (not (are_still s.causes) && is_hold i (open_hold M s k)) _ _ (idle_as s _ _ refl refl refl) (alike_idle s s _ same refl)

  idle_noted : (t : State) → IsAlike s t → IsIdle s (noted s t)
  idle_noted t h = alike_idle s _ _ (alike_either s (is_some s.causes.over) s t same h) refl

  alike_fault : (x : Fault) → IsAlike s (faulted M s x)
  alike_fault fault.ClientRead = record { sends = refl; taken = refl }
  alike_fault fault.ClientWrite = record { sends = refl; taken = refl }
  alike_fault fault.BrokerRead = record { sends = refl; taken = refl }
  alike_fault fault.BrokerWrite = record { sends = refl; taken = refl }
  alike_fault (fault.ClientBadSize at size) = record { sends = refl; taken = refl }
  alike_fault (fault.BrokerBadSize at size) = record { sends = refl; taken = refl }
  alike_fault (fault.Authority k) = alike_either s (is_some (open_hold M s k)) _ s (record { sends = refl; taken = refl }) same
  alike_fault fault.Thread = record { sends = refl; taken = refl }
  alike_fault fault.NoMemory = record { sends = refl; taken = refl }

  idle_picked : (o : Option (ℕ × ℕ × List ℕ)) → IsIdle s (picked_next s o)
  idle_picked None = alike_idle s s _ same refl
  idle_picked (Some hold) = idle_as s _ _ refl refl refl

  -- emit
  idle_over_or : (why : Option End) (t : State) (later : Reply × State) → IsAlike s t → IsIdle s later → IsIdle s (over_or why t later)
  idle_over_or None t later h k = k
  idle_over_or (Some why) t later h k = idle_as s _ _ h.sends h.taken refl

  idle_respond_or : (response : Option (List ℕ)) (t : State) (later : Reply × State) → IsAlike s t → IsIdle s later → IsIdle s (respond_or response t later)
  idle_respond_or None t later h k = k
  idle_respond_or (Some response) t later h k = idle_as s _ _ h.sends h.taken refl

  idle_told : (why : Option End) (later : Reply × State) → IsIdle s later → IsIdle s (told_again why s later)
  idle_told None later k = k
  idle_told (Some why) later k = alike_idle s s _ same refl

  idle_emit : IsIdle s (emit_step M s)
  idle_emit =
      let t : State = silent_passed M s in
      let there : IsAlike s t = record { sends = refl; taken = refl } in
      idle_told s.causes.over _
      (idle_over_or s.causes.halt s _ same
      (idle_over_or (cut_cause t.causes.cut t.passed) t _ there
      (idle_respond_or (response_in M (slice_get t.requests t.passed)) t _ there (idle_over_or s.causes.death t _ there (alike_idle s t _ there refl)))))

  -- the one event that takes a send
  sending_next : s.taken ≤ length s.sends → (o : Option ListedSend) → slice_get s.sends s.taken ≡ o → IsSending s (to_broker (sent_next s o).0) (sent_next s o).1
  sending_next le None is = idle_sending s (reply.Send None, s) le (alike_idle s s (reply.Send None) same refl)
  sending_next le (Some d) is =
      record {
        gone_is =
            ap (λ n. upstream_bytes 0 (take n s.sends)) (let z : s.taken + 1 ≡ suc s.taken = omega arith in z) ∙ ap (upstream_bytes 0) (one_more s.sends s.taken d is) ∙ upstream_more (take s.taken s.sends) d 0
            ∙ ap (λ n. gone s ++ upstream_frame n d) (let z : 0 + length (take s.taken s.sends) ≡ s.taken = omega (arith, length-take-le s.taken s.sends le) in z);
        within = omega (arith, inside s.sends s.taken d is);
      }

  sending_either : (b : Bool) → s.taken ≤ length s.sends → IsSending s (to_broker (if◌then◌else◌ {A = Reply × State} b (reply.Send None, s) (sent_next s (slice_get s.sends s.taken))).0) (if◌then◌else◌ {A = Reply × State} b (reply.Send None, s) (sent_next s (slice_get s.sends s.taken))).1
  sending_either true le = idle_sending s (reply.Send None, s) le (alike_idle s s (reply.Send None) same refl)
  sending_either false le = sending_next le (slice_get s.sends s.taken) refl

  module _ (le : s.taken ≤ length s.sends) where
    idly : (e : Event) → IsIdle s (answer_to M s e) → IsSending s (to_broker (answer_to M s e).0) (answer_to M s e).1
    idly e h = idle_sending s (answer_to M s e) le h

    sending_answer : (e : Event) → IsSending s (to_broker (answer_to M s e).0) (answer_to M s e).1
    sending_answer (event.Take frame) = idly (event.Take frame) (idle_take frame)
    sending_answer (event.Answer frame) = idly (event.Answer frame) (idle_answer frame)
    sending_answer (event.Complete k i verdict) = idly (event.Complete k i verdict) (idle_complete k i verdict)
    sending_answer (event.ClientEnd rest) = idly (event.ClientEnd rest) (idle_noted _ (record { sends = refl; taken = refl }))
    sending_answer (event.BrokerEnd rest) = idly (event.BrokerEnd rest) (idle_noted _ (record { sends = refl; taken = refl }))
    sending_answer (event.Fault x) = idly (event.Fault x) (idle_noted _ (alike_fault x))
    sending_answer event.Send = sending_either (is_some s.causes.death || is_some s.causes.halt) le
    sending_answer event.Emit = idly event.Emit idle_emit
    sending_answer event.Pick = idly event.Pick (idle_either s (are_still s.causes) _ _ (alike_idle s s _ same refl) (idle_picked (first_hold M s.causes.cut s.picked 0 s.requests)))
    sending_answer event.Look = idly event.Look (alike_idle s s _ same refl)

module _ (M : Meaning) where
  idle_listed : (s : State) (d : ListedSend) (b : Bool) → IsIdle s (reply.Noted, (if b then record s { sends = s.sends ++ d ∷ [] } else give d.request NoResponse (record s { sends = s.sends ++ d ∷ [] })))
  idle_listed s d true = record { more = d ∷ []; sends = refl; taken = refl; silent = refl }
  idle_listed s d false = record { more = d ∷ []; sends = refl; taken = refl; silent = refl }

  idle_acted : (s : State) (o : Option Act) → IsIdle s (reply.Noted, acted o s)
  idle_acted s None = idle_as s s reply.Noted refl refl refl
  idle_acted s (Some (CutAt k why)) = idle_as s (cut_at k why s) reply.Noted refl refl refl
  idle_acted s (Some (Lists d)) = idle_listed s d d.responds

  idle_acts : (n : ℕ) (s : State) → IsIdle s (reply.Noted, after_acts M n s)
  idle_acts zero s = idle_as s s reply.Noted refl refl refl
  idle_acts (suc n) s =
      let a = idle_acted s (next_act M s) in
      let b = idle_acts n (acted (next_act M s) s) in
      record { more = a.more ++ b.more; sends = b.sends ∙ ap (λ ds. ds ++ b.more) a.sends ∙ append_assoc s.sends a.more b.more; taken = b.taken ∙ a.taken; silent = refl }

  sending_then : (s t u : State) (bytes : List ℕ) → IsSending s bytes t → IsIdle t (reply.Noted, u) → IsSending s bytes u
  sending_then s t u bytes h k =
      let z = idle_sending t (reply.Noted, u) h.within k in
      record { gone_is = z.gone_is ∙ append-nil (gone t) ∙ h.gone_is; within = z.within }

  memory_sends : (r taken : Reply) → memory_answer taken ≡ Some r → to_broker r ≡ []
  memory_sends r (reply.Take (Ok _)) h = let e : r ≡ reply.Take (Err take_fault.NoMemory) = cc in rw e
  memory_sends r (reply.Take (Err _)) h = cc
  memory_sends r (reply.Answer (Ok _)) h = let e : r ≡ reply.Answer (Err answer_fault.NoMemory) = cc in rw e
  memory_sends r (reply.Answer (Err _)) h = cc
  memory_sends r (reply.Complete (Ok _)) h = let e : r ≡ reply.Complete (Err complete_fault.NoMemory) = cc in rw e
  memory_sends r (reply.Complete (Err _)) h = cc
  memory_sends r reply.Noted h = cc
  memory_sends r (reply.Send _) h = cc
  memory_sends r (reply.Emit _) h = cc
  memory_sends r (reply.Pick _) h = cc
  memory_sends r (reply.Look _) h = cc

  sending_event : (s t : State) (e : Event) (r : Reply) → s.taken ≤ length s.sends → StepOrNoMemory M s e r t → IsSending s (to_broker r) t
  sending_event s t e r le (inl step) =
      subst (λ q. IsSending s (to_broker q) t) (sym step.reply)
      (sending_then s (answer_to M s e).1 t (to_broker (answer_to M s e).0) (sending_answer M s le e) (subst (λ u. IsIdle (answer_to M s e).1 (reply.Noted, u)) step.settles.after (idle_acts step.settles.acts (answer_to M s e).1)))
  sending_event s t e r le (inr gives) =
      subst (λ u. IsSending s (to_broker r) u) (sym gives.halts) (idle_sending s (r, halted end.NoMemory s) le (idle_as s (halted end.NoMemory s) r refl refl (memory_sends r (answer_to M s e).0 gives.reply)))

  sending_from : (s t : State) (hs : List Entry) → s.taken ≤ length s.sends → LeadsTo M s hs t → IsSending s (sent hs) t
  sending_from s t [] le run = subst (λ u. IsSending s [] u) (sym run) (record { gone_is = sym (append-nil (gone s)); within = le })
  sending_from s t (h ∷ hs) le run =
      let here = sending_event s run.0 h.event h.reply le run.1 in
      let later = sending_from run.0 t hs here.within run.2 in
      record { gone_is = later.gone_is ∙ ap (λ l. l ++ sent hs) here.gone_is ∙ append_assoc (gone s) (to_broker h.reply) (sent hs); within = later.within }

  pub sent_in_order : (hs : List Entry) (s : State) → IsHistory M hs s → sent hs ≡ upstream_bytes 0 (take s.taken s.sends)
  sent_in_order hs s run = sym (sending_from opening s hs (omega arith) run).gone_is
