-- Where the client's stream is what ended, all requests are passed.
use Rattle.std.proofs.Common.{◌≡◌, ◌∙◌, ap, ℕ, zero, suc, ◌+◌, Bool, true, false, not, ◌&&◌, ◌||◌, is_some, if◌then◌else◌, List, [], ◌∷◌, ◌++◌, length, drop, refl, sym, subst, Option, Some, None, slice_get, slice_set, pos, inl, inr}
use Rattle.std.specs.Ordering.{int_eq}
use Rattle.framing.specs.CorrelationIds.{response_id}
use Rattle.kp_edge.specs.declared.end.End.{End}
use Rattle.kp_edge.specs.declared.end.End.TheVariants as end
use Rattle.conn_rules.specs.declared.causes.Causes.{Causes}
use Rattle.conn_rules.specs.declared.event.Event.{Event}
use Rattle.conn_rules.specs.declared.event.Event.TheVariants as event
use Rattle.conn_rules.specs.declared.event.Reply.{Reply}
use Rattle.conn_rules.specs.declared.event.Reply.TheVariants as reply
use Rattle.conn_rules.specs.declared.event.Fault.{Fault}
use Rattle.conn_rules.specs.declared.event.Fault.TheVariants as fault
use Rattle.conn_rules.specs.declared.event.Emit.TheVariants as emit
use Rattle.conn_rules.specs.Meaning.{Meaning, ToBroker, Hold, Status, Waits, Done, Fails}
use Rattle.conn_rules.specs.State.{Outside, NoResponse, Body, Verdict, Request, ListedSend, State, opening, dead, halted, in_flight, held, given_more, give, upstream_id, due_send, waiting}
use Rattle.conn_rules.specs.Causes.{below, first_cause, with_cut, with_death, with_halt, are_ending, are_dead, are_still, client_ended, broker_ended}
use Rattle.conn_rules.specs.Settling.{Act, CutAt, Lists, is_listed, lets_later_go, act_of, or_else, act_from, next_act, listed, acted, after_acts, Settles}
use Rattle.conn_rules.specs.Steps.{joined, read_body, matched, attributed, open_hold, is_hold, client_end, faulted, noted, sent_next, first_hold, picked_next, response_in, silent_passed, over_or, respond_or, told_again, emit_step, answer_to, StepOrNoMemory}
use Rattle.conn_rules.specs.History.{Entry, LeadsTo, IsHistory}
use Rattle.conn_rules.specs.Told.{IsEndNext, is_client_stream_end, FailsByOwnEnds}
use Rattle.conn_rules.proofs.Told.{end_next}

-- An end of the client's stream stands nowhere but at a cut behind the last of so many requests.
record IsBehindAll (requests : ℕ) (c : Causes) : Type 0 where
  cut : (k : ℕ) (why : End) → c.cut ≡ Some (k, why) → is_client_stream_end why ≡ true → k ≡ requests
  death : (why : End) → c.death ≡ Some why → is_client_stream_end why ≡ false
  halt : (why : End) → c.halt ≡ Some why → is_client_stream_end why ≡ false

module _ (n : ℕ) (c : Causes) (h : IsBehindAll n c) where
  cut_if : (low : Bool) (k : ℕ) (why : End) → (is_client_stream_end why ≡ true → k ≡ n) → (j : ℕ) (cause : End) → (if low then Some (k, why) else c.cut) ≡ Some (j, cause) → is_client_stream_end cause ≡ true → j ≡ n
  cut_if true k why at j cause is ends =
      let pair : ◌≡◌ {A = ℕ × End} (k, why) (j, cause) = cc in
      let e : k ≡ j = ap (λ x. x.0) pair in
      let f : why ≡ cause = ap (λ x. x.1) pair in
      sym e ∙ at (ap is_client_stream_end f ∙ ends)
  cut_if false k why at j cause is ends = h.cut j cause is ends

  behind_cut : (k : ℕ) (why : End) → (is_client_stream_end why ≡ true → k ≡ n) → IsBehindAll n (with_cut k why c)
  behind_cut k why at = record { cut = cut_if (below c.cut k) k why at; death = h.death; halt = h.halt }

  cut_last : (why : End) → IsBehindAll n (with_cut n why c)
  cut_last why = behind_cut n why (λ ends. refl)

  cut_otherwise : (k : ℕ) (why : End) → is_client_stream_end why ≡ false → IsBehindAll n (with_cut k why c)
  cut_otherwise k why other = behind_cut k why (λ ends. absurd (let never : true ≡ false = sym ends ∙ other in cc))

  first_otherwise : (before : Option End) (why : End) → is_client_stream_end why ≡ false → ((cause : End) → before ≡ Some cause → is_client_stream_end cause ≡ false) → (cause : End) → first_cause before why ≡ Some cause → is_client_stream_end cause ≡ false
  first_otherwise None why other old cause is = let e : why ≡ cause = cc in subst (λ x. is_client_stream_end x ≡ false) e other
  first_otherwise (Some before) why other old cause is = old cause is

  behind_death : (why : End) → is_client_stream_end why ≡ false → IsBehindAll n (with_death why c)
  behind_death why other = record { cut = h.cut; death = first_otherwise c.death why other h.death; halt = h.halt }

  behind_halt : (why : End) → is_client_stream_end why ≡ false → IsBehindAll n (with_halt why c)
  behind_halt why other = record { cut = h.cut; death = h.death; halt = first_otherwise c.halt why other h.halt }

  behind_joined : (m : ℕ) → c.cut ≡ None → IsBehindAll m c
  behind_joined m none = record { cut = λ k why is ends. cc; death = h.death; halt = h.halt }

-- what is given to a request, and how many there are
set_length : {X : Type 0} → (xs : List X) (k : ℕ) (x : X) → length (slice_set xs k x) ≡ length xs
set_length [] k x = refl
set_length (y ∷ ys) zero x = refl
set_length (y ∷ ys) (suc k) x = ap suc (set_length ys k x)

given_length : (x : Outside) (found : Option Request) (rs : List Request) (k : ℕ) → length (given_more x found rs k) ≡ length rs
given_length x None rs k = refl
given_length x (Some r) rs k = set_length rs k _

-- the same of a state
abbrev AllBefore : State → Type 0
AllBefore s = IsBehindAll (length s.requests) s.causes

abbrev AllBeforeIn : Reply × State → Type 0
AllBeforeIn answer = AllBefore answer.1

all_give : (k : ℕ) (x : Outside) (s : State) → AllBefore s → AllBefore (give k x s)
all_give k x s h = subst (λ n. IsBehindAll n s.causes) (sym (given_length x (slice_get s.requests k) s.requests k)) h

all_either : (b : Bool) (x y : State) → AllBefore x → AllBefore y → AllBefore (if b then x else y)
all_either true x y h k = h
all_either false x y h k = k

answer_either : (b : Bool) (x y : Reply × State) → AllBefore x.1 → AllBefore y.1 → AllBefore (if b then x else y).1
answer_either true x y h k = h
answer_either false x y h k = k

all_listed : (d : ListedSend) (s : State) → AllBefore s → AllBefore (listed d s)
all_listed d s h =
    let t : State = record s { sends = s.sends ++ d ∷ [] } in
    all_either d.responds t (give d.request NoResponse t) h (all_give d.request NoResponse t h)

-- a request cuts by its own ends alone
abbrev CutsOtherwise : Option Act → Type 0
CutsOtherwise None = Unit {0}
CutsOtherwise (Some (CutAt k why)) = is_client_stream_end why ≡ false
CutsOtherwise (Some (Lists d)) = Unit {0}

otherwise_if : (b : Bool) (x y : Option Act) → CutsOtherwise x → CutsOtherwise y → CutsOtherwise (if b then x else y)
otherwise_if true x y h k = h
otherwise_if false x y h k = k

otherwise_or : (x y : Option Act) → CutsOtherwise x → CutsOtherwise y → CutsOtherwise (or_else x y)
otherwise_or None y h k = k
otherwise_or (Some act) y h k = h

module _ (M : Meaning) (own : FailsByOwnEnds M) where
  otherwise_of : (sends : List ListedSend) (k i : ℕ) (free : Bool) (frame : List ℕ) (given : List Outside) (status : Status) → M.status frame given ≡ status → CutsOtherwise (act_of sends k i free status)
  otherwise_of sends k i free frame given (Fails why) is = own.status frame given why k is
  otherwise_of sends k i free frame given (Done response) is = tt
  otherwise_of sends k i free frame given (Waits (Hold key)) is = tt
  otherwise_of sends k i free frame given (Waits (ToBroker before behind main responds)) is = otherwise_if (not (is_listed sends k i) && (free || not main)) _ None tt tt

  otherwise_from : (sends : List ListedSend) (cut : Option (ℕ × End)) (k : ℕ) (free : Bool) (rs : List Request) → CutsOtherwise (act_from M sends cut k free rs)
  otherwise_from sends cut k free [] = tt
  otherwise_from sends cut k free (r ∷ rs) =
      let f : Bool = free && lets_later_go sends k (M.status r.frame r.given) in
      otherwise_if (below cut k) _ None
      (otherwise_or _ (act_from M sends cut (suc k) f rs) (otherwise_of sends k (length r.given) free r.frame r.given (M.status r.frame r.given) refl) (otherwise_from sends cut (suc k) f rs)) tt

  all_acted : (act : Option Act) (s : State) → CutsOtherwise act → AllBefore s → AllBefore (acted act s)
  all_acted None s other h = h
  all_acted (Some (CutAt k why)) s other h = cut_otherwise (length s.requests) s.causes h k why other
  all_acted (Some (Lists d)) s other h = all_listed d s h

  all_acts : (n : ℕ) (s : State) → AllBefore s → AllBefore (after_acts M n s)
  all_acts zero s h = h
  all_acts (suc n) s h = all_acts n (acted (next_act M s) s) (all_acted (next_act M s) s (otherwise_from s.sends s.causes.cut 0 true s.requests) h)

  all_settled : (s t : State) → Settles M s t → AllBefore s → AllBefore t
  all_settled s t settles h = subst AllBefore settles.after (all_acts settles.acts s h)

  -- every event
  module _ (s : State) (h : AllBefore s) where
    no_cut_of : (cut : Option (ℕ × End)) (b c d : Bool) → (is_some cut || b || c || d) ≡ false → cut ≡ None
    no_cut_of None b c d is = refl
    no_cut_of (Some cut) true c d is = cc
    no_cut_of (Some cut) false true d is = cc
    no_cut_of (Some cut) false false d is = cc

    all_joined : (cause : Option (ℕ → End)) (frame : List ℕ) → are_ending s.causes ≡ false → AllBefore (joined cause frame s)
    all_joined None frame runs = behind_joined (length s.requests) s.causes h _ (no_cut_of s.causes.cut (is_some s.causes.death) (is_some s.causes.halt) (is_some s.causes.over) runs)
    all_joined (Some why) frame runs = cut_last (length s.requests) s.causes h (why (length s.requests))

    all_take : (ending room : Bool) (frame : List ℕ) (refused taken full : Reply) → are_ending s.causes ≡ ending → AllBeforeIn (if ending then (refused, s) else if room then (taken, joined (M.no_request frame) frame s) else (full, s))
    all_take true room frame refused taken full is = h
    all_take false true frame refused taken full is = all_joined (M.no_request frame) frame is
    all_take false false frame refused taken full is = h

    all_body : (d : ListedSend) (body : List ℕ) (why : Option (ℕ → End)) → M.unreadable d.before body ≡ why → AllBefore (read_body why d.request body (record s { answered = s.answered + 1 }))
    all_body d body None is = all_give d.request (Body body) (record s { answered = s.answered + 1 }) h
    all_body d body (Some why) is = cut_otherwise (length s.requests) s.causes h d.request (why d.request) (own.unreadable d.before body why d.request is)

    all_matched : (d : ListedSend) (body : List ℕ) → AllBefore (matched M s d body)
    all_matched d body =
        let t : State = record s { answered = s.answered + 1 } in
        all_either (below s.causes.cut d.request) _ t (all_body d body (M.unreadable d.before body) refl) h

    all_dead : (why : End) → is_client_stream_end why ≡ false → AllBefore (dead why s)
    all_dead why other = behind_death (length s.requests) s.causes h why other

    all_halted : (why : End) → is_client_stream_end why ≡ false → AllBefore (halted why s)
    all_halted why other = behind_halt (length s.requests) s.causes h why other

    all_attributed : (frame : List ℕ) (due : Option (ℕ × ListedSend)) → AllBefore (attributed M s frame due)
    all_attributed frame None = all_dead (end.Unasked (response_id frame)) refl
    all_attributed frame (Some due) =
        all_either (int_eq (response_id frame) (pos (upstream_id due.0))) _ _ (all_matched due.1 (drop 4 frame))
        (all_dead (end.Mismatch (pos (upstream_id due.0)) (response_id frame)) refl)

    all_noted : (t : State) → AllBefore t → AllBefore (noted s t).1
    all_noted t k = all_either (is_some s.causes.over) s t h k

    all_ended : (died : Bool) (why : End) → AllBefore (record s { causes = if died then s.causes else with_cut (length s.requests) why s.causes })
    all_ended true why = h
    all_ended false why = cut_last (length s.requests) s.causes h why

    broker_otherwise : (rest waits : ℕ) → is_client_stream_end (broker_ended rest waits) ≡ false
    broker_otherwise zero waits = refl
    broker_otherwise (suc rest) waits = refl

    all_fault : (x : Fault) → AllBefore (faulted M s x)
    all_fault fault.ClientRead = cut_last (length s.requests) s.causes h end.ClientReadFault
    all_fault fault.ClientWrite = all_halted end.ClientWriteFault refl
    all_fault fault.BrokerRead = all_dead end.BrokerReadFault refl
    all_fault fault.BrokerWrite = all_dead end.BrokerWriteFault refl
    all_fault (fault.ClientBadSize at size) = cut_last (length s.requests) s.causes h (end.BadSize at size)
    all_fault (fault.BrokerBadSize at size) = all_dead (end.BrokerBadSize at size) refl
    all_fault (fault.Authority k) = all_either (is_some (open_hold M s k)) _ s (cut_otherwise (length s.requests) s.causes h k (end.AuthorityFault k) refl) h
    all_fault fault.Thread = all_halted end.ThreadRefused refl
    all_fault fault.NoMemory = all_halted end.NoMemory refl

    all_sent : (next : Option ListedSend) → AllBefore (sent_next s next).1
    all_sent None = h
    all_sent (Some d) = h

    all_picked : (next : Option (ℕ × ℕ × List ℕ)) → AllBefore (picked_next s next).1
    all_picked None = h
    all_picked (Some hold) = h

    all_over : (why : Option End) (t : State) (later : Reply × State) → AllBefore t → AllBefore later.1 → AllBefore (over_or why t later).1
    all_over None t later k l = l
    all_over (Some why) t later k l = record { cut = k.cut; death = k.death; halt = k.halt }

    all_respond : (response : Option (List ℕ)) (t : State) (later : Reply × State) → AllBefore t → AllBefore later.1 → AllBefore (respond_or response t later).1
    all_respond None t later k l = l
    all_respond (Some response) t later k l = k

    all_again : (over : Option End) (later : Reply × State) → AllBefore later.1 → AllBefore (told_again over s later).1
    all_again None later l = l
    all_again (Some why) later l = h

    all_emit : AllBefore (emit_step M s).1
    all_emit =
        let t : State = silent_passed M s in
        all_again s.causes.over _
        (all_over s.causes.halt s _ h
        (all_over _ t _ h
        (all_respond (response_in M (slice_get t.requests t.passed)) t _ h (all_over s.causes.death t (reply.Emit emit.Later, t) h h))))

    all_answered : (e : Event) → AllBefore (answer_to M s e).1
    all_answered (event.Take frame) = all_take (are_ending s.causes) (M.room (in_flight s) (held s) (length frame)) frame _ _ _ refl
    all_answered (event.Answer frame) = answer_either (are_dead s.causes) _ _ h (all_attributed frame (due_send s))
    all_answered (event.Complete k i verdict) = answer_either (not (are_still s.causes) && is_hold i (open_hold M s k)) _ _ (all_give k (Verdict verdict) s h) h
    all_answered (event.ClientEnd rest) = all_noted (client_end rest s) (all_ended (is_some s.causes.death) (client_ended rest))
    all_answered (event.BrokerEnd rest) = all_noted (dead (broker_ended rest (waiting s)) s) (all_dead (broker_ended rest (waiting s)) (broker_otherwise rest (waiting s)))
    all_answered (event.Fault x) = all_noted (faulted M s x) (all_fault x)
    all_answered event.Send = answer_either (is_some s.causes.death || is_some s.causes.halt) _ _ h (all_sent (slice_get s.sends s.taken))
    all_answered event.Emit = all_emit
    all_answered event.Pick = answer_either (are_still s.causes) _ _ h (all_picked (first_hold M s.causes.cut s.picked 0 s.requests))
    all_answered event.Look = h

    all_event : (e : Event) (r : Reply) (t : State) → StepOrNoMemory M s e r t → AllBefore t
    all_event e r t (inl step) = all_settled (answer_to M s e).1 t step.settles (all_answered e)
    all_event e r t (inr gives) = subst AllBefore (sym gives.halts) (all_halted end.NoMemory refl)

  all_from : (s t : State) (hs : List Entry) → AllBefore s → LeadsTo M s hs t → AllBefore t
  all_from s t [] h run = subst AllBefore (sym run) h
  all_from s t (entry ∷ hs) h run = all_from run.0 t hs (all_event s h entry.event entry.reply run.0 run.1) run.2

-- so where it was told, its cut stands behind all requests
passed_all : (M : Meaning) (s : State) (why : End) → AllBefore s → is_client_stream_end why ≡ true → IsEndNext M why s → s.passed ≡ length s.requests
passed_all M s why h ends (inl halt) = absurd (let never : is_client_stream_end why ≡ false = h.halt why halt in cc)
passed_all M s why h ends (inr (inl cut)) = h.cut s.passed why cut.cut ends
passed_all M s why h ends (inr (inr died)) = absurd (let never : is_client_stream_end why ≡ false = h.death why died.death in cc)

pub all_passed : (M : Meaning) (hs : List Entry) (s : State) (why : End) → FailsByOwnEnds M → IsHistory M hs s → s.causes.over ≡ Some why → is_client_stream_end why ≡ true → s.passed ≡ length s.requests
all_passed M hs s why own run over ends =
    let opens : AllBefore opening = record { cut = λ k cause is client. cc; death = λ cause is. cc; halt = λ cause is. cc } in
    passed_all M s why (all_from M own opening s hs opens run) ends (end_next M hs s why run over)
