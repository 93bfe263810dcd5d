-- What one event does to the causes of a connection, and what settling does to them: one pass over the events.
use Rattle.std.proofs.Common.{◌≡◌, ◌≢◌, ◌∙◌, ap, refl, sym, subst, ℕ, zero, suc, ◌+◌, ◌<◌, nat_lt, Bool, true, false, ◌&&◌, ◌||◌, not, is_some, if◌then◌else◌, List, [], ◌∷◌, ◌++◌, length, drop, Option, Some, None, Ok, slice_get, slice_set, pos, arith, inl, inr, ◌⊎◌}
use Rattle.std.specs.Ordering.{int_eq}
use Rattle.std.proofs.lemmas.Bool.{ltb-true}
use Rattle.std.proofs.lemmas.Bool.Decides.{Decides-int_eq}
use Rattle.framing.specs.CorrelationIds.{response_id}
use Rattle.kp_edge.specs.declared.end.End.{End}
use Rattle.kp_edge.specs.declared.end.End.TheVariants as end
use Rattle.conn_rules.specs.declared.causes.Causes.{Causes}
use Rattle.conn_rules.specs.declared.event.Event.{Event}
use Rattle.conn_rules.specs.declared.event.Event.TheVariants as event
use Rattle.conn_rules.specs.declared.event.Reply.{Reply}
use Rattle.conn_rules.specs.declared.event.Reply.TheVariants as reply
use Rattle.conn_rules.specs.declared.event.Fault.{Fault}
use Rattle.conn_rules.specs.declared.event.Fault.TheVariants as fault
use Rattle.conn_rules.specs.declared.event.Emit.TheVariants as emit
use Rattle.conn_rules.specs.Causes.{below, cut_cause, with_cut, with_death, with_halt, with_told, are_ending, are_dead, are_still, client_ended, broker_ended}
use Rattle.conn_rules.specs.Meaning.{Meaning, ToBroker, Hold, Status, Waits, Done, Fails}
use Rattle.conn_rules.specs.Settling.{Act, CutAt, Lists, is_listed, or_else, act_of, act_from, next_act, lets_later_go, acted, after_acts, Settles}
use Rattle.conn_rules.specs.State.{Outside, NoResponse, Body, Verdict, Request, ListedSend, State, in_flight, held, given_more, give, cut_at, dead, upstream_id, due_send, waiting}
use Rattle.conn_rules.specs.Steps.{joined, read_body, matched, attributed, hold_in, open_hold, is_hold, client_end, faulted, sent_next, first_hold, picked_next, response_in, silent_passed, over_or, respond_or, told_again, emit_step, answer_to}
use Rattle.conn_rules.specs.History.{Entry}
use Rattle.conn_rules.specs.Origins.{HaltComesOf, DeathComesOf, CutComesOf, IsCutByFrame, IsCutByAnswer, IsCutByStatus}
use Rattle.conn_rules.proofs.Resting.{low_before_cut}
use Rattle.conn_rules.proofs.Sweep.{act_is_of, if_low}

-- the origins of a cut that an event brings before the connection settles
abbrev pub IsCutByEvent : Meaning → State → Entry → ℕ → End → Type 0
IsCutByEvent M s h k why = CutComesOf M why k s h ⊎ IsCutByFrame M s h k why ⊎ IsCutByAnswer M s h k why

-- What an event may do to the causes: nothing, tell an end, or bring a halt, a death or a cut while no end was told.
pub data CausesMove (M : Meaning) (s : State) (h : Entry) (c : Causes) : Type 0 where
  Stays : c ≡ s.causes → CausesMove M s h c
  Tells : (why : End) → c ≡ with_told why s.causes → CausesMove M s h c
  Halts : (why : End) → c ≡ with_halt why s.causes → s.causes.over ≡ None → HaltComesOf why h → CausesMove M s h c
  Dies : (why : End) → c ≡ with_death why s.causes → s.causes.over ≡ None → DeathComesOf why s h → CausesMove M s h c
  Cuts : (k : ℕ) (why : End) → c ≡ with_cut k why s.causes → s.causes.over ≡ None → IsCutByEvent M s h k why → CausesMove M s h c

-- what doesn't end was told no end
untold_four : (a b c : Bool) (over : Option End) → (a || b || c || is_some over) ≡ false → over ≡ None
untold_four true b c over h = cc
untold_four false true c over h = cc
untold_four false false true over h = cc
untold_four false false false None h = refl
untold_four false false false (Some why) h = cc

untold_three : (b c : Bool) (over : Option End) → (b || c || is_some over) ≡ false → over ≡ None
untold_three b c over h = untold_four false b c over h

untold_one : (over : Option End) → is_some over ≡ false → over ≡ None
untold_one over h = untold_four false false false over h

module _ (M : Meaning) (s : State) (actor : ℕ) where
  abbrev ReplyOf : Reply × State → Reply
  ReplyOf answer = answer.0

  abbrev MovesAt : Event → Reply → Reply × State → Type 0
  MovesAt e r answer = CausesMove M s (record { actor = actor; event = e; reply = r }) answer.1.causes

  moves_joined : (frame : List ℕ) (cause : Option (ℕ → End)) → M.no_request frame ≡ cause → s.causes.over ≡ None → CausesMove M s (record { actor = actor; event = event.Take frame; reply = reply.Take (Ok tt) }) (joined cause frame s).causes
  moves_joined frame None is untold = Stays refl
  moves_joined frame (Some cause) is untold =
      Cuts (length s.requests) (cause (length s.requests)) refl untold
      (inr (inl (record { frame = frame; is_take = refl; accepted = refl; place = refl; cause = cause; no_request = is; end_is = refl })))

  moves_take : (ending room : Bool) (frame : List ℕ) (refused full r : Reply) → are_ending s.causes ≡ ending
      → r ≡ ReplyOf (if ending then (refused, s) else if room then (reply.Take (Ok tt), joined (M.no_request frame) frame s) else (full, s))
      → MovesAt (event.Take frame) r (if ending then (refused, s) else if room then (reply.Take (Ok tt), joined (M.no_request frame) frame s) else (full, s))
  moves_take true room frame refused full r is reply_is = Stays refl
  moves_take false false frame refused full r is reply_is = Stays refl
  moves_take false true frame refused full r is reply_is =
      subst (λ x. MovesAt (event.Take frame) x (reply.Take (Ok tt), joined (M.no_request frame) frame s)) (sym reply_is)
      (moves_joined frame (M.no_request frame) refl (untold_four (is_some s.causes.cut) (is_some s.causes.death) (is_some s.causes.halt) s.causes.over is))

  module _ (frame : List ℕ) (untold : s.causes.over ≡ None) where
    abbrev AnswerMoves : State → Type 0
    AnswerMoves t = CausesMove M s (record { actor = actor; event = event.Answer frame; reply = reply.Answer (Ok tt) }) t.causes

    moves_body : (due : ℕ × ListedSend) (cause : Option (ℕ → End)) → due_send s ≡ Some due → response_id frame ≡ pos (upstream_id due.0) → M.unreadable due.1.before (drop 4 frame) ≡ cause → AnswerMoves (read_body cause due.1.request (drop 4 frame) (record s { answered = s.answered + 1 }))
    moves_body due None is own reads = Stays refl
    moves_body due (Some cause) is own reads =
        Cuts due.1.request (cause due.1.request) refl untold
        (inr (inr (record { frame = frame; is_answer = refl; accepted = refl; due = due; is_due = is; own_id = own; place = refl; cause = cause; unreadable = reads; end_is = refl })))

    moves_low : (due : ℕ × ListedSend) (low : Bool) → due_send s ≡ Some due → response_id frame ≡ pos (upstream_id due.0) → AnswerMoves (if low then read_body (M.unreadable due.1.before (drop 4 frame)) due.1.request (drop 4 frame) (record s { answered = s.answered + 1 }) else record s { answered = s.answered + 1 })
    moves_low due true is own = moves_body due (M.unreadable due.1.before (drop 4 frame)) is own refl
    moves_low due false is own = Stays refl

    moves_due : (due : ℕ × ListedSend) (own : Bool) → due_send s ≡ Some due → int_eq (response_id frame) (pos (upstream_id due.0)) ≡ own → AnswerMoves (if own then matched M s due.1 (drop 4 frame) else dead (end.Mismatch (pos (upstream_id due.0)) (response_id frame)) s)
    moves_due due true is own = moves_low due (below s.causes.cut due.1.request) is ((Decides-int_eq (response_id frame) (pos (upstream_id due.0))).0 own)
    moves_due due false is own =
        Dies (end.Mismatch (pos (upstream_id due.0)) (response_id frame)) refl untold
        (frame, due, refl, refl, refl, is, refl, λ same. absurd (let never : int_eq (response_id frame) (pos (upstream_id due.0)) ≡ true = (Decides-int_eq (response_id frame) (pos (upstream_id due.0))).1 same in cc))

    moves_attributed : (due : Option (ℕ × ListedSend)) → due_send s ≡ due → AnswerMoves (attributed M s frame due)
    moves_attributed None is = Dies (end.Unasked (response_id frame)) refl untold (frame, refl, refl, refl, is)
    moves_attributed (Some due) is = moves_due due (int_eq (response_id frame) (pos (upstream_id due.0))) is refl

  moves_answer : (ended : Bool) (frame : List ℕ) (refused r : Reply) → are_dead s.causes ≡ ended → r ≡ ReplyOf (if ended then (refused, s) else (reply.Answer (Ok tt), attributed M s frame (due_send s)))
      → MovesAt (event.Answer frame) r (if ended then (refused, s) else (reply.Answer (Ok tt), attributed M s frame (due_send s)))
  moves_answer true frame refused r is reply_is = Stays refl
  moves_answer false frame refused r is reply_is =
      subst (λ x. MovesAt (event.Answer frame) x (reply.Answer (Ok tt), attributed M s frame (due_send s))) (sym reply_is)
      (moves_attributed frame (untold_three (is_some s.causes.death) (is_some s.causes.halt) s.causes.over is) (due_send s) refl)

  moves_complete : (waits : Bool) (k i : ℕ) (verdict : List ℕ) (taken refused r : Reply) → MovesAt (event.Complete k i verdict) r (if waits then (taken, give k (Verdict verdict) s) else (refused, s))
  moves_complete true k i verdict taken refused r = Stays refl
  moves_complete false k i verdict taken refused r = Stays refl

  -- the ends of the streams, and the faults
  moves_noted : (e : Event) (r : Reply) (told : Bool) (t : State) → is_some s.causes.over ≡ told → (s.causes.over ≡ None → CausesMove M s (record { actor = actor; event = e; reply = r }) t.causes) → CausesMove M s (record { actor = actor; event = e; reply = r }) (if told then s else t).causes
  moves_noted e r true t is h = Stays refl
  moves_noted e r false t is h = h (untold_one s.causes.over is)

  client_comes : (rest : ℕ) (r : Reply) → s.causes.death ≡ None → CutComesOf M (client_ended rest) (length s.requests) s (record { actor = actor; event = event.ClientEnd rest; reply = r })
  client_comes zero r alive = (refl, refl, alive)
  client_comes (suc rest) r alive = (refl, omega arith, refl, alive)

  moves_client : (rest : ℕ) (r : Reply) (death : Option End) → s.causes.death ≡ death → s.causes.over ≡ None → CausesMove M s (record { actor = actor; event = event.ClientEnd rest; reply = r }) (if is_some death then s.causes else with_cut (length s.requests) (client_ended rest) s.causes)
  moves_client rest r None is untold = Cuts (length s.requests) (client_ended rest) refl untold (inl (client_comes rest r is))
  moves_client rest r (Some why) is untold = Stays refl

  broker_comes : (rest : ℕ) (r : Reply) → DeathComesOf (broker_ended rest (waiting s)) s (record { actor = actor; event = event.BrokerEnd rest; reply = r })
  broker_comes zero r = (refl, refl)
  broker_comes (suc rest) r = (refl, omega arith)

  moves_authority : (k : ℕ) (r : Reply) (open_ : Bool) → is_some (open_hold M s k) ≡ open_ → s.causes.over ≡ None → CausesMove M s (record { actor = actor; event = event.Fault (fault.Authority k); reply = r }) (if open_ then cut_at k (end.AuthorityFault k) s else s).causes
  moves_authority k r true is untold = Cuts k (end.AuthorityFault k) refl untold (inl (refl, refl, is))
  moves_authority k r false is untold = Stays refl

  moves_fault : (x : Fault) (r : Reply) → s.causes.over ≡ None → CausesMove M s (record { actor = actor; event = event.Fault x; reply = r }) (faulted M s x).causes
  moves_fault fault.ClientRead r untold = Cuts (length s.requests) end.ClientReadFault refl untold (inl (refl, refl))
  moves_fault fault.ClientWrite r untold = Halts end.ClientWriteFault refl untold refl
  moves_fault fault.BrokerRead r untold = Dies end.BrokerReadFault refl untold refl
  moves_fault fault.BrokerWrite r untold = Dies end.BrokerWriteFault refl untold refl
  moves_fault (fault.ClientBadSize at size) r untold = Cuts (length s.requests) (end.BadSize at size) refl untold (inl (refl, refl))
  moves_fault (fault.BrokerBadSize at size) r untold = Dies (end.BrokerBadSize at size) refl untold refl
  moves_fault (fault.Authority k) r untold = moves_authority k r (is_some (open_hold M s k)) refl untold
  moves_fault fault.Thread r untold = Halts end.ThreadRefused refl untold refl
  moves_fault fault.NoMemory r untold = Halts end.NoMemory refl untold (inl refl)

  -- what the writers, a completer and others ask
  moves_sent : (r none : Reply) (still : Bool) (next : Option ListedSend) → MovesAt event.Send r (if still then (none, s) else sent_next s next)
  moves_sent r none true next = Stays refl
  moves_sent r none false None = Stays refl
  moves_sent r none false (Some d) = Stays refl

  moves_picked : (r none : Reply) (still : Bool) (next : Option (ℕ × ℕ × List ℕ)) → MovesAt event.Pick r (if still then (none, s) else picked_next s next)
  moves_picked r none true next = Stays refl
  moves_picked r none false None = Stays refl
  moves_picked r none false (Some hold) = Stays refl

  abbrev EmitMoves : Reply → Reply × State → Type 0
  EmitMoves r answer = MovesAt event.Emit r answer

  moves_over : (r : Reply) (why : Option End) (t : State) (later : Reply × State) → t.causes ≡ s.causes → EmitMoves r later → EmitMoves r (over_or why t later)
  moves_over r None t later same h = h
  moves_over r (Some why) t later same h = Tells why (ap (λ c. with_told why c) same)

  moves_respond : (r : Reply) (response : Option (List ℕ)) (t : State) (later : Reply × State) → t.causes ≡ s.causes → EmitMoves r later → EmitMoves r (respond_or response t later)
  moves_respond r None t later same h = h
  moves_respond r (Some response) t later same h = Stays same

  moves_again : (r : Reply) (over : Option End) (later : Reply × State) → EmitMoves r later → EmitMoves r (told_again over s later)
  moves_again r None later h = h
  moves_again r (Some why) later h = Stays refl

  moves_emit : (r : Reply) → EmitMoves r (emit_step M s)
  moves_emit r =
      let t : State = silent_passed M s in
      moves_again r s.causes.over _
      (moves_over r s.causes.halt s _ refl
      (moves_over r _ t _ refl
      (moves_respond r (response_in M (slice_get t.requests t.passed)) t _ refl
      (moves_over r s.causes.death t (reply.Emit emit.Later, t) refl (Stays refl)))))

  pub moves : (e : Event) (r : Reply) → r ≡ (answer_to M s e).0 → CausesMove M s (record { actor = actor; event = e; reply = r }) (answer_to M s e).1.causes
  moves (event.Take frame) r is = moves_take (are_ending s.causes) (M.room (in_flight s) (held s) (length frame)) frame _ _ r refl is
  moves (event.Answer frame) r is = moves_answer (are_dead s.causes) frame _ r refl is
  moves (event.Complete k i verdict) r is = moves_complete (not (are_still s.causes) && is_hold i (open_hold M s k)) k i verdict _ _ r
  moves (event.ClientEnd rest) r is = moves_noted (event.ClientEnd rest) r (is_some s.causes.over) (client_end rest s) refl (moves_client rest r s.causes.death refl)
  moves (event.BrokerEnd rest) r is =
      moves_noted (event.BrokerEnd rest) r (is_some s.causes.over) (dead (broker_ended rest (waiting s)) s) refl
      (λ untold. Dies (broker_ended rest (waiting s)) refl untold (broker_comes rest r))
  moves (event.Fault x) r is = moves_noted (event.Fault x) r (is_some s.causes.over) (faulted M s x) refl (moves_fault x r)
  moves event.Send r is = moves_sent r _ (is_some s.causes.death || is_some s.causes.halt) (slice_get s.sends s.taken)
  moves event.Emit r is = moves_emit r
  moves event.Pick r is = moves_picked r _ (are_still s.causes) (first_hold M s.causes.cut s.picked 0 s.requests)
  moves event.Look r is = Stays refl

-- which act a request does, and which request it is
record Found (M : Meaning) (sends : List ListedSend) (cut : Option (ℕ × End)) (k : ℕ) (rs : List Request) (act : Act) : Type 0 where
  place : ℕ
  number : ℕ
  number_is : number ≡ k + place
  request : Request
  free : Bool
  there : slice_get rs place ≡ Some request
  low : below cut number ≡ true
  act_is : act_of sends number (length request.given) free (M.status request.frame request.given) ≡ Some act

one_of : (a b : Option Act) (act : Act) → or_else a b ≡ Some act → (a ≡ Some act) ⊎ (b ≡ Some act)
one_of None b act h = inr h
one_of (Some x) b act h = inl h

module _ (M : Meaning) (sends : List ListedSend) (cut : Option (ℕ × End)) where
  found_further : (k : ℕ) (r : Request) (rs : List Request) (act : Act) → Found M sends cut (suc k) rs act → Found M sends cut k (r ∷ rs) act
  found_further k r rs act f = record {
    place = suc f.place;
    number = f.number;
    number_is = let e : f.number ≡ suc k + f.place = f.number_is in omega (arith, e);
    request = f.request;
    free = f.free;
    there = f.there;
    low = f.low;
    act_is = f.act_is;
  }

  found_here : (k : ℕ) (free : Bool) (r : Request) (rs : List Request) (act : Act) → below cut k ≡ true → act_of sends k (length r.given) free (M.status r.frame r.given) ≡ Some act → Found M sends cut k (r ∷ rs) act
  found_here k free r rs act low is = record { place = 0; number = k; number_is = omega arith; request = r; free = free; there = refl; low = low; act_is = is }

  found_either : (k : ℕ) (free : Bool) (r : Request) (rs : List Request) (act : Act) → below cut k ≡ true
      → (act_of sends k (length r.given) free (M.status r.frame r.given) ≡ Some act) ⊎ Found M sends cut (suc k) rs act → Found M sends cut k (r ∷ rs) act
  found_either k free r rs act low (inl is) = found_here k free r rs act low is
  found_either k free r rs act low (inr f) = found_further k r rs act f

  or_found : {A B C : Type 0} → (B → C) → A ⊎ B → A ⊎ C
  or_found f (inl a) = inl a
  or_found f (inr b) = inr (f b)

  act_found : (k : ℕ) (free : Bool) (rs : List Request) (act : Act) → act_from M sends cut k free rs ≡ Some act → Found M sends cut k rs act
  act_found k free [] act h = cc
  act_found k free (r ∷ rs) act h =
      let later : Bool = free && lets_later_go sends k (M.status r.frame r.given) in
      let parts : (below cut k ≡ true) × (or_else (act_of sends k (length r.given) free (M.status r.frame r.given)) (act_from M sends cut (suc k) later rs) ≡ Some act) = if_low (below cut k) _ act h in
      found_either k free r rs act parts.0
      (or_found (λ is. act_found (suc k) later rs act is) (one_of _ (act_from M sends cut (suc k) later rs) act parts.1))

-- a request that cuts fails
one_send_cuts : (goes : Bool) (d : ListedSend) (j : ℕ) (why : End) → (if goes then Some (Lists d) else None) ≡ Some (CutAt j why) → ⊥
one_send_cuts true d j why h = cc
one_send_cuts false d j why h = cc

cut_fails : (sends : List ListedSend) (k i : ℕ) (free : Bool) (status : Status) (j : ℕ) (why : End) → act_of sends k i free status ≡ Some (CutAt j why) → (cause : ℕ → End) × (status ≡ Fails cause) × (why ≡ cause k)
cut_fails sends k i free (Fails cause) j why h = (cause, refl, let e : CutAt k (cause k) ≡ CutAt j why = cc in cc)
cut_fails sends k i free (Done response) j why h = cc
cut_fails sends k i free (Waits (Hold key)) j why h = cc
cut_fails sends k i free (Waits (ToBroker before behind main responds)) j why h = absurd (one_send_cuts (not (is_listed sends k i) && (free || not main)) _ j why h)

module _ (M : Meaning) (s : State) where
  next_found : (act : Act) → next_act M s ≡ Some act → Found M s.sends s.causes.cut 0 s.requests act
  next_found act h = act_found M s.sends s.causes.cut 0 true s.requests act h

  next_cut : (j : ℕ) (why : End) → next_act M s ≡ Some (CutAt j why) → (below s.causes.cut j ≡ true) × IsCutByStatus M s j why
  next_cut j why h =
      let f : Found M s.sends s.causes.cut 0 s.requests (CutAt j why) = next_found (CutAt j why) h in
      let own : j ≡ f.number = act_is_of s.sends f.number (length f.request.given) f.free (M.status f.request.frame f.request.given) (CutAt j why) f.act_is in
      let same : f.place ≡ j = let e : f.number ≡ 0 + f.place = f.number_is in omega (arith, e, own) in
      let fails : (cause : ℕ → End) × (M.status f.request.frame f.request.given ≡ Fails cause) × (why ≡ cause f.number) = cut_fails s.sends f.number (length f.request.given) f.free (M.status f.request.frame f.request.given) j why f.act_is in (
        subst (λ x. below s.causes.cut x ≡ true) (sym own) f.low,
        record {
          request = f.request;
          there = subst (λ x. slice_get s.requests x ≡ Some f.request) same f.there;
          cause = fails.0;
          fails = fails.1;
          end_is = fails.2 ∙ ap fails.0 (sym own);
        },
      )

  next_lists : (d : ListedSend) → next_act M s ≡ Some (Lists d) → below s.causes.cut d.request ≡ true
  next_lists d h =
      let f : Found M s.sends s.causes.cut 0 s.requests (Lists d) = next_found (Lists d) h in
      let own : d.request ≡ f.number = act_is_of s.sends f.number (length f.request.given) f.free (M.status f.request.frame f.request.given) (Lists d) f.act_is in
      subst (λ x. below s.causes.cut x ≡ true) (sym own) f.low

-- what is given to another request
set_other : {X : Type 0} → (xs : List X) (i j : ℕ) (x : X) → i ≢ j → slice_get (slice_set xs i x) j ≡ slice_get xs j
set_other [] i j x other = refl
set_other (y ∷ ys) zero zero x other = absurd (other refl)
set_other (y ∷ ys) zero (suc j) x other = refl
set_other (y ∷ ys) (suc i) zero x other = refl
set_other (y ∷ ys) (suc i) (suc j) x other = set_other ys i j x (λ e. other (ap suc e))

given_other : (x : Outside) (found : Option Request) (rs : List Request) (i j : ℕ) → i ≢ j → slice_get (given_more x found rs i) j ≡ slice_get rs j
given_other x None rs i j other = refl
given_other x (Some r) rs i j other = set_other rs i j _ other

-- an act gives to no request at the cut or past it, and the cut falls at most
listed_other : (responds : Bool) (d : ListedSend) (s : State) (j : ℕ) → d.request ≢ j → slice_get (if responds then record s { sends = s.sends ++ d ∷ [] } else give d.request NoResponse (record s { sends = s.sends ++ d ∷ [] })).requests j ≡ slice_get s.requests j
listed_other true d s j other = refl
listed_other false d s j other = given_other NoResponse (slice_get s.requests d.request) s.requests d.request j other

listed_causes : (responds : Bool) (d : ListedSend) (s : State) → (if responds then record s { sends = s.sends ++ d ∷ [] } else give d.request NoResponse (record s { sends = s.sends ++ d ∷ [] })).causes ≡ s.causes
listed_causes true d s = refl
listed_causes false d s = refl

pub not_below : (old new : Option (ℕ × End)) (j : ℕ) → (below new j ≡ true → below old j ≡ true) → below old j ≡ false → (b : Bool) → below new j ≡ b → below new j ≡ false
not_below old new j falls h true is = absurd (let e : below old j ≡ true = falls is in cc)
not_below old new j falls h false is = is

module _ (M : Meaning) where
  acted_cut_falls : (act : Option Act) (s : State) (j : ℕ) → below (acted act s).causes.cut j ≡ true → below s.causes.cut j ≡ true
  acted_cut_falls None s j h = h
  acted_cut_falls (Some (CutAt k why)) s j h = low_before_cut k why s.causes j h
  acted_cut_falls (Some (Lists d)) s j h = subst (λ c. below c.cut j ≡ true) (listed_causes d.responds d s) h

  acts_fall : (n : ℕ) (s : State) (j : ℕ) → below (after_acts M n s).causes.cut j ≡ true → below s.causes.cut j ≡ true
  acts_fall zero s j h = h
  acts_fall (suc n) s j h = acted_cut_falls (next_act M s) s j (acts_fall n (acted (next_act M s) s) j h)

  acted_other : (act : Option Act) (s : State) (j : ℕ) → next_act M s ≡ act → below s.causes.cut j ≡ false → slice_get (acted act s).requests j ≡ slice_get s.requests j
  acted_other None s j is h = refl
  acted_other (Some (CutAt k why)) s j is h = refl
  acted_other (Some (Lists d)) s j is h =
      listed_other d.responds d s j (λ same. absurd (let low : below s.causes.cut j ≡ true = subst (λ x. below s.causes.cut x ≡ true) same (next_lists M s d is) in cc))

  others_stay : (n : ℕ) (s : State) (j : ℕ) → below s.causes.cut j ≡ false → slice_get (after_acts M n s).requests j ≡ slice_get s.requests j
  others_stay zero s j h = refl
  others_stay (suc n) s j h =
      let next : State = acted (next_act M s) s in
      others_stay n next j (not_below s.causes.cut next.causes.cut j (acted_cut_falls (next_act M s) s j) h (below next.causes.cut j) refl)
      ∙ acted_other (next_act M s) s j refl h

-- no request is below a cut at itself
not_less : (j : ℕ) (b : Bool) → nat_lt j j ≡ b → nat_lt j j ≡ false
not_less j true is = absurd (let e : j < j = ltb-true j j is in omega (arith, e))
not_less j false is = is

pub not_below_itself : (j : ℕ) (why : End) → below (Some (j, why)) j ≡ false
not_below_itself j why = not_less j (nat_lt j j) refl

-- What settling does to the causes: a request that fails cuts at itself, and nothing else changes. What stands at the cut or
-- past it stays.
pub record IsSettledTo (M : Meaning) (s t : State) : Type 0 where
  pub falls : (j : ℕ) → below t.causes.cut j ≡ true → below s.causes.cut j ≡ true
  pub others : (j : ℕ) → below s.causes.cut j ≡ false → slice_get t.requests j ≡ slice_get s.requests j
  pub halt : t.causes.halt ≡ s.causes.halt
  pub death : t.causes.death ≡ s.causes.death
  pub cut : (k : ℕ) (why : End) → t.causes.cut ≡ Some (k, why) → (s.causes.cut ≡ Some (k, why)) ⊎ ((below s.causes.cut k ≡ true) × IsCutByStatus M t k why)

module _ (M : Meaning) where
  acted_halt : (act : Option Act) (s : State) → (acted act s).causes.halt ≡ s.causes.halt
  acted_halt None s = refl
  acted_halt (Some (CutAt k why)) s = refl
  acted_halt (Some (Lists d)) s = ap (λ c. c.halt) (listed_causes d.responds d s)

  acted_death : (act : Option Act) (s : State) → (acted act s).causes.death ≡ s.causes.death
  acted_death None s = refl
  acted_death (Some (CutAt k why)) s = refl
  acted_death (Some (Lists d)) s = ap (λ c. c.death) (listed_causes d.responds d s)

  acts_halt : (n : ℕ) (s : State) → (after_acts M n s).causes.halt ≡ s.causes.halt
  acts_halt zero s = refl
  acts_halt (suc n) s = acts_halt n (acted (next_act M s) s) ∙ acted_halt (next_act M s) s

  acts_death : (n : ℕ) (s : State) → (after_acts M n s).causes.death ≡ s.causes.death
  acts_death zero s = refl
  acts_death (suc n) s = acts_death n (acted (next_act M s) s) ∙ acted_death (next_act M s) s

  abbrev CutIn : State → State → ℕ → End → Type 0
  CutIn s t k why = (s.causes.cut ≡ Some (k, why)) ⊎ ((below s.causes.cut k ≡ true) × IsCutByStatus M t k why)

  still_fails : (s t : State) (j : ℕ) (why : End) → slice_get t.requests j ≡ slice_get s.requests j → IsCutByStatus M s j why → IsCutByStatus M t j why
  still_fails s t j why same f = record { request = f.request; there = same ∙ f.there; cause = f.cause; fails = f.fails; end_is = f.end_is }

  cut_as : (low : Bool) (j k : ℕ) (why cause : End) (cut : Option (ℕ × End)) → low ≡ true → (if low then Some (j, cause) else cut) ≡ Some (k, why) → ◌≡◌ {A = ℕ × End} (j, cause) (k, why)
  cut_as true j k why cause cut is h = cc
  cut_as false j k why cause cut is h = cc

  cut_not_below : (low : Bool) (j : ℕ) (cause : End) (cut : Option (ℕ × End)) → low ≡ true → below (if low then Some (j, cause) else cut) j ≡ false
  cut_not_below true j cause cut is = not_below_itself j cause
  cut_not_below false j cause cut is = cc

  cut_acted : (n : ℕ) (s : State) (act : Option Act) (k : ℕ) (why : End) → next_act M s ≡ act → CutIn (acted act s) (after_acts M n (acted act s)) k why → CutIn s (after_acts M n (acted act s)) k why
  cut_acted n s act k why is (inr fails) = inr (acted_cut_falls M act s k fails.0, fails.1)
  cut_acted n s None k why is (inl cut) = inl cut
  cut_acted n s (Some (Lists d)) k why is (inl cut) = inl (subst (λ c. c.cut ≡ Some (k, why)) (listed_causes d.responds d s) cut)
  cut_acted n s (Some (CutAt j cause)) k why is (inl cut) =
      let fails : (below s.causes.cut j ≡ true) × IsCutByStatus M s j cause = next_cut M s j cause is in
      let t : State = cut_at j cause s in
      let same : ◌≡◌ {A = ℕ × End} (j, cause) (k, why) = cut_as (below s.causes.cut j) j k why cause s.causes.cut fails.0 cut in
      let stays : slice_get (after_acts M n t).requests j ≡ slice_get s.requests j = others_stay M n t j (cut_not_below (below s.causes.cut j) j cause s.causes.cut fails.0) in
      inr (subst (λ (x : ℕ × End). (below s.causes.cut x.0 ≡ true) × IsCutByStatus M (after_acts M n t) x.0 x.1) same (fails.0, still_fails s (after_acts M n t) j cause stays fails.1))

  cut_acts : (n : ℕ) (s : State) (k : ℕ) (why : End) → (after_acts M n s).causes.cut ≡ Some (k, why) → CutIn s (after_acts M n s) k why
  cut_acts zero s k why h = inl h
  cut_acts (suc n) s k why h = cut_acted n s (next_act M s) k why refl (cut_acts n (acted (next_act M s) s) k why h)

  pub settled_to : (s t : State) → Settles M s t → IsSettledTo M s t
  settled_to s t h = subst (λ x. IsSettledTo M s x) h.after (record { falls = acts_fall M h.acts s; others = others_stay M h.acts s; halt = acts_halt h.acts s; death = acts_death h.acts s; cut = cut_acts h.acts s })

-- At a cut and past it, no event changes what stands there: a request is given nothing, and none joins.
module _ (M : Meaning) (s : State) (k : ℕ) (out : below s.causes.cut k ≡ false) where
  abbrev StaysThere : State → Type 0
  StaysThere t = slice_get t.requests k ≡ slice_get s.requests k

  abbrev StaysIn : Reply × State → Type 0
  StaysIn answer = StaysThere answer.1

  there_if : (b : Bool) (x y : State) → StaysThere x → StaysThere y → StaysThere (if b then x else y)
  there_if true x y h l = h
  there_if false x y h l = l

  there_in : (b : Bool) (x y : Reply × State) → StaysIn x → StaysIn y → StaysIn (if b then x else y)
  there_in true x y h l = h
  there_in false x y h l = l

  -- what is given to a request below the cut
  there_given : (j : ℕ) (x : Outside) (requests : List Request) → requests ≡ s.requests → below s.causes.cut j ≡ true → slice_get (given_more x (slice_get requests j) requests j) k ≡ slice_get s.requests k
  there_given j x requests same low =
      given_other x (slice_get requests j) requests j k (λ e. absurd (let never : below s.causes.cut k ≡ true = subst (λ i. below s.causes.cut i ≡ true) e low in cc))
      ∙ ap (λ rs. slice_get rs k) same

  there_body : (d : ListedSend) (body : List ℕ) (cause : Option (ℕ → End)) → below s.causes.cut d.request ≡ true → StaysThere (read_body cause d.request body (record s { answered = s.answered + 1 }))
  there_body d body None low = there_given d.request (Body body) s.requests refl low
  there_body d body (Some cause) low = refl

  there_matched : (d : ListedSend) (body : List ℕ) (low : Bool) → below s.causes.cut d.request ≡ low → StaysThere (if low then read_body (M.unreadable d.before body) d.request body (record s { answered = s.answered + 1 }) else record s { answered = s.answered + 1 })
  there_matched d body true is = there_body d body (M.unreadable d.before body) is
  there_matched d body false is = refl

  there_attributed : (frame : List ℕ) (due : Option (ℕ × ListedSend)) → StaysThere (attributed M s frame due)
  there_attributed frame None = refl
  there_attributed frame (Some due) = there_if (int_eq (response_id frame) (pos (upstream_id due.0))) _ _ (there_matched due.1 (drop 4 frame) (below s.causes.cut due.1.request) refl) refl

  -- a request that is held is below the cut
  held_low : (i j : ℕ) (found : Option Request) (low : Bool) → below s.causes.cut j ≡ low → is_hold i (hold_in M s.causes.cut j found) ≡ true → below s.causes.cut j ≡ true
  held_low i j found true is h = is
  held_low i j None false is h = cc
  held_low i j (Some r) false is h = absurd (let none : hold_in M s.causes.cut j (Some r) ≡ None = rw is in let never : is_hold i (hold_in M s.causes.cut j (Some r)) ≡ false = ap (is_hold i) none in cc)

  both_second : (a b : Bool) → (a && b) ≡ true → b ≡ true
  both_second true b h = h
  both_second false b h = cc

  there_complete : (i j : ℕ) (verdict : List ℕ) (taken refused : Reply) (waits : Bool) → (not (are_still s.causes) && is_hold i (open_hold M s j)) ≡ waits → StaysIn (if waits then (taken, give j (Verdict verdict) s) else (refused, s))
  there_complete i j verdict taken refused true is =
      there_given j (Verdict verdict) s.requests refl (held_low i j (slice_get s.requests j) (below s.causes.cut j) refl (both_second (not (are_still s.causes)) (is_hold i (open_hold M s j)) is))
  there_complete i j verdict taken refused false is = refl

  ends_already : (c : Option (ℕ × End)) → below c k ≡ false → (a b d : Bool) → (is_some c || a || b || d) ≡ true
  ends_already None is a b d = cc
  ends_already (Some x) is a b d = refl

  there_take : (ending room : Bool) (refused taken full : Reply) (t : State) → are_ending s.causes ≡ ending → StaysIn (if ending then (refused, s) else if room then (taken, t) else (full, s))
  there_take true room refused taken full t is = refl
  there_take false room refused taken full t is = absurd (let ends : are_ending s.causes ≡ true = ends_already s.causes.cut out (is_some s.causes.death) (is_some s.causes.halt) (is_some s.causes.over) in cc)

  there_fault : (x : Fault) → StaysThere (faulted M s x)
  there_fault fault.ClientRead = refl
  there_fault fault.ClientWrite = refl
  there_fault fault.BrokerRead = refl
  there_fault fault.BrokerWrite = refl
  there_fault (fault.ClientBadSize at size) = refl
  there_fault (fault.BrokerBadSize at size) = refl
  there_fault (fault.Authority j) = there_if (is_some (open_hold M s j)) _ s refl refl
  there_fault fault.Thread = refl
  there_fault fault.NoMemory = refl

  there_sent : (next : Option ListedSend) → StaysThere (sent_next s next).1
  there_sent None = refl
  there_sent (Some d) = refl

  there_picked : (next : Option (ℕ × ℕ × List ℕ)) → StaysThere (picked_next s next).1
  there_picked None = refl
  there_picked (Some hold) = refl

  there_over : (cause : Option End) (t : State) (later : Reply × State) → StaysThere t → StaysThere later.1 → StaysThere (over_or cause t later).1
  there_over None t later h l = l
  there_over (Some cause) t later h l = h

  there_respond : (response : Option (List ℕ)) (t : State) (later : Reply × State) → StaysThere t → StaysThere later.1 → StaysThere (respond_or response t later).1
  there_respond None t later h l = l
  there_respond (Some response) t later h l = h

  there_again : (over : Option End) (later : Reply × State) → StaysThere later.1 → StaysThere (told_again over s later).1
  there_again None later l = l
  there_again (Some cause) later l = refl

  there_emit : StaysThere (emit_step M s).1
  there_emit =
      let t : State = silent_passed M s in
      there_again s.causes.over _
      (there_over s.causes.halt s _ refl
      (there_over (cut_cause t.causes.cut t.passed) t _ refl
      (there_respond (response_in M (slice_get t.requests t.passed)) t _ refl (there_over s.causes.death t (reply.Emit emit.Later, t) refl refl))))

  pub there_answer : (e : Event) → StaysThere (answer_to M s e).1
  there_answer (event.Take frame) = there_take (are_ending s.causes) (M.room (in_flight s) (held s) (length frame)) _ _ _ (joined (M.no_request frame) frame s) refl
  there_answer (event.Answer frame) = there_in (are_dead s.causes) _ _ refl (there_attributed frame (due_send s))
  there_answer (event.Complete j i verdict) = there_complete i j verdict _ _ (not (are_still s.causes) && is_hold i (open_hold M s j)) refl
  there_answer (event.ClientEnd rest) = there_if (is_some s.causes.over) s (client_end rest s) refl refl
  there_answer (event.BrokerEnd rest) = there_if (is_some s.causes.over) s (dead (broker_ended rest (waiting s)) s) refl refl
  there_answer (event.Fault x) = there_if (is_some s.causes.over) s (faulted M s x) refl (there_fault x)
  there_answer event.Send = there_in (is_some s.causes.death || is_some s.causes.halt) _ _ refl (there_sent (slice_get s.sends s.taken))
  there_answer event.Emit = there_emit
  there_answer event.Pick = there_in (are_still s.causes) _ _ refl (there_picked (first_hold M s.causes.cut s.picked 0 s.requests))
  there_answer event.Look = refl
