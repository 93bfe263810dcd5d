-- The law of requests: what was taken from the client are the requests, but perhaps for the last.
use Rattle.std.proofs.Common.{◌≡◌, ◌∙◌, ap, ℕ, ◌<◌, Bool, true, false, ◌||◌, if◌then◌else◌, is_some, List, [], ◌∷◌, ◌++◌, length, map, refl, sym, append_assoc, Option, Some, None, slice_get, Ok, Err, inl, inr, ◌⊎◌, arith}
use Rattle.std.proofs.lemmas.List.{append-nil}
use Rattle.kp_edge.specs.declared.end.End.{End}
use Rattle.kp_edge.specs.declared.end.End.TheVariants as end
use Rattle.conn_rules.specs.declared.event.Event.{Event}
use Rattle.conn_rules.specs.declared.event.Event.TheVariants as event
use Rattle.conn_rules.specs.declared.event.Reply.{Reply}
use Rattle.conn_rules.specs.declared.event.Reply.TheVariants as reply
use Rattle.conn_rules.specs.declared.event.TakeFault.TheVariants as take_fault
use Rattle.conn_rules.specs.declared.event.AnswerFault.TheVariants as answer_fault
use Rattle.conn_rules.specs.declared.event.CompleteFault.TheVariants as complete_fault
use Rattle.conn_rules.specs.Meaning.{Meaning}
use Rattle.conn_rules.specs.State.{State, opening, halted, in_flight, held}
use Rattle.conn_rules.specs.Causes.{are_ending, first_cause}
use Rattle.conn_rules.specs.Steps.{joined, response_in, silent_passed, over_or, respond_or, told_again, emit_step, answer_to, memory_answer, StepOrNoMemory}
use Rattle.conn_rules.specs.History.{Entry, LeadsTo, IsHistory, is_taken, frame_taken, frames_taken, AreRequests, client_frame, client_frames, AreFirst}
use Rattle.conn_rules.proofs.Keeps.{Keeps, keeps_joined, keeps_halted, keeps_settling}
use Rattle.conn_rules.proofs.Quiet.{IsQuiet, quiet_event}

-- where no request joins
carried : (s t : State) (frames : List (List ℕ)) → Keeps s [] t → AreRequests s frames → AreRequests t frames
carried s t frames keeps h =
    record {
      other = h.other;
      frames = h.frames ∙ ap (λ fs. fs ++ h.other) (sym (keeps.frames ∙ append-nil (map (λ r. r.frame) s.requests)));
      at_most_one = h.at_most_one;
      ends = λ some. keeps.ending (h.ends some);
    }

none_of : {X : Type 0} → (xs : List X) → (0 < length xs → ⊥) → xs ≡ []
none_of [] h = refl
none_of (x ∷ xs) h = absurd (h (omega arith))

no_cut : (cut : Option (ℕ × End)) (b c d : Bool) → (is_some cut || b || c || d) ≡ false → cut ≡ None
no_cut None b c d h = refl
no_cut (Some at) true c d h = cc
no_cut (Some at) false true d h = cc
no_cut (Some at) false false d h = cc

or_true : (b : Bool) → (b || true) ≡ true
or_true true = refl
or_true false = refl

module _ (M : Meaning) (s : State) (frames : List (List ℕ)) (h : AreRequests s frames) where
  -- a frame is taken where nothing ends, so all frames so far are requests
  all_requests : are_ending s.causes ≡ false → frames ≡ map (λ r. r.frame) s.requests
  all_requests runs =
      let none : h.other ≡ [] = none_of h.other (λ some. let e : are_ending s.causes ≡ true = h.ends some in cc) in
      h.frames ∙ (ap (λ fs. map (λ r. r.frame) s.requests ++ fs) none ∙ append-nil _)

  -- the frame ends the connection in place of joining it
  taken_last : (frame : List ℕ) (t : State) → are_ending s.causes ≡ false → t.requests ≡ s.requests → are_ending t.causes ≡ true → AreRequests t (frames ++ frame ∷ [])
  taken_last frame t runs same ends =
      record {
        other = frame ∷ [];
        frames = rw (same, all_requests runs);
        at_most_one = omega arith;
        ends = λ some. ends;
      }

  taken_next : (frame : List ℕ) → are_ending s.causes ≡ false → AreRequests (record s { requests = s.requests ++ record { frame = frame; given = [] } ∷ [] }) (frames ++ frame ∷ [])
  taken_next frame runs =
      record {
        other = [];
        frames = rw (all_requests runs) (sym (append-nil _ ∙ (keeps_joined frame s).frames));
        at_most_one = omega arith;
        ends = λ some. absurd (omega arith);
      }

  taken_refusal : (why : Option (ℕ → End)) (frame : List ℕ) → are_ending s.causes ≡ false → AreRequests (joined why frame s) (frames ++ frame ∷ [])
  taken_refusal None frame runs = taken_next frame runs
  taken_refusal (Some why) frame runs =
      let cut : s.causes.cut ≡ None = no_cut s.causes.cut (is_some s.causes.death) (is_some s.causes.halt) (is_some s.causes.over) runs in
      taken_last frame _ runs refl (rw cut)

  abbrev After : List ℕ → Reply × State → Type 0
  After frame answer = AreRequests answer.1 (frames ++ frame_taken (event.Take frame) answer.0)

  taken_case : (frame : List ℕ) (ending room : Bool) → are_ending s.causes ≡ ending → After frame (if ending then (reply.Take (Err (take_fault.Ending frame)), s) else if room then (reply.Take (Ok tt), joined (M.no_request frame) frame s) else (reply.Take (Err (take_fault.Full (in_flight s) (held s) frame)), s))
  taken_case frame true room is = rw (append-nil frames) h
  taken_case frame false true is = taken_refusal (M.no_request frame) frame is
  taken_case frame false false is = rw (append-nil frames) h

  after_take : (frame : List ℕ) → After frame (answer_to M s (event.Take frame))
  after_take frame = taken_case frame (are_ending s.causes) _ refl

-- an emit step takes nothing, and no request leaves
record Same (s t : State) : Type 0 where
  requests : t.requests ≡ s.requests
  ending : are_ending s.causes ≡ true → are_ending t.causes ≡ true

ends_over : (a b c : Bool) → (a || b || c || true) ≡ true
ends_over a b c = or_true (a || b || c)

module _ (M : Meaning) (s : State) where
  same_over_or : (why : Option End) (t : State) (later : Reply × State) → Same s t → Same s later.1 → Same s (over_or why t later).1
  same_over_or None t later h k = k
  same_over_or (Some why) t later h k = record { requests = h.requests; ending = λ e. ends_over (is_some t.causes.cut) (is_some t.causes.death) (is_some t.causes.halt) }

  same_respond_or : (response : Option (List ℕ)) (t : State) (later : Reply × State) → Same s t → Same s later.1 → Same s (respond_or response t later).1
  same_respond_or None t later h k = k
  same_respond_or (Some response) t later h k = record { requests = h.requests; ending = h.ending }

  same_told : (why : Option End) (later : Reply × State) → Same s s → Same s later.1 → Same s (told_again why s later).1
  same_told None later h k = k
  same_told (Some why) later h k = h

  same_emit : Same s (emit_step M s).1
  same_emit =
      let here : Same s s = record { requests = refl; ending = λ e. e } in
      let t : State = silent_passed M s in
      let there : Same s t = record { requests = refl; ending = λ e. e } in
      same_told s.causes.over _ here
      (same_over_or s.causes.halt s _ here
      (same_over_or _ t _ there
      (same_respond_or (response_in M (slice_get t.requests t.passed)) t _ there (same_over_or s.causes.death t _ there there))))

-- want of memory takes nothing
memory_takes : (r given : Reply) → memory_answer given ≡ Some r → is_taken r ≡ false
memory_takes r (reply.Take (Ok _)) h = let e : r ≡ reply.Take (Err take_fault.NoMemory) = cc in rw e
memory_takes r (reply.Take (Err _)) h = cc
memory_takes r (reply.Answer (Ok _)) h = let e : r ≡ reply.Answer (Err answer_fault.NoMemory) = cc in rw e
memory_takes r (reply.Answer (Err _)) h = cc
memory_takes r (reply.Complete (Ok _)) h = let e : r ≡ reply.Complete (Err complete_fault.NoMemory) = cc in rw e
memory_takes r (reply.Complete (Err _)) h = cc
memory_takes r reply.Noted h = cc
memory_takes r (reply.Send _) h = cc
memory_takes r (reply.Emit _) h = cc
memory_takes r (reply.Pick _) h = cc
memory_takes r (reply.Look _) h = cc

none_taken : (e : Event) (r : Reply) → is_taken r ≡ false → frame_taken e r ≡ []
none_taken (event.Take frame) r h = rw h
none_taken (event.Answer frame) r h = refl
none_taken (event.Complete k i verdict) r h = refl
none_taken (event.ClientEnd rest) r h = refl
none_taken (event.BrokerEnd rest) r h = refl
none_taken (event.Fault x) r h = refl
none_taken event.Send r h = refl
none_taken event.Emit r h = refl
none_taken event.Pick r h = refl
none_taken event.Look r h = refl

module _ (M : Meaning) where
  after_quiet : (s : State) (frames : List (List ℕ)) (h : AreRequests s frames) (e : Event) → IsQuiet e → AreRequests (answer_to M s e).1 frames
  after_quiet s frames h e is = carried s (answer_to M s e).1 frames (quiet_event M s e is).keeps h

  after_answer : (s : State) (frames : List (List ℕ)) (h : AreRequests s frames) (e : Event) → AreRequests (answer_to M s e).1 (frames ++ frame_taken e (answer_to M s e).0)
  after_answer s frames h (event.Take frame) = after_take M s frames h frame
  after_answer s frames h (event.Answer frame) = rw append-nil (after_quiet s frames h (event.Answer frame) tt)
  after_answer s frames h (event.Complete k i verdict) = rw append-nil (after_quiet s frames h (event.Complete k i verdict) tt)
  after_answer s frames h (event.ClientEnd rest) = rw append-nil (after_quiet s frames h (event.ClientEnd rest) tt)
  after_answer s frames h (event.BrokerEnd rest) = rw append-nil (after_quiet s frames h (event.BrokerEnd rest) tt)
  after_answer s frames h (event.Fault x) = rw append-nil (after_quiet s frames h (event.Fault x) tt)
  after_answer s frames h event.Send = rw append-nil (after_quiet s frames h event.Send tt)
  after_answer s frames h event.Emit =
      let same : Same s (emit_step M s).1 = same_emit M s in
      rw append-nil (record { other = h.other; frames = rw same.requests h.frames; at_most_one = h.at_most_one; ends = λ some. same.ending (h.ends some) })
  after_answer s frames h event.Pick = rw append-nil (after_quiet s frames h event.Pick tt)
  after_answer s frames h event.Look = rw append-nil (after_quiet s frames h event.Look tt)

  after_event : (s t : State) (frames : List (List ℕ)) (e : Event) (r : Reply) → AreRequests s frames → StepOrNoMemory M s e r t → AreRequests t (frames ++ frame_taken e r)
  after_event s t frames e r h (inl step) =
      rw step.reply (carried (answer_to M s e).1 t _ (keeps_settling M (answer_to M s e).1 t step.settles) (after_answer s frames h e))
  after_event s t frames e r h (inr gives) =
      let none : frame_taken e r ≡ [] = none_taken e r (memory_takes r (answer_to M s e).0 gives.reply) in
      rw (none, append-nil, gives.halts) (carried s (halted end.NoMemory s) frames (keeps_halted end.NoMemory s) h)

  requests_from : (s t : State) (frames : List (List ℕ)) (hs : List Entry) → AreRequests s frames → LeadsTo M s hs t → AreRequests t (frames ++ frames_taken hs)
  requests_from s t frames [] h run = rw (append-nil, run) h
  requests_from s t frames (entry ∷ hs) h run =
      rw (← append_assoc) (requests_from run.0 t (frames ++ frame_taken entry.event entry.reply) hs (after_event s run.0 frames entry.event entry.reply h run.1) run.2)

pub requests : (M : Meaning) (hs : List Entry) (s : State) → IsHistory M hs s → AreRequests s (frames_taken hs)
requests M hs s run = requests_from M opening s [] hs (record { other = []; frames = refl; at_most_one = omega arith; ends = λ some. absurd (omega arith) }) run

-- ---- the frames that were taken are the first

or_or : (a b c : Bool) → (a || b || true || c) ≡ true
or_or true b c = refl
or_or false true c = refl
or_or false false c = refl

first_cause_stands : (why : Option End) → is_some (first_cause why end.NoMemory) ≡ true
first_cause_stands None = refl
first_cause_stands (Some why) = refl

ends_halted : (s : State) → are_ending (halted end.NoMemory s).causes ≡ true
ends_halted s = rw first_cause_stands (or_or (is_some s.causes.cut) (is_some s.causes.death) (is_some s.causes.over))

-- what ends a connection stays
module _ (M : Meaning) where
  ending_answer : (s : State) (e : Event) → are_ending s.causes ≡ true → are_ending (answer_to M s e).1.causes ≡ true
  ending_answer s (event.Take frame) is = rw is is
  ending_answer s (event.Answer frame) is = (quiet_event M s (event.Answer frame) tt).keeps.ending is
  ending_answer s (event.Complete k i verdict) is = (quiet_event M s (event.Complete k i verdict) tt).keeps.ending is
  ending_answer s (event.ClientEnd rest) is = (quiet_event M s (event.ClientEnd rest) tt).keeps.ending is
  ending_answer s (event.BrokerEnd rest) is = (quiet_event M s (event.BrokerEnd rest) tt).keeps.ending is
  ending_answer s (event.Fault x) is = (quiet_event M s (event.Fault x) tt).keeps.ending is
  ending_answer s event.Send is = (quiet_event M s event.Send tt).keeps.ending is
  ending_answer s event.Emit is = (same_emit M s).ending is
  ending_answer s event.Pick is = (quiet_event M s event.Pick tt).keeps.ending is
  ending_answer s event.Look is = (quiet_event M s event.Look tt).keeps.ending is

  ending_stays : (s t : State) (e : Event) (r : Reply) → StepOrNoMemory M s e r t → are_ending s.causes ≡ true → are_ending t.causes ≡ true
  ending_stays s t e r (inl step) is = (keeps_settling M (answer_to M s e).1 t step.settles).ending (ending_answer s e is)
  ending_stays s t e r (inr gives) is = rw gives.halts ((keeps_halted end.NoMemory s).ending is)

  -- what a Take is answered
  taken_answer : (s : State) (frame : List ℕ) (ending room : Bool) → are_ending s.causes ≡ ending → M.room (in_flight s) (held s) (length frame) ≡ room → (answer_to M s (event.Take frame)).0 ≡ (if ending then reply.Take (Err (take_fault.Ending frame)) else if room then reply.Take (Ok tt) else reply.Take (Err (take_fault.Full (in_flight s) (held s) frame)))
  taken_answer s frame true room is has = rw is
  taken_answer s frame false true is has = rw (is, has)
  taken_answer s frame false false is has = rw (is, has)

  -- where a connection ends, no frame is taken
  none_taken_at_end : (s t : State) (e : Event) (r : Reply) → StepOrNoMemory M s e r t → are_ending s.causes ≡ true → frame_taken e r ≡ []
  none_taken_at_end s t (event.Take frame) r (inl step) is =
      let refused : r ≡ reply.Take (Err (take_fault.Ending frame)) = step.reply ∙ taken_answer s frame true _ is refl in
      rw refused
  none_taken_at_end s t e r (inr gives) is = none_taken e r (memory_takes r (answer_to M s e).0 gives.reply)
  none_taken_at_end s t (event.Answer frame) r (inl step) is = refl
  none_taken_at_end s t (event.Complete k i verdict) r (inl step) is = refl
  none_taken_at_end s t (event.ClientEnd rest) r (inl step) is = refl
  none_taken_at_end s t (event.BrokerEnd rest) r (inl step) is = refl
  none_taken_at_end s t (event.Fault x) r (inl step) is = refl
  none_taken_at_end s t event.Send r (inl step) is = refl
  none_taken_at_end s t event.Emit r (inl step) is = refl
  none_taken_at_end s t event.Pick r (inl step) is = refl
  none_taken_at_end s t event.Look r (inl step) is = refl

  no_more_taken : (hs : List Entry) (s t : State) → LeadsTo M s hs t → are_ending s.causes ≡ true → frames_taken hs ≡ []
  no_more_taken [] s t run is = refl
  no_more_taken (h ∷ hs) s t run is =
      rw (none_taken_at_end s run.0 h.event h.reply run.1 is) (no_more_taken hs run.0 t run.2 (ending_stays s run.0 h.event h.reply run.1 is))

  -- one entry: its frame was taken, or handed on without being taken at the connection's end, or neither
  abbrev IsFirst : (e : Event) (r : Reply) (t : State) → Type 0
  IsFirst e r t = (client_frame e r ≡ frame_taken e r) ⊎ (are_ending t.causes ≡ true) × (frame_taken e r ≡ [])

  first_case : (s t : State) (frame : List ℕ) (r : Reply) (ending room : Bool) → are_ending s.causes ≡ ending → M.room (in_flight s) (held s) (length frame) ≡ room → (are_ending s.causes ≡ true → are_ending t.causes ≡ true) → r ≡ (answer_to M s (event.Take frame)).0 → IsFirst (event.Take frame) r t
  first_case s t frame r true room is has stays e =
      let refused : r ≡ reply.Take (Err (take_fault.Ending frame)) = e ∙ taken_answer s frame true room is has in
      inr (stays is, rw refused)
  first_case s t frame r false true is has stays e =
      let ok : r ≡ reply.Take (Ok tt) = e ∙ taken_answer s frame false true is has in
      inl (rw ok)
  first_case s t frame r false false is has stays e =
      let full : r ≡ reply.Take (Err (take_fault.Full (in_flight s) (held s) frame)) = e ∙ taken_answer s frame false false is has in
      inl (rw full)

  is_first : (s t : State) (e : Event) (r : Reply) → StepOrNoMemory M s e r t → IsFirst e r t
  is_first s t (event.Take frame) r (inl step) = first_case s t frame r _ _ refl refl (ending_stays s t (event.Take frame) r (inl step)) step.reply
  is_first s t e r (inr gives) = inr (rw gives.halts (ends_halted s), none_taken e r (memory_takes r (answer_to M s e).0 gives.reply))
  is_first s t (event.Answer frame) r (inl step) = inl refl
  is_first s t (event.Complete k i verdict) r (inl step) = inl refl
  is_first s t (event.ClientEnd rest) r (inl step) = inl refl
  is_first s t (event.BrokerEnd rest) r (inl step) = inl refl
  is_first s t (event.Fault x) r (inl step) = inl refl
  is_first s t event.Send r (inl step) = inl refl
  is_first s t event.Emit r (inl step) = inl refl
  is_first s t event.Pick r (inl step) = inl refl
  is_first s t event.Look r (inl step) = inl refl

  first_then : (h : Entry) (hs : List Entry) (s t u : State) → IsFirst h.event h.reply t → LeadsTo M t hs u → AreFirst (frames_taken hs) (client_frames hs) → AreFirst (frames_taken (h ∷ hs)) (client_frames (h ∷ hs))
  first_then h hs s t u (inl same) run more = (more.0, rw (same, more.1) (sym (append_assoc (frame_taken h.event h.reply) (frames_taken hs) more.0)))
  first_then h hs s t u (inr ends) run more = (client_frame h.event h.reply ++ client_frames hs, rw (ends.1, no_more_taken hs t u run ends.0))

  first_from : (hs : List Entry) (s t : State) → LeadsTo M s hs t → AreFirst (frames_taken hs) (client_frames hs)
  first_from [] s t run = ([], refl)
  first_from (h ∷ hs) s t run = first_then h hs s run.0 t (is_first s run.0 h.event h.reply run.1) run.2 (first_from hs run.0 t run.2)

pub first_frames : (M : Meaning) (hs : List Entry) (s : State) → IsHistory M hs s → AreFirst (frames_taken hs) (client_frames hs)
first_frames M hs s run = first_from M hs opening s run
