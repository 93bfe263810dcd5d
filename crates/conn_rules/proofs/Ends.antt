-- An end that was told is told ever after.
use Rattle.std.proofs.Common.{◌≡◌, ◌∙◌, ℕ, zero, suc, length, arith, Bool, true, false, if◌then◌else◌, List, [], ◌∷◌, ◌++◌, All, refl, sym, subst, Option, Some, None, slice_get, inl, inr}
use Rattle.kp_edge.specs.declared.end.End.{End}
use Rattle.conn_rules.specs.declared.event.Event.{Event}
use Rattle.conn_rules.specs.declared.event.Event.TheVariants as event
use Rattle.conn_rules.specs.declared.event.Reply.{Reply}
use Rattle.conn_rules.specs.declared.event.Reply.TheVariants as reply
use Rattle.conn_rules.specs.declared.event.Emit.TheVariants as emit
use Rattle.conn_rules.specs.Meaning.{Meaning}
use Rattle.conn_rules.specs.State.{State, opening, in_flight, held}
use Rattle.conn_rules.specs.Causes.{are_ending}
use Rattle.conn_rules.specs.Steps.{joined, response_in, silent_passed, over_or, respond_or, told_again, emit_step, answer_to, memory_answer, StepOrNoMemory}
use Rattle.conn_rules.specs.History.{Entry, LeadsTo, IsHistory, IsTold, IsToldIfEmit}
use Rattle.conn_rules.proofs.Keeps.{keeps_settling}
use Rattle.conn_rules.proofs.Quiet.{quiet_event}

-- what an emit step tells is what stands after it
abbrev Tells : Reply × State → Type 0
Tells answer = (why : End) → answer.0 ≡ reply.Emit (emit.Over why) → answer.1.causes.over ≡ Some why

tells_over_or : (why : Option End) (t : State) (later : Reply × State) → Tells later → Tells (over_or why t later)
tells_over_or None t later h = h
tells_over_or (Some cause) t later h = λ why is. cc

tells_respond_or : (response : Option (List ℕ)) (t : State) (later : Reply × State) → Tells later → Tells (respond_or response t later)
tells_respond_or None t later h = h
tells_respond_or (Some response) t later h = λ why is. cc

tells_again : (s : State) (over : Option End) (later : Reply × State) → s.causes.over ≡ over → Tells later → Tells (told_again over s later)
tells_again s None later is h = h
tells_again s (Some cause) later is h = λ why told. cc

tells_later : (t : State) → Tells (reply.Emit emit.Later, t)
tells_later t = λ why is. cc

module _ (M : Meaning) (s : State) where
  tells_emit : Tells (emit_step M s)
  tells_emit =
      let t : State = silent_passed M s in
      tells_again s s.causes.over _ refl
      (tells_over_or s.causes.halt s _
      (tells_over_or _ t _
      (tells_respond_or (response_in M (slice_get t.requests t.passed)) t _ (tells_over_or s.causes.death t _ (tells_later t)))))

  -- it is answered by Emit, so never for want of memory
  over_or_emitted : (why : Option End) (t : State) (later : Reply × State) → memory_answer later.0 ≡ None → memory_answer (over_or why t later).0 ≡ None
  over_or_emitted None t later h = h
  over_or_emitted (Some cause) t later h = refl

  respond_or_emitted : (response : Option (List ℕ)) (t : State) (later : Reply × State) → memory_answer later.0 ≡ None → memory_answer (respond_or response t later).0 ≡ None
  respond_or_emitted None t later h = h
  respond_or_emitted (Some response) t later h = refl

  again_emitted : (over : Option End) (later : Reply × State) → memory_answer later.0 ≡ None → memory_answer (told_again over s later).0 ≡ None
  again_emitted None later h = h
  again_emitted (Some cause) later h = refl

  emit_emitted : memory_answer (emit_step M s).0 ≡ None
  emit_emitted =
      let t : State = silent_passed M s in
      again_emitted s.causes.over _
      (over_or_emitted s.causes.halt s _
      (over_or_emitted _ t _
      (respond_or_emitted (response_in M (slice_get t.requests t.passed)) t _ (over_or_emitted s.causes.death t (reply.Emit emit.Later, t) refl))))

all_cons : {X : Type 0} → (P : X → Type 0) (x : X) (xs : List X) → P x → All P xs → All P (x ∷ xs)
all_cons P x xs h hs zero d lt = h
all_cons P x xs h hs (suc k) d lt = hs k d (omega arith)

-- where an end stands, it stands after the next event, and an emit step is told it
module _ (M : Meaning) (why : End) where
  either : (b : Bool) (x y : Reply × State) → x.1.causes.over ≡ Some why → y.1.causes.over ≡ Some why → (if b then x else y).1.causes.over ≡ Some why
  either true x y h k = h
  either false x y h k = k

  refusal_over : (s : State) (cause : Option (ℕ → End)) (frame : List ℕ) → s.causes.over ≡ Some why → (joined cause frame s).causes.over ≡ Some why
  refusal_over s None frame h = h
  refusal_over s (Some cause) frame h = h

  take_over : (s : State) (frame : List ℕ) → s.causes.over ≡ Some why → (answer_to M s (event.Take frame)).1.causes.over ≡ Some why
  take_over s frame over =
      either (are_ending s.causes) _ _ over (either (M.room (in_flight s) (held s) (length frame)) _ _ (refusal_over s (M.no_request frame) frame over) over)

  over_answer : (s : State) (e : Event) → s.causes.over ≡ Some why → (answer_to M s e).1.causes.over ≡ Some why
  over_answer s (event.Take frame) over = take_over s frame over
  over_answer s (event.Answer frame) over = (quiet_event M s (event.Answer frame) tt).keeps.over ∙ over
  over_answer s (event.Complete k i verdict) over = (quiet_event M s (event.Complete k i verdict) tt).keeps.over ∙ over
  over_answer s (event.ClientEnd rest) over = (quiet_event M s (event.ClientEnd rest) tt).keeps.over ∙ over
  over_answer s (event.BrokerEnd rest) over = (quiet_event M s (event.BrokerEnd rest) tt).keeps.over ∙ over
  over_answer s (event.Fault x) over = (quiet_event M s (event.Fault x) tt).keeps.over ∙ over
  over_answer s event.Send over = (quiet_event M s event.Send tt).keeps.over ∙ over
  over_answer s event.Emit over = rw over
  over_answer s event.Pick over = (quiet_event M s event.Pick tt).keeps.over ∙ over
  over_answer s event.Look over = (quiet_event M s event.Look tt).keeps.over ∙ over

  over_event : (s t : State) (e : Event) (r : Reply) → s.causes.over ≡ Some why → StepOrNoMemory M s e r t → t.causes.over ≡ Some why
  over_event s t e r over (inl step) = (keeps_settling M (answer_to M s e).1 t step.settles).over ∙ over_answer s e over
  over_event s t e r over (inr gives) = rw gives.halts over

  told_if : (s t : State) (r : Reply) → s.causes.over ≡ Some why → StepOrNoMemory M s event.Emit r t → r ≡ reply.Emit (emit.Over why)
  told_if s t r over (inl step) = step.reply ∙ rw over
  told_if s t r over (inr gives) = absurd (let none : memory_answer (emit_step M s).0 ≡ None = emit_emitted M s in cc)

  told_emit : (s t : State) (e : Event) (r : Reply) → s.causes.over ≡ Some why → StepOrNoMemory M s e r t → e ≡ event.Emit → r ≡ reply.Emit (emit.Over why)
  told_emit s t e r over may is = told_if s t r over (subst (λ (x : Event). StepOrNoMemory M s x r t) is may)

  stays : (s t : State) (hs : List Entry) → s.causes.over ≡ Some why → LeadsTo M s hs t → All (IsToldIfEmit why) hs
  stays s t [] over run = λ k d lt. absurd (omega arith)
  stays s t (h ∷ hs) over run =
      all_cons (IsToldIfEmit why) h hs (told_emit s run.0 h.event h.reply over run.1)
      (stays run.0 t hs (over_event s run.0 h.event h.reply over run.1) run.2)

  -- the step that is told it makes it stand
  stands : (s t : State) (r : Reply) → StepOrNoMemory M s event.Emit r t → r ≡ reply.Emit (emit.Over why) → t.causes.over ≡ Some why
  stands s t r (inl step) is = (keeps_settling M (emit_step M s).1 t step.settles).over ∙ tells_emit M s why (sym step.reply ∙ is)
  stands s t r (inr gives) is = absurd (let none : memory_answer (emit_step M s).0 ≡ None = emit_emitted M s in cc)

  told_stands : (s t : State) (h : Entry) → StepOrNoMemory M s h.event h.reply t → IsTold why h → t.causes.over ≡ Some why
  told_stands s t h may told = stands s t h.reply (subst (λ (x : Event). StepOrNoMemory M s x h.reply t) told.0 may) told.1

  stays_behind : (before behind : List Entry) (told : Entry) (s t : State) → IsTold why told → LeadsTo M s (before ++ told ∷ behind) t → All (IsToldIfEmit why) behind
  stays_behind [] behind told s t is run = stays run.0 t behind (told_stands s run.0 told run.1 is) run.2
  stays_behind (h ∷ hs) behind told s t is run = stays_behind hs behind told run.0 t is run.2

pub end_stays : (M : Meaning) (before behind : List Entry) (told : Entry) (why : End) (s : State) → IsTold why told → IsHistory M (before ++ told ∷ behind) s → All (IsToldIfEmit why) behind
end_stays M before behind told why s is run = stays_behind M why before behind told opening s is run
