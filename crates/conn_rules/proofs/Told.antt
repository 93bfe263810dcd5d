-- The end that is told comes next, and does so ever after.
use Rattle.std.proofs.Common.{◌≡◌, ◌∙◌, ap, ℕ, ◌==◌, Bool, true, false, ◌||◌, is_some, if◌then◌else◌, List, [], ◌∷◌, length, refl, sym, subst, Option, Some, None, slice_get, inl, inr}
use Rattle.std.proofs.lemmas.Bool.{eqb-true}
use Rattle.kp_edge.specs.declared.end.End.{End}
use Rattle.conn_rules.specs.declared.causes.Causes.{Causes}
use Rattle.conn_rules.specs.declared.event.Event.{Event}
use Rattle.conn_rules.specs.declared.event.Event.TheVariants as event
use Rattle.conn_rules.specs.declared.event.Reply.{Reply}
use Rattle.conn_rules.specs.declared.event.Reply.TheVariants as reply
use Rattle.conn_rules.specs.declared.event.Emit.TheVariants as emit
use Rattle.conn_rules.specs.Meaning.{Meaning}
use Rattle.conn_rules.specs.State.{ListedSend, State, opening, in_flight, held}
use Rattle.conn_rules.specs.Causes.{cut_cause, are_ending, are_dead, are_still}
use Rattle.conn_rules.specs.Settling.{next_act, Settles}
use Rattle.conn_rules.specs.Steps.{joined, sent_next, response_in, silent_passed, over_or, respond_or, told_again, emit_step, answer_to, memory_answer, TakesMemory, GivesUp, StepOrNoMemory}
use Rattle.conn_rules.specs.History.{Entry, LeadsTo, IsHistory}
use Rattle.conn_rules.specs.Told.{IsEndNext}
use Rattle.conn_rules.proofs.Keeps.{keeps_settling}
use Rattle.conn_rules.proofs.Quiet.{quiet_event}
use Rattle.conn_rules.proofs.Resting.{IsLower, lower_same, lower_emit, rest_at}
use Rattle.conn_rules.proofs.Sweep.{sweeps}

-- where an end was told, all is refused
or_last : (a b c : Bool) → (a || b || c || true) ≡ true
or_last true b c = refl
or_last false true c = refl
or_last false false true = refl
or_last false false false = refl

over_ends : (c : Causes) (why : End) → c.over ≡ Some why → are_ending c ≡ true
over_ends c why over = rw over (or_last (is_some c.cut) (is_some c.death) (is_some c.halt))

or_last_three : (a b : Bool) → (a || b || true) ≡ true
or_last_three true b = refl
or_last_three false true = refl
or_last_three false false = refl

over_dead : (c : Causes) (why : End) → c.over ≡ Some why → are_dead c ≡ true
over_dead c why over = rw over (or_last_three (is_some c.death) (is_some c.halt))

or_last_two : (a : Bool) → (a || true) ≡ true
or_last_two true = refl
or_last_two false = refl

over_still : (c : Causes) (why : End) → c.over ≡ Some why → are_still c ≡ true
over_still c why over = rw over (or_last_two (is_some c.halt))

-- what comes next, and all that could settle, stays
pub record IsUnmoved (s t : State) : Type 0 where
  requests : t.requests ≡ s.requests
  sends : t.sends ≡ s.sends
  passed : t.passed ≡ s.passed
  pub causes : t.causes ≡ s.causes

unmoved_same : (s : State) → IsUnmoved s s
unmoved_same s = record { requests = refl; sends = refl; passed = refl; causes = refl }

unmoved_sent : (s : State) (next : Option ListedSend) → IsUnmoved s (sent_next s next).1
unmoved_sent s None = unmoved_same s
unmoved_sent s (Some d) = record { requests = refl; sends = refl; passed = refl; causes = refl }

unmoved_send : (s : State) (b : Bool) (next : Option ListedSend) → IsUnmoved s (if b then (reply.Send None, s) else sent_next s next).1
unmoved_send s true next = unmoved_same s
unmoved_send s false next = unmoved_sent s next

pub unmoved_lower : (s t : State) → IsUnmoved s t → IsLower s t
unmoved_lower s t h = lower_same s t h.requests h.sends (ap (λ c. c.cut) h.causes)

unmoved_noted : (s t : State) (told : Bool) → told ≡ true → IsUnmoved s (if told then s else t)
unmoved_noted s t true is = unmoved_same s
unmoved_noted s t false is = cc

unmoved_again : (s : State) (why : End) (over : Option End) (later : Reply × State) → over ≡ Some why → IsUnmoved s (told_again over s later).1
unmoved_again s why None later is = cc
unmoved_again s why (Some cause) later is = unmoved_same s

some_told : (over : Option End) (why : End) → over ≡ Some why → is_some over ≡ true
some_told None why h = cc
some_told (Some cause) why h = refl

module _ (M : Meaning) (why : End) where
  -- what comes next stays
  unmoved_next : (s t : State) → IsUnmoved s t → IsEndNext M why s → IsEndNext M why t
  unmoved_next s t h (inl halt) = inl (ap (λ c. c.halt) h.causes ∙ halt)
  unmoved_next s t h (inr (inl cut)) =
      inr (inl (record {
        not_halted = ap (λ c. c.halt) h.causes ∙ cut.not_halted;
        cut = ap (λ c. c.cut) h.causes ∙ (cut.cut ∙ ap (λ k. Some (k, why)) (sym h.passed));
      }))
  unmoved_next s t h (inr (inr death)) =
      inr (inr (record {
        not_halted = ap (λ c. c.halt) h.causes ∙ death.not_halted;
        not_cut = rw (h.causes, h.passed) death.not_cut;
        no_response = rw (h.requests, h.passed) death.no_response;
        death = ap (λ c. c.death) h.causes ∙ death.death;
      }))

  -- after an end was told, nothing moves
  pub unmoved_answer : (s : State) → s.causes.over ≡ Some why → (e : Event) → IsUnmoved s (answer_to M s e).1
  unmoved_answer s over (event.Take frame) = rw (over_ends s.causes why over) (unmoved_same s)
  unmoved_answer s over (event.Answer frame) = rw (over_dead s.causes why over) (unmoved_same s)
  unmoved_answer s over (event.Complete k i verdict) = rw (over_still s.causes why over) (unmoved_same s)
  unmoved_answer s over (event.ClientEnd rest) = unmoved_noted s _ (is_some s.causes.over) (some_told s.causes.over why over)
  unmoved_answer s over (event.BrokerEnd rest) = unmoved_noted s _ (is_some s.causes.over) (some_told s.causes.over why over)
  unmoved_answer s over (event.Fault x) = unmoved_noted s _ (is_some s.causes.over) (some_told s.causes.over why over)
  unmoved_answer s over event.Send = unmoved_send s (is_some s.causes.death || is_some s.causes.halt) (slice_get s.sends s.taken)
  unmoved_answer s over event.Emit = unmoved_again s why s.causes.over _ over
  unmoved_answer s over event.Pick = rw (over_still s.causes why over) (unmoved_same s)
  unmoved_answer s over event.Look = unmoved_same s

  -- and memory is never wanting
  pub no_memory_answer : (s : State) → s.causes.over ≡ Some why → (e : Event) → TakesMemory s e → memory_answer (answer_to M s e).0 ≡ None
  no_memory_answer s over (event.Take frame) takes = rw (over_ends s.causes why over)
  no_memory_answer s over (event.Answer frame) takes = rw (over_dead s.causes why over)
  no_memory_answer s over (event.Complete k i verdict) takes = rw (over_still s.causes why over)
  no_memory_answer s over _ takes = absurd takes

-- where a cut's cause is told, the cut stands there
some_if : (b : Bool) (x y : End) → (if b then Some x else None) ≡ Some y → (b ≡ true) × (x ≡ y)
some_if true x y h = (refl, let e : x ≡ y = cc in e)
some_if false x y h = cc

cut_there : (cut : Option (ℕ × End)) (k : ℕ) (why : End) → cut_cause cut k ≡ Some why → cut ≡ Some (k, why)
cut_there None k why h = cc
cut_there (Some cut) k why h =
    let is : ((cut.0 == k) ≡ true) × (cut.1 ≡ why) = some_if (cut.0 == k) cut.1 why h in
    let n : cut.0 ≡ k = eqb-true cut.0 k is.0 in
    ap (λ x. Some (x, cut.1)) n ∙ ap (λ x. Some (k, x)) is.1

-- the end that was told, if one was, comes next
abbrev ToldNext : Meaning → State → Type 0
ToldNext M s = (why : End) → s.causes.over ≡ Some why → IsEndNext M why s

-- so it is where an emit step tells the first
module _ (M : Meaning) (s : State) (untold : s.causes.over ≡ None) where
  abbrev TellsNext : Reply × State → Type 0
  TellsNext answer = ToldNext M answer.1

  never_told : (t : State) (r : Reply) → t.causes.over ≡ s.causes.over → TellsNext (r, t)
  never_told t r same why over = cc

  next_halt : (halt : Option End) (later : Reply × State) → s.causes.halt ≡ halt → (s.causes.halt ≡ None → TellsNext later) → TellsNext (over_or halt s later)
  next_halt None later is h = h is
  next_halt (Some cause) later is h = λ why over. inl (is ∙ over)

  next_cut : (cut : Option End) (t : State) (later : Reply × State) → t.causes.halt ≡ None → cut_cause t.causes.cut t.passed ≡ cut → (cut_cause t.causes.cut t.passed ≡ None → TellsNext later) → TellsNext (over_or cut t later)
  next_cut None t later runs is h = h is
  next_cut (Some cause) t later runs is h = λ why over. inr (inl (record { not_halted = runs; cut = cut_there t.causes.cut t.passed why (is ∙ over) }))

  next_response : (response : Option (List ℕ)) (t : State) (later : Reply × State) → t.causes.over ≡ s.causes.over → response_in M (slice_get t.requests t.passed) ≡ response → (response_in M (slice_get t.requests t.passed) ≡ None → TellsNext later) → TellsNext (respond_or response t later)
  next_response None t later same is h = h is
  next_response (Some response) t later same is h = λ why over. cc

  next_death : (death : Option End) (t : State) → t.causes.over ≡ s.causes.over → t.causes.halt ≡ None → cut_cause t.causes.cut t.passed ≡ None → response_in M (slice_get t.requests t.passed) ≡ None → t.causes.death ≡ death → TellsNext (over_or death t (reply.Emit emit.Later, t))
  next_death None t same runs not_cut none is = never_told t (reply.Emit emit.Later) same
  next_death (Some cause) t same runs not_cut none is = λ why over. inr (inr (record { not_halted = runs; not_cut = not_cut; no_response = none; death = is ∙ over }))

  next_again : (over : Option End) (later : Reply × State) → over ≡ None → TellsNext later → TellsNext (told_again over s later)
  next_again None later is h = h
  next_again (Some cause) later is h = cc

  next_emit : TellsNext (emit_step M s)
  next_emit =
      let t : State = silent_passed M s in
      next_again s.causes.over _ untold
      (next_halt s.causes.halt _ refl
      (λ runs. next_cut (cut_cause t.causes.cut t.passed) t _ runs refl
      (λ not_cut. next_response (response_in M (slice_get t.requests t.passed)) t _ refl refl
      (λ none. next_death s.causes.death t refl runs not_cut none refl))))

-- At every moment nothing is left to settle, and the end that was told comes next.
pub record IsRightlyTold (M : Meaning) (s : State) : Type 0 where
  rest : next_act M s ≡ None
  told : ToldNext M s

module _ (M : Meaning) (s : State) (h : IsRightlyTold M s) where
  -- what rests stays as it is
  pub settled_same : (t u : State) → IsLower s t → Settles M t u → t ≡ u
  settled_same t u low settles = (sweeps M).once t t u ((sweeps M).rests t (rest_at M s t low h.rest)) settles

  settled_next : (t u : State) → IsLower s t → Settles M t u → ToldNext M t → ToldNext M u
  settled_next t u low settles told = subst (λ x. ToldNext M x) (settled_same t u low settles) told

  -- before any end was told
  abbrev OverOf : Reply × State → Option End
  OverOf answer = answer.1.causes.over

  untold_take : (ending room : Bool) (cause : Option (ℕ → End)) (frame : List ℕ) (refused taken full : Reply) → OverOf (if ending then (refused, s) else if room then (taken, joined cause frame s) else (full, s)) ≡ s.causes.over
  untold_take true room cause frame refused taken full = refl
  untold_take false true None frame refused taken full = refl
  untold_take false true (Some why) frame refused taken full = refl
  untold_take false false cause frame refused taken full = refl

  untold_next : (e : Event) (u : State) → s.causes.over ≡ None → Settles M (answer_to M s e).1 u → (answer_to M s e).1.causes.over ≡ s.causes.over → ToldNext M u
  untold_next e u untold settles same why over =
      let later : u.causes.over ≡ (answer_to M s e).1.causes.over = (keeps_settling M (answer_to M s e).1 u settles).over in
      cc

  untold_step : (e : Event) (u : State) → s.causes.over ≡ None → Settles M (answer_to M s e).1 u → ToldNext M u
  untold_step event.Emit u untold settles = settled_next (emit_step M s).1 u (lower_emit M s) settles (next_emit M s untold)
  untold_step (event.Take frame) u untold settles = untold_next (event.Take frame) u untold settles (untold_take (are_ending s.causes) (M.room (in_flight s) (held s) (length frame)) (M.no_request frame) frame _ _ _)
  untold_step (event.Answer frame) u untold settles = untold_next (event.Answer frame) u untold settles (quiet_event M s (event.Answer frame) tt).keeps.over
  untold_step (event.Complete k i verdict) u untold settles = untold_next (event.Complete k i verdict) u untold settles (quiet_event M s (event.Complete k i verdict) tt).keeps.over
  untold_step (event.ClientEnd rest) u untold settles = untold_next (event.ClientEnd rest) u untold settles (quiet_event M s (event.ClientEnd rest) tt).keeps.over
  untold_step (event.BrokerEnd rest) u untold settles = untold_next (event.BrokerEnd rest) u untold settles (quiet_event M s (event.BrokerEnd rest) tt).keeps.over
  untold_step (event.Fault x) u untold settles = untold_next (event.Fault x) u untold settles (quiet_event M s (event.Fault x) tt).keeps.over
  untold_step event.Send u untold settles = untold_next event.Send u untold settles (quiet_event M s event.Send tt).keeps.over
  untold_step event.Pick u untold settles = untold_next event.Pick u untold settles (quiet_event M s event.Pick tt).keeps.over
  untold_step event.Look u untold settles = untold_next event.Look u untold settles (quiet_event M s event.Look tt).keeps.over

  -- and after one
  told_step : (cause : End) (e : Event) (u : State) → s.causes.over ≡ Some cause → Settles M (answer_to M s e).1 u → ToldNext M u
  told_step cause e u over settles =
      let t : State = (answer_to M s e).1 in
      let still : IsUnmoved s t = unmoved_answer M cause s over e in
      settled_next t u (unmoved_lower s t still) settles (λ why is. unmoved_next M why s t still (h.told why (ap (λ c. c.over) (sym still.causes) ∙ is)))

  rightly_settled : (over : Option End) → s.causes.over ≡ over → (e : Event) (u : State) → Settles M (answer_to M s e).1 u → IsRightlyTold M u
  rightly_settled None is e u settles = record { rest = settles.rest; told = untold_step e u is settles }
  rightly_settled (Some cause) is e u settles = record { rest = settles.rest; told = told_step cause e u is settles }

  gives_up_untold : (over : Option End) → s.causes.over ≡ over → (e : Event) (r : Reply) (u : State) → GivesUp M s e r u → ToldNext M u
  gives_up_untold None is e r u gives why told = absurd (let same : u.causes.over ≡ s.causes.over = ap (λ x. x.causes.over) gives.halts in cc)
  gives_up_untold (Some cause) is e r u gives why told = absurd (let none : memory_answer (answer_to M s e).0 ≡ None = no_memory_answer M cause s is e gives.takes in let some : memory_answer (answer_to M s e).0 ≡ Some r = gives.reply in cc)

  pub rightly_event : (e : Event) (r : Reply) (u : State) → StepOrNoMemory M s e r u → IsRightlyTold M u
  rightly_event e r u (inl step) = rightly_settled s.causes.over refl e u step.settles
  rightly_event e r u (inr gives) =
      record {
        rest = subst (λ x. next_act M x ≡ None) (sym gives.halts) h.rest;
        told = gives_up_untold s.causes.over refl e r u gives;
      }

rightly_from : (M : Meaning) (s t : State) (hs : List Entry) → IsRightlyTold M s → LeadsTo M s hs t → IsRightlyTold M t
rightly_from M s t [] h run = subst (λ x. IsRightlyTold M x) (sym run) h
rightly_from M s t (entry ∷ hs) h run = rightly_from M run.0 t hs (rightly_event M s h entry.event entry.reply run.0 run.1) run.2

pub rightly_opened : (M : Meaning) → IsRightlyTold M opening
rightly_opened M = record { rest = refl; told = λ cause over. cc }

pub end_next : (M : Meaning) (hs : List Entry) (s : State) (why : End) → IsHistory M hs s → s.causes.over ≡ Some why → IsEndNext M why s
end_next M hs s why run = (rightly_from M opening s hs (rightly_opened M) run).told why
