-- A connection that has nothing to do: it has nothing to do at a lesser cut either, and its requests' work stays.
use Rattle.std.proofs.Common.{◌≡◌, ◌∙◌, ap, refl, sym, subst, ℕ, suc, ◌<◌, Bool, true, false, not, ◌&&◌, ◌||◌, is_some, if◌then◌else◌, List, [], ◌∷◌, length, Option, Some, None, Ok, Err, slice_get, arith, inl, inr}
use Rattle.std.specs.Prelude.{sum_by}
use Rattle.std.proofs.lemmas.Bool.{lt-ltb, ltb-true}
use Rattle.kp_edge.specs.declared.end.End.{End}
use Rattle.kp_edge.specs.declared.end.End.TheVariants as end
use Rattle.conn_rules.specs.declared.causes.Causes.{Causes}
use Rattle.conn_rules.specs.declared.event.Event.{Event}
use Rattle.conn_rules.specs.declared.event.Event.TheVariants as event
use Rattle.conn_rules.specs.declared.event.Reply.{Reply}
use Rattle.conn_rules.specs.declared.event.Reply.TheVariants as reply
use Rattle.conn_rules.specs.declared.event.Fault.{Fault}
use Rattle.conn_rules.specs.declared.event.Fault.TheVariants as fault
use Rattle.conn_rules.specs.declared.event.Emit.TheVariants as emit
use Rattle.conn_rules.specs.declared.event.TakeFault.TheVariants as take_fault
use Rattle.conn_rules.specs.declared.event.AnswerFault.TheVariants as answer_fault
use Rattle.conn_rules.specs.declared.event.CompleteFault.TheVariants as complete_fault
use Rattle.conn_rules.specs.Causes.{below, with_cut, with_death, are_ending, are_dead, are_still, client_ended, broker_ended}
use Rattle.conn_rules.specs.Meaning.{Meaning}
use Rattle.conn_rules.specs.Settling.{Act, or_else, act_from, next_act, lets_later_go}
use Rattle.conn_rules.specs.State.{Verdict, Request, ListedSend, State, opening, cut_at, in_flight, held, give, due_send, waiting}
use Rattle.conn_rules.specs.Steps.{joined, attributed, open_hold, is_hold, client_end, faulted, noted, sent_next, first_hold, picked_next, response_in, silent_passed, over_or, respond_or, told_again, emit_step, answer_to, StepOrNoMemory}
use Rattle.conn_rules.specs.History.{Entry, LeadsTo}
use Rattle.conn_rules.specs.Work.{total_work, is_accepted, WorkStays}
use Rattle.conn_rules.proofs.Sweep.{sweeps}

-- where nothing was done before a cut, nothing is done before a lesser one
none_first : (a b : Option Act) → or_else a b ≡ None → a ≡ None
none_first None b h = refl
none_first (Some x) b h = cc

none_later : (a b : Option Act) → or_else a b ≡ None → b ≡ None
none_later None b h = h
none_later (Some x) b h = cc

module _ (M : Meaning) (sends : List ListedSend) (cut cut' : Option (ℕ × End)) (lower : (j : ℕ) → below cut' j ≡ true → below cut j ≡ true) where
  rest_if : (k : ℕ) (a b c : Option Act) (low low' : Bool) → below cut k ≡ low → below cut' k ≡ low' → (if low then or_else a b else None) ≡ None → (b ≡ None → c ≡ None) → (if low' then or_else a c else None) ≡ None
  rest_if k a b c low false is is' h later = refl
  rest_if k a b c true true is is' h later = rw (none_first a b h) (later (none_later a b h))
  rest_if k a b c false true is is' h later = absurd (let never : true ≡ false = sym (lower k is') ∙ is in cc)

  pub rest_from : (k : ℕ) (free : Bool) (rs : List Request) → act_from M sends cut k free rs ≡ None → act_from M sends cut' k free rs ≡ None
  rest_from k free [] h = refl
  rest_from k free (r ∷ rs) h = rest_if k _ _ _ (below cut k) (below cut' k) refl refl h (rest_from (suc k) (free && lets_later_go sends k (M.status r.frame r.given)) rs)

-- a cut at request k
cut_low : (k : ℕ) (why : End) (cut : Option (ℕ × End)) (j : ℕ) (low : Bool) → below cut k ≡ low → below (if low then Some (k, why) else cut) j ≡ true → below cut j ≡ true
cut_low k why None j true is h = refl
cut_low k why None j false is h = refl
cut_low k why (Some cut) j true is h =
    let a : j < k = ltb-true j k h in
    let b : k < cut.0 = ltb-true k cut.0 is in
    lt-ltb j cut.0 (omega (arith, a, b))
cut_low k why (Some cut) j false is h = h

pub low_before_cut : (k : ℕ) (why : End) (c : Causes) (j : ℕ) → below (with_cut k why c).cut j ≡ true → below c.cut j ≡ true
low_before_cut k why c j h = cut_low k why c.cut j (below c.cut k) refl h

-- the requests and the sends stay, and a cut stands at a lesser request at most
pub record IsLower (s t : State) : Type 0 where
  requests : t.requests ≡ s.requests
  sends : t.sends ≡ s.sends
  lower : (j : ℕ) → below t.causes.cut j ≡ true → below s.causes.cut j ≡ true

pub lower_same : (s t : State) → t.requests ≡ s.requests → t.sends ≡ s.sends → t.causes.cut ≡ s.causes.cut → IsLower s t
lower_same s t a b c = record { requests = a; sends = b; lower = λ j h. ap (λ x. below x j) (sym c) ∙ h }

lower_cut : (k : ℕ) (why : End) (s : State) → IsLower s (cut_at k why s)
lower_cut k why s = record { requests = refl; sends = refl; lower = low_before_cut k why s.causes }

lower_either : (b : Bool) (s t u : State) → IsLower s t → IsLower s u → IsLower s (if b then t else u)
lower_either true s t u h k = h
lower_either false s t u h k = k

module _ (M : Meaning) (s : State) where
  abbrev Lower : Reply × State → Type 0
  Lower answer = IsLower s answer.1

  itself : IsLower s s
  itself = lower_same s s refl refl refl

  lower_if : (b : Bool) (x y : Reply × State) → Lower x → Lower y → Lower (if b then x else y)
  lower_if true x y h k = h
  lower_if false x y h k = k

  lower_noted : (t : State) → IsLower s t → Lower (noted s t)
  lower_noted t h = lower_either (is_some s.causes.over) s s t itself h

  lower_ended : (dead : Bool) (why : End) → IsLower s (record s { causes = if dead then s.causes else with_cut (length s.requests) why s.causes })
  lower_ended true why = lower_same s _ refl refl refl
  lower_ended false why = lower_cut (length s.requests) why s

  lower_fault : (x : Fault) → IsLower s (faulted M s x)
  lower_fault fault.ClientRead = lower_cut (length s.requests) end.ClientReadFault s
  lower_fault fault.ClientWrite = lower_same s _ refl refl refl
  lower_fault fault.BrokerRead = lower_same s _ refl refl refl
  lower_fault fault.BrokerWrite = lower_same s _ refl refl refl
  lower_fault (fault.ClientBadSize at size) = lower_cut (length s.requests) (end.BadSize at size) s
  lower_fault (fault.BrokerBadSize at size) = lower_same s _ refl refl refl
  lower_fault (fault.Authority k) = lower_either (is_some (open_hold M s k)) s _ s (lower_cut k (end.AuthorityFault k) s) itself
  lower_fault fault.Thread = lower_same s _ refl refl refl
  lower_fault fault.NoMemory = lower_same s _ refl refl refl

  lower_sent : (next : Option ListedSend) → Lower (sent_next s next)
  lower_sent None = itself
  lower_sent (Some d) = lower_same s _ refl refl refl

  lower_picked : (hold : Option (ℕ × ℕ × List ℕ)) → Lower (picked_next s hold)
  lower_picked None = itself
  lower_picked (Some hold) = lower_same s _ refl refl refl

  lower_over : (why : Option End) (t : State) (later : Reply × State) → IsLower s t → Lower later → Lower (over_or why t later)
  lower_over None t later h k = k
  lower_over (Some cause) t later h k = record { requests = h.requests; sends = h.sends; lower = h.lower }

  lower_respond : (response : Option (List ℕ)) (t : State) (later : Reply × State) → IsLower s t → Lower later → Lower (respond_or response t later)
  lower_respond None t later h k = k
  lower_respond (Some response) t later h k = record { requests = h.requests; sends = h.sends; lower = h.lower }

  lower_again : (over : Option End) (later : Reply × State) → Lower later → Lower (told_again over s later)
  lower_again None later h = h
  lower_again (Some why) later h = itself

  pub lower_emit : Lower (emit_step M s)
  lower_emit =
      let t : State = silent_passed M s in
      let h : IsLower s t = lower_same s t refl refl refl in
      lower_again s.causes.over _
      (lower_over s.causes.halt s _ itself
      (lower_over _ t _ h
      (lower_respond (response_in M (slice_get t.requests t.passed)) t _ h (lower_over s.causes.death t (reply.Emit emit.Later, t) h h))))

  -- a frame or a verdict that is refused
  lower_take : (ending room : Bool) (u : State) (frame : List ℕ) (count bytes : ℕ) (answer : Reply × State) → answer ≡ (if ending then (reply.Take (Err (take_fault.Ending frame)), s) else if room then (reply.Take (Ok tt), u) else (reply.Take (Err (take_fault.Full count bytes frame)), s)) → is_accepted answer.0 ≡ false → Lower answer
  lower_take true room u frame count bytes answer is refused = subst (λ x. Lower x) (sym is) itself
  lower_take false true u frame count bytes answer is refused = absurd (let never : true ≡ false = ap (λ x. is_accepted x.0) (sym is) ∙ refused in cc)
  lower_take false false u frame count bytes answer is refused = subst (λ x. Lower x) (sym is) itself

  lower_answer : (dead : Bool) (u : State) (frame : List ℕ) (answer : Reply × State) → answer ≡ (if dead then (reply.Answer (Err (answer_fault.Dead frame)), s) else (reply.Answer (Ok tt), u)) → is_accepted answer.0 ≡ false → Lower answer
  lower_answer true u frame answer is refused = subst (λ x. Lower x) (sym is) itself
  lower_answer false u frame answer is refused = absurd (let never : true ≡ false = ap (λ x. is_accepted x.0) (sym is) ∙ refused in cc)

  lower_complete : (waits : Bool) (u : State) (verdict : List ℕ) (answer : Reply × State) → answer ≡ (if waits then (reply.Complete (Ok tt), u) else (reply.Complete (Err (complete_fault.NotWaiting verdict)), s)) → is_accepted answer.0 ≡ false → Lower answer
  lower_complete true u verdict answer is refused = absurd (let never : true ≡ false = ap (λ x. is_accepted x.0) (sym is) ∙ refused in cc)
  lower_complete false u verdict answer is refused = subst (λ x. Lower x) (sym is) itself

  lower_event : (e : Event) → is_accepted (answer_to M s e).0 ≡ false → Lower (answer_to M s e)
  lower_event (event.Take frame) h = lower_take (are_ending s.causes) (M.room (in_flight s) (held s) (length frame)) (joined (M.no_request frame) frame s) frame (in_flight s) (held s) _ refl h
  lower_event (event.Answer frame) h = lower_answer (are_dead s.causes) (attributed M s frame (due_send s)) frame _ refl h
  lower_event (event.Complete k i verdict) h = lower_complete (not (are_still s.causes) && is_hold i (open_hold M s k)) (give k (Verdict verdict) s) verdict _ refl h
  lower_event (event.ClientEnd rest) h = lower_noted (client_end rest s) (lower_ended (is_some s.causes.death) (client_ended rest))
  lower_event (event.BrokerEnd rest) h = lower_noted (record s { causes = with_death (broker_ended rest (waiting s)) s.causes }) (lower_same s _ refl refl refl)
  lower_event (event.Fault x) h = lower_noted (faulted M s x) (lower_fault x)
  lower_event event.Send h = lower_if (is_some s.causes.death || is_some s.causes.halt) _ _ itself (lower_sent (slice_get s.sends s.taken))
  lower_event event.Emit h = lower_emit
  lower_event event.Pick h = lower_if (are_still s.causes) _ _ itself (lower_picked (first_hold M s.causes.cut s.picked 0 s.requests))
  lower_event event.Look h = itself

  pub rest_at : (t : State) → IsLower s t → next_act M s ≡ None → next_act M t ≡ None
  rest_at t low none =
      ap (λ ds. act_from M ds t.causes.cut 0 true t.requests) low.sends
      ∙ (ap (λ rs. act_from M s.sends t.causes.cut 0 true rs) low.requests
      ∙ rest_from M s.sends s.causes.cut t.causes.cut low.lower 0 true s.requests none)

  same_work : (t : State) → t.requests ≡ s.requests → total_work M t ≡ total_work M s
  same_work t same = ap (λ rs. sum_by (λ r. M.work r.frame r.given) rs) same

  work_stays_at : next_act M s ≡ None → (e : Event) (r : Reply) (t : State) → StepOrNoMemory M s e r t → is_accepted r ≡ false → total_work M t ≡ total_work M s
  work_stays_at none e r t (inl step) refused =
      let u : State = (answer_to M s e).1 in
      let low : IsLower s u = lower_event e (ap (λ x. is_accepted x) (sym step.reply) ∙ refused) in
      let same : u ≡ t = (sweeps M).once u u t ((sweeps M).rests u (rest_at u low none)) step.settles in
      same_work t (subst (λ x. x.requests ≡ s.requests) same low.requests)
  work_stays_at none e r t (inr gives) refused = same_work t (ap (λ x. x.requests) gives.halts)

-- what a history leads to has nothing to do
rest_step : (M : Meaning) (s t : State) (e : Event) (r : Reply) → next_act M s ≡ None → StepOrNoMemory M s e r t → next_act M t ≡ None
rest_step M s t e r none (inl step) = step.settles.rest
rest_step M s t e r none (inr gives) = subst (λ x. next_act M x ≡ None) (sym gives.halts) none

rests_after : (M : Meaning) (hs : List Entry) (s t : State) → next_act M s ≡ None → LeadsTo M s hs t → next_act M t ≡ None
rests_after M [] s t none run = subst (λ x. next_act M x ≡ None) (sym run) none
rests_after M (h ∷ hs) s t none run = rests_after M hs run.0 t (rest_step M s run.0 h.event h.reply none run.1) run.2

pub work_stays : (M : Meaning) → WorkStays M
work_stays M hs h s t run step refused = work_stays_at M s (rests_after M hs opening s refl run) h.event h.reply t step refused
