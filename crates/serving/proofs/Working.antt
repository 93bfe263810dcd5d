-- How the work of requests grows, and the steps that were counted with it.
use Rattle.std.proofs.Common.{◌≡◌, ap, refl, sym, subst, ℕ, zero, suc, ◌+◌, Bool, true, false, not, ◌&&◌, if◌then◌else◌, Ok, Err, length, List, [], ◌∷◌, ◌++◌, Some, None, slice_get, slice_set, arith, inl}
use Rattle.std.specs.Prelude.{sum_by}
use Rattle.std.proofs.lemmas.List.Sums.{sum_by-cons, sum_by_push}
use Rattle.conn_rules.specs.declared.event.Event.{Event}
use Rattle.conn_rules.specs.declared.event.Reply.{Reply}
use Rattle.conn_rules.specs.Meaning.{Meaning}
use Rattle.conn_rules.specs.Settling.{next_act, Settles}
use Rattle.conn_rules.specs.State.{Outside, Verdict, Request, State, give, in_flight, held, due_send}
use Rattle.conn_rules.specs.declared.event.Event.TheVariants as event
use Rattle.conn_rules.specs.declared.event.Reply.TheVariants as reply
use Rattle.conn_rules.specs.declared.event.TakeFault.{TakeFault}
use Rattle.conn_rules.specs.declared.event.TakeFault.TheVariants as take_fault
use Rattle.conn_rules.specs.declared.event.AnswerFault.{AnswerFault}
use Rattle.conn_rules.specs.declared.event.AnswerFault.TheVariants as answer_fault
use Rattle.conn_rules.specs.declared.event.CompleteFault.{CompleteFault}
use Rattle.conn_rules.specs.declared.event.CompleteFault.TheVariants as complete_fault
use Rattle.conn_rules.specs.Causes.{are_ending, are_dead, are_still}
use Rattle.conn_rules.specs.Steps.{joined, attributed, open_hold, is_hold, answer_to, Step, StepOrNoMemory}
use Rattle.conn_rules.specs.Work.{total_work, TakesGrowth}
use Rattle.conn_rules.proofs.Sweep.{sweeps}

-- one term of a sum is another one
pub sum_set : {X : Type 0} → (f : X → ℕ) (xs : List X) (i : ℕ) (x y : X) → slice_get xs i ≡ Some x → sum_by f (slice_set xs i y) + f x ≡ sum_by f xs + f y
sum_set f [] i x y h = cc
sum_set f (z ∷ xs) zero x y h = let e : f z ≡ f x = (let same : z ≡ x = cc in ap f same) in omega (arith, sum_by-cons f y xs, sum_by-cons f z xs, e)
sum_set f (z ∷ xs) (suc i) x y h = omega (arith, sum_by-cons f z (slice_set xs i y), sum_by-cons f z xs, sum_set f xs i x y h)

module _ (M : Meaning) where
  pub grows_none : (n m : ℕ) (s t : State) → m ≡ n → t.requests ≡ s.requests → TakesGrowth M n m s t
  grows_none n m s t is same =
      let e : total_work M t ≡ total_work M s = ap (λ rs. sum_by (λ r. M.work r.frame r.given) rs) same in
      omega (arith, is, e)

  pub grows_trans : (n m o : ℕ) (s t u : State) → TakesGrowth M n m s t → TakesGrowth M m o t u → TakesGrowth M n o s u
  grows_trans n m o s t u a b = omega (arith, a, b)

  -- request k is given something
  pub grows_given : (n m : ℕ) (s t : State) (k : ℕ) (r : Request) (x : Outside) → slice_get s.requests k ≡ Some r
      → t.requests ≡ slice_set s.requests k (record r { given = r.given ++ x ∷ [] })
      → m + M.work r.frame r.given ≡ n + M.work r.frame (r.given ++ x ∷ []) → TakesGrowth M n m s t
  grows_given n m s t k r x there is counts =
      let later : Request = record r { given = r.given ++ x ∷ [] } in
      let e : total_work M t ≡ sum_by (λ q. M.work q.frame q.given) (slice_set s.requests k later) = ap (λ rs. sum_by (λ q. M.work q.frame q.given) rs) is in
      omega (arith, e, sum_set (λ q. M.work q.frame q.given) s.requests k r later there, counts)

  -- a request joins the others
  pub grows_joined : (n : ℕ) (s : State) (frame : List ℕ) → TakesGrowth M n (n + M.work frame []) s (record s { requests = s.requests ++ record { frame = frame; given = [] } ∷ [] })
  grows_joined n s frame = omega (arith, sum_by_push (λ q. M.work q.frame q.given) s.requests (record { frame = frame; given = [] }))

  -- The machine answers so and settles, and the steps between are those by which the work grew.
  pub record Reaches (s : State) (e : Event) (r : Reply) (n m : ℕ) (t : State) : Type 0 where
    pub from : State
    pub step : answer_to M s e ≡ (r, from)
    pub settles : Settles M from t
    pub grows : TakesGrowth M n m s t

  module _ (s : State) (e : Event) (r : Reply) (n m : ℕ) (t : State) where
    pub reaches_rest : answer_to M s e ≡ (r, t) → next_act M t ≡ None → m ≡ n → t.requests ≡ s.requests → Reaches s e r n m t
    reaches_rest is rest none same = record { from = t; step = is; settles = (sweeps M).rests t rest; grows = grows_none n m s t none same }

    pub reached : Reaches s e r n m t → StepOrNoMemory M s e r t
    reached h = inl (record { reply = ap (λ x. x.0) (sym h.step); settles = rw h.step h.settles })

    -- and there is no other state to which it goes
    pub grown : Reaches s e r n m t → (r' : Reply) (u : State) → Step M s e r' u → TakesGrowth M n m s u
    grown h r' u step =
        let settles : Settles M h.from u = subst (λ x. Settles M x.1 u) h.step step.settles in
        subst (λ x. TakesGrowth M n m s x) ((sweeps M).once h.from t u h.settles settles) h.grows

-- A refusal leaves a connection as it was.
module _ (s u : State) where
  -- what is answered, by whether there is a refusal
  abbrev taken : (ending room : Bool) (frame : List ℕ) (count bytes : ℕ) → Reply × State
  taken ending room frame count bytes =
      if ending then (reply.Take (Err (take_fault.Ending frame)), s)
      else if room then (reply.Take (Ok tt), u) else (reply.Take (Err (take_fault.Full count bytes frame)), s)

  abbrev answered : (dead : Bool) (frame : List ℕ) → Reply × State
  answered dead frame = if dead then (reply.Answer (Err (answer_fault.Dead frame)), s) else (reply.Answer (Ok tt), u)

  abbrev completed : (waits : Bool) (verdict : List ℕ) → Reply × State
  completed waits verdict = if waits then (reply.Complete (Ok tt), u) else (reply.Complete (Err (complete_fault.NotWaiting verdict)), s)

  take_by : (ending room : Bool) (frame : List ℕ) (count bytes : ℕ) (fault : TakeFault) → reply.Take (Err fault) ≡ (taken ending room frame count bytes).0 → (taken ending room frame count bytes).1 ≡ s
  take_by true room frame count bytes fault e = refl
  take_by false true frame count bytes fault e = cc
  take_by false false frame count bytes fault e = refl

  answer_by : (dead : Bool) (frame : List ℕ) (fault : AnswerFault) → reply.Answer (Err fault) ≡ (answered dead frame).0 → (answered dead frame).1 ≡ s
  answer_by true frame fault e = refl
  answer_by false frame fault e = cc

  complete_by : (waits : Bool) (verdict : List ℕ) (fault : CompleteFault) → reply.Complete (Err fault) ≡ (completed waits verdict).0 → (completed waits verdict).1 ≡ s
  complete_by true verdict fault e = cc
  complete_by false verdict fault e = refl

module _ (M : Meaning) (s t : State) (rest : next_act M s ≡ None) (n m : ℕ) (none : m ≡ n) where
  stays : (u : State) → u ≡ s → Settles M u t → TakesGrowth M n m s t
  stays u is settles =
      let same : s ≡ t = (sweeps M).once s s t ((sweeps M).rests s rest) (subst (λ x. Settles M x t) is settles) in
      grows_none M n m s t none (ap (λ x. x.requests) (sym same))

  pub take_refused : (frame : List ℕ) (fault : TakeFault) → Step M s (event.Take frame) (reply.Take (Err fault)) t → TakesGrowth M n m s t
  take_refused frame fault step = stays _ (take_by s (joined (M.no_request frame) frame s) (are_ending s.causes) (M.room (in_flight s) (held s) (length frame)) frame (in_flight s) (held s) fault step.reply) step.settles

  pub answer_dead : (frame : List ℕ) (fault : AnswerFault) → Step M s (event.Answer frame) (reply.Answer (Err fault)) t → TakesGrowth M n m s t
  answer_dead frame fault step = stays _ (answer_by s (attributed M s frame (due_send s)) (are_dead s.causes) frame fault step.reply) step.settles

  pub complete_refused : (k i : ℕ) (verdict : List ℕ) (fault : CompleteFault) → Step M s (event.Complete k i verdict) (reply.Complete (Err fault)) t → TakesGrowth M n m s t
  complete_refused k i verdict fault step = stays _ (complete_by s (give k (Verdict verdict) s) (not (are_still s.causes) && is_hold i (open_hold M s k)) verdict fault step.reply) step.settles
