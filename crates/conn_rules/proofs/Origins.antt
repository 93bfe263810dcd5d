-- Each halt, cut and death has an entry of the history that brought it.
use Rattle.std.proofs.Common.{◌≡◌, ◌∙◌, ap, refl, sym, subst, ℕ, ◌<◌, arith, Bool, true, false, nat_lt, if◌then◌else◌, List, [], ◌∷◌, ◌++◌, Option, Some, None, Ok, Err, slice_get, inl, inr, ◌⊎◌}
use Rattle.std.proofs.lemmas.Bool.{ltb-true}
use Rattle.kp_edge.specs.declared.end.End.{End}
use Rattle.kp_edge.specs.declared.end.End.TheVariants as end
use Rattle.conn_rules.specs.declared.causes.Causes.{Causes}
use Rattle.conn_rules.specs.declared.event.Reply.{Reply}
use Rattle.conn_rules.specs.declared.event.Reply.TheVariants as reply
use Rattle.conn_rules.specs.declared.event.TakeFault.TheVariants as take_fault
use Rattle.conn_rules.specs.declared.event.AnswerFault.TheVariants as answer_fault
use Rattle.conn_rules.specs.declared.event.CompleteFault.TheVariants as complete_fault
use Rattle.conn_rules.specs.Causes.{below, first_cause}
use Rattle.conn_rules.specs.Meaning.{Meaning}
use Rattle.conn_rules.specs.Settling.{Settles}
use Rattle.conn_rules.specs.State.{State, opening}
use Rattle.conn_rules.specs.Steps.{answer_to, memory_answer, Step, GivesUp, StepOrNoMemory}
use Rattle.conn_rules.specs.History.{Entry, LeadsTo, IsHistory}
use Rattle.conn_rules.specs.Told.{IsEndNext}
use Rattle.conn_rules.specs.Origins.{Moment, wants_memory, HaltComesOf, DeathComesOf, CutComesOf, IsCutByFrame, IsCutByAnswer, IsCutByStatus, HaltOrigin, DeathOrigin, CutOrigin, ToldOrigin}
use Rattle.conn_rules.proofs.Resting.{low_before_cut}
use Rattle.conn_rules.proofs.Told.{IsUnmoved, IsRightlyTold, unmoved_answer, unmoved_lower, no_memory_answer, settled_same, rightly_event, rightly_opened, end_next}
use Rattle.conn_rules.proofs.Moves.{IsCutByEvent, CausesMove, Stays, Tells, Halts, Dies, Cuts, moves, IsSettledTo, settled_to, not_below, not_below_itself, there_answer}

-- Where a fact about the last state of some entries doesn't hold before them, one of them brings it.
module _ (M : Meaning) (Holds : State → Type 0) (Comes : State → Entry → State → Type 0)
    (brings : (s t : State) (h : Entry) → IsRightlyTold M s → StepOrNoMemory M s h.event h.reply t → Holds t → Holds s ⊎ Comes s h t) where
  record Since (first : State) (hs : List Entry) (s : State) : Type 0 where
    earlier : List Entry
    entry : Entry
    later : List Entry
    before : State
    behind : State
    parts : hs ≡ earlier ++ entry ∷ later
    leads : LeadsTo M first earlier before
    step : StepOrNoMemory M before entry.event entry.reply behind
    goes_on : LeadsTo M behind later s
    comes : Comes before entry behind
    holds : Holds behind

  since_here : (h : Entry) (hs : List Entry) (first between s : State) → StepOrNoMemory M first h.event h.reply between → LeadsTo M between hs s → Holds between → Holds first ⊎ Comes first h between → Holds first ⊎ Since first (h ∷ hs) s
  since_here h hs first between s step run holds (inl before) = inl before
  since_here h hs first between s step run holds (inr comes) =
      inr (record { earlier = []; entry = h; later = hs; before = first; behind = between; parts = refl; leads = refl; step = step; goes_on = run; comes = comes; holds = holds })

  since_later : (h : Entry) (hs : List Entry) (first between s : State) → IsRightlyTold M first → StepOrNoMemory M first h.event h.reply between → LeadsTo M between hs s → Holds between ⊎ Since between hs s → Holds first ⊎ Since first (h ∷ hs) s
  since_later h hs first between s right step run (inl holds) = since_here h hs first between s step run holds (brings first between h right step holds)
  since_later h hs first between s right step run (inr f) =
      inr (record {
        earlier = h ∷ f.earlier;
        entry = f.entry;
        later = f.later;
        before = f.before;
        behind = f.behind;
        parts = ap (λ xs. h ∷ xs) f.parts;
        leads = (between, step, f.leads);
        step = f.step;
        goes_on = f.goes_on;
        comes = f.comes;
        holds = f.holds;
      })

  since : (hs : List Entry) (first s : State) → IsRightlyTold M first → LeadsTo M first hs s → Holds s → Holds first ⊎ Since first hs s
  since [] first s right run holds = inl (subst Holds run holds)
  since (h ∷ hs) first s right run holds =
      since_later h hs first run.0 s right run.1 run.2
      (since hs run.0 s (rightly_event M first right h.event h.reply run.0 run.1) run.2 holds)

  -- so in a history, where it doesn't hold as the connection opens
  record Brought (hs : List Entry) (s : State) : Type 0 where
    moment : Moment M hs s
    comes : Comes moment.before moment.entry moment.behind
    holds : Holds moment.behind

  since_opening : (hs : List Entry) (s : State) → (Holds opening → ⊥) → Holds opening ⊎ Since opening hs s → Brought hs s
  since_opening hs s never (inl first) = absurd (never first)
  since_opening hs s never (inr f) =
      record {
        moment = record { earlier = f.earlier; entry = f.entry; later = f.later; before = f.before; behind = f.behind; parts = f.parts; history = f.leads; step = f.step; leads = f.goes_on };
        comes = f.comes;
        holds = f.holds;
      }

  brought : (hs : List Entry) (s : State) → (Holds opening → ⊥) → IsHistory M hs s → Holds s → Brought hs s
  brought hs s never run holds = since_opening hs s never (since hs opening s (rightly_opened M) run holds)

-- the first cause stays
first_or_new : (old : Option End) (new why : End) → first_cause old new ≡ Some why → (old ≡ Some why) ⊎ ((old ≡ None) × (new ≡ why))
first_or_new None new why h = inr (refl, let e : new ≡ why = cc in e)
first_or_new (Some cause) new why h = inl h

-- want of memory
memory_wanted : (answer r : Reply) → memory_answer answer ≡ Some r → wants_memory r ≡ true
memory_wanted (reply.Take (Ok _)) r h = let e : r ≡ reply.Take (Err take_fault.NoMemory) = cc in rw e
memory_wanted (reply.Take (Err _)) r h = cc
memory_wanted (reply.Answer (Ok _)) r h = let e : r ≡ reply.Answer (Err answer_fault.NoMemory) = cc in rw e
memory_wanted (reply.Answer (Err _)) r h = cc
memory_wanted (reply.Complete (Ok _)) r h = let e : r ≡ reply.Complete (Err complete_fault.NoMemory) = cc in rw e
memory_wanted (reply.Complete (Err _)) r h = cc
memory_wanted reply.Noted r h = cc
memory_wanted (reply.Send _) r h = cc
memory_wanted (reply.Emit _) r h = cc
memory_wanted (reply.Pick _) r h = cc
memory_wanted (reply.Look _) r h = cc

-- a cut falls at most
low_moved : (M : Meaning) (s : State) (h : Entry) (k : ℕ) (c : Causes) → CausesMove M s h c → below c.cut k ≡ true → below s.causes.cut k ≡ true
low_moved M s h k c (Stays is) low = subst (λ x. below x.cut k ≡ true) is low
low_moved M s h k c (Tells cause is) low = subst (λ x. below x.cut k ≡ true) is low
low_moved M s h k c (Halts cause is untold comes) low = subst (λ x. below x.cut k ≡ true) is low
low_moved M s h k c (Dies cause is untold comes) low = subst (λ x. below x.cut k ≡ true) is low
low_moved M s h k c (Cuts j cause is untold comes) low = low_before_cut j cause s.causes k (subst (λ x. below x.cut k ≡ true) is low)

module _ (M : Meaning) (s t : State) (h : Entry) where
  -- while no end was told
  wants_untold : (over : Option End) → s.causes.over ≡ over → GivesUp M s h.event h.reply t → s.causes.over ≡ None
  wants_untold None is gives = is
  wants_untold (Some why) is gives = absurd (let none : memory_answer (answer_to M s h.event).0 ≡ None = no_memory_answer M why s is h.event gives.takes in let some : memory_answer (answer_to M s h.event).0 ≡ Some h.reply = gives.reply in cc)

  module _ (why : End) where
    abbrev HaltComes : Type 0
    HaltComes = (s.causes.over ≡ None) × (s.causes.halt ≡ None) × HaltComesOf why h

    halt_new : (cause : End) → s.causes.over ≡ None → HaltComesOf cause h → (s.causes.halt ≡ Some why) ⊎ ((s.causes.halt ≡ None) × (cause ≡ why)) → (s.causes.halt ≡ Some why) ⊎ HaltComes
    halt_new cause untold comes (inl old) = inl old
    halt_new cause untold comes (inr new) = inr (untold, new.0, subst (λ x. HaltComesOf x h) new.1 comes)

    halt_moved : (c : Causes) → CausesMove M s h c → c.halt ≡ Some why → (s.causes.halt ≡ Some why) ⊎ HaltComes
    halt_moved c (Stays is) halt = inl (ap (λ x. x.halt) (sym is) ∙ halt)
    halt_moved c (Tells cause is) halt = inl (ap (λ x. x.halt) (sym is) ∙ halt)
    halt_moved c (Halts cause is untold comes) halt = halt_new cause untold comes (first_or_new s.causes.halt cause why (ap (λ x. x.halt) (sym is) ∙ halt))
    halt_moved c (Dies cause is untold comes) halt = inl (ap (λ x. x.halt) (sym is) ∙ halt)
    halt_moved c (Cuts k cause is untold comes) halt = inl (ap (λ x. x.halt) (sym is) ∙ halt)

    halt_brings : StepOrNoMemory M s h.event h.reply t → t.causes.halt ≡ Some why → (s.causes.halt ≡ Some why) ⊎ HaltComes
    halt_brings (inl step) halt =
        let answered : State = (answer_to M s h.event).1 in
        halt_moved answered.causes (moves M s h.actor h.event h.reply step.reply) (sym (settled_to M answered t step.settles).halt ∙ halt)
    halt_brings (inr gives) halt =
        halt_new end.NoMemory (wants_untold s.causes.over refl gives) (inr (memory_wanted (answer_to M s h.event).0 h.reply gives.reply))
        (first_or_new s.causes.halt end.NoMemory why (ap (λ x. x.causes.halt) (sym gives.halts) ∙ halt))

    abbrev DeathComes : Type 0
    DeathComes = (s.causes.over ≡ None) × (s.causes.death ≡ None) × DeathComesOf why s h

    death_new : (cause : End) → s.causes.over ≡ None → DeathComesOf cause s h → (s.causes.death ≡ Some why) ⊎ ((s.causes.death ≡ None) × (cause ≡ why)) → (s.causes.death ≡ Some why) ⊎ DeathComes
    death_new cause untold comes (inl old) = inl old
    death_new cause untold comes (inr new) = inr (untold, new.0, subst (λ x. DeathComesOf x s h) new.1 comes)

    death_moved : (c : Causes) → CausesMove M s h c → c.death ≡ Some why → (s.causes.death ≡ Some why) ⊎ DeathComes
    death_moved c (Stays is) death = inl (ap (λ x. x.death) (sym is) ∙ death)
    death_moved c (Tells cause is) death = inl (ap (λ x. x.death) (sym is) ∙ death)
    death_moved c (Halts cause is untold comes) death = inl (ap (λ x. x.death) (sym is) ∙ death)
    death_moved c (Dies cause is untold comes) death = death_new cause untold comes (first_or_new s.causes.death cause why (ap (λ x. x.death) (sym is) ∙ death))
    death_moved c (Cuts k cause is untold comes) death = inl (ap (λ x. x.death) (sym is) ∙ death)

    death_brings : StepOrNoMemory M s h.event h.reply t → t.causes.death ≡ Some why → (s.causes.death ≡ Some why) ⊎ DeathComes
    death_brings (inl step) death =
        let answered : State = (answer_to M s h.event).1 in
        death_moved answered.causes (moves M s h.actor h.event h.reply step.reply) (sym (settled_to M answered t step.settles).death ∙ death)
    death_brings (inr gives) death = inl (ap (λ x. x.causes.death) (sym gives.halts) ∙ death)

    module _ (k : ℕ) where
      abbrev CutComes : Type 0
      CutComes = (s.causes.over ≡ None) × (below s.causes.cut k ≡ true) × (CutComesOf M why k s h ⊎ IsCutByFrame M s h k why ⊎ IsCutByAnswer M s h k why ⊎ IsCutByStatus M t k why)

      abbrev CutStood : Type 0
      CutStood = s.causes.cut ≡ Some (k, why)

      of_event : IsCutByEvent M s h k why → CutComesOf M why k s h ⊎ IsCutByFrame M s h k why ⊎ IsCutByAnswer M s h k why ⊎ IsCutByStatus M t k why
      of_event (inl own) = inl own
      of_event (inr (inl frame)) = inr (inl frame)
      of_event (inr (inr answer)) = inr (inr (inl answer))

      -- a cut at request j is set where that is below the cut
      cut_new : (low : Bool) (j : ℕ) (cause : End) → below s.causes.cut j ≡ low → s.causes.over ≡ None → IsCutByEvent M s h j cause → (if low then Some (j, cause) else s.causes.cut) ≡ Some (k, why) → CutStood ⊎ CutComes
      cut_new true j cause low untold comes cut =
          let same : ◌≡◌ {A = ℕ × End} (j, cause) (k, why) = cc in
          let here : (below s.causes.cut k ≡ true) × IsCutByEvent M s h k why = subst (λ (x : ℕ × End). (below s.causes.cut x.0 ≡ true) × IsCutByEvent M s h x.0 x.1) same (low, comes) in
          inr (untold, here.0, of_event here.1)
      cut_new false j cause low untold comes cut = inl cut

      cut_moved : (c : Causes) → CausesMove M s h c → c.cut ≡ Some (k, why) → CutStood ⊎ CutComes
      cut_moved c (Stays is) cut = inl (ap (λ x. x.cut) (sym is) ∙ cut)
      cut_moved c (Tells cause is) cut = inl (ap (λ x. x.cut) (sym is) ∙ cut)
      cut_moved c (Halts cause is untold comes) cut = inl (ap (λ x. x.cut) (sym is) ∙ cut)
      cut_moved c (Dies cause is untold comes) cut = inl (ap (λ x. x.cut) (sym is) ∙ cut)
      cut_moved c (Cuts j cause is untold comes) cut = cut_new (below s.causes.cut j) j cause refl untold comes (ap (λ x. x.cut) (sym is) ∙ cut)

      -- no request fails after an end was told: nothing is left to settle then
      not_low : (cut : Option (ℕ × End)) → cut ≡ Some (k, why) → below cut k ≡ true → ⊥
      not_low cut stands low =
          let itself : nat_lt k k ≡ true = subst (λ x. below x k ≡ true) stands low in
          let less : k < k = ltb-true k k itself in
          omega (arith, less)

      fails_untold : (over : Option End) → s.causes.over ≡ over → IsRightlyTold M s → Settles M (answer_to M s h.event).1 t → t.causes.cut ≡ Some (k, why) → below (answer_to M s h.event).1.causes.cut k ≡ true → s.causes.over ≡ None
      fails_untold None is right settles cut low = is
      fails_untold (Some cause) is right settles cut low =
          let answered : State = (answer_to M s h.event).1 in
          let still : IsUnmoved s answered = unmoved_answer M cause s is h.event in
          let same : answered ≡ t = settled_same M s right answered t (unmoved_lower s answered still) settles in
          absurd (not_low answered.causes.cut (ap (λ x. x.causes.cut) same ∙ cut) low)

      cut_settled : IsRightlyTold M s → (step : Step M s h.event h.reply t) → t.causes.cut ≡ Some (k, why) → ((answer_to M s h.event).1.causes.cut ≡ Some (k, why)) ⊎ ((below (answer_to M s h.event).1.causes.cut k ≡ true) × IsCutByStatus M t k why) → CutStood ⊎ CutComes
      cut_settled right step cut (inl before) = cut_moved (answer_to M s h.event).1.causes (moves M s h.actor h.event h.reply step.reply) before
      cut_settled right step cut (inr fails) =
          inr (
            fails_untold s.causes.over refl right step.settles cut fails.0,
            low_moved M s h k (answer_to M s h.event).1.causes (moves M s h.actor h.event h.reply step.reply) fails.0,
            inr (inr (inr fails.1)),
          )

      cut_brings : IsRightlyTold M s → StepOrNoMemory M s h.event h.reply t → t.causes.cut ≡ Some (k, why) → CutStood ⊎ CutComes
      cut_brings right (inl step) cut = cut_settled right step cut ((settled_to M (answer_to M s h.event).1 t step.settles).cut k why cut)
      cut_brings right (inr gives) cut = inl (ap (λ x. x.causes.cut) (sym gives.halts) ∙ cut)

-- what stands at a cut or past it is the same ever after
module _ (M : Meaning) (k : ℕ) where
  abbrev IsKept : State → State → Type 0
  IsKept s t = (below t.causes.cut k ≡ false) × (slice_get t.requests k ≡ slice_get s.requests k)

  kept_event : (s t : State) (h : Entry) → below s.causes.cut k ≡ false → StepOrNoMemory M s h.event h.reply t → IsKept s t
  kept_event s t h out (inl step) =
      let u : State = (answer_to M s h.event).1 in
      let settled : IsSettledTo M u t = settled_to M u t step.settles in
      let low : below u.causes.cut k ≡ false = not_below s.causes.cut u.causes.cut k (low_moved M s h k u.causes (moves M s h.actor h.event h.reply step.reply)) out (below u.causes.cut k) refl in
      (not_below u.causes.cut t.causes.cut k (settled.falls k) low (below t.causes.cut k) refl, settled.others k low ∙ there_answer M s k out h.event)
  kept_event s t h out (inr gives) = rw gives.halts (out, refl)

  kept_after : (s t : State) (hs : List Entry) → below s.causes.cut k ≡ false → LeadsTo M s hs t → slice_get t.requests k ≡ slice_get s.requests k
  kept_after s t [] out run = rw run
  kept_after s t (h ∷ hs) out run =
      let one : IsKept s run.0 = kept_event s run.0 h out run.1 in
      kept_after run.0 t hs one.0 run.2 ∙ one.1

  -- a cut at request k
  cut_is_out : (why : End) (cut : Option (ℕ × End)) → cut ≡ Some (k, why) → below cut k ≡ false
  cut_is_out why cut stands = subst (λ c. below c k ≡ false) (sym stands) (not_below_itself k why)

module _ (M : Meaning) (hs : List Entry) (s : State) (why : End) (run : IsHistory M hs s) where
  pub halt_origin : s.causes.halt ≡ Some why → HaltOrigin M hs s why
  halt_origin halt =
      let f = brought M (λ x. x.causes.halt ≡ Some why) (λ x h y. HaltComes M x y h why) (λ x y h right step holds. halt_brings M x y h why step holds) hs s (λ none. cc) run halt in
      record { moment = f.moment; untold = f.comes.0; first = f.comes.1; stands = f.holds; comes = f.comes.2 }

  pub death_origin : s.causes.death ≡ Some why → DeathOrigin M hs s why
  death_origin death =
      let f = brought M (λ x. x.causes.death ≡ Some why) (λ x h y. DeathComes M x y h why) (λ x y h right step holds. death_brings M x y h why step holds) hs s (λ none. cc) run death in
      record { moment = f.moment; untold = f.comes.0; first = f.comes.1; stands = f.holds; comes = f.comes.2 }

  pub cut_origin : (k : ℕ) → s.causes.cut ≡ Some (k, why) → CutOrigin M hs s k why
  cut_origin k cut =
      let f = brought M (λ x. x.causes.cut ≡ Some (k, why)) (λ x h y. CutComes M x y h why k) (λ x y h right step holds. cut_brings M x y h why k right step holds) hs s (λ none. cc) run cut in
      record {
        moment = f.moment;
        untold = f.comes.0;
        first = f.comes.1;
        stands = f.holds;
        stays = kept_after M k f.moment.behind s f.moment.later (cut_is_out M k why f.moment.behind.causes.cut f.holds) f.moment.leads;
        comes = f.comes.2;
      }

  next_origin : IsEndNext M why s → ToldOrigin M hs s why
  next_origin (inl halt) = inl (halt_origin halt)
  next_origin (inr (inl cut)) = inr (inl (cut_origin s.passed cut.cut))
  next_origin (inr (inr died)) = inr (inr (death_origin died.death))

  pub told_origin : s.causes.over ≡ Some why → ToldOrigin M hs s why
  told_origin over = next_origin (end_next M hs s why run over)
