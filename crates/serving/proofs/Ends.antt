-- The ends of the streams, and what failed outside.
use Rattle.std.proofs.Common.{◌≡◌, ◌∙◌, ap, refl, sym, ℕ, ◌≤◌, Bool, true, false, is_some, if◌then◌else◌, List, length, Option, Some, None, arith}
use Rattle.kp_edge.specs.declared.end.End.{End}
use Rattle.kp_edge.specs.declared.end.End.TheVariants as end
use Rattle.conn_rules.specs.declared.causes.Causes.{Causes}
use Rattle.conn_rules.specs.declared.event.Event.{Event}
use Rattle.conn_rules.specs.declared.event.Fault.{Fault}
use Rattle.conn_rules.specs.declared.event.Fault.TheVariants as fault
use Rattle.conn_rules.specs.declared.event.Reply.TheVariants as reply
use Rattle.conn_rules.specs.Causes.{below, with_cut, with_death, client_ended, broker_ended, after_client_end}
use Rattle.conn_rules.specs.Meaning.{Meaning}
use Rattle.conn_rules.specs.State.{Outside, State, dead, cut_at, waiting}
use Rattle.conn_rules.specs.Steps.{client_end, faulted, noted, open_hold, answer_to, StepOrNoMemory}
use Rattle.correlation.specs.WindowOf.{window_of}
use Rattle.serving.specs.declared.flight.Flight.{Flight}
use Rattle.serving.specs.Flights.{hold_at}
use Rattle.serving.specs.Listing.{IsCutBehind, Carries}
use Rattle.serving.specs.Stands.{Stands, flight_faulted}
use Rattle.conn_rules.proofs.Resting.{low_before_cut}
use Rattle.serving.proofs.Same.{behind_cut}
use Rattle.serving.proofs.Notes.{steps, stands_causes, stands_halted, stands_dead, stands_cut}
use Rattle.serving.proofs.Holds.{hold_there, not_passed}

module _ {R : Type 0} (M : Meaning) (runs : R → List ℕ → List Outside → Type 0) (f : Flight R) (s : State) (h : Stands M runs f s) where
  abbrev Answered : Event → Flight R → Type 0
  Answered e new = (t : State) × StepOrNoMemory M s e reply.Noted t × Stands M runs new t

  -- after Over nothing changes
  module _ (e : Event) (t : State) (is : answer_to M s e ≡ noted s t) where
    pub noted_now : (new : Flight R) → is_some f.causes.over ≡ false → Stands M runs new t → Answered e new
    noted_now new over stands =
        let o : is_some s.causes.over ≡ false = ap (λ x. is_some x) (sym h.over_is) ∙ over in
        (t, steps M s t e reply.Noted (is ∙ ap (λ b. (reply.Noted, if b then s else t)) o) stands.rest, stands)

  pub broker_ends : (rest n : ℕ) → n ≡ (window_of f.sends).waiting → Stands M runs (record f { causes = with_death (broker_ended rest n) f.causes }) (dead (broker_ended rest (waiting s)) s)
  broker_ends rest n is = stands_dead M runs f s h (broker_ended rest n) (broker_ended rest (waiting s)) (λ same c. ap (λ x. broker_ended rest x) (is ∙ c.window.waiting_is))

  -- a client's end keeps halt and over, and lowers the cut at most
  kept_by : (b : Bool) (c d : Causes) → c.halt ≡ d.halt → (if b then c else d).halt ≡ d.halt
  kept_by true c d e = e
  kept_by false c d e = refl

  kept_over_by : (b : Bool) (c d : Causes) → c.over ≡ d.over → (if b then c else d).over ≡ d.over
  kept_over_by true c d e = e
  kept_over_by false c d e = refl

  lower_by : (b : Bool) (k : ℕ) (why : End) (c : Causes) (j : ℕ) → below (if b then c else with_cut k why c).cut j ≡ true → below c.cut j ≡ true
  lower_by true k why c j x = x
  lower_by false k why c j x = low_before_cut k why c j x

  behind_by : (b : Bool) (k : ℕ) (why : End) (c : Causes) (passed : ℕ) → passed ≤ k → IsCutBehind c.cut passed → IsCutBehind (if b then c else with_cut k why c).cut passed
  behind_by true k why c passed le x = x
  behind_by false k why c passed le x = behind_cut k why c passed le x

  pub client_ends : (rest : ℕ) → Stands M runs (record f { causes = after_client_end f.requests rest f.causes }) (client_end rest s)
  client_ends rest =
      let n : ℕ = length s.requests in
      let why : End = client_ended rest in
      let d : Causes = after_client_end n rest s.causes in
      let halts : d.halt ≡ s.causes.halt = kept_by (is_some s.causes.death) s.causes (with_cut n why s.causes) refl in
      let overs : d.over ≡ s.causes.over = kept_over_by (is_some s.causes.death) s.causes (with_cut n why s.causes) refl in
      let halts' : (after_client_end f.requests rest f.causes).halt ≡ f.causes.halt = kept_by (is_some f.causes.death) f.causes (with_cut f.requests why f.causes) refl in
      let overs' : (after_client_end f.requests rest f.causes).over ≡ f.causes.over = kept_over_by (is_some f.causes.death) f.causes (with_cut f.requests why f.causes) refl in
      stands_causes M runs f s h (after_client_end f.requests rest f.causes) d (halts' ∙ (h.halt_is ∙ sym halts)) (overs' ∙ (h.over_is ∙ sym overs))
      (λ none. sym halts ∙ none)
      (lower_by (is_some s.causes.death) n why s.causes)
      (λ c. behind_by (is_some s.causes.death) n why s.causes s.passed (omega (arith, c.there)) c.cut_behind)
      (λ c is. ap (λ x. after_client_end f.requests rest x) c.causes_is ∙ ap (λ x. after_client_end x rest s.causes) is)

  cuts_by : (b b' : Bool) (k : ℕ) (why : End) → (Carries M runs f s → b ≡ b') → (b' ≡ true → Carries M runs f s → s.passed ≤ k) → Stands M runs (if b then record f { causes = with_cut k why f.causes } else f) (if b' then cut_at k why s else s)
  cuts_by true true k why same at = stands_cut M runs f s h k k why (λ none. (refl, at refl (h.whole none).1))
  cuts_by false false k why same at = h
  cuts_by true false k why same at = record {
    halt_is = h.halt_is;
    over_is = h.over_is;
    count_is = h.count_is;
    held_is = h.held_is;
    rest = h.rest;
    whole = λ none. absurd (let never : true ≡ false = same (h.whole none).1 in cc);
    free = λ none. absurd (let never : true ≡ false = same (h.whole none).1 in cc);
  }
  cuts_by false true k why same at =
      let cut : Stands M runs (record f { causes = with_cut k why f.causes }) (cut_at k why s) = stands_cut M runs f s h k k why (λ none. (refl, at refl (h.whole none).1)) in
      record {
        halt_is = h.halt_is;
        over_is = h.over_is;
        count_is = h.count_is;
        held_is = h.held_is;
        rest = cut.rest;
        whole = λ none. absurd (let never : false ≡ true = same (h.whole none).1 in cc);
        free = λ none. absurd (let never : false ≡ true = same (h.whole none).1 in cc);
      }

  cuts_here : (why : End) → Stands M runs (record f { causes = with_cut f.requests why f.causes }) (cut_at (length s.requests) why s)
  cuts_here why = stands_cut M runs f s h f.requests (length s.requests) why (λ none. let w = h.whole none in (w.0, omega (arith, w.1.there)))

  pub faults : (x : Fault) → Stands M runs (flight_faulted x f) (faulted M s x)
  faults fault.ClientRead = cuts_here end.ClientReadFault
  faults fault.ClientWrite = stands_halted M runs f s h end.ClientWriteFault
  faults fault.BrokerRead = stands_dead M runs f s h end.BrokerReadFault end.BrokerReadFault (λ a b. refl)
  faults fault.BrokerWrite = stands_dead M runs f s h end.BrokerWriteFault end.BrokerWriteFault (λ a b. refl)
  faults (fault.ClientBadSize at size) = cuts_here (end.BadSize at size)
  faults (fault.BrokerBadSize at size) = stands_dead M runs f s h (end.BrokerBadSize at size) (end.BrokerBadSize at size) (λ a b. refl)
  faults (fault.Authority k) = cuts_by (is_some (hold_at f k)) (is_some (open_hold M s k)) k (end.AuthorityFault k) (λ c. hold_there M runs f s c k) (λ some c. not_passed M runs f s c k some)
  faults fault.Thread = stands_halted M runs f s h end.ThreadRefused
  faults fault.NoMemory = stands_halted M runs f s h end.NoMemory
