-- A request that was just given something and rests leaves the connection settled.
use Rattle.std.proofs.Common.{◌≡◌, ◌∙◌, ap, refl, sym, subst, ℕ, ◌<◌, ◌^◌, ◌==◌, Bool, true, false, ◌&&◌, ◌||◌, List, [], ◌∷◌, ◌++◌, length, Option, Some, None, slice_get, arith}
use Rattle.std.specs.Prelude.{MatchBool}
use Rattle.conn_rules.specs.Causes.{below}
use Rattle.conn_rules.specs.Meaning.{Meaning}
use Rattle.conn_rules.specs.Settling.{is_listed, next_act}
use Rattle.conn_rules.specs.Settling.{lets_later_go as lets_go}
use Rattle.conn_rules.specs.State.{Outside, Request, State, give}
use Rattle.conn_rules.specs.Sweep.{free_before, act_in, act_at}
use Rattle.conn_rules.specs.Work.{TakesGrowth}
use Rattle.conn_rules.proofs.Sweep.{sweeps}
use Rattle.serving.specs.declared.flight.Flight.{Flight}
use Rattle.serving.specs.declared.slot.Slot.{Slot}
use Rattle.serving.specs.declared.slot.Stage.{Stage}
use Rattle.serving.specs.declared.slot.Stage.TheVariants as stage
use Rattle.serving.specs.Slots.{is_ready, stage_rests, rests, rests_in, awaits_response, waiting_run, has_main, IsStage, Keeps}
use Rattle.serving.specs.Listing.{Carries, TellsFree, IsSettled, FlightSettles}
use Rattle.serving.proofs.Places.{eqb_same}
use Rattle.serving.proofs.Settle.{IsAtRest, no_act_by, lets_by, if_none}
use Rattle.serving.proofs.Asks.{give_is}
use Rattle.serving.proofs.Freed.{free_given}
use Rattle.serving.proofs.Sweeping.{counts_refl}
use Rattle.serving.proofs.Working.{grows_none}

-- it has nothing to do
at_rest : {R : Type 0} → (main free : Bool) (at : Stage R) → stage_rests main at ≡ true → IsAtRest free at
at_rest main free (stage.Unlisted message run) h = cc
at_rest main free (stage.Listed run) h = (refl, λ cause is. cc)
at_rest main free (stage.Held key run) h = (refl, λ cause is. cc)
at_rest main free (stage.Picked run) h = (refl, λ cause is. cc)
at_rest main free (stage.Ready response) h = (refl, λ cause is. cc)
at_rest main free (stage.Failed cause) h = cc
at_rest main free stage.AtWork h = cc

-- and holds back later main sends as its main send says
lets_main : {R : Type 0} → (main : Bool) (at : Stage R) → stage_rests main at ≡ true → (is_ready at || main) ≡ main
lets_main main (stage.Unlisted message run) h = cc
lets_main main (stage.Listed run) h = refl
lets_main main (stage.Held key run) h = refl
lets_main main (stage.Picked run) h = refl
lets_main main (stage.Ready response) h = sym h
lets_main main (stage.Failed cause) h = cc
lets_main main stage.AtWork h = cc

-- as it did while it waited
lets_waiting : {R : Type 0} → (main : Bool) (at : Stage R) (run : R) → waiting_run at ≡ Some run → (is_ready at || main) ≡ main
lets_waiting main (stage.Unlisted message r) run h = refl
lets_waiting main (stage.Listed r) run h = refl
lets_waiting main (stage.Held key r) run h = refl
lets_waiting main (stage.Picked r) run h = refl
lets_waiting main (stage.Ready response) run h = cc
lets_waiting main (stage.Failed cause) run h = refl
lets_waiting main stage.AtWork run h = refl

-- the same for one limit
pub at_limit : (P : Type 0) (Q : ℕ → Type 0) (b : Bool) → MatchBool b P ((limit : ℕ) → Q limit) → (limit : ℕ) → MatchBool b P (Q limit)
at_limit P Q true h limit = h
at_limit P Q false h limit = h limit

module _ {R : Type 0} (M : Meaning) (runs : R → List ℕ → List Outside → Type 0) where
  module _ (b : State) (k : ℕ) (x : Outside) (r : Request) (before after : Slot R) (run : R) (there : slice_get b.requests k ≡ Some r) (later_there : slice_get (give k x b).requests k ≡ Some (record r { given = r.given ++ x ∷ [] })) (is : IsStage M runs r.frame r.given before.stage) (main : before.main_listed ≡ has_main b.sends k) (waits : waiting_run before.stage ≡ Some run) (kept : Keeps M runs (give k x b) k after) (rest : rests after ≡ true) where
    same : kept.request ≡ record r { given = r.given ++ x ∷ [] }
    same = let e : Some kept.request ≡ Some (record r { given = r.given ++ x ∷ [] }) = sym kept.there ∙ later_there in cc

    lets_now : lets_go b.sends k (M.status r.frame (r.given ++ x ∷ [])) ≡ has_main b.sends k
    lets_now = ap (λ q. lets_go b.sends k (M.status q.frame q.given)) (sym same) ∙ (lets_by M runs b.sends k kept.request.frame kept.request.given after.stage after.main_listed kept.stage kept.main ∙ (lets_main after.main_listed after.stage rest ∙ kept.main))

    lets_before : lets_go b.sends k (M.status r.frame r.given) ≡ has_main b.sends k
    lets_before = lets_by M runs b.sends k r.frame r.given before.stage before.main_listed is main ∙ (lets_waiting before.main_listed before.stage run waits ∙ main)

    pub rest_given : next_act M b ≡ None → next_act M (give k x b) ≡ None
    rest_given none =
        let u : State = give k x b in
        let listed_here : awaits_response after.stage ≡ true → is_listed b.sends k (length kept.request.given) ≡ true = λ e.
        ap (λ i. is_listed b.sends k i) (sym kept.given) ∙ (kept.listed after.given (omega arith) ∙ (ap (λ y. y && (after.given == after.given)) e ∙ eqb_same after.given)) in
        let no_act : act_at M u k ≡ None =
        ap (λ found. act_in M u k found) kept.there
        ∙ if_none M runs (below u.causes.cut k) _ (no_act_by M runs b.sends k (length kept.request.given) (free_before M u k) kept.request.frame kept.request.given after.stage kept.stage listed_here (at_rest after.main_listed (free_before M u k) after.stage rest)) in
        (sweeps M).given_quietly b k x r there none no_act (lets_now ∙ sym lets_before)

    -- and what holds back later main sends is as it was
    pub free_rested : free_before M (give k x b) (length (give k x b).requests) ≡ free_before M b (length b.requests)
    free_rested =
        ap (λ u. free_before M u (length u.requests)) (give_is k r x b there)
        ∙ free_given M b k r (record r { given = r.given ++ x ∷ [] }) there (lets_now ∙ sym lets_before)

  found_rests : {P : Type 0} → (there : Option (Slot R)) → rests_in there ≡ true → ((after : Slot R) → there ≡ Some after → rests after ≡ true → P) → P
  found_rests None is quiet = cc
  found_rests (Some after) is quiet = quiet after refl is

  -- so it is settled, with or without a sweep
  pub settled_given : (mid new : Flight R) (u : State) (place n m : ℕ) (rested : Bool) → rests_in (slice_get mid.slots.items place) ≡ rested → MatchBool rested ((new ≡ mid) × (m ≡ n)) (FlightSettles M runs mid new n m) → length u.requests < 2 ^ 64 → Carries M runs mid u → ((after : Slot R) → slice_get mid.slots.items place ≡ Some after → rests after ≡ true → (next_act M u ≡ None) × TellsFree M mid u) → (t : State) × IsSettled M runs new u t × TakesGrowth M n m u t
  settled_given mid new u place n m true is same small carries quiet =
      let found : (next_act M u ≡ None) × TellsFree M mid u = found_rests (slice_get mid.slots.items place) is quiet in
      (u, record { settles = (sweeps M).rests u found.0; carries = subst (λ f. Carries M runs f u) (sym same.0) carries; counts = counts_refl u; free = subst (λ f. TellsFree M f u) (sym same.0) found.1 }, grows_none M n m u u same.1 refl)
  settled_given mid new u place n m false is settles small carries quiet = settles u small carries
