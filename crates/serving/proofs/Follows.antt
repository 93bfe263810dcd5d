-- What is shown of what a connection keeps holds of the connection.
use Rattle.std.proofs.Common.{◌≡◌, refl, sym, subst, ℕ, List}
use Rattle.conn_rules.specs.declared.event.Event.{Event}
use Rattle.conn_rules.specs.declared.event.Reply.{Reply}
use Rattle.conn_rules.specs.Meaning.{Meaning}
use Rattle.conn_rules.specs.Room.{limited}
use Rattle.conn_rules.specs.State.{Outside, State}
use Rattle.conn_rules.specs.Steps.{Step, StepOrNoMemory}
use Rattle.conn_rules.specs.Work.{TakesGrowth}
use Rattle.serving.specs.declared.flight.Flight.{Flight}
use Rattle.serving.specs.Stands.{Stands}
use Rattle.serving.proofs.Working.{Reaches, reached, grown}

module _ {V R : Type 0} (meaning : V → Meaning) (runs : V → R → List ℕ → List Outside → Type 0) (v : V) (f : Flight R) (e : Event) (r : Reply) where
  abbrev pub Leads : Flight R → Type 0
  Leads new = (s : State) → Stands (limited f.limit (meaning v)) (runs v) f s → (t : State) × StepOrNoMemory (limited f.limit (meaning v)) s e r t × Stands (limited f.limit (meaning v)) (runs v) new t

  -- the same, with the meaning and the limit of the new value
  abbrev pub LeadsTo : V → ℕ → Flight R → Type 0
  LeadsTo v' limit new = (limited limit (meaning v') ≡ limited f.limit (meaning v)) × ((s : State) → Stands (limited f.limit (meaning v)) (runs v) f s → (t : State) × StepOrNoMemory (limited f.limit (meaning v)) s e r t × Stands (limited limit (meaning v')) (runs v') new t)

  pub follows_by : (v' : V) (new : Flight R) → v' ≡ v → new.limit ≡ f.limit → Leads new → LeadsTo v' new.limit new
  follows_by v' new same limit leads =
      subst (λ x. LeadsTo x new.limit new) (sym same) (subst (λ n. LeadsTo v n new) (sym limit) (refl, leads))

  -- The machine answers so and settles, with steps that are counted.
  module _ (n m : ℕ) where
    abbrev pub LeadsBy : Flight R → Type 0
    LeadsBy new = (s : State) → Stands (limited f.limit (meaning v)) (runs v) f s → (t : State) × Reaches (limited f.limit (meaning v)) s e r n m t × Stands (limited f.limit (meaning v)) (runs v) new t

    pub follows_counting : (v' : V) (new : Flight R) → v' ≡ v → new.limit ≡ f.limit → LeadsBy new → LeadsTo v' new.limit new
    follows_counting v' new same limit leads = follows_by v' new same limit (λ s h. let by = leads s h in (by.0, reached (limited f.limit (meaning v)) s e r n m by.0 by.1, by.2))

    pub counts_growth : (new : Flight R) → LeadsBy new → (s t : State) → Stands (limited f.limit (meaning v)) (runs v) f s → Step (limited f.limit (meaning v)) s e r t → TakesGrowth (limited f.limit (meaning v)) n m s t
    counts_growth new leads s t h step = let by = leads s h in grown (limited f.limit (meaning v)) s e r n m by.0 by.1 r t step
