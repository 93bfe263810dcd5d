-- What `Run::start` and `Run::poll` answer.
use Rattle.std.specs.Prelude.{◌≡◌, ℕ, suc, ◌+◌, ◌-◌, List, ◌∷◌, ◌++◌, length, map, Option}
use Rattle.tree_spelling.specs.Body.{Contents}
use Rattle.filter_core.specs.declared.input.Input.{Input}
use Rattle.filter_core.specs.Decision.{Turn}
use Rattle.side_requests.specs.declared.ask.Ask.{Ask}
use Rattle.side_requests.specs.AskNumbers.{ask_limit}
use Rattle.filter_chain.specs.declared.outside.Outside.{Outside}
use Rattle.filter_chain.specs.declared.run.Run.{Run}
use Rattle.filter_chain.specs.declared.state.State.{State}
use Rattle.filter_chain.specs.declared.state.State.TheVariants as state
use Rattle.filter_chain.specs.declared.passing.Stop.TheVariants as stop
use Rattle.filter_chain.specs.declared.passing.Next.TheVariants as next
use Rattle.filter_chain.specs.Outcomes.{Needs, Completed, Shuts, course, run, turns}
use Rattle.filter_chain.specs.Suspensions.{StandFor, awaited_by}

-- how often a run may ask once more
abbrev pub budget_unused : {P : Type 0} → Run P → ℕ
budget_unused r = ask_limit - r.book

-- how often a request that stands so may ask, with what it asks now
abbrev pub state_budget_unused : {P : Type 0} → State P → ℕ
state_budget_unused (state.Needs r ask) = suc (budget_unused r)
state_budget_unused (state.Done response) = 0
state_budget_unused (state.Shut cause) = 0

module _ {F P : Type 0} (turn : F → Turn) (stands : F → P → Contents → List Input → Type 0) where
  -- the run is that of a request which was given so much, under the chain
  pub record RunsFor (chain : List F) (request : Contents) (given : List Outside) (r : Run P) : Type 0 where
    pub ask : Ask
    pub awaits : r.awaits ≡ awaited_by ask
    pub asked : r.book ≡ suc (length given)
    pub stand : StandFor turn stands chain r.suspended.items (next.Stops (stop.Needs ask)) (turns (map turn chain) request given) (λ more. course (map turn chain) request (given ++ more))

  -- the state is that of the request
  abbrev pub IsState : List F → Contents → List Outside → State P → Type 0
  IsState chain request given (state.Needs r ask) = (run (map turn chain) request given ≡ Needs ask) × RunsFor chain request given r
  IsState chain request given (state.Done response) = run (map turn chain) request given ≡ Completed response
  IsState chain request given (state.Shut cause) = run (map turn chain) request given ≡ Shuts cause
