use Rattle.std.proofs.Common.{◌≡◌, true, ℕ, ◌+◌, ◌<◌, ◌^◌}
use Rattle.conn_rules.specs.Causes.{below}
use Rattle.serving.specs.Flights.{first_of, SameFlight, HasNoHold}
use Rattle.serving.proofs.flight.Flight.pick_first.Given as goal

abbrev pub invariant-loop-place : goal.invariant-loop-place
invariant-loop-place g l = SameFlight l.initial.self l.self × (l.first ≡ first_of l.initial.self) × ((before : ℕ) → before < l.place → first_of l.initial.self + before < 2 ^ 64 → below l.initial.self.causes.cut (first_of l.initial.self + before) ≡ true → HasNoHold l.initial.self before)
