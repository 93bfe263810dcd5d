use Rattle.std.proofs.Common.{◌≡◌, ℕ, length}
use Rattle.conn_rules.specs.Room.{limited}
use Rattle.serving.specs.Stands.{PassesSome}
use Rattle.serving.proofs.connection.Serving.pass_silent.Given as goal

abbrev pub invariant-silent : goal.invariant-silent
invariant-silent g l = (l.self.service ≡ l.initial.self.service) × ((limit : ℕ) → PassesSome (limited limit (g.S.Service.meaning l.initial.self.service)) (g.S.Service.stands l.initial.self.service) l.initial.self.flight l.self.flight)

abbrev pub decreases-silent : goal.decreases-silent
decreases-silent g l = length l.self.flight.slots.items
