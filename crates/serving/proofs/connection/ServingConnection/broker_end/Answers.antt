use Rattle.std.proofs.Common.{refl}
use Rattle.conn_rules.specs.declared.event.Event.TheVariants as event
use Rattle.conn_rules.specs.Causes.{broker_ended}
use Rattle.conn_rules.specs.Room.{limited}
use Rattle.conn_rules.specs.State.{dead, waiting}
use Rattle.serving.proofs.Ends.{noted_now, broker_ends}
use Rattle.serving.proofs.connection.ServingConnection.broker_end.Goals as goal

pub returns-then-is_none : goal.returns-then-is_none
returns-then-is_none g c = (
  refl,
  λ s h.
      let M = limited c.args.self.now.flight.limit (g.S.Service.meaning c.args.self.now.service) in
      let runs = g.S.Service.stands c.args.self.now.service in
      rw c.end_broker.ensures (noted_now M runs c.args.self.now.flight s h (event.BrokerEnd c.args.rest) (dead (broker_ended c.args.rest (waiting s)) s) refl _ c.if-is_none.ensures (broker_ends M runs c.args.self.now.flight s h c.args.rest c.waiting-waiting.result c.waiting-waiting.ensures)),
)
