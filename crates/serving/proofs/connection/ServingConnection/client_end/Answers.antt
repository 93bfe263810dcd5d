use Rattle.std.proofs.Common.{refl}
use Rattle.conn_rules.specs.declared.event.Event.TheVariants as event
use Rattle.conn_rules.specs.Room.{limited}
use Rattle.conn_rules.specs.Steps.{client_end}
use Rattle.serving.proofs.Ends.{noted_now, client_ends}
use Rattle.serving.proofs.connection.ServingConnection.client_end.Goals as goal

pub returns-then-is_none : goal.returns-then-is_none
returns-then-is_none g c = (
  refl,
  λ s h.
      let M = limited c.args.self.now.flight.limit (g.S.Service.meaning c.args.self.now.service) in
      let runs = g.S.Service.stands c.args.self.now.service in
      rw c.end_client.ensures (noted_now M runs c.args.self.now.flight s h (event.ClientEnd c.args.rest) (client_end c.args.rest s) refl _ c.if-is_none.ensures (client_ends M runs c.args.self.now.flight s h c.args.rest)),
)
