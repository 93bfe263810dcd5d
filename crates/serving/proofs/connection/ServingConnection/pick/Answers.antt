use Rattle.std.proofs.Common.{◌≡◌, sym, refl, Option, Some, None}
use Rattle.conn_rules.specs.declared.event.Event.TheVariants as event
use Rattle.conn_rules.specs.declared.event.Reply.TheVariants as reply
use Rattle.conn_rules.specs.declared.event.Ticket.{Ticket}
use Rattle.conn_rules.specs.Room.{limited}
use Rattle.serving.specs.declared.flight.Flight.{Flight}
use Rattle.serving.specs.Flights.{PicksFirst}
use Rattle.serving.proofs.Follows.{follows_by}
use Rattle.serving.proofs.Picking.{pick_by}
use Rattle.serving.proofs.connection.ServingConnection.pick.Goals as goal

limit_kept : {R : Type 0} → (f new : Flight R) (ticket : Option Ticket) → PicksFirst f ticket new → new.limit ≡ f.limit
limit_kept f new None h = h.0.0.limit_is
limit_kept f new (Some ticket) h = h.2.rest.limit_is

pub returns : goal.returns
returns g c =
    let v = c.args.self.now.service in
    let f = c.args.self.now.flight in
    follows_by g.S.Service.meaning g.S.Service.stands v f event.Pick (reply.Pick c.pick_first.result) v c.pick_first.new.self refl (limit_kept f c.pick_first.new.self c.pick_first.result c.pick_first.ensures.picks)
    (λ s h. pick_by (limited f.limit (g.S.Service.meaning v)) (g.S.Service.stands v) f c.pick_first.new.self s h (sym c.if-are_still.ensures) c.pick_first.ensures.small c.pick_first.result c.pick_first.ensures.picks)
