use Rattle.std.proofs.Common.{sym, refl}
use Rattle.conn_rules.specs.Room.{limited}
use Rattle.serving.proofs.Takes.{none_of}
use Rattle.serving.proofs.Passing.{send_next}
use Rattle.serving.proofs.connection.ServingConnection.send.Goals as goal

pub returns : goal.returns
returns g c = (
  refl,
  λ s h.
      let f = c.args.self.now.flight in
      send_next (limited f.limit (g.S.Service.meaning c.args.self.now.service)) (g.S.Service.stands c.args.self.now.service) f s h (none_of f.causes.death (sym c.if-is_some.ensures)) (none_of f.causes.halt (sym c.if-is_some-2.ensures)) (record f { sends = c.take.new.self }) refl c.take.ensures.taken c.take.result c.take.ensures.frame,
)
