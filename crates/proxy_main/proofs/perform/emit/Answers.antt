use Rattle.std.proofs.Common.{refl}
use Rattle.conn_rules.specs.declared.event.Event.TheVariants as event
use Rattle.conn_rules.specs.declared.event.Reply.TheVariants as reply
use Rattle.conn_rules.specs.declared.event.Emit.TheVariants as emit
use Rattle.proxy_main.proofs.Stepping.{event_line}
use Rattle.proxy_main.proofs.perform.emit.Goals as goal

pub returns-in-Bytes-clause-emit : goal.returns-in-Bytes-clause-emit
returns-in-Bytes-clause-emit g c = event_line g.C.Connection.meaning g.C.Connection.stands c.args.station.now.connection c.emit.new.self.connection event.Emit (reply.Emit (emit.Bytes c.in-Bytes.response)) _ c.in-Bytes.ensures.emit refl refl

pub returns-in-Later-clause-emit : goal.returns-in-Later-clause-emit
returns-in-Later-clause-emit g c = event_line g.C.Connection.meaning g.C.Connection.stands c.args.station.now.connection c.emit.new.self.connection event.Emit (reply.Emit emit.Later) _ c.in-Later.ensures.emit refl refl

pub returns-in-Over-clause-emit : goal.returns-in-Over-clause-emit
returns-in-Over-clause-emit g c = event_line g.C.Connection.meaning g.C.Connection.stands c.args.station.now.connection c.emit.new.self.connection event.Emit (reply.Emit (emit.Over c.in-Over.end)) _ c.in-Over.ensures.emit refl refl
