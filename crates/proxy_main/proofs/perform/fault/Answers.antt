use Rattle.std.proofs.Common.{refl}
use Rattle.conn_rules.specs.declared.event.Event.TheVariants as event
use Rattle.conn_rules.specs.declared.event.Reply.TheVariants as reply
use Rattle.proxy_main.proofs.Stepping.{event_line}
use Rattle.proxy_main.proofs.perform.fault.Goals as goal

pub returns-clause-fault : goal.returns-clause-fault
returns-clause-fault g c = event_line g.C.Connection.meaning g.C.Connection.stands c.args.station.now.connection c.fault.new.self.connection (event.Fault c.args.fault) reply.Noted _ c.fault.ensures.fault refl refl
