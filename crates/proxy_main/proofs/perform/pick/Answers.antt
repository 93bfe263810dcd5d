use Rattle.std.proofs.Common.{refl, Some, None}
use Rattle.conn_rules.specs.declared.event.Event.TheVariants as event
use Rattle.conn_rules.specs.declared.event.Reply.TheVariants as reply
use Rattle.proxy_main.proofs.Stepping.{event_line}
use Rattle.proxy_main.proofs.perform.pick.Goals as goal

pub returns-in-Some-clause-pick : goal.returns-in-Some-clause-pick
returns-in-Some-clause-pick g c = event_line g.C.Connection.meaning g.C.Connection.stands c.args.station.now.connection c.pick.new.self.connection event.Pick (reply.Pick (Some c.in-Some.ticket)) _ c.in-Some.ensures.pick refl refl

pub returns-in-None-clause-pick : goal.returns-in-None-clause-pick
returns-in-None-clause-pick g c = event_line g.C.Connection.meaning g.C.Connection.stands c.args.station.now.connection c.pick.new.self.connection event.Pick (reply.Pick None) _ c.in-None.ensures.pick refl refl
