use Rattle.std.proofs.Common.{refl, Some, None}
use Rattle.conn_rules.specs.declared.event.Event.TheVariants as event
use Rattle.conn_rules.specs.declared.event.Reply.TheVariants as reply
use Rattle.proxy_main.proofs.Stepping.{event_line}
use Rattle.proxy_main.proofs.perform.send.Goals as goal

pub returns-in-Some-clause-send : goal.returns-in-Some-clause-send
returns-in-Some-clause-send g c = event_line g.C.Connection.meaning g.C.Connection.stands c.args.station.now.connection c.send.new.self.connection event.Send (reply.Send (Some c.in-Some.frame)) _ c.in-Some.ensures.send refl refl

pub returns-in-None-clause-send : goal.returns-in-None-clause-send
returns-in-None-clause-send g c = event_line g.C.Connection.meaning g.C.Connection.stands c.args.station.now.connection c.send.new.self.connection event.Send (reply.Send None) _ c.in-None.ensures.send refl refl
