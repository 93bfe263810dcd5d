use Rattle.std.proofs.Common.{◌≡◌, sym, subst, Some}
use Rattle.conn_rules.specs.declared.event.Reply.{Reply}
use Rattle.conn_rules.specs.Connections.{Follows, CountsWork}
use Rattle.session.specs.Peers.{frame_event, frame_receipt}
use Rattle.session.proofs.hand_on.hand_on.Goals as goal

pub returns-in-Client-clause-follows : goal.returns-in-Client-clause-follows
returns-in-Client-clause-follows g c =
    subst (λ p. (r : Reply) × Follows g.C.Connection.meaning g.C.Connection.stands c.args.connection.now (frame_event p c.args.frame) r c.take.new.connection
    × CountsWork g.C.Connection.meaning g.C.Connection.stands c.args.connection.now (frame_event p c.args.frame) r c.args.steps.now c.take.new.steps × (frame_receipt p r ≡ Some c.take.result))
    (sym c.in-Client.is) c.take.ensures.follows

pub returns-in-Broker-clause-follows : goal.returns-in-Broker-clause-follows
returns-in-Broker-clause-follows g c =
    subst (λ p. (r : Reply) × Follows g.C.Connection.meaning g.C.Connection.stands c.args.connection.now (frame_event p c.args.frame) r c.answer.new.connection
    × CountsWork g.C.Connection.meaning g.C.Connection.stands c.args.connection.now (frame_event p c.args.frame) r c.args.steps.now c.answer.new.steps × (frame_receipt p r ≡ Some c.answer.result))
    (sym c.in-Broker.is) c.answer.ensures.follows
