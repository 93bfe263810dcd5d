use Rattle.std.proofs.Common.{refl, ap, Some, Ok, Err}
use Rattle.conn_rules.specs.declared.event.Reply.TheVariants as reply
use Rattle.session.specs.Peers.{take_receipt}
use Rattle.session.proofs.hand_on.take.Goals as goal

pub returns-in-Ok-clause-follows : goal.returns-in-Ok-clause-follows
returns-in-Ok-clause-follows g c = (reply.Take (Ok tt), c.in-Ok.ensures.follows, c.in-Ok.ensures.counted, refl)

pub returns-in-Err-Ending-clause-follows : goal.returns-in-Err-Ending-clause-follows
returns-in-Err-Ending-clause-follows g c = (reply.Take (Err c.in-Err-Ending.field-0), c.in-Err-Ending.ensures.follows, c.in-Err-Ending.ensures.counted, ap (λ e. Some (take_receipt e)) c.in-Err-Ending.field-0-is)

pub returns-in-Err-Full-clause-follows : goal.returns-in-Err-Full-clause-follows
returns-in-Err-Full-clause-follows g c = (reply.Take (Err c.in-Err-Full.field-0), c.in-Err-Full.ensures.follows, c.in-Err-Full.ensures.counted, ap (λ e. Some (take_receipt e)) c.in-Err-Full.field-0-is)

pub returns-clause-follows : goal.returns-clause-follows
returns-clause-follows g c = (reply.Take c.take.result, c.take.ensures.follows, c.take.ensures.counted, rw (c.in-Err-NoMemory.is) (ap (λ e. Some (take_receipt e)) c.in-Err-NoMemory.field-0-is))
