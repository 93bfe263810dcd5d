use Rattle.std.proofs.Common.{refl, ap, Some, Ok, Err}
use Rattle.conn_rules.specs.declared.event.Reply.TheVariants as reply
use Rattle.session.specs.Peers.{answer_receipt}
use Rattle.session.proofs.hand_on.answer.Goals as goal

pub returns-in-Ok-clause-follows : goal.returns-in-Ok-clause-follows
returns-in-Ok-clause-follows g c = (reply.Answer (Ok tt), c.in-Ok.ensures.follows, c.in-Ok.ensures.counted, refl)

pub returns-in-Err-Dead-clause-follows : goal.returns-in-Err-Dead-clause-follows
returns-in-Err-Dead-clause-follows g c = (reply.Answer (Err c.in-Err-Dead.field-0), c.in-Err-Dead.ensures.follows, c.in-Err-Dead.ensures.counted, ap (λ e. Some (answer_receipt e)) c.in-Err-Dead.field-0-is)

pub returns-clause-follows : goal.returns-clause-follows
returns-clause-follows g c = (reply.Answer c.answer.result, c.answer.ensures.follows, c.answer.ensures.counted, rw (c.in-Err-NoMemory.is) (ap (λ e. Some (answer_receipt e)) c.in-Err-NoMemory.field-0-is))
