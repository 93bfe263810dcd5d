use Rattle.std.proofs.Common.{◌∙◌, ap, sym}
use Rattle.conn_rules.specs.Meaning.{Fails}
use Rattle.conn_core.specs.Chained.{outcome_status}
use Rattle.conn_core.specs.Underway.{outcome_in}
use Rattle.conn_core.proofs.telling.tell.Goals as goal

pub returns-in-Broker-clause-told : goal.returns-in-Broker-clause-told
returns-in-Broker-clause-told g c = rw (c.in-Needs.is, c.in-Broker.is) c.tell_send.ensures.told

pub returns-in-Shut-clause-told : goal.returns-in-Shut-clause-told
returns-in-Shut-clause-told g c = λ frame is. ap (λ st. outcome_status frame (outcome_in st)) c.in-Shut.is ∙ ap Fails (sym c.cause_of.ensures)
