use Rattle.conn_rules.proofs.Order.{order}
use Rattle.conn_rules.proofs.laws.order_law.Goals as goal

pub returns : goal.returns
returns c = order
