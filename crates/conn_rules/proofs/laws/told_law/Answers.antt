use Rattle.conn_rules.proofs.Told.{end_next}
use Rattle.conn_rules.proofs.ClientEnds.{all_passed}
use Rattle.conn_rules.proofs.laws.told_law.Goals as goal

pub returns-clause-end_next : goal.returns-clause-end_next
returns-clause-end_next c = end_next

pub returns-clause-all_passed : goal.returns-clause-all_passed
returns-clause-all_passed c = all_passed
