use Rattle.tree_spelling.proofs.OneValue.{one_value, no_value_begins, one_fault}
use Rattle.tree_spelling.proofs.laws.spelling_laws.Goals as goal

pub returns-clause-one_value : goal.returns-clause-one_value
returns-clause-one_value c = one_value

pub returns-clause-no_front : goal.returns-clause-no_front
returns-clause-no_front c = no_value_begins

pub returns-clause-one_fault : goal.returns-clause-one_fault
returns-clause-one_fault c = one_fault
