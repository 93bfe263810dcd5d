use Rattle.proxy_laws.proofs.WorkedAnswers.{lawful, asks_aside, sends_itself, completes, seven_turns, may_come, in_no_other_order, foreign, without_an_end}
use Rattle.proxy_laws.proofs.worked.worked_chain.Goals as goal

pub returns-clause-lawful : goal.returns-clause-lawful
returns-clause-lawful c = lawful

pub returns-clause-asks_aside : goal.returns-clause-asks_aside
returns-clause-asks_aside c = asks_aside

pub returns-clause-sends_itself : goal.returns-clause-sends_itself
returns-clause-sends_itself c = sends_itself

pub returns-clause-completes : goal.returns-clause-completes
returns-clause-completes c = completes

pub returns-clause-seven_turns : goal.returns-clause-seven_turns
returns-clause-seven_turns c = seven_turns

pub returns-clause-may_come : goal.returns-clause-may_come
returns-clause-may_come c = may_come

pub returns-clause-in_no_other_order : goal.returns-clause-in_no_other_order
returns-clause-in_no_other_order c = in_no_other_order

pub returns-clause-foreign : goal.returns-clause-foreign
returns-clause-foreign c = foreign

pub returns-clause-without_an_end : goal.returns-clause-without_an_end
returns-clause-without_an_end c = without_an_end
