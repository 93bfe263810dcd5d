use Rattle.filter_chain.proofs.Fronts.{done_stays, end_stays, asks_within_budget, used_in_order}
use Rattle.filter_chain.proofs.Seeing.{sees_only_nearer, chain_looks_through}
use Rattle.filter_chain.proofs.laws.chain_laws.Goals as goal

pub returns-clause-done_stays : goal.returns-clause-done_stays
returns-clause-done_stays c = done_stays

pub returns-clause-end_stays : goal.returns-clause-end_stays
returns-clause-end_stays c = end_stays

pub returns-clause-within_budget : goal.returns-clause-within_budget
returns-clause-within_budget c = asks_within_budget

pub returns-clause-used_in_order : goal.returns-clause-used_in_order
returns-clause-used_in_order c = used_in_order

pub returns-clause-sees_only_nearer : goal.returns-clause-sees_only_nearer
returns-clause-sees_only_nearer c = sees_only_nearer

pub returns-clause-looks_through : goal.returns-clause-looks_through
returns-clause-looks_through c = chain_looks_through
