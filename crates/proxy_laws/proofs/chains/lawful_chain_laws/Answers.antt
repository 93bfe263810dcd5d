use Rattle.proxy_laws.proofs.Requests.{own_response, whole_messages, one_main_send, comes_to_an_end, shut_by_own_filter, few_turns}
use Rattle.proxy_laws.proofs.chains.lawful_chain_laws.Goals as goal

pub returns-clause-own_response : goal.returns-clause-own_response
returns-clause-own_response c = own_response

pub returns-clause-whole_messages : goal.returns-clause-whole_messages
returns-clause-whole_messages c = whole_messages

pub returns-clause-comes_to_an_end : goal.returns-clause-comes_to_an_end
returns-clause-comes_to_an_end c = comes_to_an_end

pub returns-clause-shut_by_own_filter : goal.returns-clause-shut_by_own_filter
returns-clause-shut_by_own_filter c = shut_by_own_filter

pub returns-clause-few_turns : goal.returns-clause-few_turns
returns-clause-few_turns c = few_turns

pub returns-clause-one_main_send : goal.returns-clause-one_main_send
returns-clause-one_main_send c = one_main_send
