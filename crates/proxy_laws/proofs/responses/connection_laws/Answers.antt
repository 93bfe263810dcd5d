use Rattle.proxy_laws.proofs.Connections.{done_with_own_response, sends_whole_messages, all_come_to_an_end}
use Rattle.proxy_laws.proofs.responses.connection_laws.Goals as goal

pub returns-clause-own_response : goal.returns-clause-own_response
returns-clause-own_response c = done_with_own_response

pub returns-clause-whole_messages : goal.returns-clause-whole_messages
returns-clause-whole_messages c = sends_whole_messages

pub returns-clause-comes_to_an_end : goal.returns-clause-comes_to_an_end
returns-clause-comes_to_an_end c = all_come_to_an_end
