use Rattle.proxy_laws.proofs.Sent.{own_responses, message_sends}
use Rattle.proxy_laws.proofs.responses.history_laws.Goals as goal

pub returns-clause-own_responses : goal.returns-clause-own_responses
returns-clause-own_responses c = λ chain limit hs s lawful. own_responses chain limit lawful hs s

pub returns-clause-message_sends : goal.returns-clause-message_sends
returns-clause-message_sends c = λ chain limit hs s lawful. message_sends chain limit lawful hs s
