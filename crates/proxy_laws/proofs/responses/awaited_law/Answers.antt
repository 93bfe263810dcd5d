use Rattle.proxy_laws.proofs.Histories.{all_fair, all_own, all_apart}
use Rattle.proxy_laws.proofs.responses.awaited_law.Goals as goal

pub returns-clause-requests : goal.returns-clause-requests
returns-clause-requests c = all_fair

pub returns-clause-sends : goal.returns-clause-sends
returns-clause-sends c = all_own

pub returns-clause-asked_once : goal.returns-clause-asked_once
returns-clause-asked_once c = all_apart
