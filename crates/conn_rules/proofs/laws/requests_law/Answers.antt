use Rattle.conn_rules.proofs.Requests.{requests}
use Rattle.conn_rules.proofs.laws.requests_law.Goals as goal

pub returns : goal.returns
returns c = requests
