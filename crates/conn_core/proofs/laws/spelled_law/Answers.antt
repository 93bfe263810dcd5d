use Rattle.conn_core.proofs.Spelled.{passes_as_it_came, answers_pass}
use Rattle.conn_core.proofs.laws.spelled_law.Goals as goal

pub returns-clause-requests : goal.returns-clause-requests
returns-clause-requests c = passes_as_it_came

pub returns-clause-answers : goal.returns-clause-answers
returns-clause-answers c = answers_pass
