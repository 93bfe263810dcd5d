use Rattle.config_answers.proofs.Fronts.{same_answer, same_cluster}
use Rattle.config_answers.proofs.laws.front_law.Goals as goal

pub returns-clause-answer : goal.returns-clause-answer
returns-clause-answer c = same_answer

pub returns-clause-cluster : goal.returns-clause-cluster
returns-clause-cluster c = same_cluster
