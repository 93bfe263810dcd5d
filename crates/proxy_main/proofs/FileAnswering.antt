-- What was read of a file, and the answer to all of it.
use Rattle.std.proofs.Common.{◌≡◌, ℕ, ◌+◌, List, take, refl, ◌∙◌, ap}
use Rattle.kp_edge.specs.Files.{Content, Untold, Absent, Holds, IsFrontOf}
use Rattle.config_answers.specs.ConfigAnswers.{config_answer, config_limit}
use Rattle.config_answers.specs.declared.asked.Asked.{Asked}
use Rattle.config_answers.specs.declared.answer.ConfigAnswer.{ConfigAnswer}
use Rattle.config_answers.specs.ClusterAnswers.{cluster_answer}
use Rattle.config_answers.specs.declared.cluster.ClusterAnswer.{ClusterAnswer}
use Rattle.proxy_main.specs.FileAnswers.{IsAnswerTo}
use Rattle.proxy_main.specs.ClusterReplays.{IsFoundIn}

-- one byte past the limit tells as much of a configuration as all of it
abbrev pub OneByteMoreTellsAll : Type 0
OneByteMoreTellsAll = (asked : Asked) (whole : List ℕ) → config_answer asked (take (config_limit + 1) whole) ≡ config_answer asked whole

pub answer_to_whole : (asked : Asked) (content : Content) (bytes read : List ℕ) (found : ConfigAnswer) → OneByteMoreTellsAll → IsFrontOf content (config_limit + 1) bytes → read ≡ bytes → found ≡ config_answer asked read → IsAnswerTo asked content found
answer_to_whole asked Untold bytes read found law front same is = record { whole = read; can_hold = tt; found_is = is }
answer_to_whole asked Absent bytes read found law front same is = absurd front
answer_to_whole asked (Holds whole) bytes read found law front same is = record { whole = whole; can_hold = refl; found_is = is ∙ ap (config_answer asked) (same ∙ front) ∙ law asked whole }

pub found_in_whole : (cluster : List ℕ) (content : Content) (bytes read : List ℕ) (found : ClusterAnswer) → ((name whole : List ℕ) → cluster_answer name (take (config_limit + 1) whole) ≡ cluster_answer name whole)
    → IsFrontOf content (config_limit + 1) bytes → read ≡ bytes → found ≡ cluster_answer cluster read → IsFoundIn content cluster found
found_in_whole cluster Untold bytes read found law front same is = record { whole = read; can_hold = tt; found_is = is }
found_in_whole cluster Absent bytes read found law front same is = absurd front
found_in_whole cluster (Holds whole) bytes read found law front same is = record { whole = whole; can_hold = refl; found_is = is ∙ ap (cluster_answer cluster) (same ∙ front) ∙ law cluster whole }
