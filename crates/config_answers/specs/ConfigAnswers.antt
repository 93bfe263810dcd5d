-- What is written of a configuration: see docs/CONFIG.md.
use Rattle.std.specs.Prelude.{◌≡◌, ℕ, nat_lt, List, ◌++◌, length, codes, decimal, if◌then◌else◌, Ok, Err}
use Rattle.virtual_cluster.specs.declared.plan.ClusterPlan.{ClusterPlan}
use Rattle.proxy_config.specs.Values.{Given}
use Rattle.proxy_config.specs.Meant.{meant_by}
use Rattle.proxy_config.specs.Refusals.{config_fault_text}
use Rattle.config_answers.specs.PlanTexts.{plans_text}
use Rattle.config_answers.specs.declared.asked.Asked.{Asked}
use Rattle.config_answers.specs.declared.asked.Asked.TheVariants.{Check, Plan}
use Rattle.config_answers.specs.declared.answer.ConfigAnswer.{ConfigAnswer}
use Rattle.config_answers.specs.declared.answer.ConfigAnswer.TheVariants.{Holds, Refused}

-- the most bytes of a configuration
abbrev pub config_limit : ℕ
config_limit = 1048576

-- what is written of plans: their number, or which port leads where
abbrev pub asked_text : Asked → List ClusterPlan → List ℕ
asked_text Check plans = codes "ok " ++ decimal (length plans) ++ codes "\n"
asked_text Plan plans = plans_text plans

-- what is written of a refusal
abbrev pub refused_text : List ℕ → List ℕ
refused_text why = codes "refused " ++ why ++ codes "\n"

-- what is written of what a text means
abbrev pub answer_of_meant : Asked → Given (List ClusterPlan) → ConfigAnswer
answer_of_meant asked (Ok plans) = Holds (asked_text asked plans)
answer_of_meant asked (Err fault) = Refused (refused_text (config_fault_text fault))

-- what is written of a file with these bytes
unfoldable pub config_answer : Asked → List ℕ → ConfigAnswer
config_answer asked whole =
    if nat_lt config_limit (length whole) then Refused (refused_text (codes "too-long")) else answer_of_meant asked (meant_by whole)
