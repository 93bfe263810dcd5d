-- What a configuration has under the name of a cluster: see docs/CONFIG.md.
use Rattle.std.specs.Prelude.{◌≡◌, ℕ, nat_lt, List, length, codes, if◌then◌else◌, Option, Some, None, is_some, Ok, Err}
use Rattle.virtual_cluster.specs.declared.plan.ClusterPlan.{ClusterPlan}
use Rattle.virtual_cluster.specs.Limits.{IsValid}
use Rattle.virtual_cluster.specs.Pairs.{plan_named}
use Rattle.proxy_config.specs.Values.{Given}
use Rattle.proxy_config.specs.Meant.{meant_by}
use Rattle.proxy_config.specs.Refusals.{config_fault_text}
use Rattle.config_answers.specs.ConfigAnswers.{config_limit, refused_text}
use Rattle.config_answers.specs.declared.cluster.ClusterAnswer.{ClusterAnswer}
use Rattle.config_answers.specs.declared.cluster.ClusterAnswer.TheVariants.{Found, Refused}

abbrev pub no_cluster : ClusterAnswer
no_cluster = Refused (refused_text (codes "no-cluster"))

-- a cluster whose names have a prefix isn't served yet
abbrev pub served_cluster : Option ClusterPlan → ClusterAnswer
served_cluster None = no_cluster
served_cluster (Some plan) = if is_some plan.prefix then no_cluster else Found plan

abbrev pub cluster_meant : List ℕ → Given (List ClusterPlan) → ClusterAnswer
cluster_meant name (Ok plans) = served_cluster (plan_named name plans)
cluster_meant name (Err fault) = Refused (refused_text (config_fault_text fault))

-- the cluster of that name in a file with these bytes, or why there is none
unfoldable pub cluster_answer : List ℕ → List ℕ → ClusterAnswer
cluster_answer name whole =
    if nat_lt config_limit (length whole) then Refused (refused_text (codes "too-long")) else cluster_meant name (meant_by whole)

-- a plan that is found holds, and has no prefix
abbrev pub IsServed : ClusterAnswer → Type 0
IsServed (Found plan) = IsValid plan × (plan.prefix ≡ None)
IsServed (Refused text) = Unit {0}
