-- The chain of filters that a plan asks for.
use Rattle.std.specs.Prelude.{List, [], ◌∷◌, ◌++◌, map}
use Rattle.virtual_cluster.specs.declared.filter_plan.FilterPlan.{FilterPlan}
use Rattle.virtual_cluster.specs.declared.filter_plan.FilterPlan.TheVariants.{ProduceAll, TopicDeny, ApiBlock, TopicPolicy, TopicExists, GroupLive}
use Rattle.virtual_cluster.specs.declared.plan.ClusterPlan.{ClusterPlan}
use Rattle.filter_core.specs.Decision.{Turn}
use Rattle.stock_filters.specs.Narrow.{narrow}
use Rattle.stock_filters.specs.ProduceAll.{produce_all}
use Rattle.stock_filters.specs.TopicDeny.{topic_deny}
use Rattle.stock_filters.specs.ApiBlock.{api_block}
use Rattle.stock_filters.specs.TopicPolicy.{topic_policy}
use Rattle.stock_filters.specs.TopicExists.{topic_exists}
use Rattle.stock_filters.specs.GroupLive.{group_live}
use Rattle.address_rewrite.specs.Addresses.{addresses}

-- the filter that a word of a configuration asks for
abbrev pub filter_turn : FilterPlan → Turn
filter_turn ProduceAll = produce_all
filter_turn (TopicDeny topics) = topic_deny topics
filter_turn (ApiBlock keys) = api_block keys
filter_turn TopicPolicy = topic_policy
filter_turn TopicExists = topic_exists
filter_turn GroupLive = group_live

-- from the client to the broker: `narrow`, the plan's filters in their order, `addresses`
abbrev pub cluster_chain : ClusterPlan → List Turn
cluster_chain plan = narrow ∷ (map filter_turn plan.filters ++ addresses plan ∷ [])
