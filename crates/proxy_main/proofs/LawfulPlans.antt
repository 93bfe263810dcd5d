-- The filters of a valid plan keep their laws.
use Rattle.std.proofs.Common.{List, [], ◌∷◌, ◌++◌, map}
use Rattle.std.specs.List.{All}
use Rattle.std.proofs.lemmas.List.Elements.{All-nil, All-cons}
use Rattle.tree_spelling.specs.Body.{Contents}
use Rattle.virtual_cluster.specs.declared.plan.ClusterPlan.{ClusterPlan}
use Rattle.virtual_cluster.specs.declared.filter_plan.FilterPlan.{FilterPlan}
use Rattle.virtual_cluster.specs.declared.filter_plan.FilterPlan.TheVariants.{ProduceAll, TopicDeny, ApiBlock, TopicPolicy, TopicExists, GroupLive}
use Rattle.filter_core.specs.declared.input.Input.{Input}
use Rattle.filter_core.specs.Decision.{Decision, Forward, Turn}
use Rattle.filter_core.specs.Laws.{IsLawful}
use Rattle.filter_core.specs.TwoTurns.{two_turns, handed_back}
use Rattle.filter_core.specs.Lawful.{KeepsLaws, forwards_once, ends_after_six, forwards_the_same, questions_are_answered, returns_an_answer}
use Rattle.stock_filters.specs.Narrow.{narrow, narrowed_back, narrow_keeps}
use Rattle.stock_filters.specs.ProduceAll.{with_all_acks, produce_all_keeps}
use Rattle.stock_filters.specs.TopicDeny.{deny, topic_deny_keeps}
use Rattle.stock_filters.specs.ApiBlock.{block, api_block_keeps}
use Rattle.stock_filters.specs.TopicPolicy.{topic_policy_lawful}
use Rattle.stock_filters.specs.TopicExists.{topic_exists_lawful}
use Rattle.stock_filters.specs.GroupLaws.{group_live_lawful}
use Rattle.address_rewrite.specs.Addresses.{addresses}
use Rattle.any_filter.specs.Chains.{filter_turn, cluster_chain}

both_turns_lawful : (on_request : Contents → Decision) (on_input : Input → Decision) → KeepsLaws on_request on_input → IsLawful (two_turns on_request on_input)
both_turns_lawful on_request on_input keeps =
    record {
      forwards_once = forwards_once on_request on_input keeps;
      ends_after_six = ends_after_six on_request on_input keeps;
      forwards_the_same = forwards_the_same on_request on_input keeps;
      questions_are_answered = questions_are_answered on_request on_input keeps;
      returns_an_answer = returns_an_answer on_request on_input keeps;
    }

filter_lawful : (filter : FilterPlan) → IsLawful (filter_turn filter)
filter_lawful ProduceAll = both_turns_lawful (λ request. Forward (with_all_acks request)) handed_back produce_all_keeps
filter_lawful (TopicDeny topics) = both_turns_lawful (deny topics) handed_back (topic_deny_keeps topics)
filter_lawful (ApiBlock keys) = both_turns_lawful (block keys) handed_back (api_block_keeps keys)
filter_lawful TopicPolicy = topic_policy_lawful
filter_lawful TopicExists = topic_exists_lawful
filter_lawful GroupLive = group_live_lawful

filters_lawful : (filters : List FilterPlan) (behind : List Turn) → All IsLawful behind → All IsLawful (map filter_turn filters ++ behind)
filters_lawful [] behind lawful = lawful
filters_lawful (f ∷ fs) behind lawful = All-cons IsLawful (filter_turn f) (map filter_turn fs ++ behind) (filter_lawful f) (filters_lawful fs behind lawful)

pub chain_lawful : (plan : ClusterPlan) → IsLawful (addresses plan) → All IsLawful (cluster_chain plan)
chain_lawful plan last =
    All-cons IsLawful narrow (map filter_turn plan.filters ++ addresses plan ∷ []) (both_turns_lawful Forward narrowed_back narrow_keeps)
    (filters_lawful plan.filters (addresses plan ∷ []) (All-cons IsLawful (addresses plan) [] last (All-nil IsLawful)))
