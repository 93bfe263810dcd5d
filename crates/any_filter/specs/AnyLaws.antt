-- Why one type over all filters keeps the laws: each filter does.
use Rattle.tree_spelling.specs.Body.{Contents}
use Rattle.filter_core.specs.declared.input.Input.{Input}
use Rattle.filter_core.specs.Decision.{Decision, Forward}
use Rattle.filter_core.specs.Laws.{IsLawful}
use Rattle.filter_core.specs.TwoTurns.{two_turns, handed_back}
use Rattle.filter_core.specs.Lawful.{KeepsLaws, forwards_once, ends_after_six, forwards_the_same, questions_are_answered, returns_an_answer}
use Rattle.stock_filters.specs.Narrow.{narrowed_back, narrow_keeps}
use Rattle.stock_filters.specs.ProduceAll.{with_all_acks, produce_all_keeps}
use Rattle.stock_filters.specs.TopicDeny.{deny, topic_deny_keeps}
use Rattle.stock_filters.specs.ApiBlock.{block, api_block_keeps}
use Rattle.stock_filters.specs.TopicPolicy.{topic_policy_lawful}
use Rattle.stock_filters.specs.TopicExists.{topic_exists_lawful}
use Rattle.stock_filters.specs.GroupLaws.{group_live_lawful}
use Rattle.address_rewrite.specs.PlanFilter.{addresses_turn_lawful}
use Rattle.any_filter.specs.declared.any_filter.AnyFilter.{AnyFilter}
use Rattle.any_filter.specs.declared.any_filter.AnyFilter.TheVariants.{Narrow, ProduceAll, TopicDeny, ApiBlock, TopicPolicy, TopicExists, GroupLive, Addresses}
use Rattle.any_filter.specs.AnyTurn.{any_turn}

two_turns_lawful : (on_request : Contents → Decision) (on_input : Input → Decision) → KeepsLaws on_request on_input → IsLawful (two_turns on_request on_input)
two_turns_lawful on_request on_input keeps =
    record {
      forwards_once = forwards_once on_request on_input keeps;
      ends_after_six = ends_after_six on_request on_input keeps;
      forwards_the_same = forwards_the_same on_request on_input keeps;
      questions_are_answered = questions_are_answered on_request on_input keeps;
      returns_an_answer = returns_an_answer on_request on_input keeps;
    }

pub any_lawful : (filter : AnyFilter) → IsLawful (any_turn filter)
any_lawful (Narrow filter) = two_turns_lawful Forward narrowed_back narrow_keeps
any_lawful (ProduceAll filter) = two_turns_lawful (λ request. Forward (with_all_acks request)) handed_back produce_all_keeps
any_lawful (TopicDeny filter) = two_turns_lawful (deny filter.topics.items) handed_back (topic_deny_keeps filter.topics.items)
any_lawful (ApiBlock filter) = two_turns_lawful (block filter.keys.items) handed_back (api_block_keeps filter.keys.items)
any_lawful (TopicPolicy filter) = topic_policy_lawful
any_lawful (TopicExists filter) = topic_exists_lawful
any_lawful (GroupLive filter) = group_live_lawful
any_lawful (Addresses filter) = addresses_turn_lawful filter
