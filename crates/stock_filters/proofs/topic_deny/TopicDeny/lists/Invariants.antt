use Rattle.std.proofs.Common.{◌≡◌, drop}
use Rattle.stock_filters.specs.TopicDeny.{is_denied_topic}
use Rattle.stock_filters.proofs.topic_deny.TopicDeny.lists.Given as goal

abbrev pub invariant-loop-listed : goal.invariant-loop-listed
invariant-loop-listed l = is_denied_topic (drop l.listed-index l.self.topics.items) l.name ≡ is_denied_topic l.self.topics.items l.name
