use Rattle.std.proofs.Common.{◌≡◌, drop}
use Rattle.std.specs.List.{list_any}
use Rattle.stock_filters.specs.TopicDeny.{names_listed}
use Rattle.stock_filters.proofs.topic_deny.TopicDeny.name_one.Given as goal

abbrev pub invariant-loop-item : goal.invariant-loop-item
invariant-loop-item l = list_any (names_listed l.self.topics.items) (drop l.item-index l.items) ≡ list_any (names_listed l.self.topics.items) l.items
