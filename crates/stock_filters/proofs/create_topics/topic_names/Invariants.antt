use Rattle.std.proofs.Common.{◌≡◌, ◌++◌, drop}
use Rattle.stock_filters.specs.CreateTopics.{names_behind, topic_names}
use Rattle.stock_filters.proofs.create_topics.topic_names.Given as goal

abbrev pub invariant-loop-item : goal.invariant-loop-item
invariant-loop-item l = l.names.items ++ names_behind l.last (drop l.item-index l.item-items) ≡ topic_names l.request
