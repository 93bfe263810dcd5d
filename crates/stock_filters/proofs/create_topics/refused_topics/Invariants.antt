use Rattle.std.proofs.Common.{◌≡◌, ◌++◌, drop}
use Rattle.std.specs.List.{flat_map}
use Rattle.stock_filters.specs.CreateTopics.{refused_topic}
use Rattle.stock_filters.proofs.create_topics.refused_topics.Given as goal

abbrev pub invariant-loop-name : goal.invariant-loop-name
invariant-loop-name l = l.topics.items ++ flat_map (refused_topic l.message l.error) (drop l.name-index l.names) ≡ flat_map (refused_topic l.message l.error) l.names
