use Rattle.std.proofs.Common.{◌≡◌, ◌++◌, drop}
use Rattle.stock_filters.specs.CreateTopics.{refused_names}
use Rattle.stock_filters.proofs.create_topics.refused_names.Given as goal

abbrev pub invariant-loop-name : goal.invariant-loop-name
invariant-loop-name l = l.refused.items ++ refused_names l.rest (drop l.name-index l.names) ≡ refused_names l.flags l.names
