use Rattle.std.proofs.Common.{◌≡◌, ◌++◌, drop}
use Rattle.stock_filters.specs.TopicExists.{asked_names}
use Rattle.stock_filters.proofs.topic_exists.asked_names.Given as goal

abbrev pub invariant-loop-name : goal.invariant-loop-name
invariant-loop-name l = l.asked.items ++ asked_names (drop l.name-index l.names) ≡ asked_names l.names
