use Rattle.std.proofs.Common.{◌≡◌, ◌++◌, drop, map}
use Rattle.stock_filters.specs.TopicExists.{is_new}
use Rattle.stock_filters.proofs.topic_exists.new_flags.Given as goal

abbrev pub invariant-loop-name : goal.invariant-loop-name
invariant-loop-name l = l.flags.items ++ map (is_new l.items) (drop l.name-index l.names) ≡ map (is_new l.items) l.names
