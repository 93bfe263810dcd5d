use Rattle.std.proofs.Common.{◌≡◌, length}
use Rattle.stock_filters.specs.TopicExists.{is_known}
use Rattle.stock_filters.proofs.topic_exists.is_known.Given as goal

abbrev pub invariant-loop-behind : goal.invariant-loop-behind
invariant-loop-behind l = is_known l.name l.rest ≡ is_known l.name l.items

abbrev pub decreases-loop-behind : goal.decreases-loop-behind
decreases-loop-behind l = length l.rest
