use Rattle.std.proofs.Common.{◌≡◌, length}
use Rattle.tree_codec.specs.Copying.{followed_by}
use Rattle.stock_filters.specs.CreateTopics.{extended}
use Rattle.stock_filters.proofs.create_topics.push_extended.Given as goal

abbrev pub invariant-loop-first : goal.invariant-loop-first
invariant-loop-first l = followed_by l.out (extended l.count l.more l.rest) ≡ followed_by l.fn.out (extended l.count l.more l.items)

abbrev pub decreases-loop-first : goal.decreases-loop-first
decreases-loop-first l = length l.rest
