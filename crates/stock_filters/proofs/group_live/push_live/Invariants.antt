use Rattle.std.proofs.Common.{◌≡◌, length}
use Rattle.tree_codec.specs.Copying.{followed_by}
use Rattle.stock_filters.specs.GroupLive.{live_answer}
use Rattle.stock_filters.proofs.group_live.push_live.Given as goal

abbrev pub invariant-loop-first : goal.invariant-loop-first
invariant-loop-first l = followed_by l.out (live_answer l.described l.rest) ≡ followed_by l.fn.out (live_answer l.described l.items)

abbrev pub decreases-loop-first : goal.decreases-loop-first
decreases-loop-first l = length l.rest
