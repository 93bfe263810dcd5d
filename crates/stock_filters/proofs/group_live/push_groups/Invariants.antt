use Rattle.std.proofs.Common.{◌≡◌, length}
use Rattle.tree_codec.specs.Copying.{followed_by}
use Rattle.stock_filters.specs.GroupLive.{live_items}
use Rattle.stock_filters.proofs.group_live.push_groups.Given as goal

abbrev pub invariant-loop-id : goal.invariant-loop-id
invariant-loop-id l = followed_by l.out (live_items l.described l.rest) ≡ followed_by l.fn.out (live_items l.described l.groups)

abbrev pub decreases-loop-id : goal.decreases-loop-id
decreases-loop-id l = length l.rest
