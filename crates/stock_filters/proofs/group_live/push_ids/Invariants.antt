use Rattle.std.proofs.Common.{◌≡◌, length, map}
use Rattle.tree_codec.specs.Copying.{followed_by}
use Rattle.stock_filters.specs.GroupLive.{group_ids, id_item}
use Rattle.stock_filters.proofs.group_live.push_ids.Given as goal

abbrev pub invariant-loop-id : goal.invariant-loop-id
invariant-loop-id l = followed_by l.out (map id_item (group_ids l.rest)) ≡ followed_by l.fn.out (map id_item (group_ids l.groups))

abbrev pub decreases-loop-id : goal.decreases-loop-id
decreases-loop-id l = length l.rest
