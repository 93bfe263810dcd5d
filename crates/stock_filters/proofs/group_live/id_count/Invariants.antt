use Rattle.std.proofs.Common.{◌≡◌, ◌+◌, length}
use Rattle.stock_filters.specs.GroupLive.{group_ids}
use Rattle.stock_filters.proofs.group_live.id_count.Given as goal

abbrev pub invariant-loop-id : goal.invariant-loop-id
invariant-loop-id l = l.count + length (group_ids l.rest) ≡ length (group_ids l.groups)

abbrev pub decreases-loop-id : goal.decreases-loop-id
decreases-loop-id l = length l.rest
