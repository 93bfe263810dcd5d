use Rattle.std.proofs.Common.{◌≡◌, ◌+◌, length}
use Rattle.stock_filters.specs.GroupLive.{live_count}
use Rattle.stock_filters.proofs.group_live.live_count.Given as goal

abbrev pub invariant-loop-id : goal.invariant-loop-id
invariant-loop-id l = l.count + live_count l.described l.rest ≡ live_count l.described l.groups

abbrev pub decreases-loop-id : goal.decreases-loop-id
decreases-loop-id l = length l.rest
