use Rattle.std.proofs.Common.{◌≡◌, length}
use Rattle.stock_filters.specs.GroupLive.{is_dead}
use Rattle.stock_filters.proofs.group_live.is_dead.Given as goal

abbrev pub invariant-loop-behind : goal.invariant-loop-behind
invariant-loop-behind l = is_dead l.id l.rest ≡ is_dead l.id l.described

abbrev pub decreases-loop-behind : goal.decreases-loop-behind
decreases-loop-behind l = length l.rest
