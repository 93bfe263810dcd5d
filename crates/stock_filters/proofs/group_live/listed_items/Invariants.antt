use Rattle.std.proofs.Common.{◌≡◌, length}
use Rattle.stock_filters.specs.GroupLive.{listed_items}
use Rattle.stock_filters.proofs.group_live.listed_items.Given as goal

abbrev pub invariant-loop-first : goal.invariant-loop-first
invariant-loop-first l = listed_items l.rest ≡ listed_items l.items

abbrev pub decreases-loop-first : goal.decreases-loop-first
decreases-loop-first l = length l.rest
