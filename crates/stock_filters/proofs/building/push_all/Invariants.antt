use Rattle.std.proofs.Common.{◌≡◌, drop}
use Rattle.tree_codec.specs.Copying.{followed_by}
use Rattle.stock_filters.proofs.building.push_all.Given as goal

abbrev pub invariant-loop-item : goal.invariant-loop-item
invariant-loop-item l = followed_by l.out (drop l.item-index l.items) ≡ followed_by l.fn.out l.items
