use Rattle.std.proofs.Common.{◌≡◌, drop}
use Rattle.api_versions.specs.Narrowing.{with_items}
use Rattle.api_versions.proofs.narrowing.push_all.Given as goal

abbrev pub invariant-loop-item : goal.invariant-loop-item
invariant-loop-item l = with_items l.out (drop l.item-index l.items) ≡ with_items l.fn.out l.items
