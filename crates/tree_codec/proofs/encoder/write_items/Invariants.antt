use Rattle.std.proofs.Common.{◌≡◌, ◌++◌, take, drop}
use Rattle.tree_spelling.specs.Spelling.{spelling, AreInRange}
use Rattle.tree_codec.proofs.encoder.write_items.Given as goal

abbrev pub invariant-loop-item : goal.invariant-loop-item
invariant-loop-item l = record {
  spelled : l.out ++ spelling (drop l.item-index l.items) ≡ l.fn.out ++ spelling l.items;
  written : l.out ≡ l.fn.out ++ spelling (take l.item-index l.items);
  in_range : AreInRange (drop l.item-index l.items);
}
