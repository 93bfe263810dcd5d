use Rattle.std.proofs.Common.{◌≡◌, ◌++◌, List, length}
use Rattle.std.specs.List.{flat_map}
use Rattle.tree_spelling.specs.declared.primitive.Primitive.{Primitive}
use Rattle.tree_spelling.specs.Shape.{nest}
use Rattle.tree_spelling.specs.Value.{Value, items_of}
use Rattle.tree_codec.specs.Copying.{AreCopied}
use Rattle.tree_codec.proofs.retain.copy_flagged.Given as goal

abbrev pub invariant-loop-place : goal.invariant-loop-place
invariant-loop-place l =
    (entries : List (Value (nest l.fields l.depth))) (more : List Primitive) → length entries ≡ l.count → l.rest ≡ flat_map (items_of (nest l.fields l.depth)) entries ++ more
    → AreCopied (nest l.fields l.depth) entries l.keep more l.place l.fn.out l.out l.left
