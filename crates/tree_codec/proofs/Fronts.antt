-- A front of the items is a front of their spelling.
use Rattle.std.proofs.Common.{◌≡◌, ◌∙◌, ℕ, List, ◌++◌, take, drop, sym, ap}
use Rattle.std.proofs.lemmas.List.{take-append-drop}
use Rattle.std.proofs.lemmas.Grind.{flat_map-append}
use Rattle.tree_spelling.specs.declared.primitive.Primitive.{Primitive}
use Rattle.tree_spelling.specs.Primitives.{spelled}
use Rattle.tree_spelling.specs.Spelling.{spelling}
use Rattle.tree_codec.specs.Encoding.{HasFrontWritten}

pub front_written : (before after : List ℕ) (items : List Primitive) (i : ℕ) → after ≡ before ++ spelling (take i items) → HasFrontWritten before after (spelling items)
front_written before after items i written =
    record {
      front = spelling (take i items);
      missing = spelling (drop i items);
      splits = ap spelling (sym (take-append-drop i items)) ∙ flat_map-append spelled (take i items) (drop i items);
      written = written;
    }
