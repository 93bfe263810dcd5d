use Rattle.std.proofs.Common.{◌≡◌, ◌≤◌, length}
use Rattle.tree_spelling.specs.Shape.{nest}
use Rattle.tree_codec.proofs.level.next_field.Given as goal

abbrev pub invariant-loop-field : goal.invariant-loop-field
invariant-loop-field l = record {
  same : nest l.rest l.depth ≡ nest l.fields l.depth;
  short : length l.rest ≤ length l.fields;
}

abbrev pub decreases-loop-field : goal.decreases-loop-field
decreases-loop-field l = length l.rest
