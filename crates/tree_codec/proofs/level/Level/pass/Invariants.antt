use Rattle.std.proofs.Common.{◌≡◌, List, ◌++◌}
use Rattle.tree_spelling.specs.Shape.{Shape}
use Rattle.tree_spelling.specs.Agenda.{settled}
use Rattle.tree_codec.specs.Levels.{level_shapes}
use Rattle.tree_codec.proofs.level.Level.pass.Given as goal

abbrev pub invariant-loop-field : goal.invariant-loop-field
invariant-loop-field l =
    (todo : List Shape) → settled (level_shapes l.self ++ todo) ≡ settled (level_shapes l.fn.self ++ todo)

abbrev pub decreases-loop-field : goal.decreases-loop-field
decreases-loop-field l = l.self.left
