use Rattle.std.proofs.Common.{◌≡◌, ◌++◌, length}
use Rattle.tree_spelling.specs.Agenda.{settled}
use Rattle.tree_codec.specs.Levels.{level_shapes, levels_below}
use Rattle.tree_codec.proofs.agenda.Agenda.go_on.Given as goal

abbrev pub invariant-loop-kind : goal.invariant-loop-kind
invariant-loop-kind l =
    settled (level_shapes l.self.top ++ levels_below l.self.below.items) ≡ settled (level_shapes l.fn.self.top ++ levels_below l.fn.self.below.items)

abbrev pub decreases-loop-kind : goal.decreases-loop-kind
decreases-loop-kind l = length l.self.below.items
