use Rattle.std.proofs.Common.{◌≡◌, ◌++◌, sym, ap, ◌∙◌}
use Rattle.tree_spelling.specs.Agenda.{settled}
use Rattle.tree_codec.specs.Levels.{level_shapes, levels_below}
use Rattle.tree_codec.proofs.Stacks.{levels_below-push}
use Rattle.tree_codec.proofs.agenda.Agenda.go_on.Goals as goal

pub loop-kind-preserved : goal.loop-kind-preserved
loop-kind-preserved c =
    let below = c.loop-kind.self.below.items in
    let level = c.in-Some-pop.level in
    let done : settled (level_shapes c.loop-kind.self.top ++ levels_below below) ≡ settled (levels_below below) = c.in_default.ensures (levels_below below) in
    let split : levels_below below ≡ level_shapes level ++ levels_below c.pop.new.self.items = ap levels_below c.in-Some-pop.ensures.items ∙ levels_below-push c.pop.new.self.items level in
    sym (ap settled split) ∙ sym done ∙ c.loop-kind.invariant
