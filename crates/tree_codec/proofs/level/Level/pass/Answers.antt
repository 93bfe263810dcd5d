use Rattle.std.proofs.Common.{◌∙◌}
use Rattle.tree_codec.proofs.Stacks.{next_entry}
use Rattle.tree_codec.proofs.level.Level.pass.Goals as goal

pub loop-field-preserved : goal.loop-field-preserved
loop-field-preserved c = λ todo.
    next_entry _ _ _ todo c.in_default.ensures.next c.if-self-eq0.false ∙ c.loop-field.invariant todo
