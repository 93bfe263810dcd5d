use Rattle.tree_spelling.proofs.Worked.{computed}
use Rattle.tree_spelling.proofs.laws.worked_bodies.Goals as goal

pub returns : goal.returns
returns c = computed
