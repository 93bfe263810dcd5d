use Rattle.std.proofs.Common.{◌+◌, List, ◌∷◌, ◌++◌, ap, ◌∙◌}
use Rattle.tree_spelling.specs.Shape.{Shape, End, nest}
use Rattle.tree_spelling.specs.Agenda.{copies}
use Rattle.tree_codec.specs.Levels.{levels_below}
use Rattle.tree_codec.proofs.Stacks.{levels_below-push}
use Rattle.tree_codec.proofs.agenda.Agenda.enter.Goals as goal

pub returns-clause-ok : goal.returns-clause-ok
returns-clause-ok c =
    let old = c.args.self.now in
    let n = c.args.entries in
    let deeper = c.in-Some.ensures.1 in
    let pushed = c.in_ok-push.ensures.items in
    ap (λ d. End ∷ (copies n (nest old.top.fields.now d) ++ levels_below c.push.new.self.items)) deeper ∙ ap (λ (z : List Shape). End ∷ (copies n (nest old.top.fields.now (old.top.depth + 1)) ++ z)) (ap levels_below pushed ∙ levels_below-push old.below.items old.top)
