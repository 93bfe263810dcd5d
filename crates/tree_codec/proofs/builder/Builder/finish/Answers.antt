use Rattle.std.proofs.Common.{◌≡◌, sym, ◌∙◌, None}
use Rattle.tree_spelling.specs.Agenda.{next_kind}
use Rattle.tree_codec.specs.Levels.{todo_of}
use Rattle.tree_codec.proofs.Progress.{all_put, not_some}
use Rattle.tree_codec.proofs.builder.Builder.finish.Goals as goal

pub invariant_of-result : goal.invariant_of-result
invariant_of-result c =
    let m = c.self.inside.message in
    let none : next_kind (todo_of c.self.inside.agenda) ≡ None = sym c.kind.ensures ∙ not_some c.kind.result (sym c.is_some.ensures ∙ c.if-is_some.false) in
    all_put m.key m.version m.dir c.self.inside.items.items (todo_of c.self.inside.agenda) c.self.inside.size c.self.invariant none
