use Rattle.std.proofs.Common.{◌≡◌, true, ◌+◌, ◌++◌, ◌∷◌, [], length, sym, ◌∙◌, ap, Some, List}
use Rattle.tree_spelling.specs.Primitives.{spelled}
use Rattle.tree_spelling.specs.Shape.{Shape}
use Rattle.tree_spelling.specs.Body.{Contents}
use Rattle.tree_spelling.specs.Agenda.{settled, after, is_next, is_of}
use Rattle.tree_spelling.specs.Building.{kind_to_come}
use Rattle.tree_codec.specs.Levels.{todo_of}
use Rattle.tree_codec.proofs.Progress.{one_put, to_come}
use Rattle.tree_codec.proofs.builder.Builder.append.Goals as goal

pub invariant_of-self-2 : goal.invariant_of-self-2
invariant_of-self-2 c =
    let m = c.self.inside.message in
    let next : is_next (todo_of c.self.inside.agenda) c.args.next ≡ true = ap (λ o. is_of o c.args.next) (sym (to_come m.key m.version m.dir c.self.inside.items.items (todo_of c.self.inside.agenda) c.self.invariant.2)) ∙ ap (λ (b : Contents). is_of (kind_to_come b) c.args.next) c.self.view_is ∙ c.requires.next in
    let grown : c.in-Some.size ≡ c.self.inside.size + length (spelled c.args.next) = c.in-Some.ensures.1 ∙ ap (λ n. c.self.inside.size + n) c.spelled_len.ensures in
    let pushed : c.push.new.self.items ≡ c.self.inside.items.items ++ (c.args.next ∷ []) = c.in_ok-push.ensures.items ∙ ap (λ xs. xs ++ (c.args.next ∷ [])) c.in_ok-reserve.ensures.items in
    let passes : (u : List Shape) → after (todo_of c.self.inside.agenda) c.args.next ≡ Some u → todo_of c.pass.new.self ≡ settled u = λ u h. c.in_ok-pass.ensures.ok c.args.next u c.entries_of.ensures h in
    one_put m.key m.version m.dir c.self.inside.items.items c.push.new.self.items (todo_of c.self.inside.agenda) (todo_of c.pass.new.self) c.args.next c.self.inside.size c.in-Some.size c.self.invariant next c.requires.fits grown pushed passes
