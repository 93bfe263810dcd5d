use Rattle.std.proofs.Common.{◌≡◌, true, Some, ap, ◌∙◌, drop, List, sym, arith}
use Rattle.tree_spelling.specs.Shape.{Shape, nest}
use Rattle.tree_spelling.specs.Agenda.{copies, items_behind, is_kind, after, settled}
use Rattle.tree_codec.specs.Levels.{todo_of}
use Rattle.tree_spelling.proofs.Walking.{behind-settled, behind_end}
use Rattle.tree_codec.proofs.Steps.{walked_one}
use Rattle.tree_codec.proofs.walk.skip.Goals as goal

pub loop-kind-init : goal.loop-kind-init
loop-kind-init c =
    let items = drop c.args.at c.args.items.now in
    record {
      rest = ap (λ (t : List Shape). items_behind t items) c.new-agenda.ensures ∙ behind-settled (copies c.args.entries (nest c.args.fields.now c.args.depth)) items;
      within = c.requires;
    }

pub loop-kind-preserved : goal.loop-kind-preserved
loop-kind-preserved c =
    let i = c.loop-kind.invariant in
    let there = c.in-Some-get.ensures.lookup in
    let is : is_kind c.in-Some.kind c.in-Some-get.item.now ≡ true = sym c.is_kind.ensures ∙ c.if-not-is_kind.false in
    let passes : (u : List Shape) → after (todo_of c.loop-kind.agenda) c.in-Some-get.item.now ≡ Some u → todo_of c.pass.new.self ≡ settled u = λ u h. c.in_ok-pass.ensures.ok c.in-Some-get.item.now u c.entries_of.ensures h in
    record {
      rest = walked_one (todo_of c.loop-kind.agenda) (todo_of c.pass.new.self) c.in-Some.kind c.args.items.now c.loop-kind.end c.in-Some-get.item.now c.in-Some.ensures is there.3.0 there.1 passes ∙ i.rest;
      within = omega (arith, there.3.0);
    }

pub returns-clause-rest : goal.returns-clause-rest
returns-clause-rest c =
    let i = c.loop-kind.invariant in
    sym (behind_end _ _ (sym c.in_default.ensures)) ∙ i.rest
