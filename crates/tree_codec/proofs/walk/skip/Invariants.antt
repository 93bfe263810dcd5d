use Rattle.std.proofs.Common.{◌≡◌, ◌≤◌, ◌-◌, length, drop}
use Rattle.tree_spelling.specs.Shape.{nest}
use Rattle.tree_spelling.specs.Agenda.{copies, items_behind}
use Rattle.tree_codec.specs.Levels.{todo_of}
use Rattle.tree_codec.proofs.walk.skip.Given as goal

abbrev pub invariant-loop-kind : goal.invariant-loop-kind
invariant-loop-kind l = record {
  rest : items_behind (todo_of l.agenda) (drop l.end l.items) ≡ items_behind (copies l.entries (nest l.fields l.depth)) (drop l.at l.items);
  within : l.end ≤ length l.items;
}

abbrev pub decreases-loop-kind : goal.decreases-loop-kind
decreases-loop-kind l = length l.items - l.end
