use Rattle.std.proofs.Common.{◌≡◌, drop, map}
use Rattle.tree_spelling.specs.declared.primitive.Primitive.TheVariants.{Text}
use Rattle.tree_codec.specs.Copying.{followed_by}
use Rattle.stock_filters.proofs.create_topics.push_names.Given as goal

abbrev pub invariant-loop-name : goal.invariant-loop-name
invariant-loop-name l = followed_by l.out (map Text (drop l.name-index l.names)) ≡ followed_by l.fn.out (map Text l.names)
