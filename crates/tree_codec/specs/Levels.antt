-- The fields still to come, as the codec keeps them: the levels of the arrays that the next field lies in.
use Rattle.std.specs.Prelude.{◌+◌, List, [], ◌∷◌, ◌++◌, Option, Some, None}
use Rattle.kp_schema.specs.declared.kind.Kind.{Kind}
use Rattle.tree_spelling.specs.Shape.{Shape, nest, field_shape}
use Rattle.tree_spelling.specs.Agenda.{copies}
use Rattle.tree_codec.specs.declared.level.Level.{Level}
use Rattle.tree_codec.specs.declared.agenda.Agenda.{Agenda}

-- the rest of an entry, and the entries after it
abbrev pub level_shapes : Level → List Shape
level_shapes level = nest level.fields.now level.depth ∷ copies level.left (nest level.entry.now level.depth)

-- a field of this kind stands before the rest of an entry
abbrev pub field_shapes : Kind → Level → List Shape
field_shapes kind level =
    field_shape kind (nest level.fields.now (level.depth + 1)) (nest level.fields.now level.depth) ∷ copies level.left (nest level.entry.now level.depth)

-- the levels are listed from the outermost on, which comes last
abbrev pub levels_below : List Level → List Shape
levels_below [] = []
levels_below (level ∷ levels) = levels_below levels ++ level_shapes level

abbrev pub todo_from : Option Kind → Level → List Shape → List Shape
todo_from None level below = []
todo_from (Some kind) level below = field_shapes kind level ++ below

abbrev pub todo_of : Agenda → List Shape
todo_of agenda = todo_from agenda.next agenda.top (levels_below agenda.below.items)
