-- A body that is made item by item: its fields in order, and each array's entries after its count.
use Rattle.std.specs.Prelude.{[], ◌∷◌, ◌++◌, if◌then◌else◌, Option, Some, None, Result, Err}
use Rattle.std.specs.Option.{option_and_then}
use Rattle.kp_schema.specs.declared.kind.Kind.{Kind}
use Rattle.tree_spelling.specs.declared.primitive.Primitive.{Primitive}
use Rattle.tree_spelling.specs.declared.item.Item.{Item}
use Rattle.tree_spelling.specs.declared.edit_fault.EditFault.{EditFault}
use Rattle.tree_spelling.specs.declared.edit_fault.EditFault.TheVariants.{NoSuch, WrongKind}
use Rattle.tree_spelling.specs.Agenda.{is_kind, next_kind, passed}
use Rattle.tree_spelling.specs.Items.{item_of_kind, with_length}
use Rattle.tree_spelling.specs.Body.{Contents, body_shape}

-- the kind of the item that comes next, if one does
abbrev pub kind_to_come : Contents → Option Kind
kind_to_come body = option_and_then next_kind (passed (body_shape body ∷ []) body.items)

abbrev pub item_to_come : Option Kind → Item → Result Primitive EditFault
item_to_come None item = Err NoSuch
item_to_come (Some kind) item = item_of_kind kind item

-- the item that is put, or why it can't be
abbrev pub put_next : Contents → Item → Result Primitive EditFault
put_next body item = item_to_come (kind_to_come body) item

-- the same of an item that has its type already, which has to be the type that comes next
abbrev pub typed_to_come : Option Kind → Primitive → Result Primitive EditFault
typed_to_come None item = Err NoSuch
typed_to_come (Some kind) item = if is_kind kind item then with_length item else Err WrongKind

abbrev pub push_next : Contents → Primitive → Result Primitive EditFault
push_next body item = typed_to_come (kind_to_come body) item

-- the body with one item more at its end
abbrev pub with_next : Contents → Primitive → Contents
with_next body item = record body { items = body.items ++ item ∷ [] }
