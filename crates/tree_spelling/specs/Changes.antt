-- A body with one field changed.
use Rattle.std.specs.Prelude.{ℕ, List, slice_get, slice_set, Option, Some, None, Result, Ok, Err}
use Rattle.kp_schema.specs.declared.kind.Kind.{Kind}
use Rattle.kp_schema.specs.declared.kind.Kind.TheVariants as kinds
use Rattle.tree_spelling.specs.declared.primitive.Primitive.{Primitive}
use Rattle.tree_spelling.specs.declared.item.Item.{Item}
use Rattle.tree_spelling.specs.declared.edit_fault.EditFault.{EditFault}
use Rattle.tree_spelling.specs.declared.edit_fault.EditFault.TheVariants.{NoSuch, WrongKind}
use Rattle.tree_spelling.specs.Primitives.{kind_of}
use Rattle.tree_spelling.specs.Items.{item_of_kind}

-- what may stand in the place of a field of this kind: an array is changed by its entries, not by its count
abbrev pub in_place_of : Kind → Item → Result Primitive EditFault
in_place_of kinds.Array item = Err WrongKind
in_place_of kind item = item_of_kind kind item

abbrev pub put_at : List Primitive → ℕ → Result Primitive EditFault → Result (List Primitive) EditFault
put_at items place (Ok item) = Ok (slice_set items place item)
put_at items place (Err fault) = Err fault

abbrev pub set_old : List Primitive → ℕ → Option Primitive → Item → Result (List Primitive) EditFault
set_old items place None item = Err NoSuch
set_old items place (Some old) item = put_at items place (in_place_of (kind_of old) item)

-- the items with that one changed, or why it can't be changed so
abbrev pub set_items : List Primitive → Option ℕ → Item → Result (List Primitive) EditFault
set_items items None item = Err NoSuch
set_items items (Some place) item = set_old items place (slice_get items place) item
