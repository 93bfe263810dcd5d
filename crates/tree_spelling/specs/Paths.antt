-- What a path names: by turns the place of a field among those that the version has, and the number of an
-- entry of that field. A path that is empty, or ends with the number of an entry, names nothing.
use Rattle.std.specs.Prelude.{ℕ, zero, suc, ◌+◌, List, [], ◌∷◌, length, take, slice_get, Option, Some, None}
use Rattle.std.specs.List.{flat_map}
use Rattle.std.specs.Option.{option_map, option_and_then}
use Rattle.tree_spelling.specs.declared.primitive.Primitive.{Primitive}
use Rattle.tree_spelling.specs.declared.item.Item.{Item}
use Rattle.tree_spelling.specs.Shape.{Shape, End, Plain, Array}
use Rattle.tree_spelling.specs.Value.{Value, array_items, items_of}
use Rattle.tree_spelling.specs.Items.{as_item}

-- so many items further
abbrev pub further : ℕ → Option ℕ → Option ℕ
further n place = option_map (λ m. n + m) place

-- the field itself, if the path ends there: it has no entries
abbrev pub leaf_place : List ℕ → Option ℕ
leaf_place [] = Some 0
leaf_place path = None

-- the count itself, if the path ends there, and else what it names in an entry, given what it names in any
abbrev pub array_place : {A : Type 0} → (A → ℕ → List ℕ → Option ℕ) → (A → List Primitive) → Option (List A) → List ℕ → Option ℕ
array_place in_entry items entries [] = Some 0
array_place in_entry items entries (i ∷ []) = None
array_place in_entry items None (i ∷ field ∷ path) = None
array_place in_entry items (Some entries) (i ∷ field ∷ path) =
    option_and_then (λ entry. further (1 + length (flat_map items (take i entries))) (in_entry entry field path)) (slice_get entries i)

-- how many items of the value stand before the one that the path names, from a field on
abbrev pub field_place : (shape : Shape) → Value shape → ℕ → List ℕ → Option ℕ
field_place End value field path = None
field_place (Plain kind rest) value zero path = leaf_place path
field_place (Plain kind rest) value (suc field) path = further 1 (field_place rest value.1 field path)
field_place (Array entry rest) value zero path = array_place (field_place entry) (items_of entry) value.0 path
field_place (Array entry rest) value (suc field) path =
    further (length (array_items (items_of entry) value.0)) (field_place rest value.1 field path)

-- how many items stand before the one that the path names, if it names one
abbrev pub place_at : (shape : Shape) → Value shape → List ℕ → Option ℕ
place_at shape value [] = None
place_at shape value (field ∷ path) = field_place shape value field path

abbrev pub item_no : List Primitive → Option ℕ → Option Item
item_no items place = option_and_then (λ n. option_map as_item (slice_get items n)) place

-- what the path names
abbrev pub item_at : (shape : Shape) → Value shape → List ℕ → Option Item
item_at shape value path = item_no (items_of shape value) (place_at shape value path)
