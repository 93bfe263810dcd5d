-- A body as a tree: numbers, texts, lists of bytes, nulls and lists of entries, field by field.
use Rattle.std.specs.Prelude.{ℕ, ℤ, List, [], ◌∷◌, ◌++◌, length, Option, Some, None}
use Rattle.std.specs.List.{flat_map}
use Rattle.kp_schema.specs.declared.kind.Kind.{Kind}
use Rattle.kp_schema.specs.declared.kind.Kind.TheVariants as kinds
use Rattle.tree_spelling.specs.declared.primitive.Primitive.{Primitive}
use Rattle.tree_spelling.specs.declared.primitive.Primitive.TheVariants.{Int8, Int16, Int32, Int64, Boolean, Text, Binary, Count}
use Rattle.tree_spelling.specs.Shape.{Shape, End, Plain, Array}

-- what a field of this kind has as its value: a number, a byte, or bytes that may be null. Of an array
-- whose entries have no fields there is only the count.
abbrev pub Leaf : Kind → Type 0
Leaf kinds.I8 = ℤ
Leaf kinds.I16 = ℤ
Leaf kinds.I32 = ℤ
Leaf kinds.I64 = ℤ
Leaf kinds.Bool = ℕ
Leaf kinds.Str = Option (List ℕ)
Leaf kinds.Bytes = Option (List ℕ)
Leaf kinds.Array = Option ℕ

-- a value of each field, in order; an array is null or a list of entries
abbrev pub Value : Shape → Type 0
Value End = Unit {0}
Value (Plain kind rest) = Leaf kind × Value rest
Value (Array entry rest) = Option (List (Value entry)) × Value rest

-- a field's value as an item
abbrev pub leaf_item : (kind : Kind) → Leaf kind → Primitive
leaf_item kinds.I8 number = Int8 number
leaf_item kinds.I16 number = Int16 number
leaf_item kinds.I32 number = Int32 number
leaf_item kinds.I64 number = Int64 number
leaf_item kinds.Bool byte = Boolean byte
leaf_item kinds.Str bytes = Text bytes
leaf_item kinds.Bytes bytes = Binary bytes
leaf_item kinds.Array entries = Count entries

-- an array's items: its count, and then its entries' items
abbrev pub array_items : {A : Type 0} → (A → List Primitive) → Option (List A) → List Primitive
array_items f None = Count None ∷ []
array_items f (Some entries) = Count (Some (length entries)) ∷ flat_map f entries

-- the items of a value in reading order
abbrev pub items_of : (shape : Shape) → Value shape → List Primitive
items_of End value = []
items_of (Plain kind rest) value = leaf_item kind value.0 ∷ items_of rest value.1
items_of (Array entry rest) value = array_items (items_of entry) value.0 ++ items_of rest value.1
