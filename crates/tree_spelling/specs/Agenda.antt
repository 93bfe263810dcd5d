-- What the codec's proofs go by: which fields are still to come, while a value's items pass one by one.
use Rattle.std.specs.Prelude.{◌≡◌, ℕ, zero, suc, ◌+◌, ◌<◌, Bool, true, false, if◌then◌else◌, List, [], ◌∷◌, ◌++◌, Option, Some, None, IsTrue}
use Rattle.std.specs.Option.{option_and_then}
use Rattle.kp_schema.specs.declared.kind.Kind.{Kind}
use Rattle.kp_schema.specs.declared.kind.Kind.TheVariants as kinds
use Rattle.tree_spelling.specs.declared.primitive.Primitive.{Primitive}
use Rattle.tree_spelling.specs.declared.primitive.Primitive.TheVariants.{Int8, Int16, Int32, Int64, Boolean, Text, Binary, Count}
use Rattle.tree_spelling.specs.Primitives.{spelled, IsInRange, total_entries}
use Rattle.tree_spelling.specs.Shape.{Shape, End, Plain, Array}
use Rattle.tree_spelling.specs.Spelling.{spelling, AreReadable, max_entries}

-- so many entries of one shape
abbrev pub copies : ℕ → Shape → List Shape
copies zero shape = []
copies (suc n) shape = shape ∷ copies n shape

-- from the next field on
abbrev pub settled : List Shape → List Shape
settled [] = []
settled (End ∷ todo) = settled todo
settled (Plain kind rest ∷ todo) = Plain kind rest ∷ todo
settled (Array entry rest ∷ todo) = Array entry rest ∷ todo

-- whether an item is a value of this kind
abbrev pub is_kind : Kind → Primitive → Bool
is_kind kinds.I8 (Int8 number) = true
is_kind kinds.I16 (Int16 number) = true
is_kind kinds.I32 (Int32 number) = true
is_kind kinds.I64 (Int64 number) = true
is_kind kinds.Bool (Boolean byte) = true
is_kind kinds.Str (Text bytes) = true
is_kind kinds.Bytes (Binary bytes) = true
is_kind kinds.Array (Count entries) = true
is_kind _ _ = false

abbrev pub after_array : Shape → Shape → List Shape → Primitive → Option (List Shape)
after_array entry rest todo (Count None) = Some (rest ∷ todo)
after_array entry rest todo (Count (Some n)) = Some (copies n entry ++ (rest ∷ todo))
after_array entry rest todo _ = None

-- what is to come behind an item, if the item is what comes next
abbrev pub after : List Shape → Primitive → Option (List Shape)
after [] item = None
after (End ∷ todo) item = after todo item
after (Plain kind rest ∷ todo) item = if is_kind kind item then Some (rest ∷ todo) else None
after (Array entry rest ∷ todo) item = after_array entry rest todo item

-- what is to come behind these items, if they come next, one after another
abbrev pub passed : List Shape → List Primitive → Option (List Shape)
passed todo [] = Some (settled todo)
passed todo (item ∷ items) = option_and_then (λ rest. passed rest items) (after todo item)

-- what follows an item, if it comes
abbrev pub behind_next : (List Shape → List Primitive) → List Primitive → Option (List Shape) → List Primitive
behind_next further items None = items
behind_next further items (Some rest) = further rest

-- what follows the items that come
abbrev pub items_behind : List Shape → List Primitive → List Primitive
items_behind todo [] = []
items_behind todo (item ∷ items) = behind_next (λ rest. items_behind rest items) (item ∷ items) (after todo item)

-- the kind of the next field
abbrev pub next_kind : List Shape → Option Kind
next_kind [] = None
next_kind (End ∷ todo) = next_kind todo
next_kind (Plain kind rest ∷ todo) = Some kind
next_kind (Array entry rest ∷ todo) = Some kinds.Array

-- whether the item is of the kind of the next field
abbrev pub is_of : Option Kind → Primitive → Bool
is_of None item = false
is_of (Some kind) item = is_kind kind item

abbrev pub is_next : List Shape → Primitive → Bool
is_next todo item = is_of (next_kind todo) item

-- the bytes begin with these items, which are the first of some value of the shape; then `todo` is to come
pub record ItemsReadSoFar (shape : Shape) (bytes : List ℕ) (items : List Primitive) (todo : List Shape) (rest : List ℕ) : Type 0 where
  pub come : passed (shape ∷ []) items ≡ Some todo
  pub bytes_are : bytes ≡ spelling items ++ rest
  pub readable : AreReadable items

-- the bytes begin with no item that could come next
abbrev pub IsStuck : List Shape → List ℕ → Type 0
IsStuck todo rest =
    (item : Primitive) (behind : List ℕ) → IsTrue (is_next todo item) → IsInRange item → rest ≡ spelled item ++ behind → ⊥

-- the bytes begin with a count that comes next and passes the limit
pub record IsTooMany (todo : List Shape) (items : List Primitive) (rest : List ℕ) : Type 0 where
  pub entries : ℕ
  pub behind : List ℕ
  pub next : IsTrue (is_next todo (Count (Some entries)))
  pub in_range : IsInRange (Count (Some entries))
  pub read : rest ≡ spelled (Count (Some entries)) ++ behind
  pub passes : max_entries < total_entries items + entries
