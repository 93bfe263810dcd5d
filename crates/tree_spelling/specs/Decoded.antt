-- What bytes are read as, as a function of them: item by item, each of the kind of the field that comes next.
-- `decoding_law` ties it to the spelling.
use Rattle.std.specs.Prelude.{ℕ, zero, suc, ◌+◌, ℤ, pos, negsuc, nat_le, nat_lt, if◌then◌else◌, List, [], ◌∷◌, ◌++◌, length, take, drop, slice_get, Option, Some, None}
use Rattle.std.specs.Int.{w8, w16, w32, w64}
use Rattle.std.specs.Option.{option_map}
use Rattle.kp_schema.specs.declared.kind.Kind.{Kind}
use Rattle.kp_schema.specs.declared.kind.Kind.TheVariants as kinds
use Rattle.wire_types.specs.Numbers.{number_at}
use Rattle.tree_spelling.specs.declared.primitive.Primitive.{Primitive}
use Rattle.tree_spelling.specs.declared.primitive.Primitive.TheVariants.{Int8, Int16, Int32, Int64, Boolean, Text, Binary, Count}
use Rattle.tree_spelling.specs.Primitives.{spelled, entries_of, total_entries}
use Rattle.tree_spelling.specs.Shape.{Shape}
use Rattle.tree_spelling.specs.Spelling.{spelling, max_entries}
use Rattle.tree_spelling.specs.Agenda.{settled, after, next_kind}

-- What bytes are, read as a value of a shape.
pub data Decoded : Type 0 where
  -- the spelling of the value that has these items
  AllItems : (items : List Primitive) → Decoded
  -- nothing, for the item at this place can't be read, or the byte there is one too many
  BadAt : (place : ℕ) → Decoded
  -- nothing, for the count at this place passes the limit of entries
  TooManyAt : (place : ℕ) → Decoded

-- ---- one item

-- the bytes behind their length, which has `size` bytes itself, if they are there; the length -1 is null
abbrev pub bytes_behind : ℕ → Option ℤ → List ℕ → Option (Option (List ℕ))
bytes_behind size None bytes = None
bytes_behind size (Some (pos n)) bytes = if nat_le (size + n) (length bytes) then Some (Some (take n (drop size bytes))) else None
bytes_behind size (Some (negsuc zero)) bytes = Some None
bytes_behind size (Some (negsuc (suc below))) bytes = None

-- the count that a number is, if it is one; -1 is null
abbrev pub count_said : Option ℤ → Option (Option ℕ)
count_said None = None
count_said (Some (pos n)) = Some (Some n)
count_said (Some (negsuc zero)) = Some None
count_said (Some (negsuc (suc below))) = None

-- the item of this kind that the bytes begin with, if they begin with one
abbrev pub first_item : Kind → List ℕ → Option Primitive
first_item kinds.I8 bytes = option_map Int8 (number_at w8 bytes)
first_item kinds.I16 bytes = option_map Int16 (number_at w16 bytes)
first_item kinds.I32 bytes = option_map Int32 (number_at w32 bytes)
first_item kinds.I64 bytes = option_map Int64 (number_at w64 bytes)
first_item kinds.Bool bytes = option_map Boolean (slice_get bytes 0)
first_item kinds.Str bytes = option_map Text (bytes_behind 2 (number_at w16 bytes) bytes)
first_item kinds.Bytes bytes = option_map Binary (bytes_behind 4 (number_at w32 bytes) bytes)
first_item kinds.Array bytes = option_map Count (count_said (number_at w32 bytes))

-- ---- item by item

-- Each of these gets what goes on behind an item: by the fields that are to come then, the items that were read,
-- and the bytes that weren't.
abbrev pub Further : Type 0
Further = List Shape → List Primitive → List ℕ → Decoded

-- where no field is to come, no byte may be left
abbrev pub read_all : List Primitive → List ℕ → Decoded
read_all items [] = AllItems items
read_all items (byte ∷ rest) = BadAt (length (spelling items))

-- an item was read: its entries are counted first
abbrev pub read_past : Further → Option (List Shape) → List Primitive → List ℕ → Primitive → Decoded
read_past further None items rest item = BadAt (length (spelling items))
read_past further (Some todo) items rest item =
    if nat_lt max_entries (total_entries items + entries_of item) then TooManyAt (length (spelling items))
    else further (settled todo) (items ++ item ∷ []) (drop (length (spelled item)) rest)

abbrev pub read_next : Further → List Shape → List Primitive → List ℕ → Option Primitive → Decoded
read_next further todo items rest None = BadAt (length (spelling items))
read_next further todo items rest (Some item) = read_past further (after todo item) items rest item

abbrev pub read_field : Further → Option Kind → List Shape → List Primitive → List ℕ → Decoded
read_field further None todo items rest = read_all items rest
read_field further (Some kind) todo items rest = read_next further todo items rest (first_item kind rest)

-- so many items at most
abbrev pub read_items : ℕ → Further
read_items zero todo items rest = BadAt (length (spelling items))
read_items (suc n) todo items rest = read_field (read_items n) (next_kind todo) todo items rest

-- Each item takes a byte at least, so there are no more items than bytes.
abbrev pub decoded : Shape → List ℕ → Decoded
decoded shape bytes = read_items (suc (length bytes)) (settled (shape ∷ [])) [] bytes
