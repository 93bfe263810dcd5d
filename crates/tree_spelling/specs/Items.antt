-- An item as its readers and makers see it, and the item of a field's kind that it stands for.
use Rattle.std.specs.Prelude.{ℕ, ℤ, pos, negsuc, ◌&&◌, int_le, nat_le, if◌then◌else◌, List, length, Option, Some, None, Result, Ok, Err}
use Rattle.kp_schema.specs.declared.kind.Kind.{Kind}
use Rattle.kp_schema.specs.declared.kind.Kind.TheVariants as kinds
use Rattle.tree_spelling.specs.declared.primitive.Primitive.{Primitive}
use Rattle.tree_spelling.specs.declared.primitive.Primitive.TheVariants.{Int8, Int16, Int32, Int64, Boolean, Binary, Count}
use Rattle.tree_spelling.specs.declared.primitive.Primitive.TheVariants as primitive
use Rattle.tree_spelling.specs.declared.item.Item.{Item}
use Rattle.tree_spelling.specs.declared.item.Item.TheVariants.{Number, Flag, Text, Entries}
use Rattle.tree_spelling.specs.declared.edit_fault.EditFault.{EditFault}
use Rattle.tree_spelling.specs.declared.edit_fault.EditFault.TheVariants.{WrongKind, OutOfRange, TooLong}

-- an item of a body, without its type
abbrev pub as_item : Primitive → Item
as_item (Int8 number) = Number number
as_item (Int16 number) = Number number
as_item (Int32 number) = Number number
as_item (Int64 number) = Number number
as_item (Boolean byte) = Flag byte
as_item (primitive.Text bytes) = Text bytes
as_item (Binary bytes) = Text bytes
as_item (Count entries) = Entries entries

-- the item, if its number is from `least` to `greatest`
abbrev pub number_within : ℤ → ℤ → ℤ → Primitive → Result Primitive EditFault
number_within least greatest number item =
    if int_le least number && int_le number greatest then Ok item else Err (OutOfRange number)

-- the item, if it has so many bytes, or entries, at most
abbrev pub length_within : ℕ → ℕ → Primitive → Result Primitive EditFault
length_within greatest len item = if nat_le len greatest then Ok item else Err (TooLong len)

abbrev pub text_within : ℕ → Option (List ℕ) → Primitive → Result Primitive EditFault
text_within greatest None item = Ok item
text_within greatest (Some bytes) item = length_within greatest (length bytes) item

abbrev pub count_within : ℕ → Option ℕ → Primitive → Result Primitive EditFault
count_within greatest None item = Ok item
count_within greatest (Some entries) item = length_within greatest entries item

-- The item of a field of this kind: the kind has to be right, then the number in its range, or the length
-- one that can be said.
abbrev pub item_of_kind : Kind → Item → Result Primitive EditFault
item_of_kind kinds.I8 (Number number) = number_within (negsuc 127) (pos 127) number (Int8 number)
item_of_kind kinds.I16 (Number number) = number_within (negsuc 32767) (pos 32767) number (Int16 number)
item_of_kind kinds.I32 (Number number) = number_within (negsuc 2147483647) (pos 2147483647) number (Int32 number)
item_of_kind kinds.I64 (Number number) = Ok (Int64 number)
item_of_kind kinds.Bool (Flag byte) = Ok (Boolean byte)
item_of_kind kinds.Str (Text bytes) = text_within 32767 bytes (primitive.Text bytes)
item_of_kind kinds.Bytes (Text bytes) = text_within 2147483647 bytes (Binary bytes)
item_of_kind kinds.Array (Entries entries) = count_within 2147483647 entries (Count entries)
item_of_kind _ _ = Err WrongKind

-- An item that has its type already: its length, or its count, has to be one that can be said.
abbrev pub with_length : Primitive → Result Primitive EditFault
with_length (Int8 number) = Ok (Int8 number)
with_length (Int16 number) = Ok (Int16 number)
with_length (Int32 number) = Ok (Int32 number)
with_length (Int64 number) = Ok (Int64 number)
with_length (Boolean byte) = Ok (Boolean byte)
with_length (primitive.Text bytes) = text_within 32767 bytes (primitive.Text bytes)
with_length (Binary bytes) = text_within 2147483647 bytes (Binary bytes)
with_length (Count entries) = count_within 2147483647 entries (Count entries)
