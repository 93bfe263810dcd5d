-- One item of a body: its type, its spelling, and what has a spelling ("Protocol Primitive Types").
use Rattle.std.specs.Prelude.{ℕ, ◌+◌, ◌<◌, List, [], ◌∷◌, Some, FitsSigned}
use Rattle.std.specs.Int.{w8, w16, w32, w64}
use Rattle.kp_schema.specs.declared.kind.Kind.{Kind}
use Rattle.kp_schema.specs.declared.kind.Kind.TheVariants as kinds
use Rattle.wire_types.specs.Numbers.{int8, int16, int32, int64}
use Rattle.wire_types.specs.Strings.{string, IsString}
use Rattle.wire_types.specs.Lengths.{byte_string, IsByteString, array_count, IsCount}
use Rattle.tree_spelling.specs.declared.primitive.Primitive.{Primitive}
use Rattle.tree_spelling.specs.declared.primitive.Primitive.TheVariants.{Int8, Int16, Int32, Int64, Boolean, Text, Binary, Count}

abbrev pub spelled : Primitive → List ℕ
spelled (Int8 number) = int8 number
spelled (Int16 number) = int16 number
spelled (Int32 number) = int32 number
spelled (Int64 number) = int64 number
spelled (Boolean byte) = byte ∷ []
spelled (Text bytes) = string bytes
spelled (Binary bytes) = byte_string bytes
spelled (Count entries) = array_count entries

-- a number is in the range of its type, and a length, or count, is one that can be said
abbrev pub IsInRange : Primitive → Type 0
IsInRange (Int8 number) = FitsSigned w8 number
IsInRange (Int16 number) = FitsSigned w16 number
IsInRange (Int32 number) = FitsSigned w32 number
IsInRange (Int64 number) = FitsSigned w64 number
IsInRange (Boolean byte) = byte < 256
IsInRange (Text bytes) = IsString bytes
IsInRange (Binary bytes) = IsByteString bytes
IsInRange (Count entries) = IsCount entries

-- the kind of field that an item is a value of
abbrev pub kind_of : Primitive → Kind
kind_of (Int8 number) = kinds.I8
kind_of (Int16 number) = kinds.I16
kind_of (Int32 number) = kinds.I32
kind_of (Int64 number) = kinds.I64
kind_of (Boolean byte) = kinds.Bool
kind_of (Text bytes) = kinds.Str
kind_of (Binary bytes) = kinds.Bytes
kind_of (Count entries) = kinds.Array

-- how many entries an item brings: a count's number, and none for any other item or null
abbrev pub entries_of : Primitive → ℕ
entries_of (Count (Some entries)) = entries
entries_of _ = 0

-- how many array entries there are in all, by the counts of the arrays
abbrev pub total_entries : List Primitive → ℕ
total_entries [] = 0
total_entries (item ∷ items) = entries_of item + total_entries items
