-- BYTES and ARRAY of "Protocol Primitive Types" (with NULLABLE_BYTES and RECORDS, which have the same bytes).
use Rattle.std.specs.Prelude.{◌≡◌, ℕ, ◌<◌, ◌≤◌, pos, negsuc, List, ◌++◌, length, Option, Some, None, IfSome}
use Rattle.wire_types.specs.Numbers.{int32}

-- BYTES: an INT32 length and that many bytes. The length -1 is null.
abbrev pub byte_string : Option (List ℕ) → List ℕ
byte_string None = int32 (negsuc 0)
byte_string (Some bytes) = int32 (pos (length bytes)) ++ bytes

-- an INT32 length goes to 2,147,483,647
abbrev pub IsByteString : Option (List ℕ) → Type 0
IsByteString value = IfSome value (λ bytes. length bytes ≤ 2147483647)

-- bytes past that, and how many they are
abbrev pub IsTooManyBytes : Option (List ℕ) → ℕ → Type 0
IsTooManyBytes None len = ⊥
IsTooManyBytes (Some bytes) len = (len ≡ length bytes) × (2147483647 < len)

-- what stands before the entries of an ARRAY: an INT32 count, or -1 for null
abbrev pub array_count : Option ℕ → List ℕ
array_count None = int32 (negsuc 0)
array_count (Some count) = int32 (pos count)

-- an INT32 count goes to 2,147,483,647
abbrev pub IsCount : Option ℕ → Type 0
IsCount value = IfSome value (λ count. count ≤ 2147483647)

-- a count past that
abbrev pub IsTooManyEntries : Option ℕ → ℕ → Type 0
IsTooManyEntries None len = ⊥
IsTooManyEntries (Some count) len = (len ≡ count) × (2147483647 < len)
