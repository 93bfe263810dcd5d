-- STRING of "Protocol Primitive Types" (NULLABLE_STRING, which has the same bytes for a text): an INT16
-- length and that many bytes. The length -1 is null.
use Rattle.std.specs.Prelude.{◌≡◌, ℕ, ◌<◌, ◌≤◌, pos, negsuc, List, ◌++◌, length, Option, Some, None, IfSome}
use Rattle.wire_types.specs.Numbers.{int16}

abbrev pub string : Option (List ℕ) → List ℕ
string None = int16 (negsuc 0)
string (Some bytes) = int16 (pos (length bytes)) ++ bytes

-- an INT16 length goes to 32,767
abbrev pub IsString : Option (List ℕ) → Type 0
IsString text = IfSome text (λ bytes. length bytes ≤ 32767)

-- a text past that, and how long it is
abbrev pub IsTooLong : Option (List ℕ) → ℕ → Type 0
IsTooLong None len = ⊥
IsTooLong (Some bytes) len = (len ≡ length bytes) × (32767 < len)
