-- INT8, INT16, INT32 and INT64 of "Protocol Primitive Types": big-endian two's complement.
use Rattle.std.specs.Prelude.{ℕ, ℤ, List, length, Option, Some, None, nat_lt, if◌then◌else◌}
use Rattle.std.specs.Int.{Width, w8, w16, w32, w64, byte_len, cast_unsigned, cast_signed, to_be_bytes, from_be_bytes}

-- the byte of an INT8
abbrev pub int8 : ℤ → List ℕ
int8 number = to_be_bytes w8 (cast_unsigned w8 number)

-- the two bytes of an INT16
abbrev pub int16 : ℤ → List ℕ
int16 number = to_be_bytes w16 (cast_unsigned w16 number)

-- the four bytes of an INT32
abbrev pub int32 : ℤ → List ℕ
int32 number = to_be_bytes w32 (cast_unsigned w32 number)

-- the eight bytes of an INT64
abbrev pub int64 : ℤ → List ℕ
int64 number = to_be_bytes w64 (cast_unsigned w64 number)

-- the number that the first bytes spell, if there are enough
abbrev pub number_at : Width → List ℕ → Option ℤ
number_at w bytes = if nat_lt (length bytes) (byte_len w) then None else Some (cast_signed w (from_be_bytes w bytes))

abbrev pub int16_at : List ℕ → Option ℤ
int16_at bytes = number_at w16 bytes

abbrev pub int32_at : List ℕ → Option ℤ
int32_at bytes = number_at w32 bytes
