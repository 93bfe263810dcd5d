-- A frame on a stream ("Common Request and Response Structure"), and what the front of a stream is.
use Rattle.std.specs.Prelude.{◌≡◌, ℕ, ◌+◌, ◌<◌, ◌≤◌, ◌^◌, ◌⊎◌, ℤ, pos, negsuc, List, ◌++◌, length, Option, Some, None, IsSome, nat_lt, if◌then◌else◌, ◌||◌}
use Rattle.wire_types.specs.Numbers.{int32, int32_at}

-- an INT32 size, and that many bytes
abbrev pub sized : List ℕ → List ℕ
sized frame = int32 (pos (length frame)) ++ frame

-- a frame within the limits, whose size an INT32 can say
pub record IsFrame (least most : ℕ) (frame : List ℕ) : Type 0 where
  pub not_short : least ≤ length frame
  pub not_long : length frame ≤ most
  pub sayable : length frame < 2 ^ 31

-- the size at the front, if it is whole
abbrev pub size_at : List ℕ → Option ℤ
size_at bytes = int32_at bytes

-- a size outside the limits; a negative one is below any
abbrev pub outside : ℕ → ℕ → Option ℤ → Option ℤ
outside least most None = None
outside least most (Some (negsuc n)) = Some (negsuc n)
outside least most (Some (pos n)) = if nat_lt n least || nat_lt most n then Some (pos n) else None

-- the size at the front, where it is whole and outside the limits
abbrev pub bad_size : ℕ → ℕ → List ℕ → Option ℤ
bad_size least most bytes = outside least most (size_at bytes)

-- a frame within the limits is at the front, whole
pub record BeginsFrame (least most : ℕ) (bytes : List ℕ) : Type 0 where
  pub frame : List ℕ
  pub is_frame : IsFrame least most frame
  pub behind : List ℕ
  pub front : bytes ≡ sized frame ++ behind

-- a size within the limits, and fewer bytes behind it than it says
pub record IsCutShort (least most : ℕ) (bytes : List ℕ) : Type 0 where
  pub size : ℕ
  pub size_is : size_at bytes ≡ Some (pos size)
  pub not_short : least ≤ size
  pub not_long : size ≤ most
  pub missing : length bytes < 4 + size

-- the bytes may begin a frame within the limits, and don't end it
abbrev pub IsPartial : ℕ → ℕ → List ℕ → Type 0
IsPartial least most bytes = (length bytes < 4) ⊎ IsCutShort least most bytes

-- no whole frame within the limits is at the front: there is less than one, or a size that no frame has
abbrev pub IsTail : ℕ → ℕ → List ℕ → Type 0
IsTail least most bytes = IsPartial least most bytes ⊎ IsSome (bad_size least most bytes)
