-- What a reader stands at, and what an item asks of the bytes there.
use Rattle.std.specs.Prelude.{◌≡◌, ℕ, ◌+◌, zero, suc, ℤ, pos, negsuc, List, ◌++◌, length, drop, Option, Some, None}
use Rattle.wire_types.specs.declared.read_fault.ReadFault.{ReadFault}
use Rattle.wire_types.specs.declared.read_fault.ReadFault.TheVariants.{Short, BadLength}

-- bytes, and the place in them of the first one that is not read
pub record Reading : Type 0 where
  pub bytes : List ℕ
  pub at : ℕ

-- the bytes that are not read
abbrev pub unread : Reading → List ℕ
unread reading = drop reading.at reading.bytes

-- the spelling of an item stood next, and the reader stands behind it
pub record Reads (old : Reading) (spelling : List ℕ) (new : Reading) : Type 0 where
  pub spelled : unread old ≡ spelling ++ unread new
  pub place : new.at ≡ old.at + length spelling
  pub same : new.bytes ≡ old.bytes

-- how many bytes an item takes that begins with a length of `size` bytes, as far as that length says
abbrev pub need : ℕ → Option ℤ → ℕ
need size None = size
need size (Some (pos count)) = size + count
need size (Some (negsuc below)) = size

-- a length that is there and is below -1, which is null
abbrev pub IsBadLength : Option ℤ → Type 0
IsBadLength None = ⊥
IsBadLength (Some (pos count)) = ⊥
IsBadLength (Some (negsuc zero)) = ⊥
IsBadLength (Some (negsuc (suc below))) = Unit {0}

-- where the item begins that was not read
abbrev pub place_of : ReadFault → ℕ
place_of (Short at) = at
place_of (BadLength at) = at
