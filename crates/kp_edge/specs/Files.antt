-- What is known of a file before it is read.
use Rattle.std.specs.Prelude.{◌≡◌, ℕ, List, take}

-- the files don't tell; they tell that there is none of that name; or the bytes of the file
pub data Content : Type 0 where
  Untold : Content
  Absent : Content
  Holds : List ℕ → Content

-- A read gave the first `most` bytes of the file, or all where it has fewer, as far as the files tell it. Of a file
-- that isn't there it gives nothing.
abbrev pub IsFrontOf : Content → ℕ → List ℕ → Type 0
IsFrontOf Untold most bytes = Unit {0}
IsFrontOf Absent most bytes = ⊥
IsFrontOf (Holds whole) most bytes = bytes ≡ take most whole
