-- Lengths that can't be said: of a STRING from 2^15 on, of BYTES and of an ARRAY from 2^31 on.
use Rattle.std.specs.Prelude.{ℕ, nat_lt, if◌then◌else◌, List, [], ◌∷◌, length, Option, Some, None}
use Rattle.tree_spelling.specs.declared.primitive.Primitive.{Primitive}
use Rattle.tree_spelling.specs.declared.primitive.Primitive.TheVariants.{Text, Binary, Count}

abbrev pub longer_than : ℕ → ℕ → Option ℕ
longer_than greatest len = if nat_lt greatest len then Some len else None

-- an item's length, if it can't be said
abbrev pub excess : Primitive → Option ℕ
excess (Text (Some bytes)) = longer_than 32767 (length bytes)
excess (Binary (Some bytes)) = longer_than 2147483647 (length bytes)
excess (Count (Some entries)) = longer_than 2147483647 entries
excess _ = None

abbrev pub this_or_later : Option ℕ → Option ℕ → Option ℕ
this_or_later (Some len) later = Some len
this_or_later None later = later

-- the first length, in reading order, that can't be said
abbrev pub first_excess : List Primitive → Option ℕ
first_excess [] = None
first_excess (item ∷ items) = this_or_later (excess item) (first_excess items)
