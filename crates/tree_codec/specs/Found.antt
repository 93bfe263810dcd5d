-- An item as it was found in the bytes, and the item that it is.
use Rattle.std.specs.Prelude.{◌≡◌, ℕ, ◌-◌, ◌≤◌, List, length, slice_range, Option, Some, None}
use Rattle.std.specs.Option.{option_copied}
use Rattle.tree_spelling.specs.declared.primitive.Primitive.{Primitive}
use Rattle.tree_spelling.specs.declared.primitive.Primitive.TheVariants as primitive
use Rattle.tree_codec.specs.declared.found.Found.{Found}
use Rattle.tree_codec.specs.declared.found.Found.TheVariants.{Int8, Int16, Int32, Int64, Boolean, Text, Binary, Count}

abbrev pub primitive_of : Found → Primitive
primitive_of (Int8 number) = primitive.Int8 number
primitive_of (Int16 number) = primitive.Int16 number
primitive_of (Int32 number) = primitive.Int32 number
primitive_of (Int64 number) = primitive.Int64 number
primitive_of (Boolean byte) = primitive.Boolean byte
primitive_of (Text text) = primitive.Text (option_copied text)
primitive_of (Binary found) = primitive.Binary (option_copied found)
primitive_of (Count entries) = primitive.Count entries

-- a text, if it is there, is the part of the frame before this place
abbrev pub IsPartBefore : List ℕ → ℕ → Option (List ℕ) → Type 0
IsPartBefore frame end None = Unit {0}
IsPartBefore frame end (Some part) = (length part ≤ end) × (end ≤ length frame) × (slice_range frame (end - length part) end ≡ part)

abbrev pub EndsAtPlace : List ℕ → ℕ → Found → Type 0
EndsAtPlace frame end (Text text) = IsPartBefore frame end (option_copied text)
EndsAtPlace frame end (Binary found) = IsPartBefore frame end (option_copied found)
EndsAtPlace frame end _ = Unit {0}
