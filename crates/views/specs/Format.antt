-- What a message's view looks like: its fields in order, and which versions have them.
use Rattle.std.specs.Prelude.{ℕ, List, [], ◌∷◌, Option}
use Rattle.kp_schema.specs.declared.kind.Kind.{Kind}
use Rattle.kp_schema.specs.declared.kind.Kind.TheVariants as kinds
use Rattle.tree_spelling.specs.Value.{Leaf}

-- the fields of a view that are still to come
pub data Format : Type 0 where
  -- none
  Finished : Format
  -- a field that isn't an array of entries, and then the rest
  Single : (kind : Kind) (rest : Format) → Format
  -- one that not every version has, but those from the first to the last. Its number counts the message's fields from 0,
  -- an array and its entries' fields each counted.
  SingleIn : (number first last : ℕ) (kind : Kind) (rest : Format) → Format
  -- an array whose entries look like `entry`, and then the rest
  Several : (entry : Format) (rest : Format) → Format
  -- one that not every version has
  SeveralIn : (number first last : ℕ) (entry : Format) (rest : Format) → Format

-- The fields' values, in order. A field that not every version has may be missing; apart from that, a text,
-- a list of bytes and an array may be null.
abbrev pub Fields : Format → Type 0
Fields Finished = Unit {0}
Fields (Single kind rest) = Leaf kind × Fields rest
Fields (SingleIn number first last kind rest) = Option (Leaf kind) × Fields rest
Fields (Several entry rest) = Option (List (Fields entry)) × Fields rest
Fields (SeveralIn number first last entry rest) = Option (Option (List (Fields entry))) × Fields rest

-- Words for formats, as the guide writes them: `format (text_field ∷ int32_field ∷ text_in 2 3 3 ∷ [])`.
abbrev pub format : List (Format → Format) → Format
format [] = Finished
format (field ∷ fields) = field (format fields)

abbrev pub int8_field : Format → Format
int8_field rest = Single kinds.I8 rest

abbrev pub int16_field : Format → Format
int16_field rest = Single kinds.I16 rest

abbrev pub int32_field : Format → Format
int32_field rest = Single kinds.I32 rest

abbrev pub int64_field : Format → Format
int64_field rest = Single kinds.I64 rest

abbrev pub flag_field : Format → Format
flag_field rest = Single kinds.Bool rest

abbrev pub text_field : Format → Format
text_field rest = Single kinds.Str rest

abbrev pub bytes_field : Format → Format
bytes_field rest = Single kinds.Bytes rest

abbrev pub array_field : Format → Format → Format
array_field entry rest = Several entry rest

-- the same where the versions from the first to the last have the field, and no others, by its number and these
abbrev pub int8_in : ℕ → ℕ → ℕ → Format → Format
int8_in number first last rest = SingleIn number first last kinds.I8 rest

abbrev pub int32_in : ℕ → ℕ → ℕ → Format → Format
int32_in number first last rest = SingleIn number first last kinds.I32 rest

abbrev pub int16_in : ℕ → ℕ → ℕ → Format → Format
int16_in number first last rest = SingleIn number first last kinds.I16 rest

abbrev pub int64_in : ℕ → ℕ → ℕ → Format → Format
int64_in number first last rest = SingleIn number first last kinds.I64 rest

abbrev pub flag_in : ℕ → ℕ → ℕ → Format → Format
flag_in number first last rest = SingleIn number first last kinds.Bool rest

abbrev pub text_in : ℕ → ℕ → ℕ → Format → Format
text_in number first last rest = SingleIn number first last kinds.Str rest

abbrev pub array_in : ℕ → ℕ → ℕ → Format → Format → Format
array_in number first last entry rest = SeveralIn number first last entry rest
