-- The format of a message as the table of `kp_schema` has it.
use Rattle.std.specs.Prelude.{◌≡◌, ℕ, ◌+◌, ◌==◌, ℤ, pos, negsuc, ◌&&◌, nat_lt, if◌then◌else◌, List, [], ◌∷◌}
use Rattle.kp_schema.specs.declared.dir.Dir.{Dir}
use Rattle.kp_schema.specs.declared.field.Field.{Field}
use Rattle.kp_schema.specs.declared.kind.Kind.{Kind}
use Rattle.kp_schema.specs.declared.kind.Kind.TheVariants as kinds
use Rattle.kp_schema.specs.Message.{Message, rows}
use Rattle.views.specs.Format.{Format, Finished, Single, SingleIn, Several, SeveralIn}

abbrev pub version_number : ℤ → ℕ
version_number (pos n) = n
version_number (negsuc n) = 0

-- a field of this kind that each version of what it stands in has, with this entry if it is an array
abbrev pub whole_field : Kind → Format → Format → Format
whole_field kinds.Array entry rest = Several entry rest
whole_field kind entry rest = Single kind rest

-- one that the versions from the first to the last have, with its number
abbrev pub part_field : ℕ → ℕ → ℕ → Kind → Format → Format → Format
part_field number first last kinds.Array entry rest = SeveralIn number first last entry rest
part_field number first last kind entry rest = SingleIn number first last kind rest

-- The rows at one depth, up to the first that lies less deep. What they stand in has the versions from
-- `least` to `greatest`. What lies deeper belongs to the array before it, and has that array's versions.
-- `number` counts the rows of the message, from 0.
abbrev pub rows_format : ℕ → ℕ → ℕ → ℕ → List Field → Format
rows_format least greatest depth number [] = Finished
rows_format least greatest depth number (f ∷ fs) =
    if nat_lt f.depth depth then Finished
    else if nat_lt depth f.depth then rows_format least greatest depth (number + 1) fs
    else if (version_number f.from == least) && (version_number f.to == greatest) then whole_field f.kind (rows_format (version_number f.from) (version_number f.to) (depth + 1) (number + 1) fs) (rows_format least greatest depth (number + 1) fs)
    else part_field number (version_number f.from) (version_number f.to) f.kind (rows_format (version_number f.from) (version_number f.to) (depth + 1) (number + 1) fs) (rows_format least greatest depth (number + 1) fs)

-- a message's format follows its rows
abbrev pub IsFormatOf : Message → Dir → Format → Type 0
IsFormatOf message dir format = format ≡ rows_format message.least message.greatest 0 0 (rows message dir)
