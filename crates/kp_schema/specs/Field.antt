-- A row of a message's table, and which versions have it.
use Rattle.std.specs.Prelude.{ℕ, ℤ, pos, Bool, ◌&&◌, int_le}
use Rattle.kp_schema.specs.declared.field.Field.{Field}
use Rattle.kp_schema.specs.declared.kind.Kind.{Kind}
use Rattle.kp_schema.specs.declared.mark.Mark.{Mark}
use Rattle.kp_schema.specs.declared.mark.Mark.TheVariants.{Plain}

-- a field that names something, by depth, kind, mark, first and last version
abbrev pub marked : ℕ → Kind → Mark → ℕ → ℕ → Field
marked depth kind mark from to =
    record { depth = depth; kind = kind; from = pos from; to = pos to; mark = mark }

-- any other field, by depth, kind, first and last version
abbrev pub field : ℕ → Kind → ℕ → ℕ → Field
field depth kind from to = marked depth kind Plain from to

-- whether a version is one of those from the first to the last
abbrev pub is_between : ℤ → ℤ → ℤ → Bool
is_between first last version = int_le first version && int_le version last

-- whether the version has the field
abbrev pub is_in_version : ℤ → Field → Bool
is_in_version version f = is_between f.from f.to version
