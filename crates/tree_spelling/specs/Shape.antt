-- What a message's fields look like without their depths, versions and marks.
use Rattle.std.specs.Prelude.{ℕ, ◌+◌, ℤ, nat_lt, if◌then◌else◌, List, [], ◌∷◌, Option, Some, None}
use Rattle.kp_schema.specs.declared.dir.Dir.{Dir}
use Rattle.kp_schema.specs.declared.field.Field.{Field}
use Rattle.kp_schema.specs.declared.kind.Kind.{Kind}
use Rattle.kp_schema.specs.declared.kind.Kind.TheVariants as kinds
use Rattle.kp_schema.specs.Messages.{fields_of}

-- the fields that are still to come
pub data Shape : Type 0 where
  -- none
  End : Shape
  -- a field that isn't an array of entries with fields, and then the rest
  Plain : (kind : Kind) (rest : Shape) → Shape
  -- an array, whose entries look like `entry`, and then the rest
  Array : (entry : Shape) (rest : Shape) → Shape

-- a field of this kind, whose entries' fields are these if it is an array, and then the rest
abbrev pub field_shape : Kind → Shape → Shape → Shape
field_shape kinds.Array entry rest = Array entry rest
field_shape kind entry rest = Plain kind rest

-- the fields at one depth, up to the first that lies less deep. What lies deeper belongs to the array
-- before it.
abbrev pub nest : List Field → ℕ → Shape
nest [] depth = End
nest (f ∷ fs) depth =
    if nat_lt f.depth depth then End
    else if nat_lt depth f.depth then nest fs depth
    else field_shape f.kind (nest fs (depth + 1)) (nest fs depth)

abbrev pub shape_of_fields : Option (List Field) → Shape
shape_of_fields None = End
shape_of_fields (Some fields) = nest fields 0

-- the shape of a message's body, by key, version and direction
abbrev pub message_shape : ℤ → ℤ → Dir → Shape
message_shape key version dir = shape_of_fields (fields_of key version dir)
