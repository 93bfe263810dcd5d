-- The request and the response of an API, over all its versions that are read.
use Rattle.std.specs.Prelude.{ℕ, ℤ, pos, Bool, List, filter, Option, Some, None, cond}
use Rattle.kp_schema.specs.declared.dir.Dir.{Dir}
use Rattle.kp_schema.specs.declared.dir.Dir.TheVariants.{Request, Response}
use Rattle.kp_schema.specs.declared.field.Field.{Field}
use Rattle.kp_schema.specs.Field.{is_between, is_in_version}

pub record Message : Type 0 where
  pub key : ℕ
  pub least : ℕ
  pub greatest : ℕ
  pub request : List Field
  pub response : List Field

-- the rows of one direction
abbrev pub rows : Message → Dir → List Field
rows m Request = m.request
rows m Response = m.response

-- whether a version is one of those that are read
abbrev pub is_read : Message → ℤ → Bool
is_read m version = is_between (pos m.least) (pos m.greatest) version

-- the fields that a version has, where it is one of those that are read
abbrev pub fields_at : Message → Dir → ℤ → Option (List Field)
fields_at m dir version = cond (is_read m version) (Some (filter (is_in_version version) (rows m dir))) None
