-- ListGroups (key 16, versions 0 to 2): "The Messages: ListGroups API" of the protocol guide.
-- Each row has depth, kind, mark where it has one, first and last version; behind it stands its name.
use Rattle.std.specs.Prelude.{List, [], ◌∷◌}
use Rattle.kp_schema.specs.declared.field.Field.{Field}
use Rattle.kp_schema.specs.declared.kind.Kind.TheVariants.{I16, I32, Str, Array}
use Rattle.kp_schema.specs.declared.mark.Mark.TheVariants.{Group}
use Rattle.kp_schema.specs.Field.{field, marked}
use Rattle.kp_schema.specs.Message.{Message}

unfoldable pub request : List Field
request = []

unfoldable pub response : List Field
response =
    field 0 I32 1 2 ∷  -- throttle_time_ms
    field 0 I16 0 2 ∷  -- error_code
    field 0 Array 0 2 ∷  -- groups
    marked 1 Str Group 0 2 ∷  --   group_id
    field 1 Str 0 2 ∷  --   protocol_type
    []

abbrev pub message : Message
message = record { key = 16; least = 0; greatest = 2; request = request; response = response }
