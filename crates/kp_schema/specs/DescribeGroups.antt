-- DescribeGroups (key 15, versions 0 to 4): "The Messages: DescribeGroups API" of the protocol guide.
-- Each row has depth, kind, mark where it has one, first and last version; behind it stands its name.
use Rattle.std.specs.Prelude.{List, [], ◌∷◌}
use Rattle.kp_schema.specs.declared.field.Field.{Field}
use Rattle.kp_schema.specs.declared.kind.Kind.TheVariants.{I16, I32, Bool, Str, Bytes, Array}
use Rattle.kp_schema.specs.declared.mark.Mark.TheVariants.{Group}
use Rattle.kp_schema.specs.Field.{field, marked}
use Rattle.kp_schema.specs.Message.{Message}

unfoldable pub request : List Field
request =
    field 0 Array 0 4 ∷  -- groups
    marked 1 Str Group 0 4 ∷  --   it
    field 0 Bool 3 4 ∷  -- include_authorized_operations
    []

unfoldable pub response : List Field
response =
    field 0 I32 1 4 ∷  -- throttle_time_ms
    field 0 Array 0 4 ∷  -- groups
    field 1 I16 0 4 ∷  --   error_code
    marked 1 Str Group 0 4 ∷  --   group_id
    field 1 Str 0 4 ∷  --   group_state
    field 1 Str 0 4 ∷  --   protocol_type
    field 1 Str 0 4 ∷  --   protocol_data
    field 1 Array 0 4 ∷  --   members
    field 2 Str 0 4 ∷  --     member_id
    field 2 Str 4 4 ∷  --     group_instance_id
    field 2 Str 0 4 ∷  --     client_id
    field 2 Str 0 4 ∷  --     client_host
    field 2 Bytes 0 4 ∷  --     member_metadata
    field 2 Bytes 0 4 ∷  --     member_assignment
    field 1 I32 3 4 ∷  --   authorized_operations
    []

abbrev pub message : Message
message = record { key = 15; least = 0; greatest = 4; request = request; response = response }
