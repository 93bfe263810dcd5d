-- JoinGroup (key 11, versions 0 to 5): "The Messages: JoinGroup API" of the protocol guide.
-- Each row has depth, kind, mark where it has one, first and last version; behind it stands its name.
use Rattle.std.specs.Prelude.{List, [], ◌∷◌}
use Rattle.kp_schema.specs.declared.field.Field.{Field}
use Rattle.kp_schema.specs.declared.kind.Kind.TheVariants.{I16, I32, Str, Bytes, Array}
use Rattle.kp_schema.specs.declared.mark.Mark.TheVariants.{Group}
use Rattle.kp_schema.specs.Field.{field, marked}
use Rattle.kp_schema.specs.Message.{Message}

unfoldable pub request : List Field
request =
    marked 0 Str Group 0 5 ∷  -- group_id
    field 0 I32 0 5 ∷  -- session_timeout_ms
    field 0 I32 1 5 ∷  -- rebalance_timeout_ms
    field 0 Str 0 5 ∷  -- member_id
    field 0 Str 5 5 ∷  -- group_instance_id
    field 0 Str 0 5 ∷  -- protocol_type
    field 0 Array 0 5 ∷  -- protocols
    field 1 Str 0 5 ∷  --   name
    field 1 Bytes 0 5 ∷  --   metadata
    []

unfoldable pub response : List Field
response =
    field 0 I32 2 5 ∷  -- throttle_time_ms
    field 0 I16 0 5 ∷  -- error_code
    field 0 I32 0 5 ∷  -- generation_id
    field 0 Str 0 5 ∷  -- protocol_name
    field 0 Str 0 5 ∷  -- leader
    field 0 Str 0 5 ∷  -- member_id
    field 0 Array 0 5 ∷  -- members
    field 1 Str 0 5 ∷  --   member_id
    field 1 Str 5 5 ∷  --   group_instance_id
    field 1 Bytes 0 5 ∷  --   metadata
    []

abbrev pub message : Message
message = record { key = 11; least = 0; greatest = 5; request = request; response = response }
