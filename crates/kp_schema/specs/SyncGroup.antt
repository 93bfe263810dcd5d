-- SyncGroup (key 14, versions 0 to 3): "The Messages: SyncGroup API" of the protocol guide.
-- Each row has depth, kind, mark where it has one, first and last version; behind it stands its name.
use Rattle.std.specs.Prelude.{List, [], ◌∷◌}
use Rattle.kp_schema.specs.declared.field.Field.{Field}
use Rattle.kp_schema.specs.declared.kind.Kind.TheVariants.{I16, I32, Str, Bytes, Array}
use Rattle.kp_schema.specs.declared.mark.Mark.TheVariants.{Group}
use Rattle.kp_schema.specs.Field.{field, marked}
use Rattle.kp_schema.specs.Message.{Message}

unfoldable pub request : List Field
request =
    marked 0 Str Group 0 3 ∷  -- group_id
    field 0 I32 0 3 ∷  -- generation_id
    field 0 Str 0 3 ∷  -- member_id
    field 0 Str 3 3 ∷  -- group_instance_id
    field 0 Array 0 3 ∷  -- assignments
    field 1 Str 0 3 ∷  --   member_id
    field 1 Bytes 0 3 ∷  --   assignment
    []

unfoldable pub response : List Field
response =
    field 0 I32 1 3 ∷  -- throttle_time_ms
    field 0 I16 0 3 ∷  -- error_code
    field 0 Bytes 0 3 ∷  -- assignment
    []

abbrev pub message : Message
message = record { key = 14; least = 0; greatest = 3; request = request; response = response }
