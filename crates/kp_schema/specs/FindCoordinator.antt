-- FindCoordinator (key 10, versions 0 to 2): "The Messages: FindCoordinator API" of the protocol guide.
-- Each row has depth, kind, mark where it has one, first and last version; behind it stands its name.
use Rattle.std.specs.Prelude.{List, [], ◌∷◌}
use Rattle.kp_schema.specs.declared.field.Field.{Field}
use Rattle.kp_schema.specs.declared.kind.Kind.TheVariants.{I8, I16, I32, Str}
use Rattle.kp_schema.specs.declared.mark.Mark.TheVariants.{CoordinatorKey}
use Rattle.kp_schema.specs.Field.{field, marked}
use Rattle.kp_schema.specs.Message.{Message}

unfoldable pub request : List Field
request =
    marked 0 Str CoordinatorKey 0 2 ∷  -- key
    field 0 I8 1 2 ∷  -- key_type
    []

unfoldable pub response : List Field
response =
    field 0 I32 1 2 ∷  -- throttle_time_ms
    field 0 I16 0 2 ∷  -- error_code
    field 0 Str 1 2 ∷  -- error_message
    field 0 I32 0 2 ∷  -- node_id
    field 0 Str 0 2 ∷  -- host
    field 0 I32 0 2 ∷  -- port
    []

abbrev pub message : Message
message = record { key = 10; least = 0; greatest = 2; request = request; response = response }
