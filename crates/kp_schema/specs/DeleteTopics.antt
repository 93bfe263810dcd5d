-- DeleteTopics (key 20, versions 0 to 3): "The Messages: DeleteTopics API" of the protocol guide.
-- Each row has depth, kind, mark where it has one, first and last version; behind it stands its name.
use Rattle.std.specs.Prelude.{List, [], ◌∷◌}
use Rattle.kp_schema.specs.declared.field.Field.{Field}
use Rattle.kp_schema.specs.declared.kind.Kind.TheVariants.{I16, I32, Str, Array}
use Rattle.kp_schema.specs.declared.mark.Mark.TheVariants.{Topic}
use Rattle.kp_schema.specs.Field.{field, marked}
use Rattle.kp_schema.specs.Message.{Message}

unfoldable pub request : List Field
request =
    field 0 Array 0 3 ∷  -- names
    marked 1 Str Topic 0 3 ∷  --   it
    field 0 I32 0 3 ∷  -- timeout_ms
    []

unfoldable pub response : List Field
response =
    field 0 I32 1 3 ∷  -- throttle_time_ms
    field 0 Array 0 3 ∷  -- topics
    marked 1 Str Topic 0 3 ∷  --   name
    field 1 I16 0 3 ∷  --   error_code
    []

abbrev pub message : Message
message = record { key = 20; least = 0; greatest = 3; request = request; response = response }
