-- CreateTopics (key 19, versions 0 to 4): "The Messages: CreateTopics API" of the protocol guide.
-- Each row has depth, kind, mark where it has one, first and last version; behind it stands its name.
use Rattle.std.specs.Prelude.{List, [], ◌∷◌}
use Rattle.kp_schema.specs.declared.field.Field.{Field}
use Rattle.kp_schema.specs.declared.kind.Kind.TheVariants.{I16, I32, Bool, Str, Array}
use Rattle.kp_schema.specs.declared.mark.Mark.TheVariants.{Topic}
use Rattle.kp_schema.specs.Field.{field, marked}
use Rattle.kp_schema.specs.Message.{Message}

unfoldable pub request : List Field
request =
    field 0 Array 0 4 ∷  -- topics
    marked 1 Str Topic 0 4 ∷  --   name
    field 1 I32 0 4 ∷  --   num_partitions
    field 1 I16 0 4 ∷  --   replication_factor
    field 1 Array 0 4 ∷  --   assignments
    field 2 I32 0 4 ∷  --     index
    field 2 Array 0 4 ∷  --     broker_ids
    field 3 I32 0 4 ∷  --       it
    field 1 Array 0 4 ∷  --   configs
    field 2 Str 0 4 ∷  --     name
    field 2 Str 0 4 ∷  --     value
    field 0 I32 0 4 ∷  -- timeout_ms
    field 0 Bool 1 4 ∷  -- validate_only
    []

unfoldable pub response : List Field
response =
    field 0 I32 2 4 ∷  -- throttle_time_ms
    field 0 Array 0 4 ∷  -- topics
    marked 1 Str Topic 0 4 ∷  --   name
    field 1 I16 0 4 ∷  --   error_code
    field 1 Str 1 4 ∷  --   error_message
    []

abbrev pub message : Message
message = record { key = 19; least = 0; greatest = 4; request = request; response = response }
