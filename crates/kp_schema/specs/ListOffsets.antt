-- ListOffsets (key 2, versions 1 to 5): "The Messages: ListOffsets API" of the protocol guide.
-- Each row has depth, kind, mark where it has one, first and last version; behind it stands its name.
use Rattle.std.specs.Prelude.{List, [], ◌∷◌}
use Rattle.kp_schema.specs.declared.field.Field.{Field}
use Rattle.kp_schema.specs.declared.kind.Kind.TheVariants.{I8, I16, I32, I64, Str, Array}
use Rattle.kp_schema.specs.declared.mark.Mark.TheVariants.{Topic}
use Rattle.kp_schema.specs.Field.{field, marked}
use Rattle.kp_schema.specs.Message.{Message}

unfoldable pub request : List Field
request =
    field 0 I32 1 5 ∷  -- replica_id
    field 0 I8 2 5 ∷  -- isolation_level
    field 0 Array 1 5 ∷  -- topics
    marked 1 Str Topic 1 5 ∷  --   name
    field 1 Array 1 5 ∷  --   partitions
    field 2 I32 1 5 ∷  --     index
    field 2 I32 4 5 ∷  --     current_leader_epoch
    field 2 I64 1 5 ∷  --     timestamp
    []

unfoldable pub response : List Field
response =
    field 0 I32 2 5 ∷  -- throttle_time_ms
    field 0 Array 1 5 ∷  -- topics
    marked 1 Str Topic 1 5 ∷  --   name
    field 1 Array 1 5 ∷  --   partitions
    field 2 I32 1 5 ∷  --     index
    field 2 I16 1 5 ∷  --     error_code
    field 2 I64 1 5 ∷  --     timestamp
    field 2 I64 1 5 ∷  --     offset
    field 2 I32 4 5 ∷  --     leader_epoch
    []

abbrev pub message : Message
message = record { key = 2; least = 1; greatest = 5; request = request; response = response }
