-- OffsetFetch (key 9, versions 1 to 5): "The Messages: OffsetFetch API" of the protocol guide.
-- Each row has depth, kind, mark where it has one, first and last version; behind it stands its name.
use Rattle.std.specs.Prelude.{List, [], ◌∷◌}
use Rattle.kp_schema.specs.declared.field.Field.{Field}
use Rattle.kp_schema.specs.declared.kind.Kind.TheVariants.{I16, I32, I64, Str, Array}
use Rattle.kp_schema.specs.declared.mark.Mark.TheVariants.{Topic, Group}
use Rattle.kp_schema.specs.Field.{field, marked}
use Rattle.kp_schema.specs.Message.{Message}

unfoldable pub request : List Field
request =
    marked 0 Str Group 1 5 ∷  -- group_id
    field 0 Array 1 5 ∷  -- topics
    marked 1 Str Topic 1 5 ∷  --   name
    field 1 Array 1 5 ∷  --   partition_indexes
    field 2 I32 1 5 ∷  --     it
    []

unfoldable pub response : List Field
response =
    field 0 I32 3 5 ∷  -- throttle_time_ms
    field 0 Array 1 5 ∷  -- topics
    marked 1 Str Topic 1 5 ∷  --   name
    field 1 Array 1 5 ∷  --   partitions
    field 2 I32 1 5 ∷  --     index
    field 2 I64 1 5 ∷  --     committed_offset
    field 2 I32 5 5 ∷  --     committed_leader_epoch
    field 2 Str 1 5 ∷  --     metadata
    field 2 I16 1 5 ∷  --     error_code
    field 0 I16 2 5 ∷  -- error_code
    []

abbrev pub message : Message
message = record { key = 9; least = 1; greatest = 5; request = request; response = response }
