-- OffsetCommit (key 8, versions 2 to 7): "The Messages: OffsetCommit API" of the protocol guide.
-- Each row has depth, kind, mark where it has one, first and last version; behind it stands its name.
use Rattle.std.specs.Prelude.{List, [], ◌∷◌}
use Rattle.kp_schema.specs.declared.field.Field.{Field}
use Rattle.kp_schema.specs.declared.kind.Kind.TheVariants.{I16, I32, I64, Str, Array}
use Rattle.kp_schema.specs.declared.mark.Mark.TheVariants.{Topic, Group}
use Rattle.kp_schema.specs.Field.{field, marked}
use Rattle.kp_schema.specs.Message.{Message}

unfoldable pub request : List Field
request =
    marked 0 Str Group 2 7 ∷  -- group_id
    field 0 I32 2 7 ∷  -- generation_id
    field 0 Str 2 7 ∷  -- member_id
    field 0 Str 7 7 ∷  -- group_instance_id
    field 0 I64 2 4 ∷  -- retention_time_ms
    field 0 Array 2 7 ∷  -- topics
    marked 1 Str Topic 2 7 ∷  --   name
    field 1 Array 2 7 ∷  --   partitions
    field 2 I32 2 7 ∷  --     index
    field 2 I64 2 7 ∷  --     committed_offset
    field 2 I32 6 7 ∷  --     committed_leader_epoch
    field 2 Str 2 7 ∷  --     committed_metadata
    []

unfoldable pub response : List Field
response =
    field 0 I32 3 7 ∷  -- throttle_time_ms
    field 0 Array 2 7 ∷  -- topics
    marked 1 Str Topic 2 7 ∷  --   name
    field 1 Array 2 7 ∷  --   partitions
    field 2 I32 2 7 ∷  --     index
    field 2 I16 2 7 ∷  --     error_code
    []

abbrev pub message : Message
message = record { key = 8; least = 2; greatest = 7; request = request; response = response }
