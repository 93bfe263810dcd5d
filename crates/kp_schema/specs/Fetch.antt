-- Fetch (key 1, versions 4 to 11): "The Messages: Fetch API" of the protocol guide.
-- Each row has depth, kind, mark where it has one, first and last version; behind it stands its name.
use Rattle.std.specs.Prelude.{List, [], ◌∷◌}
use Rattle.kp_schema.specs.declared.field.Field.{Field}
use Rattle.kp_schema.specs.declared.kind.Kind.TheVariants.{I8, I16, I32, I64, Str, Bytes, Array}
use Rattle.kp_schema.specs.declared.mark.Mark.TheVariants.{Topic}
use Rattle.kp_schema.specs.Field.{field, marked}
use Rattle.kp_schema.specs.Message.{Message}

unfoldable pub request : List Field
request =
    field 0 I32 4 11 ∷  -- replica_id
    field 0 I32 4 11 ∷  -- max_wait_ms
    field 0 I32 4 11 ∷  -- min_bytes
    field 0 I32 4 11 ∷  -- max_bytes
    field 0 I8 4 11 ∷  -- isolation_level
    field 0 I32 7 11 ∷  -- session_id
    field 0 I32 7 11 ∷  -- session_epoch
    field 0 Array 4 11 ∷  -- topics
    marked 1 Str Topic 4 11 ∷  --   name
    field 1 Array 4 11 ∷  --   partitions
    field 2 I32 4 11 ∷  --     partition
    field 2 I32 9 11 ∷  --     current_leader_epoch
    field 2 I64 4 11 ∷  --     fetch_offset
    field 2 I64 5 11 ∷  --     log_start_offset
    field 2 I32 4 11 ∷  --     partition_max_bytes
    field 0 Array 7 11 ∷  -- forgotten
    marked 1 Str Topic 7 11 ∷  --   name
    field 1 Array 7 11 ∷  --   partitions
    field 2 I32 7 11 ∷  --     it
    field 0 Str 11 11 ∷  -- rack_id
    []

unfoldable pub response : List Field
response =
    field 0 I32 4 11 ∷  -- throttle_time_ms
    field 0 I16 7 11 ∷  -- error_code
    field 0 I32 7 11 ∷  -- session_id
    field 0 Array 4 11 ∷  -- topics
    marked 1 Str Topic 4 11 ∷  --   name
    field 1 Array 4 11 ∷  --   partitions
    field 2 I32 4 11 ∷  --     index
    field 2 I16 4 11 ∷  --     error_code
    field 2 I64 4 11 ∷  --     high_watermark
    field 2 I64 4 11 ∷  --     last_stable_offset
    field 2 I64 5 11 ∷  --     log_start_offset
    field 2 Array 4 11 ∷  --     aborted
    field 3 I64 4 11 ∷  --       producer_id
    field 3 I64 4 11 ∷  --       first_offset
    field 2 I32 11 11 ∷  --     preferred_read_replica
    field 2 Bytes 4 11 ∷  --     records
    []

abbrev pub message : Message
message = record { key = 1; least = 4; greatest = 11; request = request; response = response }
