-- Produce (key 0, versions 3 to 8): "The Messages: Produce API" of the protocol guide.
-- Each row has depth, kind, mark where it has one, first and last version; behind it stands its name.
use Rattle.std.specs.Prelude.{List, [], ◌∷◌}
use Rattle.kp_schema.specs.declared.field.Field.{Field}
use Rattle.kp_schema.specs.declared.kind.Kind.TheVariants.{I16, I32, I64, Str, Bytes, Array}
use Rattle.kp_schema.specs.declared.mark.Mark.TheVariants.{Topic, Txn}
use Rattle.kp_schema.specs.Field.{field, marked}
use Rattle.kp_schema.specs.Message.{Message}

unfoldable pub request : List Field
request =
    marked 0 Str Txn 3 8 ∷  -- transactional_id
    field 0 I16 3 8 ∷  -- acks
    field 0 I32 3 8 ∷  -- timeout_ms
    field 0 Array 3 8 ∷  -- topics
    marked 1 Str Topic 3 8 ∷  --   name
    field 1 Array 3 8 ∷  --   partitions
    field 2 I32 3 8 ∷  --     index
    field 2 Bytes 3 8 ∷  --     records
    []

unfoldable pub response : List Field
response =
    field 0 Array 3 8 ∷  -- topics
    marked 1 Str Topic 3 8 ∷  --   name
    field 1 Array 3 8 ∷  --   partitions
    field 2 I32 3 8 ∷  --     index
    field 2 I16 3 8 ∷  --     error_code
    field 2 I64 3 8 ∷  --     base_offset
    field 2 I64 3 8 ∷  --     log_append_time_ms
    field 2 I64 5 8 ∷  --     log_start_offset
    field 2 Array 8 8 ∷  --     record_errors
    field 3 I32 8 8 ∷  --       batch_index
    field 3 Str 8 8 ∷  --       message
    field 2 Str 8 8 ∷  --     error_message
    field 0 I32 3 8 ∷  -- throttle_time_ms
    []

abbrev pub message : Message
message = record { key = 0; least = 3; greatest = 8; request = request; response = response }
