-- Metadata (key 3, versions 1 to 8): "The Messages: Metadata API" of the protocol guide.
-- Each row has depth, kind, mark where it has one, first and last version; behind it stands its name.
use Rattle.std.specs.Prelude.{List, [], ◌∷◌}
use Rattle.kp_schema.specs.declared.field.Field.{Field}
use Rattle.kp_schema.specs.declared.kind.Kind.TheVariants.{I16, I32, Bool, Str, Array}
use Rattle.kp_schema.specs.declared.mark.Mark.TheVariants.{Topic}
use Rattle.kp_schema.specs.Field.{field, marked}
use Rattle.kp_schema.specs.Message.{Message}

unfoldable pub request : List Field
request =
    field 0 Array 1 8 ∷  -- topics
    marked 1 Str Topic 1 8 ∷  --   name
    field 0 Bool 4 8 ∷  -- allow_auto_topic_creation
    field 0 Bool 8 8 ∷  -- include_cluster_authorized_operations
    field 0 Bool 8 8 ∷  -- include_topic_authorized_operations
    []

unfoldable pub response : List Field
response =
    field 0 I32 3 8 ∷  -- throttle_time_ms
    field 0 Array 1 8 ∷  -- brokers
    field 1 I32 1 8 ∷  --   node_id
    field 1 Str 1 8 ∷  --   host
    field 1 I32 1 8 ∷  --   port
    field 1 Str 1 8 ∷  --   rack
    field 0 Str 2 8 ∷  -- cluster_id
    field 0 I32 1 8 ∷  -- controller_id
    field 0 Array 1 8 ∷  -- topics
    field 1 I16 1 8 ∷  --   error_code
    marked 1 Str Topic 1 8 ∷  --   name
    field 1 Bool 1 8 ∷  --   is_internal
    field 1 Array 1 8 ∷  --   partitions
    field 2 I16 1 8 ∷  --     error_code
    field 2 I32 1 8 ∷  --     index
    field 2 I32 1 8 ∷  --     leader_id
    field 2 I32 7 8 ∷  --     leader_epoch
    field 2 Array 1 8 ∷  --     replica_nodes
    field 3 I32 1 8 ∷  --       it
    field 2 Array 1 8 ∷  --     isr_nodes
    field 3 I32 1 8 ∷  --       it
    field 2 Array 5 8 ∷  --     offline_replicas
    field 3 I32 5 8 ∷  --       it
    field 1 I32 8 8 ∷  --   topic_authorized_operations
    field 0 I32 8 8 ∷  -- cluster_authorized_operations
    []

abbrev pub message : Message
message = record { key = 3; least = 1; greatest = 8; request = request; response = response }
