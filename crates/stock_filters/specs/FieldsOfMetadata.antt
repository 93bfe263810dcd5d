-- Which fields of a response to Metadata say that a topic exists ("The Messages: Metadata API"). `topic-exists` asks in
-- version 4.
use Rattle.std.specs.Prelude.{ℕ, pos, Bool, false, ◌&&◌, List, Option, Some, None}
use Rattle.std.specs.List.{list_any}
use Rattle.std.specs.Ordering.{int_eq}
use Rattle.std.specs.Str.{bytes_eq}
use Rattle.kp_schema.specs.declared.dir.Dir.TheVariants.{Response}
use Rattle.kp_schema.specs.declared.kind.Kind.TheVariants as kinds
use Rattle.tree_spelling.specs.Shape.{Shape, End, Plain, Array}
use Rattle.tree_spelling.specs.Value.{Value}
use Rattle.filter_core.specs.Fields.{ReadsFields}
use Rattle.stock_filters.specs.TopicExists.{is_known}

-- node_id, host, port, rack
abbrev pub metadata_broker : Shape
metadata_broker = Plain kinds.I32 (Plain kinds.Str (Plain kinds.I32 (Plain kinds.Str End)))

-- a node's number
abbrev pub metadata_node : Shape
metadata_node = Plain kinds.I32 End

-- error_code, index, leader_id, replica_nodes, isr_nodes
abbrev pub metadata_partition : Shape
metadata_partition = Plain kinds.I16 (Plain kinds.I32 (Plain kinds.I32 (Array metadata_node (Array metadata_node End))))

-- error_code, name, is_internal, partitions
abbrev pub known_topic : Shape
known_topic = Plain kinds.I16 (Plain kinds.Str (Plain kinds.Bool (Array metadata_partition End)))

-- cluster_id, controller_id, topics
abbrev pub behind_brokers : Shape
behind_brokers = Plain kinds.Str (Plain kinds.I32 (Array known_topic End))

-- throttle_time_ms, brokers, and what stands behind them
abbrev pub metadata_response : Shape
metadata_response = Plain kinds.I32 (Array metadata_broker behind_brokers)

-- a text that isn't null is these bytes
abbrev pub is_same_text : List ℕ → Option (List ℕ) → Bool
is_same_text bytes None = false
is_same_text bytes (Some text) = bytes_eq text bytes

-- it has this name, and no error
abbrev pub has_name : List ℕ → Value known_topic → Bool
has_name name topic = int_eq topic.0 (pos 0) && is_same_text name topic.1.0

-- one of the topics has this name, and no error; null has none
abbrev pub is_any_named : List ℕ → Option (List (Value known_topic)) → Bool
is_any_named name None = false
is_any_named name (Some topics) = list_any (has_name name) topics

-- in a response to Metadata of version 4 `is_known` finds the errors and the names of the topics
abbrev pub FindsKnown : List ℕ → Type 0
FindsKnown name =
    ReadsFields (pos 3) (pos 4) Response metadata_response (is_known name) (λ response. is_any_named name response.1.1.1.1.0)
