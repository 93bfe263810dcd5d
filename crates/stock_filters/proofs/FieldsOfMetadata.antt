-- The topics that are found in a response to Metadata are those without error.
use Rattle.std.proofs.Common.{◌≡◌, refl, ap, ◌∙◌, ℕ, pos, Bool, true, false, ◌&&◌, ◌||◌, List, [], ◌∷◌, ◌++◌, Option, Some, None, append_assoc, append-nil}
use Rattle.std.specs.List.{flat_map, list_any}
use Rattle.std.specs.Ordering.{int_eq}
use Rattle.kp_schema.specs.Messages.{fields_of, messages}
use Rattle.kp_schema.specs.Metadata as Metadata
use Rattle.tree_spelling.specs.declared.primitive.Primitive.{Primitive}
use Rattle.tree_spelling.specs.declared.primitive.Primitive.TheVariants.{Int16, Text}
use Rattle.tree_spelling.specs.Value.{Value, array_items, items_of}
use Rattle.stock_filters.specs.TopicExists.{is_known}
use Rattle.stock_filters.specs.FieldsOfMetadata.{metadata_broker, metadata_node, metadata_partition, known_topic, behind_brokers, has_name, is_any_named, FindsKnown}

-- ---- fields that name no topic

-- they change nothing
abbrev NamesNone : List Primitive → List Primitive → Type 0
NamesNone items more = (name : List ℕ) → is_known name (items ++ more) ≡ is_known name more

brokers_pass : (brokers : List (Value metadata_broker)) (more : List Primitive) → NamesNone (flat_map (items_of metadata_broker) brokers) more
brokers_pass [] more name = refl
brokers_pass (broker ∷ brokers) more name = brokers_pass brokers more name

nodes_pass : (nodes : List (Value metadata_node)) (more : List Primitive) → NamesNone (flat_map (items_of metadata_node) nodes) more
nodes_pass [] more name = refl
nodes_pass (node ∷ nodes) more name = nodes_pass nodes more name

node_array_passes : (nodes : Option (List (Value metadata_node))) (more : List Primitive) → NamesNone (array_items (items_of metadata_node) nodes) more
node_array_passes None more name = refl
node_array_passes (Some nodes) more name = nodes_pass nodes more name

partition_passes : (partition : Value metadata_partition) (more : List Primitive) → NamesNone (items_of metadata_partition partition) more
partition_passes partition more name =
    let replicas = array_items (items_of metadata_node) partition.1.1.1.0 in
    let in_sync = array_items (items_of metadata_node) partition.1.1.1.1.0 in
    ap (is_known name) (append_assoc replicas (in_sync ++ []) more)
    ∙ node_array_passes partition.1.1.1.0 ((in_sync ++ []) ++ more) name
    ∙ ap (λ xs. is_known name (xs ++ more)) (append-nil in_sync)
    ∙ node_array_passes partition.1.1.1.1.0 more name

partitions_pass : (partitions : List (Value metadata_partition)) (more : List Primitive) → NamesNone (flat_map (items_of metadata_partition) partitions) more
partitions_pass [] more name = refl
partitions_pass (partition ∷ partitions) more name =
    let others = flat_map (items_of metadata_partition) partitions in
    ap (is_known name) (append_assoc (items_of metadata_partition partition) others more)
    ∙ partition_passes partition (others ++ more) name
    ∙ partitions_pass partitions more name

partition_array_passes : (partitions : Option (List (Value metadata_partition))) (more : List Primitive) → NamesNone (array_items (items_of metadata_partition) partitions ++ []) more
partition_array_passes None more name = refl
partition_array_passes (Some partitions) more name =
    ap (λ xs. is_known name (xs ++ more)) (append-nil (flat_map (items_of metadata_partition) partitions)) ∙ partitions_pass partitions more name

-- ---- the topics

no_name : (b rest known : Bool) → known ≡ rest → known ≡ ((b && false) || rest)
no_name true rest known is = is
no_name false rest known is = is

named_first : (name : List ℕ) (topic : Value known_topic) (more : List Primitive) (rest : Bool) → is_known name more ≡ rest
    → is_known name (Int16 topic.0 ∷ (Text topic.1.0 ∷ more)) ≡ (has_name name topic || rest)
named_first name (error, (None, others)) more rest is = no_name (int_eq error (pos 0)) rest (is_known name more) is
named_first name (error, (Some known, others)) more rest is = ap (λ b. has_name name (error, (Some known, others)) || b) is

topics_there : (name : List ℕ) (topics : List (Value known_topic)) → is_known name (flat_map (items_of known_topic) topics) ≡ list_any (has_name name) topics
topics_there name [] = refl
topics_there name (topic ∷ topics) =
    let others = flat_map (items_of known_topic) topics in
    named_first name topic _ (list_any (has_name name) topics) (partition_array_passes topic.1.1.1.0 others name ∙ topics_there name topics)

topic_array_there : (name : List ℕ) (topics : Option (List (Value known_topic))) → is_known name (array_items (items_of known_topic) topics ++ []) ≡ is_any_named name topics
topic_array_there name None = refl
topic_array_there name (Some topics) =
    ap (is_known name) (append-nil (flat_map (items_of known_topic) topics)) ∙ topics_there name topics

brokers_there : (name : List ℕ) (brokers : Option (List (Value metadata_broker))) (rest : Value behind_brokers)
    → is_known name (array_items (items_of metadata_broker) brokers ++ items_of behind_brokers rest) ≡ is_any_named name rest.1.1.0
brokers_there name None rest = topic_array_there name rest.1.1.0
brokers_there name (Some brokers) rest = brokers_pass brokers (items_of behind_brokers rest) name ∙ topic_array_there name rest.1.1.0

pub finds_known : (name : List ℕ) → FindsKnown name
unfolding fields_of messages Metadata.response
finds_known name = record { fields_are = refl; reads = λ response. brokers_there name response.1.0 response.1.1 }
