-- What is read and changed of a Produce request are its acks and the names of its topics.
use Rattle.std.proofs.Common.{◌≡◌, refl, ap, ◌∙◌, ℕ, ℤ, pos, Bool, true, false, ◌||◌, List, [], ◌∷◌, ◌++◌, Option, Some, None, append-nil}
use Rattle.std.specs.Prelude.{IsTrue}
use Rattle.std.specs.List.{flat_map, list_any}
use Rattle.std.specs.Ordering.{int_eq}
use Rattle.kp_schema.specs.declared.dir.Dir.TheVariants.{Request, Response}
use Rattle.kp_schema.specs.Field.{is_between}
use Rattle.kp_schema.specs.Messages.{fields_of, messages, is_supported, supported_versions}
use Rattle.kp_schema.specs.Produce as Produce
use Rattle.tree_spelling.specs.declared.primitive.Primitive.{Primitive}
use Rattle.tree_spelling.specs.declared.primitive.Primitive.TheVariants.{Text}
use Rattle.tree_spelling.specs.Shape.{message_shape}
use Rattle.tree_spelling.specs.Value.{Value, array_items, items_of}
use Rattle.filter_core.specs.ProduceFields.{asked_partition, asked_topic, produce_request}
use Rattle.stock_filters.specs.Produce.{has_log_start, has_errors, produce_response, response_shape}
use Rattle.stock_filters.specs.ProduceAll.{with_all_acks}
use Rattle.stock_filters.specs.TopicDeny.{names_listed, request_denied}
use Rattle.stock_filters.specs.FieldsOfProduce.{produce_request_of, acked_by_all, ChangesAcks, is_denied_name, is_any_denied, FindsListed, DeniesEach}

-- ---- the fields of each version

fields_by : (version : ℤ) (known : Bool) → is_between (pos 3) (pos 8) version ≡ known → IsTrue (is_supported (pos 0) version) → message_shape (pos 0) version Request ≡ produce_request
unfolding fields_of messages is_supported supported_versions Produce.request
fields_by version true k supported = rw k refl
fields_by version false k supported = absurd (let e : false ≡ true = rw k at supported in cc)

fields_there : (version : ℤ) → IsTrue (is_supported (pos 0) version) → message_shape (pos 0) version Request ≡ produce_request
fields_there version = fields_by version (is_between (pos 3) (pos 8) version) refl

-- ---- `produce-all`

changed_by : (b : Bool) (version : ℤ) (request : Value produce_request) → int_eq request.1.0 (pos 1) ≡ b
    → (with_all_acks (produce_request_of version (items_of produce_request request))).items ≡ items_of produce_request (acked_by_all request)
changed_by true version request is = rw is refl
changed_by false version request is = rw is refl

pub changes_acks : (version : ℤ) → IsTrue (is_supported (pos 0) version) → ChangesAcks version
changes_acks version supported =
    record { fields_are = fields_there version supported; reads = λ request. changed_by (int_eq request.1.0 (pos 1)) version request refl }

-- ---- `topic-deny`

-- partitions have no text
abbrev HasNoText : List Primitive → List Primitive → Type 0
HasNoText items more = (listed : List (List ℕ)) → list_any (names_listed listed) (items ++ more) ≡ list_any (names_listed listed) more

each_without : (partitions : List (Value asked_partition)) (more : List Primitive) → HasNoText (flat_map (items_of asked_partition) partitions) more
each_without [] more listed = refl
each_without (partition ∷ partitions) more listed = each_without partitions more listed

partitions_without : (partitions : Option (List (Value asked_partition))) (more : List Primitive) → HasNoText (array_items (items_of asked_partition) partitions ++ []) more
partitions_without None more listed = refl
partitions_without (Some partitions) more listed =
    ap (λ xs. list_any (names_listed listed) (xs ++ more)) (append-nil (flat_map (items_of asked_partition) partitions)) ∙ each_without partitions more listed

name_first : (listed : List (List ℕ)) (name : Option (List ℕ)) (rest : Bool) (items : List Primitive) → list_any (names_listed listed) items ≡ rest
    → list_any (names_listed listed) (Text name ∷ items) ≡ (is_denied_name listed name || rest)
name_first listed None rest items is = is
name_first listed (Some name) rest items is = ap (λ b. is_denied_name listed (Some name) || b) is

topics_there : (listed : List (List ℕ)) (topics : List (Value asked_topic)) → list_any (names_listed listed) (flat_map (items_of asked_topic) topics) ≡ list_any (λ topic. is_denied_name listed topic.0) topics
topics_there listed [] = refl
topics_there listed (topic ∷ topics) =
    let others = flat_map (items_of asked_topic) topics in
    name_first listed topic.0 (list_any (λ topic. is_denied_name listed topic.0) topics) ((array_items (items_of asked_partition) topic.1.0 ++ []) ++ others)
    (partitions_without topic.1.0 others listed ∙ topics_there listed topics)

array_there : (listed : List (List ℕ)) (topics : Option (List (Value asked_topic))) → list_any (names_listed listed) (array_items (items_of asked_topic) topics ++ []) ≡ is_any_denied listed topics
array_there listed None = refl
array_there listed (Some topics) =
    ap (λ xs. list_any (names_listed listed) xs) (append-nil (flat_map (items_of asked_topic) topics)) ∙ topics_there listed topics

pub finds_listed : (listed : List (List ℕ)) (version : ℤ) → IsTrue (is_supported (pos 0) version) → FindsListed listed version
finds_listed listed version supported =
    record { fields_are = fields_there version supported; reads = λ request. array_there listed request.1.1.1.0 }

answer_by : (version : ℤ) (known : Bool) → is_between (pos 3) (pos 8) version ≡ known → IsTrue (is_supported (pos 0) version)
    → message_shape (pos 0) version Response ≡ produce_response (has_log_start version) (has_errors version)
unfolding is_supported supported_versions messages
answer_by version true k supported = response_shape version k
answer_by version false k supported = absurd (let e : false ≡ true = rw k at supported in cc)

pub denies_each : (version : ℤ) → IsTrue (is_supported (pos 0) version) → DeniesEach version
denies_each version supported =
    record {
      answer_fields_are = answer_by version (is_between (pos 3) (pos 8) version) refl supported;
      denies = record { fields_are = fields_there version supported; reads = request_denied (has_log_start version) (has_errors version) };
    }
