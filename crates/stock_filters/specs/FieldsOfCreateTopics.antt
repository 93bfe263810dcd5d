-- Which fields of a CreateTopics request are the names of its topics, and where refused topics stand in an answer
-- ("The Messages: CreateTopics API").
use Rattle.std.specs.Prelude.{◌≡◌, ℕ, ◌+◌, ℤ, pos, Bool, true, false, nat_le, if◌then◌else◌, List, [], ◌++◌, length, map, Option, Some, None}
use Rattle.std.specs.Option.{option_map}
use Rattle.kp_schema.specs.declared.dir.Dir.TheVariants.{Request, Response}
use Rattle.kp_schema.specs.declared.kind.Kind.TheVariants as kinds
use Rattle.kp_schema.specs.Field.{is_between}
use Rattle.tree_spelling.specs.declared.primitive.Primitive.{Primitive}
use Rattle.tree_spelling.specs.Shape.{Shape, End, Plain, Array}
use Rattle.tree_spelling.specs.Value.{Value, items_of}
use Rattle.tree_spelling.specs.Retaining.{flagged}
use Rattle.tree_spelling.specs.Body.{Contents}
use Rattle.filter_core.specs.Fields.{ReadsFields}
use Rattle.stock_filters.specs.CreateTopics.{names_behind, max_count, has_message, with_topics, has_wait, refusal, with_refused}
use Rattle.stock_filters.specs.CreateTopicsTrees.{created_topic, created_response, refused_value}

-- index, broker_ids
abbrev pub assignment_shape : Shape
assignment_shape = Plain kinds.I32 (Array (Plain kinds.I32 End) End)

-- name, value
abbrev pub config_shape : Shape
config_shape = Plain kinds.Str (Plain kinds.Str End)

-- assignments, configs
abbrev pub behind_factor : Shape
behind_factor = Array assignment_shape (Array config_shape End)

-- name, num_partitions, replication_factor, and what stands behind it
abbrev pub new_topic : Shape
new_topic = Plain kinds.Str (Plain kinds.I32 (Plain kinds.I16 behind_factor))

-- timeout_ms, and validate_only from version 1 on
abbrev pub behind_topics : Bool → Shape
behind_topics true = Plain kinds.I32 (Plain kinds.Bool End)
behind_topics false = Plain kinds.I32 End

-- topics, and what stands behind them
abbrev pub create_request : Bool → Shape
create_request validate = Array new_topic (behind_topics validate)

abbrev pub has_validate : ℤ → Bool
has_validate version = is_between (pos 1) (pos 4) version

-- the names of the topics, in order; null has none
abbrev pub names_of : Option (List (Value new_topic)) → List (Option (List ℕ))
names_of None = []
names_of (Some topics) = map (λ topic. topic.0) topics

-- in a CreateTopics request of this version `names_behind` finds the names of the topics
abbrev pub FindsTopicNames : ℤ → Type 0
FindsTopicNames version =
    ReadsFields (pos 19) version Request (create_request (has_validate version)) (names_behind None) (λ request. names_of request.0)

abbrev pub create_request_of : ℤ → List Primitive → Contents
create_request_of version items = record { key = pos 19; version = version; dir = Request; items = items }

-- in a CreateTopics request of this version `with_topics` leaves the topics whose flag is true, and all else as it was;
-- null stays null
abbrev pub KeepsFlagged : List Bool → ℤ → Type 0
KeepsFlagged flags version =
    ReadsFields (pos 19) version Request (create_request (has_validate version)) (λ items. (with_topics flags (create_request_of version items)).items)
    (λ request. items_of (create_request (has_validate version)) (option_map (flagged flags) request.0, request.1))

-- ---- the answer about topics that are refused

abbrev pub create_response_of : ℤ → List Primitive → Contents
create_response_of version items = record { key = pos 19; version = version; dir = Response; items = items }

-- throttle_time_ms 0, and these topics
abbrev pub refusal_value : (wait message : Bool) → List (Value (created_topic message)) → Value (created_response wait message)
refusal_value true message topics = (pos 0, (Some topics, tt))
refusal_value false message topics = (Some topics, tt)

-- null counts as empty
abbrev pub given_topics : {A : Type 0} → Option (List A) → List A
given_topics None = []
given_topics (Some topics) = topics

-- The refused topics behind the others. Where a count couldn't say how many there are, none is put.
abbrev pub extended_topics : (message : Bool) → ℤ → List (Option (List ℕ)) → Option (List (Value (created_topic message))) → Option (List (Value (created_topic message)))
extended_topics message error names topics =
    if nat_le (length (given_topics topics) + length names) max_count then Some (given_topics topics ++ map (refused_value message error) names) else topics

abbrev pub extended_value : (wait message : Bool) → ℤ → List (Option (List ℕ)) → Value (created_response wait message) → Value (created_response wait message)
extended_value true message error names response = (response.0, (extended_topics message error names response.1.0, tt))
extended_value false message error names response = (extended_topics message error names response.0, tt)

-- In an answer of this version each refused topic has its name and this error: alone, and behind those that the broker
-- answers, of which `with_refused` changes nothing else.
pub record AnswersRefused (error : ℤ) (names : List (Option (List ℕ))) (version : ℤ) : Type 0 where
  pub all_refused : (refusal error version names).items
      ≡ items_of (created_response (has_wait version) (has_message version)) (refusal_value (has_wait version) (has_message version) (map (refused_value (has_message version) error) names))
  pub some_refused : ReadsFields (pos 19) version Response (created_response (has_wait version) (has_message version)) (λ items. (with_refused error names (create_response_of version items)).items)
      (λ response. items_of (created_response (has_wait version) (has_message version)) (extended_value (has_wait version) (has_message version) error names response))
