-- `topic-exists`: topics that the broker knows already are refused before the request is forwarded.
use Rattle.std.specs.Prelude.{◌≡◌, ℕ, ◌≤◌, pos, Bool, true, false, ◌&&◌, ◌||◌, if◌then◌else◌, List, [], ◌∷◌, ◌++◌, length, map, Option, Some, None, is_some}
use Rattle.std.specs.List.{flat_map, list_any}
use Rattle.std.specs.Ordering.{int_eq}
use Rattle.std.specs.Str.{bytes_eq}
use Rattle.std.proofs.Common.{ap, ◌∙◌, refl, arith, rules}
use Rattle.kp_schema.specs.declared.dir.Dir.TheVariants as dir
use Rattle.kp_schema.specs.declared.kind.Kind.TheVariants as kinds
use Rattle.kp_schema.specs.Messages.{fields_of, messages, is_supported, supported_versions}
use Rattle.kp_schema.specs.Metadata as Metadata
use Rattle.tree_spelling.specs.declared.primitive.Primitive.{Primitive}
use Rattle.tree_spelling.specs.declared.primitive.Primitive.TheVariants.{Int16, Boolean, Text, Count}
use Rattle.tree_spelling.specs.Spelling.{AreInRange}
use Rattle.tree_spelling.specs.Shape.{End, Plain}
use Rattle.tree_spelling.specs.Value.{Value, array_items, items_of}
use Rattle.tree_spelling.specs.Body.{Contents, IsTree}
use Rattle.tree_spelling.proofs.Blanks.{in_range-append}
use Rattle.filter_core.specs.declared.input.Input.{Input}
use Rattle.filter_core.specs.declared.input.Input.TheVariants.{Response}
use Rattle.filter_core.specs.Decision.{Decision, Side, Turn}
use Rattle.filter_core.specs.Laws.{IsLawful, WillBeAnswered}
use Rattle.stock_filters.specs.ProduceAll.{both_true}
use Rattle.stock_filters.specs.CreateTopics.{topic_names, max_count, creates_topics, screening}
use Rattle.stock_filters.specs.CreateTopicsTrees.{AreNames}
use Rattle.stock_filters.specs.ScreenLaws.{IsScreen, HasTopics, has_topics, screening_lawful}

-- ---- the question about the names that aren't null: Metadata, version 4

abbrev pub known_name : Option (List ℕ) → List (Option (List ℕ))
known_name None = []
known_name (Some name) = Some name ∷ []

abbrev pub asked_names : List (Option (List ℕ)) → List (Option (List ℕ))
asked_names names = flat_map known_name names

-- whether it is a CreateTopics request with a topic whose name isn't null
abbrev pub creates_named : Contents → Bool
creates_named request = creates_topics request && list_any is_some (topic_names request)

-- topics; allow_auto_topic_creation 0
abbrev pub named_question : List (Option (List ℕ)) → Contents
named_question names =
    record { key = pos 3; version = pos 4; dir = dir.Request; items = Count (Some (length names)) ∷ (map Text names ++ Boolean 0 ∷ []) }

abbrev pub exists_question : Contents → Decision
exists_question request = Side (named_question (asked_names (topic_names request)))

-- ---- what is read of its answer

-- A topic's error code is an INT16 with the topic's name behind it. A partition's has a number behind it.
abbrev pub begins_known : List ℕ → List Primitive → Bool
begins_known name (Int16 error ∷ (Text (Some known) ∷ items)) = int_eq error (pos 0) && bytes_eq known name
begins_known name items = false

abbrev pub is_known : List ℕ → List Primitive → Bool
is_known name [] = false
is_known name (item ∷ items) = begins_known name (item ∷ items) || is_known name items

-- a topic without name never exists
abbrev pub is_new : List Primitive → Option (List ℕ) → Bool
is_new items None = true
is_new items (Some name) = if is_known name items then false else true

abbrev pub metadata_items : Input → List Primitive
metadata_items (Response response) = response.items
metadata_items input = []

abbrev pub exists_flags : Contents → Input → List Bool
exists_flags request input = map (is_new (metadata_items input)) (topic_names request)

-- the others are refused with TOPIC_ALREADY_EXISTS (36)
abbrev pub topic_exists : Turn
topic_exists = screening creates_named exists_question exists_flags (pos 36)

-- ---- why it keeps the laws

asked_by : (name : Option (List ℕ)) (names : List (Option (List ℕ))) → AreNames (name ∷ names) → AreInRange (map Text (asked_names names)) → AreInRange (map Text (asked_names (name ∷ names)))
asked_by None names h g = g
asked_by (Some name) names h g = (h.0, g)

asked_fit : (names : List (Option (List ℕ))) → AreNames names → AreInRange (map Text (asked_names names))
asked_fit [] h = tt
asked_fit (name ∷ names) h = asked_by name names h (asked_fit names h.1)

few_by : (name : Option (List ℕ)) (names : List (Option (List ℕ))) → length (asked_names names) ≤ length names → length (asked_names (name ∷ names)) ≤ length (name ∷ names)
few_by None names h = omega (arith, h)
few_by (Some name) names h = omega (arith, h)

asked_few : (names : List (Option (List ℕ))) → length (asked_names names) ≤ length names
asked_few [] = omega arith
asked_few (name ∷ names) = few_by name names (asked_few names)

abbrev name_values : List (Option (List ℕ)) → List (Value (Plain kinds.Str End))
name_values names = map (λ name. (name, tt)) names

names_are : (names : List (Option (List ℕ))) → map Text names ≡ flat_map (items_of (Plain kinds.Str End)) (name_values names)
names_are [] = refl
names_are (name ∷ names) = ap (λ xs. Text name ∷ xs) (names_are names)

names_count : (names : List (Option (List ℕ))) → length names ≡ length (name_values names)
names_count [] = refl
names_count (name ∷ names) = omega (arith, names_count names)

question_is : (names : List (Option (List ℕ))) → (named_question names).items ≡ array_items (items_of (Plain kinds.Str End)) (Some (name_values names)) ++ (Boolean 0 ∷ [])
question_is names =
    ap (λ xs. Count (Some (length names)) ∷ (xs ++ Boolean 0 ∷ [])) (names_are names)
    ∙ ap (λ n. Count (Some n) ∷ (flat_map (items_of (Plain kinds.Str End)) (name_values names) ++ Boolean 0 ∷ [])) (names_count names)

question_fits : (names : List (Option (List ℕ))) → length names ≤ max_count → AreInRange (map Text names) → AreInRange (named_question names).items
question_fits names few fit = (omega (arith, few), in_range-append (map Text names) (Boolean 0 ∷ []) fit (omega arith, tt))

question_tree : (names : List (Option (List ℕ))) → AreInRange (named_question names).items → IsTree (named_question names)
unfolding fields_of messages Metadata.request
question_tree names fits = record { value = (Some (name_values names), (0, tt)); is = question_is names; in_range = fits }

question_answered : (names : List (Option (List ℕ))) → AreInRange (named_question names).items → WillBeAnswered (named_question names)
unfolding is_supported supported_versions messages
question_answered names fits = record { is_request = record { tree = question_tree names fits; dir_is = refl }; supported = refl; response_comes = refl }

exists_known : (request : Contents) → HasTopics request → WillBeAnswered (named_question (asked_names (topic_names request)))
exists_known request has =
    let few = asked_few (topic_names request) in
    let count : length (asked_names (topic_names request)) ≤ max_count = omega (arith, few, has.few) in
    question_answered (asked_names (topic_names request)) (question_fits (asked_names (topic_names request)) count (asked_fit (topic_names request) has.names))

exists_screens : IsScreen creates_named exists_question (pos 36)
exists_screens =
    record {
      creates = λ request is. (both_true (creates_topics request) (list_any is_some (topic_names request)) is).0;
      known = λ request whole is. exists_known request (has_topics request whole (both_true (creates_topics request) (list_any is_some (topic_names request)) is).0);
      fits = search rules;
    }

pub topic_exists_lawful : IsLawful topic_exists
topic_exists_lawful = screening_lawful creates_named exists_question exists_flags (pos 36) exists_screens
