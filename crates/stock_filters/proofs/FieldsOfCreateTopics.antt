-- The names that are found in a CreateTopics request are those of its topics, and an answer has those that are refused.
use Rattle.std.proofs.Common.{◌≡◌, refl, sym, ap, subst, ◌∙◌, ℕ, ◌+◌, ℤ, pos, Bool, true, false, ◌&&◌, List, [], ◌∷◌, ◌++◌, length, map, Option, Some, None, option_map, Result, Ok, Err, append_assoc}
use Rattle.std.specs.Prelude.{IsTrue, nat_le, if◌then◌else◌}
use Rattle.std.specs.List.{flat_map}
use Rattle.kp_schema.specs.declared.dir.Dir.TheVariants.{Response}
use Rattle.kp_schema.specs.declared.kind.Kind.TheVariants as kinds
use Rattle.kp_schema.specs.Field.{is_between}
use Rattle.kp_schema.specs.Messages.{fields_of, messages, is_supported, supported_versions}
use Rattle.kp_schema.specs.CreateTopics as CreateTopics
use Rattle.tree_spelling.specs.declared.primitive.Primitive.{Primitive}
use Rattle.tree_spelling.specs.declared.primitive.Primitive.TheVariants.{Int32, Count}
use Rattle.tree_spelling.specs.declared.edit_fault.EditFault.{EditFault}
use Rattle.tree_spelling.specs.Shape.{Shape, End, Plain, Array, message_shape}
use Rattle.tree_spelling.specs.Value.{Value, items_of}
use Rattle.tree_spelling.specs.Retaining.{flagged, value_flagged}
use Rattle.tree_spelling.specs.Body.{Contents, body_shape}
use Rattle.tree_spelling.proofs.OneValue.{same_value}
use Rattle.stock_filters.specs.ProduceAll.{both_true}
use Rattle.stock_filters.specs.CreateTopics.{names_behind, max_count, value_in, with_value, with_flagged, has_message, has_wait, refused_topic, wait_items, extended}
use Rattle.stock_filters.specs.CreateTopicsTrees.{created_topic, created_response, response_shape, refused_value, array_of, refused_array, put_behind, value_found}
use Rattle.stock_filters.specs.FieldsOfCreateTopics.{behind_factor, new_topic, behind_topics, create_request, names_of, FindsTopicNames, create_request_of, KeepsFlagged, refusal_value, extended_topics, extended_value, AnswersRefused}

-- ---- fields of which none is an INT16 are no names

abbrev is_nameless : Shape → Bool
is_nameless End = true
is_nameless (Plain kinds.I16 rest) = false
is_nameless (Plain kind rest) = is_nameless rest
is_nameless (Array entry rest) = is_nameless entry && is_nameless rest

-- behind them the names go on, with some text as the last
abbrev GoesOn : Option (List ℕ) → List Primitive → List Primitive → Type 0
GoesOn last items more = (next : Option (List ℕ)) × (names_behind last (items ++ more) ≡ names_behind next more)

abbrev IsNameless : Shape → Type 0
IsNameless shape = (value : Value shape) (last : Option (List ℕ)) (more : List Primitive) → GoesOn last (items_of shape value) more

entries_nameless : (entry : Shape) → IsNameless entry → (entries : List (Value entry)) (last : Option (List ℕ)) (more : List Primitive) → GoesOn last (flat_map (items_of entry) entries) more
entries_nameless entry one [] last more = (last, refl)
entries_nameless entry one (value ∷ entries) last more =
    let behind = flat_map (items_of entry) entries in
    let first = one value last (behind ++ more) in
    let rest = entries_nameless entry one entries first.0 more in
    (rest.0, ap (names_behind last) (append_assoc (items_of entry value) behind more) ∙ first.1 ∙ rest.1)

array_nameless : (entry rest : Shape) → IsNameless entry → IsNameless rest → IsNameless (Array entry rest)
array_nameless entry rest one then_one (None, value) last more = then_one value last more
array_nameless entry rest one then_one (Some entries, value) last more =
    let items = flat_map (items_of entry) entries in
    let first = entries_nameless entry one entries last (items_of rest value ++ more) in
    let behind = then_one value first.0 more in
    (behind.0, ap (names_behind last) (append_assoc items (items_of rest value) more) ∙ first.1 ∙ behind.1)

nameless : (shape : Shape) → is_nameless shape ≡ true → IsNameless shape
nameless End is value last more = (last, refl)
nameless (Plain kinds.I16 rest) is value last more = absurd cc
nameless (Plain kinds.Str rest) is value last more = nameless rest is value.1 value.0 more
nameless (Plain kind rest) is value last more = nameless rest is value.1 last more
nameless (Array entry rest) is value last more =
    let parts = both_true (is_nameless entry) (is_nameless rest) is in
    array_nameless entry rest (nameless entry parts.0) (nameless rest parts.1) value last more

-- ---- the names of the topics

topics_there : (topics : List (Value new_topic)) (last : Option (List ℕ)) (more : List Primitive) → ((text : Option (List ℕ)) → names_behind text more ≡ [])
    → names_behind last (flat_map (items_of new_topic) topics ++ more) ≡ map (λ topic. topic.0) topics
topics_there [] last more none = none last
topics_there (topic ∷ topics) last more none =
    let others = flat_map (items_of new_topic) topics in
    let behind = nameless behind_factor refl topic.1.1.1 topic.0 (others ++ more) in
    ap (λ names. topic.0 ∷ names) (ap (names_behind topic.0) (append_assoc (items_of behind_factor topic.1.1.1) others more) ∙ behind.1 ∙ topics_there topics behind.0 more none)

none_behind : (validate : Bool) (rest : Value (behind_topics validate)) (text : Option (List ℕ)) → names_behind text (items_of (behind_topics validate) rest) ≡ []
none_behind true rest text = refl
none_behind false rest text = refl

names_there : (validate : Bool) (request : Value (create_request validate)) → names_behind None (items_of (create_request validate) request) ≡ names_of request.0
names_there validate (None, rest) = none_behind validate rest None
names_there validate (Some topics, rest) = topics_there topics None (items_of (behind_topics validate) rest) (none_behind validate rest)

by_version : (version : ℤ) (known validate : Bool) → is_between (pos 0) (pos 4) version ≡ known → is_between (pos 1) (pos 4) version ≡ validate
    → IsTrue (is_supported (pos 19) version) → FindsTopicNames version
unfolding fields_of messages is_supported supported_versions CreateTopics.request
by_version version true true k v supported = record { fields_are = rw (k, v) refl; reads = names_there (is_between (pos 1) (pos 4) version) }
by_version version true false k v supported = record { fields_are = rw (k, v) refl; reads = names_there (is_between (pos 1) (pos 4) version) }
by_version version false validate k v supported = absurd (let e : false ≡ true = rw k at supported in cc)

pub finds_topic_names : (version : ℤ) → IsTrue (is_supported (pos 19) version) → FindsTopicNames version
finds_topic_names version = by_version version (is_between (pos 0) (pos 4) version) (is_between (pos 1) (pos 4) version) refl refl

-- ---- what is left of a request

abbrev left_of : (shape : Shape) → List Primitive → Result (Value shape) EditFault → List Primitive
left_of shape items (Ok value) = items_of shape value
left_of shape items (Err fault) = items

abbrev left_in : List Bool → (shape : Shape) → List Primitive → Option (Value shape) → List Primitive
left_in flags shape items None = items
left_in flags shape items (Some value) = left_of shape items (value_flagged shape value (0 ∷ []) flags)

left_is : (request : Contents) (left : Result (Value (body_shape request)) EditFault) → (with_value request left).items ≡ left_of (body_shape request) request.items left
left_is request (Ok value) = refl
left_is request (Err fault) = refl

left_there : (request : Contents) (flags : List Bool) (found : Option (Value (body_shape request))) → (with_flagged request flags found).items ≡ left_in flags (body_shape request) request.items found
left_there request flags None = refl
left_there request flags (Some value) = left_is request (value_flagged (body_shape request) value (0 ∷ []) flags)

flagged_there : (flags : List Bool) (validate : Bool) (request : Value (create_request validate))
    → left_in flags (create_request validate) (items_of (create_request validate) request) (value_in (create_request validate) (items_of (create_request validate) request))
    ≡ items_of (create_request validate) (option_map (flagged flags) request.0, request.1)
flagged_there flags validate request =
    let shape = create_request validate in
    let items = items_of shape request in
    let found = value_found shape items (request, refl) in
    let same : request ≡ found.value = same_value shape request found.value found.items_are in
    ap (left_in flags shape items) (found.is ∙ ap Some (sym same))

pub keeps_flagged : (flags : List Bool) (version : ℤ) → IsTrue (is_supported (pos 19) version) → KeepsFlagged flags version
keeps_flagged flags version supported =
    let validate = is_between (pos 1) (pos 4) version in
    let fields = (finds_topic_names version supported).fields_are in
    record {
      fields_are = fields;
      reads = λ request.
          let items = items_of (create_request validate) request in
          let whole = create_request_of version items in
          left_there whole flags (value_in (body_shape whole) items)
          ∙ subst (λ (shape : Shape). left_in flags shape items (value_in shape items) ≡ items_of (create_request validate) (option_map (flagged flags) request.0, request.1)) (sym fields) (flagged_there flags validate request);
    }

-- ---- the answer about topics that are refused

refusal_there : (wait message : Bool) (error : ℤ) (names : List (Option (List ℕ)))
    → wait_items wait ++ (Count (Some (length names)) ∷ flat_map (refused_topic message error) names)
    ≡ items_of (created_response wait message) (refusal_value wait message (map (refused_value message error) names))
refusal_there true message error names = ap (λ xs. Int32 (pos 0) ∷ xs) (refused_array message error names)
refusal_there false message error names = refused_array message error names

extended_by : (b : Bool) (message : Bool) (error : ℤ) (names : List (Option (List ℕ))) (topics : List (Value (created_topic message))) (old : Option (List (Value (created_topic message))))
    → (if b then Count (Some (length topics + length names)) ∷ ((flat_map (items_of (created_topic message)) topics ++ []) ++ flat_map (refused_topic message error) names) else array_of message old)
    ≡ array_of message (if b then Some (topics ++ map (refused_value message error) names) else old)
extended_by true message error names topics old = put_behind message error names topics
extended_by false message error names topics old = refl

extended_there : (message : Bool) (error : ℤ) (names : List (Option (List ℕ))) (topics : Option (List (Value (created_topic message))))
    → extended (length names) (flat_map (refused_topic message error) names) (array_of message topics) ≡ array_of message (extended_topics message error names topics)
extended_there message error names None = extended_by (nat_le (0 + length names) max_count) message error names [] None
extended_there message error names (Some topics) = extended_by (nat_le (length topics + length names) max_count) message error names topics (Some topics)

answer_there : (wait message : Bool) (error : ℤ) (names : List (Option (List ℕ))) (response : Value (created_response wait message))
    → extended (length names) (flat_map (refused_topic message error) names) (items_of (created_response wait message) response)
    ≡ items_of (created_response wait message) (extended_value wait message error names response)
answer_there true message error names response = ap (λ xs. Int32 response.0 ∷ xs) (extended_there message error names response.1.0)
answer_there false message error names response = extended_there message error names response.0

answer_by : (version : ℤ) (known : Bool) → is_between (pos 0) (pos 4) version ≡ known → IsTrue (is_supported (pos 19) version)
    → message_shape (pos 19) version Response ≡ created_response (has_wait version) (has_message version)
unfolding messages is_supported supported_versions
answer_by version true k supported = response_shape version k
answer_by version false k supported = absurd (let e : false ≡ true = rw k at supported in cc)

pub answers_refused : (error : ℤ) (names : List (Option (List ℕ))) (version : ℤ) → IsTrue (is_supported (pos 19) version) → AnswersRefused error names version
answers_refused error names version supported =
    record {
      all_refused = refusal_there (has_wait version) (has_message version) error names;
      some_refused = record { fields_are = answer_by version (is_between (pos 0) (pos 4) version) refl supported; reads = answer_there (has_wait version) (has_message version) error names };
    }
