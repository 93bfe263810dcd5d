-- CreateTopics requests of which some topics are refused ("The Messages: CreateTopics API").
use Rattle.std.specs.Prelude.{◌≡◌, ℕ, ◌+◌, ℤ, pos, Bool, true, false, ◌&&◌, nat_le, if◌then◌else◌, List, [], ◌∷◌, ◌++◌, length, Option, Some, None, Result, Ok, Err}
use Rattle.std.specs.List.{flat_map, list_all, list_any}
use Rattle.std.specs.Option.{option_map}
use Rattle.std.specs.Ordering.{int_eq}
use Rattle.std.proofs.Common.{refl}
use Rattle.kp_schema.specs.declared.dir.Dir.TheVariants as dir
use Rattle.kp_schema.specs.Field.{is_between}
use Rattle.tree_spelling.specs.declared.primitive.Primitive.{Primitive}
use Rattle.tree_spelling.specs.declared.primitive.Primitive.TheVariants.{Int16, Int32, Text, Count}
use Rattle.tree_spelling.specs.declared.edit_fault.EditFault.{EditFault}
use Rattle.tree_spelling.specs.Shape.{Shape}
use Rattle.tree_spelling.specs.Value.{Value, items_of}
use Rattle.tree_spelling.specs.Agenda.{passed}
use Rattle.tree_spelling.specs.Retaining.{value_flagged}
use Rattle.tree_spelling.specs.Body.{Contents, body_shape}
use Rattle.tree_spelling.proofs.Coming.{value_of}
use Rattle.filter_core.specs.declared.input.Input.{Input}
use Rattle.filter_core.specs.Decision.{Decision, Forward, Return, Turn}
use Rattle.filter_core.specs.Responses.{response_given}
use Rattle.filter_core.specs.TwoTurns.{handed_back}

-- ---- the topics of a request

-- A topic's name is the last text in front of its replication_factor, and no other field of the request is an INT16.
abbrev pub names_behind : Option (List ℕ) → List Primitive → List (Option (List ℕ))
names_behind last [] = []
names_behind last (Text text ∷ items) = names_behind text items
names_behind last (Int16 replication ∷ items) = last ∷ names_behind last items
names_behind last (item ∷ items) = names_behind last items

abbrev pub topic_names : Contents → List (Option (List ℕ))
topic_names request = names_behind None request.items

abbrev pub max_count : ℕ
max_count = 2147483647

abbrev pub is_some_names : List (Option (List ℕ)) → Bool
is_some_names [] = false
is_some_names (name ∷ names) = nat_le (length (name ∷ names)) max_count

-- whether it is a CreateTopics request with one topic or more. A count can't say more than 2^31 - 1.
abbrev pub creates_topics : Contents → Bool
creates_topics request = int_eq request.key (pos 19) && is_some_names (topic_names request)

-- ---- a request with some of its topics

abbrev pub value_when : (shape : Shape) (items : List Primitive) (todo : Option (List Shape)) → passed (shape ∷ []) items ≡ todo → Option (Value shape)
value_when shape items None come = None
value_when shape items (Some []) come = Some (value_of shape items come).0
value_when shape items (Some (next ∷ todo)) come = None

-- the tree whose items these are, if there is one of this shape
abbrev pub value_in : (shape : Shape) → List Primitive → Option (Value shape)
value_in shape items = value_when shape items (passed (shape ∷ []) items) refl

abbrev pub with_value : (request : Contents) → Result (Value (body_shape request)) EditFault → Contents
with_value request (Ok value) = record request { items = items_of (body_shape request) value }
with_value request (Err fault) = request

abbrev pub with_flagged : (request : Contents) → List Bool → Option (Value (body_shape request)) → Contents
with_flagged request flags None = request
with_flagged request flags (Some value) = with_value request (value_flagged (body_shape request) value (0 ∷ []) flags)

-- The request with those topics alone whose flag is true. They are its first field.
abbrev pub with_topics : List Bool → Contents → Contents
with_topics flags request = with_flagged request flags (value_in (body_shape request) request.items)

-- ---- the answer about topics that are refused

abbrev pub has_message : ℤ → Bool
has_message version = is_between (pos 1) (pos 4) version

abbrev pub has_wait : ℤ → Bool
has_wait version = is_between (pos 2) (pos 4) version

-- error_message null
abbrev pub message_items : Bool → List Primitive
message_items true = Text None ∷ []
message_items false = []

-- name, error_code, and what the version has behind them
abbrev pub refused_topic : Bool → ℤ → Option (List ℕ) → List Primitive
refused_topic message error name = Text name ∷ (Int16 error ∷ message_items message)

abbrev pub refused_topics : ℤ → ℤ → List (Option (List ℕ)) → List Primitive
refused_topics error version names = flat_map (refused_topic (has_message version) error) names

-- throttle_time_ms 0
abbrev pub wait_items : Bool → List Primitive
wait_items true = Int32 (pos 0) ∷ []
wait_items false = []

-- all of these topics with this error
abbrev pub refusal : ℤ → ℤ → List (Option (List ℕ)) → Contents
refusal error version names =
    record { key = pos 19; version = version; dir = dir.Response; items = wait_items (has_wait version) ++ (Count (Some (length names)) ∷ refused_topics error version names) }

abbrev pub or_zero : Option ℕ → ℕ
or_zero None = 0
or_zero (Some entries) = entries

-- So many entries more behind those of the array, which is the last field. Null counts as empty. Where a count couldn't
-- say how many there are, none is put.
abbrev pub extended : ℕ → List Primitive → List Primitive → List Primitive
extended count more [] = []
extended count more (Count entries ∷ items) =
    if nat_le (or_zero entries + count) max_count then Count (Some (or_zero entries + count)) ∷ (items ++ more) else Count entries ∷ items
extended count more (item ∷ items) = item ∷ extended count more items

-- the broker's answer with these topics behind its own
abbrev pub with_refused : ℤ → List (Option (List ℕ)) → Contents → Contents
with_refused error names response =
    record response { items = extended (length names) (refused_topics error response.version names) response.items }

-- ---- what is done once it is known which topics may be created: their flags are true

abbrev pub is_flagged : Bool → Bool
is_flagged flag = flag

abbrev pub refused_names : List Bool → List (Option (List ℕ)) → List (Option (List ℕ))
refused_names flags [] = []
refused_names [] (name ∷ names) = []
refused_names (flag ∷ flags) (name ∷ names) = if flag then refused_names flags names else name ∷ refused_names flags names

abbrev pub go_on : ℤ → Contents → List Bool → Decision
go_on error request flags =
    if list_all is_flagged flags then Forward request
    else if list_any is_flagged flags then Forward (with_topics flags request)
    else Return (Some (refusal error request.version (topic_names request)))

abbrev pub come_back : ℤ → Contents → List Bool → Input → Option Contents
come_back error request flags input =
    if list_all is_flagged flags then response_given input
    else option_map (with_refused error (refused_names flags (topic_names request))) (response_given input)

-- A filter of CreateTopics requests: which it acts on, what it asks about them, which topics may be created by the answer,
-- and the error of the others.
abbrev pub screening : (Contents → Bool) → (Contents → Decision) → (Contents → Input → List Bool) → ℤ → Turn
screening acts question flags error request [] = if acts request then question request else Forward request
screening acts question flags error request (answer ∷ []) = if acts request then go_on error request (flags request answer) else handed_back answer
screening acts question flags error request (answer ∷ (input ∷ inputs)) = Return (come_back error request (flags request answer) input)

-- ---- what such a filter keeps

-- it hands back what comes, or puts these names behind it
abbrev pub back_with : ℤ → Bool → List (Option (List ℕ)) → Input → Decision
back_with error false names input = Return (response_given input)
back_with error true names input = Return (option_map (with_refused error names) (response_given input))

-- what it keeps as it forwards the request
abbrev pub KeepsRefused : Contents → List Bool → Option Contents → Bool → List (Option (List ℕ)) → Type 0
KeepsRefused request flags (Some held) refuses names = ⊥
KeepsRefused request flags None false names = list_all is_flagged flags ≡ true
KeepsRefused request flags None true names = (list_all is_flagged flags ≡ false) × (names ≡ refused_names flags (topic_names request))

-- It waits for its answer with the request, or for the broker's, with the names that are refused.
abbrev pub IsScreening : (Contents → Bool) → (Contents → Decision) → (Contents → Input → List Bool) → ℤ → Option Contents → Bool → List (Option (List ℕ)) → Contents → List Input → Type 0
IsScreening acts question flags error (Some held) refuses names request inputs = (inputs ≡ []) × (acts request ≡ true) × (held ≡ request)
IsScreening acts question flags error None refuses names request inputs =
    (input : Input) → screening acts question flags error request (inputs ++ input ∷ []) ≡ back_with error refuses names input
