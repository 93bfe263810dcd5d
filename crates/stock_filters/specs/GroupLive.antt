-- `group-live`: of the groups that a broker lists pass those that it doesn't describe as dead.
use Rattle.std.specs.Prelude.{◌≡◌, ℕ, ◌+◌, pos, Bool, false, ◌&&◌, ◌||◌, if◌then◌else◌, List, [], ◌∷◌, length, map, Option, Some, None}
use Rattle.std.specs.Option.{option_map}
use Rattle.std.specs.Ordering.{int_eq}
use Rattle.std.specs.Str.{bytes_eq}
use Rattle.kp_schema.specs.declared.dir.Dir.TheVariants as dir
use Rattle.tree_spelling.specs.declared.primitive.Primitive.{Primitive}
use Rattle.tree_spelling.specs.declared.primitive.Primitive.TheVariants.{Int16, Text, Count}
use Rattle.tree_spelling.specs.Body.{Contents}
use Rattle.filter_core.specs.declared.input.Input.{Input}
use Rattle.filter_core.specs.declared.input.Input.TheVariants.{Response}
use Rattle.filter_core.specs.Decision.{Decision, Forward, Side, Return, Turn}
use Rattle.filter_core.specs.Responses.{response_given}
use Rattle.filter_core.specs.TwoTurns.{handed_back}

-- ---- what is read of the first answer

abbrev pub lists_groups : Contents → Bool
lists_groups request = int_eq request.key (pos 16)

-- the groups stand behind the first count
abbrev pub listed_items : List Primitive → List Primitive
listed_items [] = []
listed_items (Count (Some entries) ∷ groups) = groups
listed_items (item ∷ items) = listed_items items

-- each is its id and its protocol type. Null is no id.
abbrev pub group_ids : List Primitive → List (List ℕ)
group_ids (Text (Some id) ∷ (Text protocol ∷ groups)) = id ∷ group_ids groups
group_ids (Text None ∷ (Text protocol ∷ groups)) = group_ids groups
group_ids items = []

abbrev pub listed_ids : Contents → List (List ℕ)
listed_ids response = group_ids (listed_items response.items)

-- ---- the question about them: DescribeGroups, version 0

abbrev pub id_item : List ℕ → Primitive
id_item id = Text (Some id)

abbrev pub group_question : List (List ℕ) → Contents
group_question ids = record { key = pos 15; version = pos 0; dir = dir.Request; items = Count (Some (length ids)) ∷ map id_item ids }

-- ---- what is read of its answer

-- `Dead`
abbrev pub dead_state : List ℕ
dead_state = 68 ∷ (101 ∷ (97 ∷ (100 ∷ [])))

-- A group's error code is the only INT16 there. The group's id and its state stand behind it.
abbrev pub begins_dead : List ℕ → List Primitive → Bool
begins_dead id (Int16 error ∷ (Text (Some group) ∷ (Text (Some state) ∷ items))) = bytes_eq group id && bytes_eq state dead_state
begins_dead id items = false

abbrev pub is_dead : List ℕ → List Primitive → Bool
is_dead id [] = false
is_dead id (item ∷ items) = begins_dead id (item ∷ items) || is_dead id items

-- a group that isn't described stays, and so does one without id
abbrev pub is_gone : List Primitive → Option (List ℕ) → Bool
is_gone described None = false
is_gone described (Some id) = is_dead id described

-- ---- the first answer without the groups that are dead

abbrev pub live_items : List Primitive → List Primitive → List Primitive
live_items described (Text id ∷ (Text protocol ∷ groups)) =
    if is_gone described id then live_items described groups else Text id ∷ (Text protocol ∷ live_items described groups)
live_items described items = []

abbrev pub live_count : List Primitive → List Primitive → ℕ
live_count described (Text id ∷ (Text protocol ∷ groups)) =
    if is_gone described id then live_count described groups else 1 + live_count described groups
live_count described items = 0

abbrev pub live_answer : List Primitive → List Primitive → List Primitive
live_answer described [] = []
live_answer described (Count (Some entries) ∷ groups) = Count (Some (live_count described groups)) ∷ live_items described groups
live_answer described (item ∷ items) = item ∷ live_answer described items

abbrev pub live_response : List Primitive → Contents → Contents
live_response described response = record response { items = live_answer described response.items }

-- ---- its turn

-- where no id is listed the answer goes back as it came
abbrev pub asked_about : Contents → List (List ℕ) → Decision
asked_about response [] = Return (Some response)
asked_about response (id ∷ ids) = Side (group_question (id ∷ ids))

abbrev pub on_listing : Input → Decision
on_listing (Response response) = asked_about response (listed_ids response)
on_listing input = handed_back input

abbrev pub described_by : Input → List Primitive
described_by (Response response) = response.items
described_by input = []

abbrev pub group_live : Turn
group_live request [] = Forward request
group_live request (listing ∷ []) = if lists_groups request then on_listing listing else handed_back listing
group_live request (listing ∷ (description ∷ inputs)) = Return (option_map (live_response (described_by description)) (response_given listing))

-- What it keeps: whether the request is one of its own, or the first answer.
abbrev pub IsWaitingForGroups : Bool → Option Contents → Contents → List Input → Type 0
IsWaitingForGroups lists None request inputs = (inputs ≡ []) × (lists ≡ lists_groups request)
IsWaitingForGroups lists (Some response) request inputs = inputs ≡ Response response ∷ []

-- what is kept with the question
abbrev pub KeepsListing : Option Contents → Input → Type 0
KeepsListing None input = ⊥
KeepsListing (Some response) input = input ≡ Response response

-- the items begin with no group
pub record HasNoGroup (items : List Primitive) : Type 0 where
  pub ids : group_ids items ≡ []
  pub live : (described : List Primitive) → live_items described items ≡ []
  pub count : (described : List Primitive) → live_count described items ≡ 0
