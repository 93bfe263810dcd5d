-- Which fields of the responses to ListGroups and to DescribeGroups `group-live` reads ("The Messages: ListGroups API",
-- "DescribeGroups API"). It asks DescribeGroups in version 0.
use Rattle.std.specs.Prelude.{ℕ, ℤ, pos, Bool, true, false, ◌&&◌, List, [], ◌∷◌, Option, Some, None}
use Rattle.std.specs.List.{flat_map, list_any}
use Rattle.std.specs.Option.{option_map}
use Rattle.kp_schema.specs.declared.dir.Dir.TheVariants.{Response}
use Rattle.kp_schema.specs.declared.kind.Kind.TheVariants as kinds
use Rattle.kp_schema.specs.Field.{is_between}
use Rattle.tree_spelling.specs.declared.primitive.Primitive.{Primitive}
use Rattle.tree_spelling.specs.Shape.{Shape, End, Plain, Array}
use Rattle.tree_spelling.specs.Value.{Value, items_of}
use Rattle.filter_core.specs.Fields.{ReadsFields}
use Rattle.stock_filters.specs.GroupLive.{listed_items, group_ids, dead_state, is_dead, live_answer}
use Rattle.stock_filters.specs.GroupTrees.{group_shape, groups_shape, live_groups}
use Rattle.stock_filters.specs.FieldsOfMetadata.{is_same_text}

-- ---- ListGroups

-- throttle_time_ms
abbrev pub has_throttle : ℤ → Bool
has_throttle version = is_between (pos 1) (pos 2) version

abbrev pub groups_in : (throttle : Bool) → Value (groups_shape throttle) → Option (List (Value group_shape))
groups_in true response = response.1.1.0
groups_in false response = response.1.0

abbrev pub with_groups : (throttle : Bool) → Option (List (Value group_shape)) → Value (groups_shape throttle) → Value (groups_shape throttle)
with_groups true groups response = (response.0, (response.1.0, (groups, tt)))
with_groups false groups response = (response.0, (groups, tt))

-- null is no id
abbrev pub known_id : Option (List ℕ) → List (List ℕ)
known_id None = []
known_id (Some id) = id ∷ []

-- the ids of the groups, in order; null has none
abbrev pub ids_of : Option (List (Value group_shape)) → List (List ℕ)
ids_of None = []
ids_of (Some groups) = flat_map (λ group. known_id group.0) groups

-- in a response to ListGroups of this version the ids that are found are those of the groups
abbrev pub FindsIds : ℤ → Type 0
FindsIds version =
    ReadsFields (pos 16) version Response (groups_shape (has_throttle version)) (λ items. group_ids (listed_items items)) (λ response. ids_of (groups_in (has_throttle version) response))

-- of a response to ListGroups of this version `live_answer` changes the groups alone: those that aren't gone stay
abbrev pub LeavesGroupsOut : List Primitive → ℤ → Type 0
LeavesGroupsOut described version =
    ReadsFields (pos 16) version Response (groups_shape (has_throttle version)) (live_answer described)
    (λ response. items_of (groups_shape (has_throttle version)) (with_groups (has_throttle version) (option_map (live_groups described) (groups_in (has_throttle version) response)) response))

-- ---- DescribeGroups

-- member_id, client_id, client_host, member_metadata, member_assignment
abbrev pub member_shape : Shape
member_shape = Plain kinds.Str (Plain kinds.Str (Plain kinds.Str (Plain kinds.Bytes (Plain kinds.Bytes End))))

-- error_code, group_id, group_state, protocol_type, protocol_data, members
abbrev pub described_group : Shape
described_group = Plain kinds.I16 (Plain kinds.Str (Plain kinds.Str (Plain kinds.Str (Plain kinds.Str (Array member_shape End)))))

-- groups
abbrev pub description_response : Shape
description_response = Array described_group End

-- it has this id, and is dead
abbrev pub is_dead_group : List ℕ → Value described_group → Bool
is_dead_group id group = is_same_text id group.1.0 && is_same_text dead_state group.1.1.0

-- one of the groups has this id, and is dead; null has none
abbrev pub is_any_dead : List ℕ → Option (List (Value described_group)) → Bool
is_any_dead id None = false
is_any_dead id (Some groups) = list_any (is_dead_group id) groups

-- in a response to DescribeGroups of version 0 `is_dead` finds the ids and the states of the groups
abbrev pub FindsDead : List ℕ → Type 0
FindsDead id = ReadsFields (pos 15) (pos 0) Response description_response (is_dead id) (λ response. is_any_dead id response.0)
