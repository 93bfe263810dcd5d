-- The groups that are found are those that are listed, and those that are described as dead.
use Rattle.std.proofs.Common.{◌≡◌, refl, ap, ◌∙◌, ℕ, ℤ, pos, Bool, true, false, ◌&&◌, ◌||◌, List, [], ◌∷◌, ◌++◌, Option, Some, None, append-nil}
use Rattle.std.specs.Prelude.{IsTrue}
use Rattle.std.specs.List.{flat_map, list_any}
use Rattle.std.specs.Option.{option_map}
use Rattle.std.specs.Str.{bytes_eq}
use Rattle.kp_schema.specs.declared.dir.Dir.TheVariants.{Response}
use Rattle.kp_schema.specs.Field.{is_between}
use Rattle.kp_schema.specs.Messages.{fields_of, messages, is_supported, supported_versions}
use Rattle.kp_schema.specs.ListGroups as ListGroups
use Rattle.kp_schema.specs.DescribeGroups as DescribeGroups
use Rattle.tree_spelling.specs.declared.primitive.Primitive.{Primitive}
use Rattle.tree_spelling.specs.declared.primitive.Primitive.TheVariants.{Int16, Int32, Text}
use Rattle.tree_spelling.specs.Shape.{message_shape}
use Rattle.tree_spelling.specs.Value.{Value, array_items, items_of}
use Rattle.stock_filters.specs.GroupLive.{listed_items, group_ids, dead_state, is_dead, live_answer}
use Rattle.stock_filters.specs.GroupTrees.{group_shape, groups_shape, live_groups, flat, array_of, live_array}
use Rattle.stock_filters.specs.FieldsOfMetadata.{is_same_text}
use Rattle.stock_filters.specs.FieldsOfGroups.{has_throttle, groups_in, with_groups, known_id, ids_of, FindsIds, LeavesGroupsOut, member_shape, described_group, is_dead_group, is_any_dead, FindsDead}

-- ---- ListGroups

fields_by : (version : ℤ) (known throttle : Bool) → is_between (pos 0) (pos 2) version ≡ known → is_between (pos 1) (pos 2) version ≡ throttle
    → IsTrue (is_supported (pos 16) version) → message_shape (pos 16) version Response ≡ groups_shape (has_throttle version)
unfolding fields_of messages is_supported supported_versions ListGroups.response
fields_by version true true k t supported = rw (k, t) refl
fields_by version true false k t supported = rw (k, t) refl
fields_by version false throttle k t supported = absurd (let e : false ≡ true = rw k at supported in cc)

fields_there : (version : ℤ) → IsTrue (is_supported (pos 16) version) → message_shape (pos 16) version Response ≡ groups_shape (has_throttle version)
fields_there version = fields_by version (is_between (pos 0) (pos 2) version) (is_between (pos 1) (pos 2) version) refl refl

first_id : (id protocol : Option (List ℕ)) (groups : List Primitive) (ids : List (List ℕ)) → group_ids groups ≡ ids → group_ids (Text id ∷ (Text protocol ∷ groups)) ≡ known_id id ++ ids
first_id None protocol groups ids is = is
first_id (Some id) protocol groups ids is = ap (λ others. id ∷ others) is

ids_there : (groups : List (Value group_shape)) → group_ids (flat groups) ≡ flat_map (λ group. known_id group.0) groups
ids_there [] = refl
ids_there (group ∷ groups) = first_id group.0 group.1.0 (flat groups) (flat_map (λ group. known_id group.0) groups) (ids_there groups)

array_there : (groups : Option (List (Value group_shape))) → group_ids (listed_items (array_of groups)) ≡ ids_of groups
array_there None = refl
array_there (Some groups) = ap group_ids (append-nil (flat groups)) ∙ ids_there groups

listed_there : (throttle : Bool) (response : Value (groups_shape throttle)) → group_ids (listed_items (items_of (groups_shape throttle) response)) ≡ ids_of (groups_in throttle response)
listed_there true response = array_there response.1.1.0
listed_there false response = array_there response.1.0

pub finds_ids : (version : ℤ) → IsTrue (is_supported (pos 16) version) → FindsIds version
finds_ids version supported =
    record { fields_are = fields_there version supported; reads = listed_there (has_throttle version) }

live_there : (described : List Primitive) (throttle : Bool) (response : Value (groups_shape throttle))
    → live_answer described (items_of (groups_shape throttle) response)
    ≡ items_of (groups_shape throttle) (with_groups throttle (option_map (live_groups described) (groups_in throttle response)) response)
live_there described true response = ap (λ xs. Int32 response.0 ∷ (Int16 response.1.0 ∷ xs)) (live_array described response.1.1.0)
live_there described false response = ap (λ xs. Int16 response.0 ∷ xs) (live_array described response.1.0)

pub leaves_groups_out : (described : List Primitive) (version : ℤ) → IsTrue (is_supported (pos 16) version) → LeavesGroupsOut described version
leaves_groups_out described version supported =
    record { fields_are = fields_there version supported; reads = live_there described (has_throttle version) }

-- ---- DescribeGroups

members_pass : (id : List ℕ) (members : List (Value member_shape)) (more : List Primitive) → is_dead id (flat_map (items_of member_shape) members ++ more) ≡ is_dead id more
members_pass id [] more = refl
members_pass id (member ∷ members) more = members_pass id members more

member_array_passes : (id : List ℕ) (members : Option (List (Value member_shape))) (more : List Primitive)
    → is_dead id ((array_items (items_of member_shape) members ++ []) ++ more) ≡ is_dead id more
member_array_passes id None more = refl
member_array_passes id (Some members) more =
    ap (λ xs. is_dead id (xs ++ more)) (append-nil (flat_map (items_of member_shape) members)) ∙ members_pass id members more

no_state : (b rest dead : Bool) → dead ≡ rest → dead ≡ ((b && false) || rest)
no_state true rest dead is = is
no_state false rest dead is = is

dead_first : (id : List ℕ) (error : ℤ) (group state protocol_type protocol_data : Option (List ℕ)) (more : List Primitive) (rest : Bool) → is_dead id more ≡ rest
    → is_dead id (Int16 error ∷ (Text group ∷ (Text state ∷ (Text protocol_type ∷ (Text protocol_data ∷ more))))) ≡ ((is_same_text id group && is_same_text dead_state state) || rest)
dead_first id error None state protocol_type protocol_data more rest is = is
dead_first id error (Some group) None protocol_type protocol_data more rest is = no_state (bytes_eq group id) rest (is_dead id more) is
dead_first id error (Some group) (Some state) protocol_type protocol_data more rest is =
    ap (λ b. (bytes_eq group id && bytes_eq state dead_state) || b) is

groups_there : (id : List ℕ) (groups : List (Value described_group)) → is_dead id (flat_map (items_of described_group) groups) ≡ list_any (is_dead_group id) groups
groups_there id [] = refl
groups_there id (group ∷ groups) =
    let others = flat_map (items_of described_group) groups in
    dead_first id group.0 group.1.0 group.1.1.0 group.1.1.1.0 group.1.1.1.1.0 ((array_items (items_of member_shape) group.1.1.1.1.1.0 ++ []) ++ others) (list_any (is_dead_group id) groups)
    (member_array_passes id group.1.1.1.1.1.0 others ∙ groups_there id groups)

group_array_there : (id : List ℕ) (groups : Option (List (Value described_group))) → is_dead id (array_items (items_of described_group) groups ++ []) ≡ is_any_dead id groups
group_array_there id None = refl
group_array_there id (Some groups) =
    ap (is_dead id) (append-nil (flat_map (items_of described_group) groups)) ∙ groups_there id groups

pub finds_dead : (id : List ℕ) → FindsDead id
unfolding fields_of messages DescribeGroups.response
finds_dead id = record { fields_are = refl; reads = λ response. group_array_there id response.0 }
