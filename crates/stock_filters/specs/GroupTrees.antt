-- The answers that `group-live` reads and makes, as trees.
use Rattle.std.specs.Prelude.{◌≡◌, ℕ, suc, ◌+◌, ◌≤◌, ℤ, pos, Bool, true, false, if◌then◌else◌, List, [], ◌∷◌, ◌++◌, length, map, Option, Some, None}
use Rattle.std.specs.List.{flat_map}
use Rattle.std.specs.Option.{option_map}
use Rattle.std.proofs.Common.{◌⊎◌, inl, inr, sym, ap, ◌∙◌, subst, refl, append-nil, arith}
use Rattle.std.proofs.lemmas.Bool.Decides.{Decides-int_eq}
use Rattle.kp_schema.specs.declared.dir.Dir.TheVariants as dir
use Rattle.kp_schema.specs.declared.kind.Kind.TheVariants as kinds
use Rattle.kp_schema.specs.Field.{is_between}
use Rattle.kp_schema.specs.Messages.{fields_of, messages, is_supported, supported_versions}
use Rattle.kp_schema.specs.ListGroups as ListGroups
use Rattle.kp_schema.specs.DescribeGroups as DescribeGroups
use Rattle.tree_spelling.specs.declared.primitive.Primitive.{Primitive}
use Rattle.tree_spelling.specs.declared.primitive.Primitive.TheVariants.{Int16, Int32, Text, Count}
use Rattle.tree_spelling.specs.Primitives.{IsInRange}
use Rattle.tree_spelling.specs.Spelling.{AreInRange}
use Rattle.tree_spelling.specs.Shape.{Shape, End, Plain, Array, message_shape}
use Rattle.tree_spelling.specs.Value.{Value, array_items, items_of}
use Rattle.tree_spelling.specs.Body.{Contents, IsTree, body_shape}
use Rattle.tree_spelling.proofs.Blanks.{in_range-append, in_range-front}
use Rattle.filter_core.specs.Inputs.{IsResponseTo}
use Rattle.filter_core.specs.Laws.{WillBeAnswered}
use Rattle.stock_filters.specs.ProduceAll.{ItemsOf}
use Rattle.stock_filters.specs.GroupLive.{lists_groups, listed_items, group_ids, id_item, group_question, is_gone, live_items, live_count, live_answer, live_response}

-- group_id, protocol_type
abbrev pub group_shape : Shape
group_shape = Plain kinds.Str (Plain kinds.Str End)

-- throttle_time_ms from version 1 on; error_code, groups
abbrev pub groups_shape : Bool → Shape
groups_shape true = Plain kinds.I32 (Plain kinds.I16 (Array group_shape End))
groups_shape false = Plain kinds.I16 (Array group_shape End)

-- the groups that stay, in order
abbrev pub live_groups : List Primitive → List (Value group_shape) → List (Value group_shape)
live_groups described [] = []
live_groups described (group ∷ groups) =
    if is_gone described group.0 then live_groups described groups else group ∷ live_groups described groups

abbrev pub flat : List (Value group_shape) → List Primitive
flat groups = flat_map (items_of group_shape) groups

live_by : (b : Bool) (group : Value group_shape) (groups : List (Value group_shape)) (items : List Primitive) → items ≡ flat groups
    → (if b then items else Text group.0 ∷ (Text group.1.0 ∷ items)) ≡ flat (if b then groups else group ∷ groups)
live_by true group groups items same = same
live_by false group groups items same = ap (λ xs. Text group.0 ∷ (Text group.1.0 ∷ xs)) same

live_items_are : (described : List Primitive) (groups : List (Value group_shape)) → live_items described (flat groups) ≡ flat (live_groups described groups)
live_items_are described [] = refl
live_items_are described (group ∷ groups) =
    live_by (is_gone described group.0) group (live_groups described groups) (live_items described (flat groups)) (live_items_are described groups)

count_by : (b : Bool) (group : Value group_shape) (groups : List (Value group_shape)) (n : ℕ) → n ≡ length groups
    → (if b then n else 1 + n) ≡ length (if b then groups else group ∷ groups)
count_by true group groups n same = same
count_by false group groups n same = omega (arith, same)

live_count_is : (described : List Primitive) (groups : List (Value group_shape)) → live_count described (flat groups) ≡ length (live_groups described groups)
live_count_is described [] = refl
live_count_is described (group ∷ groups) =
    count_by (is_gone described group.0) group (live_groups described groups) (live_count described (flat groups)) (live_count_is described groups)

-- the array behind the error code
abbrev pub array_of : Option (List (Value group_shape)) → List Primitive
array_of groups = array_items (items_of group_shape) groups ++ []

pub live_array : (described : List Primitive) (groups : Option (List (Value group_shape))) → live_answer described (array_of groups) ≡ array_of (option_map (live_groups described) groups)
live_array described None = refl
live_array described (Some groups) =
    ap (λ xs. Count (Some (live_count described xs)) ∷ live_items described xs) (append-nil (flat groups))
    ∙ ap (λ n. Count (Some n) ∷ live_items described (flat groups)) (live_count_is described groups)
    ∙ ap (λ xs. Count (Some (length (live_groups described groups))) ∷ xs) (live_items_are described groups ∙ sym (append-nil (flat (live_groups described groups))))

-- ---- what stays is in range

few_by : (b : Bool) (group : Value group_shape) (groups : List (Value group_shape)) (n : ℕ) → length groups ≤ n → length (if b then groups else group ∷ groups) ≤ suc n
few_by true group groups n h = omega (arith, h)
few_by false group groups n h = omega (arith, h)

live_few : (described : List Primitive) (groups : List (Value group_shape)) → length (live_groups described groups) ≤ length groups
live_few described [] = omega arith
live_few described (group ∷ groups) = few_by (is_gone described group.0) group (live_groups described groups) (length groups) (live_few described groups)

fit_by : (b : Bool) (group : Value group_shape) (groups : List (Value group_shape)) → AreInRange (items_of group_shape group) → AreInRange (flat groups) → AreInRange (flat (if b then groups else group ∷ groups))
fit_by true group groups h g = g
fit_by false group groups h g = (h.0, (h.1.0, g))

live_fit : (described : List Primitive) (groups : List (Value group_shape)) → AreInRange (flat groups) → AreInRange (flat (live_groups described groups))
live_fit described [] h = tt
live_fit described (group ∷ groups) h =
    fit_by (is_gone described group.0) group (live_groups described groups) (h.0, (h.1.0, tt)) (live_fit described groups h.1.1)

array_fits : (described : List Primitive) (groups : Option (List (Value group_shape))) → AreInRange (array_of groups) → AreInRange (array_of (option_map (live_groups described) groups))
array_fits described None h = h
array_fits described (Some groups) h =
    let few = live_few described groups in
    (omega (arith, h.0, few), in_range-append (flat (live_groups described groups)) [] (live_fit described groups (in_range-front (flat groups) [] h.1)) tt)

-- ---- the first answer

-- a version that isn't read has no fields
abbrev pub IsGroupsShape : Shape → Type 0
IsGroupsShape shape = ((throttle : Bool) × (shape ≡ groups_shape throttle)) ⊎ (shape ≡ End)

shape_by : (version : ℤ) (b c : Bool) → is_between (pos 0) (pos 2) version ≡ b → is_between (pos 1) (pos 2) version ≡ c → IsGroupsShape (message_shape (pos 16) version dir.Response)
unfolding fields_of messages ListGroups.response
shape_by version false c e f = inr (rw e refl)
shape_by version true false e f = inl (false, rw (e, f) refl)
shape_by version true true e f = inl (true, rw (e, f) refl)

live_at : (described : List Primitive) (throttle : Bool) (items : List Primitive) → ItemsOf (groups_shape throttle) items → AreInRange items → ItemsOf (groups_shape throttle) (live_answer described items) × AreInRange (live_answer described items)
live_at described true items of fits =
    let v = of.0 in
    let same : live_answer described items ≡ Int32 v.0 ∷ (Int16 v.1.0 ∷ array_of (option_map (live_groups described) v.1.1.0)) = ap (live_answer described) of.1 ∙ ap (λ xs. Int32 v.0 ∷ (Int16 v.1.0 ∷ xs)) (live_array described v.1.1.0) in
    let old : AreInRange (Int32 v.0 ∷ (Int16 v.1.0 ∷ array_of v.1.1.0)) = subst AreInRange of.1 fits in
    (((v.0, (v.1.0, (option_map (live_groups described) v.1.1.0, tt))), same), subst AreInRange (sym same) (old.0, (old.1.0, array_fits described v.1.1.0 old.1.1)))
live_at described false items of fits =
    let v = of.0 in
    let same : live_answer described items ≡ Int16 v.0 ∷ array_of (option_map (live_groups described) v.1.0) = ap (live_answer described) of.1 ∙ ap (λ xs. Int16 v.0 ∷ xs) (live_array described v.1.0) in
    let old : AreInRange (Int16 v.0 ∷ array_of v.1.0) = subst AreInRange of.1 fits in
    (((v.0, (option_map (live_groups described) v.1.0, tt)), same), subst AreInRange (sym same) (old.0, array_fits described v.1.0 old.1))

live_in : (described : List Primitive) (shape : Shape) (items : List Primitive) → IsGroupsShape shape → ItemsOf shape items → AreInRange items → ItemsOf shape (live_answer described items) × AreInRange (live_answer described items)
live_in described shape items (inl known) of fits =
    let there : ItemsOf (groups_shape known.0) items = subst (λ (s : Shape). ItemsOf s items) known.1 of in
    let new = live_at described known.0 items there fits in
    (subst (λ (s : Shape). ItemsOf s (live_answer described items)) (sym known.1) new.0, new.1)
live_in described shape items (inr unknown) of fits =
    let there : ItemsOf End items = subst (λ (s : Shape). ItemsOf s items) unknown of in
    let none : live_answer described items ≡ [] = ap (live_answer described) there.1 in
    (subst (λ (s : Shape). ItemsOf s (live_answer described items)) (sym unknown) (tt, none), subst AreInRange (sym none) tt)

pub is_listing : (request response : Contents) → lists_groups request ≡ true → IsResponseTo request response → IsGroupsShape (body_shape response)
is_listing request response lists h =
    let key : response.key ≡ pos 16 = h.of.key_is ∙ (Decides-int_eq request.key (pos 16)).0 lists in
    rw (key, h.of.dir_is) (shape_by response.version (is_between (pos 0) (pos 2) response.version) (is_between (pos 1) (pos 2) response.version) refl refl)

pub live_answers : (described : List Primitive) (request response : Contents) → lists_groups request ≡ true → IsResponseTo request response → IsResponseTo request (live_response described response)
live_answers described request response lists h =
    let new = live_in described (body_shape response) response.items (is_listing request response lists h) (h.tree.value, h.tree.is) h.tree.in_range in
    record { tree = record { value = new.0.0; is = new.0.1; in_range = new.1 }; of = record { key_is = h.of.key_is; version_is = h.of.version_is; dir_is = h.of.dir_is } }

-- ---- the question

-- so many ids, each of which is a text
abbrev pub CanBeAsked : List (List ℕ) → ℕ → Type 0
CanBeAsked ids n = (length ids ≤ n) × AreInRange (map id_item ids)

asked_one : (id : Option (List ℕ)) (protocol : Option (List ℕ)) (groups : List Primitive) (n : ℕ) → IsInRange (Text id) → CanBeAsked (group_ids groups) n → CanBeAsked (group_ids (Text id ∷ (Text protocol ∷ groups))) (suc n)
asked_one None protocol groups n h g = (omega (arith, g.0), g.1)
asked_one (Some id) protocol groups n h g = (omega (arith, g.0), (h, g.1))

ids_of : (groups : List (Value group_shape)) → AreInRange (flat groups) → CanBeAsked (group_ids (flat groups)) (length groups)
ids_of [] h = (omega arith, tt)
ids_of (group ∷ groups) h = asked_one group.0 group.1.0 (flat groups) (length groups) h.0 (ids_of groups h.1.1)

-- a question that a count can say
abbrev pub IsQuestion : List (List ℕ) → Type 0
IsQuestion ids = AreInRange (group_question ids).items

ids_in_array : (groups : Option (List (Value group_shape))) → AreInRange (array_of groups) → IsQuestion (group_ids (listed_items (array_of groups)))
ids_in_array None h = (omega arith, tt)
ids_in_array (Some groups) h =
    let ids = ids_of groups (in_range-front (flat groups) [] h.1) in
    let all : IsQuestion (group_ids (flat groups)) = (omega (arith, h.0, ids.0), ids.1) in
    subst (λ (xs : List Primitive). IsQuestion (group_ids xs)) (sym (append-nil (flat groups))) all

ids_at : (throttle : Bool) (items : List Primitive) → ItemsOf (groups_shape throttle) items → AreInRange items → IsQuestion (group_ids (listed_items items))
ids_at true items of fits =
    let v = of.0 in
    let old : AreInRange (Int32 v.0 ∷ (Int16 v.1.0 ∷ array_of v.1.1.0)) = subst AreInRange of.1 fits in
    subst (λ (xs : List Primitive). IsQuestion (group_ids (listed_items xs))) (sym of.1) (ids_in_array v.1.1.0 old.1.1)
ids_at false items of fits =
    let v = of.0 in
    let old : AreInRange (Int16 v.0 ∷ array_of v.1.0) = subst AreInRange of.1 fits in
    subst (λ (xs : List Primitive). IsQuestion (group_ids (listed_items xs))) (sym of.1) (ids_in_array v.1.0 old.1)

pub ids_in : (shape : Shape) (items : List Primitive) → IsGroupsShape shape → ItemsOf shape items → AreInRange items → IsQuestion (group_ids (listed_items items))
ids_in shape items (inl known) of fits =
    ids_at known.0 items (subst (λ (s : Shape). ItemsOf s items) known.1 of) fits
ids_in shape items (inr unknown) of fits =
    let there : ItemsOf End items = subst (λ (s : Shape). ItemsOf s items) unknown of in
    let none : IsQuestion [] = (omega arith, tt) in
    subst (λ (xs : List Primitive). IsQuestion (group_ids (listed_items xs))) (sym there.1) none

abbrev pub asked_value : List (List ℕ) → List (Value (Plain kinds.Str End))
asked_value ids = map (λ id. (Some id, tt)) ids

asked_items : (ids : List (List ℕ)) → map id_item ids ≡ flat_map (items_of (Plain kinds.Str End)) (asked_value ids)
asked_items [] = refl
asked_items (id ∷ ids) = ap (λ xs. Text (Some id) ∷ xs) (asked_items ids)

asked_count : (ids : List (List ℕ)) → length ids ≡ length (asked_value ids)
asked_count [] = refl
asked_count (id ∷ ids) = omega (arith, asked_count ids)

question_is : (ids : List (List ℕ)) → (group_question ids).items ≡ array_items (items_of (Plain kinds.Str End)) (Some (asked_value ids)) ++ []
question_is ids =
    ap (λ xs. Count (Some (length ids)) ∷ xs) (asked_items ids)
    ∙ ap (λ n. Count (Some n) ∷ flat_map (items_of (Plain kinds.Str End)) (asked_value ids)) (asked_count ids)
    ∙ sym (append-nil (array_items (items_of (Plain kinds.Str End)) (Some (asked_value ids))))

question_tree : (ids : List (List ℕ)) → IsQuestion ids → IsTree (group_question ids)
unfolding fields_of messages DescribeGroups.request
question_tree ids fits = record { value = (Some (asked_value ids), tt); is = question_is ids; in_range = fits }

pub question_answered : (ids : List (List ℕ)) → IsQuestion ids → WillBeAnswered (group_question ids)
unfolding is_supported supported_versions messages
question_answered ids fits = record { is_request = record { tree = question_tree ids fits; dir_is = refl }; supported = refl; response_comes = refl }
