-- A response to ApiVersions that was narrowed is a tree again, with the fields of its version.
use Rattle.std.proofs.Common.{◌≡◌, ◌⊎◌, inl, inr, ℕ, suc, ℤ, pos, negsuc, ◌≤◌, Bool, true, false, ◌&&◌, List, [], ◌∷◌, length, Option, Some, None, refl, sym, ap, subst, arith, rules, FitsSigned, if◌then◌else◌}
use Rattle.std.specs.Prelude.{nat_le, int_le, IfSome}
use Rattle.std.specs.Int.{w16}
use Rattle.std.specs.Option.{option_map}
use Rattle.std.specs.List.{flat_map, filter_map, list_all, cons_option}
use Rattle.std.specs.Ordering.{int_eq}
use Rattle.kp_schema.specs.declared.dir.Dir.TheVariants.{Response}
use Rattle.kp_schema.specs.declared.kind.Kind.TheVariants as kinds
use Rattle.kp_schema.specs.Field.{is_between}
use Rattle.kp_schema.specs.Messages.{fields_of, messages, supported_versions}
use Rattle.kp_schema.specs.ApiVersions.{response}
use Rattle.tree_spelling.specs.declared.primitive.Primitive.{Primitive}
use Rattle.tree_spelling.specs.Spelling.{AreInRange}
use Rattle.tree_spelling.specs.Shape.{Shape, End, Plain, message_shape}
use Rattle.tree_spelling.specs.Value.{Value, array_items, items_of}
use Rattle.tree_spelling.specs.Body.{Contents, IsTree, body_shape}
use Rattle.tree_spelling.proofs.Blanks.{in_range-append, in_range-front, in_range-back}
use Rattle.api_versions.specs.Narrowing.{entry_shape, versions_shape, range_in, supported_range, greater, lesser, known_in, narrow_entry, narrowed, narrowed_items, narrowed_body}
use Rattle.api_versions.proofs.Entries.{narrowed_is}

-- ---- the numbers of an entry stay in range

abbrev Fits : ℤ → Type 0
Fits number = FitsSigned w16 number

abbrev RangeFits : Option (ℤ × ℤ) → Type 0
RangeFits range = IfSome range (λ r. Fits r.0 × Fits r.1)

abbrev is_small : ℤ → Bool
is_small (pos n) = nat_le n 32767
is_small (negsuc n) = false

small_fits : (z : ℤ) → is_small z ≡ true → Fits z
small_fits (pos n) h = search rules
small_fits (negsuc n) h = absurd cc

both_true : (a b : Bool) → (a && b) ≡ true → (a ≡ true) × (b ≡ true)
both_true true b h = (refl, h)
both_true false b h = absurd cc

range_by : (b : Bool) (range : ℤ × ℤ) (other : Option (ℤ × ℤ)) → RangeFits (Some range) → RangeFits other → RangeFits (if b then Some range else other)
range_by true range other h g = h
range_by false range other h g = g

range_fits : (apis : List (ℤ × ℤ × ℤ)) (key : ℤ) → list_all (λ api. is_small api.1 && is_small api.2) apis ≡ true → RangeFits (range_in apis key)
range_fits [] key h = tt
range_fits (api ∷ apis) key h =
    let p = both_true (is_small api.1 && is_small api.2) (list_all (λ api. is_small api.1 && is_small api.2) apis) h in
    let q = both_true (is_small api.1) (is_small api.2) p.0 in
    range_by (int_eq api.0 key) (api.1, api.2) (range_in apis key) (small_fits api.1 q.0, small_fits api.2 q.1) (range_fits apis key p.1)

all_small : list_all (λ api. is_small api.1 && is_small api.2) supported_versions ≡ true
unfolding supported_versions messages
all_small = refl

one_fits : (b : Bool) (x y : ℤ) → Fits x → Fits y → Fits (if b then x else y)
one_fits true x y h g = h
one_fits false x y h g = g

if_any : (b : Bool) (x y : ℤ) → Fits x → Fits y → RangeFits (if b then Some (x, y) else None)
if_any true x y h g = (h, g)
if_any false x y h g = tt

known_fits : (range : Option (ℤ × ℤ)) (least greatest : ℤ) → RangeFits range → Fits least → Fits greatest → RangeFits (known_in range least greatest)
known_fits None least greatest h f g = tt
known_fits (Some r) least greatest h f g =
    if_any (int_le (greater least r.0) (lesser greatest r.1)) (greater least r.0) (lesser greatest r.1) (one_fits (int_le least r.0) r.0 least h.0 f) (one_fits (int_le greatest r.1) greatest r.1 g h.1)

-- ---- entries

abbrev flat : List (Value entry_shape) → List Primitive
flat es = flat_map (items_of entry_shape) es

abbrev EntryFits : Value entry_shape → Type 0
EntryFits e = Fits e.0 × Fits e.1.0 × Fits e.1.1.0

in_entry : (key : ℤ) (range : Option (ℤ × ℤ)) → Fits key → RangeFits range → IfSome (option_map (λ (r : ℤ × ℤ). (key, (r.0, (r.1, tt)))) range) EntryFits
in_entry key None h g = tt
in_entry key (Some r) h g = (h, g.0, g.1)

put_fits : (o : Option (Value entry_shape)) (es : List (Value entry_shape)) → IfSome o EntryFits → AreInRange (flat es) → AreInRange (flat (cons_option o es))
put_fits None es h g = g
put_fits (Some e) es h g = (h.0, (h.1, (h.2, g)))

kept_fit : (es : List (Value entry_shape)) → AreInRange (flat es) → AreInRange (flat (filter_map narrow_entry es))
kept_fit [] h = tt
kept_fit (e ∷ es) h =
    let range = known_fits (supported_range e.0) e.1.0 e.1.1.0 (range_fits supported_versions e.0 all_small) h.1.0 h.1.1.0 in
    put_fits (narrow_entry e) (filter_map narrow_entry es) (in_entry e.0 (known_in (supported_range e.0) e.1.0 e.1.1.0) h.0 range) (kept_fit es h.1.1.1)

put_few : (o : Option (Value entry_shape)) (es : List (Value entry_shape)) (n : ℕ) → length es ≤ n → length (cons_option o es) ≤ suc n
put_few None es n h = omega (arith, h)
put_few (Some e) es n h = omega (arith, h)

kept_few : (es : List (Value entry_shape)) → length (filter_map narrow_entry es) ≤ length es
kept_few [] = omega arith
kept_few (e ∷ es) = put_few (narrow_entry e) (filter_map narrow_entry es) (length es) (kept_few es)

array_fits : (o : Option (List (Value entry_shape))) → AreInRange (array_items (items_of entry_shape) o) → AreInRange (array_items (items_of entry_shape) (option_map (filter_map narrow_entry) o))
array_fits None h = h
array_fits (Some es) h = (omega (arith, kept_few es, h.0), kept_fit es h.1)

narrowed_fits : (rest : Shape) (value : Value (versions_shape rest)) → AreInRange (items_of (versions_shape rest) value) → AreInRange (items_of (versions_shape rest) (narrowed rest value))
narrowed_fits rest value h =
    let array = array_items (items_of entry_shape) value.1.0 in
    let more = items_of rest value.1.1 in
    (h.0, in_range-append (array_items (items_of entry_shape) (option_map (filter_map narrow_entry) value.1.0)) more (array_fits value.1.0 (in_range-front array more h.1)) (in_range-back array more h.1))

-- ---- the whole

abbrev ItemsOf : List Primitive → Shape → Type 0
ItemsOf items shape = (value : Value shape) × (items ≡ items_of shape value)

-- a version that isn't known has no fields
abbrev HasVersions : Shape → Type 0
HasVersions shape = ((rest : Shape) × (shape ≡ versions_shape rest)) ⊎ (shape ≡ End)

shape_by : (v : ℤ) (b c : Bool) → is_between (pos 0) (pos 2) v ≡ b → is_between (pos 1) (pos 2) v ≡ c → HasVersions (message_shape (pos 18) v Response)
unfolding fields_of messages response
shape_by v false c e f = inr (rw e refl)
shape_by v true false e f = inl (End, rw (e, f) refl)
shape_by v true true e f = inl (Plain kinds.I32 End, rw (e, f) refl)

narrowed_at : (shape : Shape) (items : List Primitive) → HasVersions shape → ItemsOf items shape → AreInRange items → ItemsOf (narrowed_items items) shape × AreInRange (narrowed_items items)
narrowed_at shape items (inl h) of fits =
    let there : ItemsOf items (versions_shape h.0) = subst (ItemsOf items) h.1 of in
    let same = narrowed_is h.0 there.0 items there.1 in
    let kept : ItemsOf (narrowed_items items) (versions_shape h.0) = (narrowed h.0 there.0, same) in
    (subst (ItemsOf (narrowed_items items)) (sym h.1) kept, subst AreInRange (sym same) (narrowed_fits h.0 there.0 (subst AreInRange there.1 fits)))
narrowed_at shape items (inr h) of fits =
    let there : ItemsOf items End = subst (ItemsOf items) h of in
    let none : narrowed_items items ≡ [] = ap narrowed_items there.1 in
    let kept : ItemsOf (narrowed_items items) End = (tt, none) in
    (subst (ItemsOf (narrowed_items items)) (sym h) kept, subst AreInRange (sym none) tt)

pub narrowed_tree : (body : Contents) → body.key ≡ pos 18 → body.dir ≡ Response → IsTree body → IsTree (narrowed_body body)
narrowed_tree body key dir tree =
    let known : HasVersions (body_shape body) = rw (key, dir) (shape_by body.version (is_between (pos 0) (pos 2) body.version) (is_between (pos 1) (pos 2) body.version) refl refl) in
    let n = narrowed_at (body_shape body) body.items known (tree.value, tree.is) tree.in_range in
    record { value = n.0.0; is = n.0.1; in_range = n.1 }
