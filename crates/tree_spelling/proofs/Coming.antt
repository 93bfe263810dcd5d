-- Values and the fields still to come: a value's items come, what comes and leaves nothing is a value's, and
-- what has come can be completed.
use Rattle.std.proofs.Common.{◌≡◌, ℕ, zero, suc, Bool, true, false, List, [], ◌∷◌, ◌++◌, length, Option, Some, None, refl, sym, ap, ◌∙◌, append_assoc, append-nil, cond}
use Rattle.std.specs.Option.{option_and_then}
use Rattle.std.specs.List.{flat_map}
use Rattle.std.proofs.lemmas.Bool.{false≢true}
use Rattle.kp_schema.specs.declared.kind.Kind.{Kind}
use Rattle.kp_schema.specs.declared.kind.Kind.TheVariants as kinds
use Rattle.tree_spelling.specs.declared.primitive.Primitive.{Primitive}
use Rattle.tree_spelling.specs.declared.primitive.Primitive.TheVariants.{Int8, Int16, Int32, Int64, Boolean, Text, Binary, Count}
use Rattle.tree_spelling.specs.Shape.{Shape, End, Plain, Array}
use Rattle.tree_spelling.specs.Value.{Leaf, Value, leaf_item, array_items, items_of}
use Rattle.tree_spelling.specs.Agenda.{copies, settled, is_kind, after_array, after, passed}

-- ---- passing items

pub settled-again : (t : List Shape) → settled (settled t) ≡ settled t
settled-again [] = refl
settled-again (End ∷ t) = settled-again t
settled-again (Plain k r ∷ t) = refl
settled-again (Array e r ∷ t) = refl

pub after-settled : (t : List Shape) (x : Primitive) → after (settled t) x ≡ after t x
after-settled [] x = refl
after-settled (End ∷ t) x = after-settled t x
after-settled (Plain k r ∷ t) x = refl
after-settled (Array e r ∷ t) x = refl

pub passed-settled : (t : List Shape) (xs : List Primitive) → passed (settled t) xs ≡ passed t xs
passed-settled t [] = ap Some (settled-again t)
passed-settled t (x ∷ xs) = ap (option_and_then (λ u. passed u xs)) (after-settled t x)

pub passed-end : (t : List Shape) (xs : List Primitive) → passed (End ∷ t) xs ≡ passed t xs
passed-end t [] = refl
passed-end t (x ∷ xs) = refl

pub passed-append : (t : List Shape) (xs ys : List Primitive) → passed t (xs ++ ys) ≡ option_and_then (λ u. passed u ys) (passed t xs)
passed-append t [] ys = sym (passed-settled t ys)
passed-append t (x ∷ xs) ys =
    elim (after t x) as (λ o. option_and_then (λ u. passed u (xs ++ ys)) o ≡ option_and_then (λ u. passed u ys) (option_and_then (λ u. passed u xs) o)) [
      | None ↦ refl
      | Some u ↦ passed-append u xs ys
    ]

-- ---- a value's items come

pub is_kind-leaf : (k : Kind) (v : Leaf k) → is_kind k (leaf_item k v) ≡ true
is_kind-leaf kinds.I8 v = refl
is_kind-leaf kinds.I16 v = refl
is_kind-leaf kinds.I32 v = refl
is_kind-leaf kinds.I64 v = refl
is_kind-leaf kinds.Bool v = refl
is_kind-leaf kinds.Str v = refl
is_kind-leaf kinds.Bytes v = refl
is_kind-leaf kinds.Array v = refl

-- the items of this shape come, whatever is to come behind
abbrev Comes : Shape → Type 0
Comes s = (v : Value s) (t : List Shape) (ys : List Primitive) → passed (s ∷ t) (items_of s v ++ ys) ≡ passed t ys

pub entries_come : (e : Shape) → Comes e → (es : List (Value e)) (u : List Shape) (zs : List Primitive) → passed (copies (length es) e ++ u) (flat_map (items_of e) es ++ zs) ≡ passed u zs
entries_come e comes [] u zs = refl
entries_come e comes (v ∷ es) u zs =
    ap (passed (e ∷ (copies (length es) e ++ u))) (append_assoc (items_of e v) (flat_map (items_of e) es) zs) ∙ comes v (copies (length es) e ++ u) (flat_map (items_of e) es ++ zs) ∙ entries_come e comes es u zs

array_comes : (e r : Shape) → Comes e → Comes r → (o : Option (List (Value e))) (w : Value r) (t : List Shape) (ys : List Primitive) → passed (Array e r ∷ t) ((array_items (items_of e) o ++ items_of r w) ++ ys) ≡ passed t ys
array_comes e r ce cr None w t ys = cr w t ys
array_comes e r ce cr (Some es) w t ys =
    ap (passed (copies (length es) e ++ (r ∷ t))) (append_assoc (flat_map (items_of e) es) (items_of r w) ys) ∙ entries_come e ce es (r ∷ t) (items_of r w ++ ys) ∙ cr w t ys

plain_comes : (k : Kind) (r : Shape) (v : Leaf k) (t : List Shape) (zs : List Primitive) → passed (Plain k r ∷ t) (leaf_item k v ∷ zs) ≡ passed (r ∷ t) zs
plain_comes k r v t zs =
    ap (λ b. option_and_then (λ u. passed u zs) (cond b (Some (r ∷ t)) None)) (is_kind-leaf k v)

pub comes : (s : Shape) → Comes s
comes End v t ys = passed-end t ys
comes (Plain k r) v t ys = plain_comes k r v.0 t (items_of r v.1 ++ ys) ∙ comes r v.1 t ys
comes (Array e r) v t ys = array_comes e r (comes e) (comes r) v.0 v.1 t ys

-- ---- what comes and leaves nothing is a value's

pub leaf_of : (k : Kind) (x : Primitive) → is_kind k x ≡ true → (v : Leaf k) × (leaf_item k v ≡ x)
leaf_of kinds.I8 (Int8 v) h = (v, refl)
leaf_of kinds.I16 (Int16 v) h = (v, refl)
leaf_of kinds.I32 (Int32 v) h = (v, refl)
leaf_of kinds.I64 (Int64 v) h = (v, refl)
leaf_of kinds.Bool (Boolean v) h = (v, refl)
leaf_of kinds.Str (Text v) h = (v, refl)
leaf_of kinds.Bytes (Binary v) h = (v, refl)
leaf_of kinds.Array (Count v) h = (v, refl)
leaf_of k x h = absurd (false≢true h)

-- the items begin with those of a value, and nothing is left to come behind the rest
abbrev Found : Shape → List Shape → List Primitive → Type 0
Found s t xs = (v : Value s) × (ys : List Primitive) × (xs ≡ items_of s v ++ ys) × (passed t ys ≡ Some [])

abbrev Finds : Shape → Type 0
Finds s = (t : List Shape) (xs : List Primitive) → passed (s ∷ t) xs ≡ Some [] → Found s t xs

entries_found : (e : Shape) → Finds e → (n : ℕ) (u : List Shape) (xs : List Primitive) → passed (copies n e ++ u) xs ≡ Some [] → (es : List (Value e)) × (ys : List Primitive) × (length es ≡ n) × (xs ≡ flat_map (items_of e) es ++ ys) × (passed u ys ≡ Some [])
entries_found e finds zero u xs h = ([], xs, refl, refl, h)
entries_found e finds (suc n) u xs h =
    let f = finds (copies n e ++ u) xs h in
    let g = entries_found e finds n u f.1 f.3 in
    (f.0 ∷ g.0, g.1, ap suc g.2, f.2 ∙ ap (λ zs. items_of e f.0 ++ zs) g.3 ∙ sym (append_assoc (items_of e f.0) (flat_map (items_of e) g.0) g.1), g.4)

plain_found : (k : Kind) (r : Shape) → Finds r → (t : List Shape) (x : Primitive) (xs : List Primitive) (b : Bool) → is_kind k x ≡ b → option_and_then (λ u. passed u xs) (cond b (Some (r ∷ t)) None) ≡ Some [] → Found (Plain k r) t (x ∷ xs)
plain_found k r finds t x xs true e h =
    let l = leaf_of k x e in
    let f = finds t xs h in
    let same : x ≡ leaf_item k l.0 = sym l.1 in
    ((l.0, f.0), f.1, ap (λ y. y ∷ xs) same ∙ ap (λ zs. leaf_item k l.0 ∷ zs) f.2, f.3)
plain_found k r finds t x xs false e h = absurd cc

array_found : (e r : Shape) → Finds e → Finds r → (t : List Shape) (x : Primitive) (xs : List Primitive) → option_and_then (λ u. passed u xs) (after_array e r t x) ≡ Some [] → Found (Array e r) t (x ∷ xs)
array_found e r fe fr t (Count None) xs h =
    let f = fr t xs h in
    ((None, f.0), f.1, ap (λ zs. Count None ∷ zs) f.2, f.3)
array_found e r fe fr t (Count (Some n)) xs h =
    let g = entries_found e fe n (r ∷ t) xs h in
    let f = fr t g.1 g.4 in
    let behind : g.1 ≡ items_of r f.0 ++ f.1 = f.2 in
    let counted : n ≡ length g.0 = sym g.2 in
    ((Some g.0, f.0), f.1, ap (λ m. Count (Some m) ∷ xs) counted ∙ ap (λ zs. Count (Some (length g.0)) ∷ zs) (g.3 ∙ ap (λ zs. flat_map (items_of e) g.0 ++ zs) behind ∙ sym (append_assoc (flat_map (items_of e) g.0) (items_of r f.0) f.1)), f.3)
array_found e r fe fr t x xs h = absurd cc

pub finds : (s : Shape) → Finds s
finds End t xs h = (tt, xs, refl, sym (passed-end t xs) ∙ h)
finds (Plain k r) t [] h = absurd cc
finds (Plain k r) t (x ∷ xs) h = plain_found k r (finds r) t x xs (is_kind k x) refl h
finds (Array e r) t [] h = absurd cc
finds (Array e r) t (x ∷ xs) h = array_found e r (finds e) (finds r) t x xs h

nothing_comes : (ys : List Primitive) → passed [] ys ≡ Some [] → ys ≡ []
nothing_comes [] h = refl
nothing_comes (y ∷ ys) h = absurd cc

pub value_of : (s : Shape) (xs : List Primitive) → passed (s ∷ []) xs ≡ Some [] → (v : Value s) × (items_of s v ≡ xs)
value_of s xs h =
    let f = finds s [] xs h in
    let none : f.1 ≡ [] = nothing_comes f.1 f.3 in
    (f.0, sym (f.2 ∙ ap (λ ys. items_of s f.0 ++ ys) none ∙ append-nil (items_of s f.0)))
