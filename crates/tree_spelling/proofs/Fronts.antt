-- Two lists of items that come next, and whose spellings stand at the front of the same bytes, agree.
use Rattle.std.proofs.Common.{◌≡◌, ◌⊎◌, ℕ, ◌<◌, Bool, true, false, List, [], ◌∷◌, ◌++◌, length, Option, Some, None, cond, refl, sym, ap, ◌∙◌, inl, inr, append_assoc, arith, subst}
use Rattle.std.specs.Option.{option_and_then}
use Rattle.wire_types.proofs.Spellings.{one_int8, one_int16, one_int32, one_int64, one_string, one_byte_string, one_array_count}
use Rattle.kp_schema.specs.declared.kind.Kind.{Kind}
use Rattle.kp_schema.specs.declared.kind.Kind.TheVariants as kinds
use Rattle.tree_spelling.specs.declared.primitive.Primitive.{Primitive}
use Rattle.tree_spelling.specs.declared.primitive.Primitive.TheVariants.{Int8, Int16, Int32, Int64, Boolean, Text, Binary, Count}
use Rattle.tree_spelling.specs.Primitives.{spelled, IsInRange}
use Rattle.tree_spelling.specs.Shape.{Shape, End, Plain, Array}
use Rattle.tree_spelling.specs.Value.{Leaf, leaf_item}
use Rattle.tree_spelling.specs.Spelling.{spelling, AreInRange}
use Rattle.tree_spelling.specs.Agenda.{is_kind, after_array, after, passed, next_kind, is_of, is_next}
use Rattle.tree_spelling.proofs.Coming.{leaf_of}

-- ---- one item

one_byte : (a b : ℕ) (x y : List ℕ) → a ∷ x ≡ b ∷ y → (a ≡ b) × (x ≡ y)
one_byte a b x y e = (cc, cc)

one_leaf : (k : Kind) (a b : Leaf k) (x y : List ℕ) → IsInRange (leaf_item k a) → IsInRange (leaf_item k b) → spelled (leaf_item k a) ++ x ≡ spelled (leaf_item k b) ++ y → (a ≡ b) × (x ≡ y)
one_leaf kinds.I8 a b x y p q e = one_int8 a b x y p q e
one_leaf kinds.I16 a b x y p q e = one_int16 a b x y p q e
one_leaf kinds.I32 a b x y p q e = one_int32 a b x y p q e
one_leaf kinds.I64 a b x y p q e = one_int64 a b x y p q e
one_leaf kinds.Bool a b x y p q e = one_byte a b x y e
one_leaf kinds.Str a b x y p q e = one_string a b x y p q e
one_leaf kinds.Bytes a b x y p q e = one_byte_string a b x y p q e
one_leaf kinds.Array a b x y p q e = one_array_count a b x y p q e

pub one_item : (k : Kind) (a b : Primitive) (x y : List ℕ) → is_kind k a ≡ true → is_kind k b ≡ true → IsInRange a → IsInRange b → spelled a ++ x ≡ spelled b ++ y → (a ≡ b) × (x ≡ y)
one_item k a b x y ka kb p q e =
    let la = leaf_of k a ka in
    let lb = leaf_of k b kb in
    let p' : IsInRange (leaf_item k la.0) = subst IsInRange (sym la.1) p in
    let q' : IsInRange (leaf_item k lb.0) = subst IsInRange (sym lb.1) q in
    let ea : spelled (leaf_item k la.0) ++ x ≡ spelled a ++ x = ap (λ i. spelled i ++ x) la.1 in
    let eb : spelled b ++ y ≡ spelled (leaf_item k lb.0) ++ y = ap (λ i. spelled i ++ y) (sym lb.1) in
    let one = one_leaf k la.0 lb.0 x y p' q' (ea ∙ e ∙ eb) in
    (sym la.1 ∙ ap (leaf_item k) one.0 ∙ lb.1, one.1)

-- each item takes a byte at least
pub item_takes : (x : Primitive) → 0 < length (spelled x)
item_takes (Int8 v) = omega arith
item_takes (Int16 v) = omega arith
item_takes (Int32 v) = omega arith
item_takes (Int64 v) = omega arith
item_takes (Boolean v) = omega arith
item_takes (Text None) = omega arith
item_takes (Text (Some v)) = omega arith
item_takes (Binary None) = omega arith
item_takes (Binary (Some v)) = omega arith
item_takes (Count None) = omega arith
item_takes (Count (Some v)) = omega arith

-- ---- the next item is of the next field's kind

array_next : (e r : Shape) (t : List Shape) (x : Primitive) (u : List Shape) → after_array e r t x ≡ Some u → is_kind kinds.Array x ≡ true
array_next e r t (Count None) u h = refl
array_next e r t (Count (Some n)) u h = refl
array_next e r t x u h = absurd cc

plain_next : (b : Bool) (t u : List Shape) → cond b (Some t) None ≡ Some u → b ≡ true
plain_next true t u h = refl
plain_next false t u h = absurd cc

pub comes_next : (t : List Shape) (x : Primitive) (u : List Shape) → after t x ≡ Some u → (k : Kind) × (next_kind t ≡ Some k) × (is_kind k x ≡ true)
comes_next [] x u h = absurd cc
comes_next (End ∷ t) x u h = comes_next t x u h
comes_next (Plain k r ∷ t) x u h = (k, refl, plain_next (is_kind k x) (r ∷ t) u h)
comes_next (Array e r ∷ t) x u h = (kinds.Array, refl, array_next e r t x u h)

array_comes_then : (e r : Shape) (t : List Shape) (x : Primitive) → is_kind kinds.Array x ≡ true → (u : List Shape) × (after_array e r t x ≡ Some u)
array_comes_then e r t (Count None) h = (_, refl)
array_comes_then e r t (Count (Some n)) h = (_, refl)
array_comes_then e r t x h = absurd cc

pub next_comes : (t : List Shape) (x : Primitive) → is_next t x ≡ true → (u : List Shape) × (after t x ≡ Some u)
next_comes [] x h = absurd cc
next_comes (End ∷ t) x h = next_comes t x h
next_comes (Plain k r ∷ t) x h = (r ∷ t, rw h refl)
next_comes (Array e r ∷ t) x h = array_comes_then e r t x h

pub comes_is_next : (t : List Shape) (x : Primitive) (u : List Shape) → after t x ≡ Some u → is_next t x ≡ true
comes_is_next t x u h =
    let n = comes_next t x u h in
    ap (λ o. is_of o x) n.1 ∙ n.2

-- ---- many items

pub same_some : {A : Type 0} {a b : A} → Some a ≡ Some b → a ≡ b
same_some e = cc

-- one of two lists begins with the other, and its rest is spelled in front of the other's rest
abbrev Agree : List Primitive → List Primitive → List ℕ → List ℕ → Type 0
Agree xs ys p q =
    ((zs : List Primitive) × (ys ≡ xs ++ zs) × (p ≡ spelling zs ++ q)) ⊎ ((zs : List Primitive) × (xs ≡ ys ++ zs) × (q ≡ spelling zs ++ p))

more_agree : (x y : Primitive) (xs ys : List Primitive) (p q : List ℕ) → x ≡ y → Agree xs ys p q → Agree (x ∷ xs) (y ∷ ys) p q
more_agree x y xs ys p q e (inl h) = inl (h.0, ap (λ z. z ∷ ys) (sym e) ∙ ap (λ zs. x ∷ zs) h.1, h.2)
more_agree x y xs ys p q e (inr h) = inr (h.0, ap (λ z. z ∷ xs) e ∙ ap (λ zs. y ∷ zs) h.1, h.2)

pub some_after : (o : Option (List Shape)) (xs : List Primitive) (u : List Shape) → option_and_then (λ w. passed w xs) o ≡ Some u → (w : List Shape) × (o ≡ Some w) × (passed w xs ≡ Some u)
some_after None xs u h = absurd cc
some_after (Some w) xs u h = (w, refl, h)

pub agree : (t : List Shape) (xs ys : List Primitive) (u w : List Shape) (p q : List ℕ) → passed t xs ≡ Some u → passed t ys ≡ Some w → AreInRange xs → AreInRange ys → spelling xs ++ p ≡ spelling ys ++ q → Agree xs ys p q
agree t [] ys u w p q a b f g e = inl (ys, refl, e)
agree t (x ∷ xs) [] u w p q a b f g e = inr (x ∷ xs, refl, sym e)
agree t (x ∷ xs) (y ∷ ys) u w p q a b f g e =
    let sx = some_after (after t x) xs u a in
    let sy = some_after (after t y) ys w b in
    let nx = comes_next t x sx.0 sx.1 in
    let ny = comes_next t y sy.0 sy.1 in
    let k : ny.0 ≡ nx.0 = same_some (sym ny.1 ∙ nx.1) in
    let ky : is_kind nx.0 y ≡ true = subst (λ (j : Kind). is_kind j y ≡ true) k ny.2 in
    let e' : spelled x ++ (spelling xs ++ p) ≡ spelled y ++ (spelling ys ++ q) = sym (append_assoc (spelled x) (spelling xs) p) ∙ e ∙ append_assoc (spelled y) (spelling ys) q in
    let one = one_item nx.0 x y (spelling xs ++ p) (spelling ys ++ q) nx.2 ky f.0 g.0 e' in
    let same : sy.0 ≡ sx.0 = same_some (sym sy.1 ∙ ap (after t) (sym one.0) ∙ sx.1) in
    let b' : passed sx.0 ys ≡ Some w = subst (λ (s : List Shape). passed s ys ≡ Some w) same sy.2 in
    more_agree x y xs ys p q one.0 (agree sx.0 xs ys u w p q sx.2 b' f.1 g.1 one.1)

pub spelling-append : (xs ys : List Primitive) → spelling (xs ++ ys) ≡ spelling xs ++ spelling ys
spelling-append [] ys = refl
spelling-append (x ∷ xs) ys = ap (λ z. spelled x ++ z) (spelling-append xs ys) ∙ sym (append_assoc (spelled x) (spelling xs) (spelling ys))
