-- Items that come can be completed to those of a value, by nulls and zeros.
use Rattle.std.proofs.Common.{◌≡◌, ◌+◌, pos, List, [], ◌∷◌, ◌++◌, Option, Some, None, refl, sym, ap, ◌∙◌, append-nil, arith, rules, subst}
use Rattle.std.specs.Option.{option_and_then}
use Rattle.kp_schema.specs.declared.kind.Kind.{Kind}
use Rattle.kp_schema.specs.declared.kind.Kind.TheVariants as kinds
use Rattle.tree_spelling.specs.declared.primitive.Primitive.{Primitive}
use Rattle.tree_spelling.specs.Primitives.{IsInRange, entries_of, total_entries}
use Rattle.tree_spelling.specs.Shape.{Shape, End, Plain, Array}
use Rattle.tree_spelling.specs.Value.{Leaf, Value, leaf_item, items_of}
use Rattle.tree_spelling.specs.Spelling.{AreInRange, AreReadable, AreFirstItems}
use Rattle.tree_spelling.specs.Agenda.{passed}
use Rattle.tree_spelling.proofs.Coming.{comes, passed-append, value_of}

-- ---- lists of items

pub in_range-append : (xs ys : List Primitive) → AreInRange xs → AreInRange ys → AreInRange (xs ++ ys)
in_range-append [] ys a b = b
in_range-append (x ∷ xs) ys a b = (a.0, in_range-append xs ys a.1 b)

pub in_range-front : (xs ys : List Primitive) → AreInRange (xs ++ ys) → AreInRange xs
in_range-front [] ys h = tt
in_range-front (x ∷ xs) ys h = (h.0, in_range-front xs ys h.1)

pub in_range-back : (xs ys : List Primitive) → AreInRange (xs ++ ys) → AreInRange ys
in_range-back [] ys h = h
in_range-back (x ∷ xs) ys h = in_range-back xs ys h.1

pub in_range-one : (xs : List Primitive) (x : Primitive) → AreInRange xs → IsInRange x → AreInRange (xs ++ (x ∷ []))
in_range-one xs x h i = in_range-append xs (x ∷ []) h (i, tt)

pub total-append : (xs ys : List Primitive) → total_entries (xs ++ ys) ≡ total_entries xs + total_entries ys
total-append [] ys = omega arith
total-append (x ∷ xs) ys = omega (arith, total-append xs ys)

pub readable-front : (xs ys : List Primitive) → AreReadable (xs ++ ys) → AreReadable xs
readable-front xs ys h =
    record { in_range = in_range-front xs ys h.in_range; within_limit = omega (arith, h.within_limit, total-append xs ys) }

-- ---- blanks

blank_leaf : (k : Kind) → (v : Leaf k) × IsInRange (leaf_item k v) × (entries_of (leaf_item k v) ≡ 0)
blank_leaf kinds.I8 = (pos 0, search rules, refl)
blank_leaf kinds.I16 = (pos 0, search rules, refl)
blank_leaf kinds.I32 = (pos 0, search rules, refl)
blank_leaf kinds.I64 = (pos 0, search rules, refl)
blank_leaf kinds.Bool = (0, omega arith, refl)
blank_leaf kinds.Str = (None, tt, refl)
blank_leaf kinds.Bytes = (None, tt, refl)
blank_leaf kinds.Array = (None, tt, refl)

record IsBlank (xs : List Primitive) : Type 0 where
  pub in_range : AreInRange xs
  pub none : total_entries xs ≡ 0

blank : (s : Shape) → (v : Value s) × IsBlank (items_of s v)
blank End = (tt, record { in_range = tt; none = refl })
blank (Plain k r) =
    let l = blank_leaf k in
    let b = blank r in
    ((l.0, b.0), record { in_range = (l.1, b.1.in_range); none = omega (arith, l.2, b.1.none) })
blank (Array e r) =
    let b = blank r in
    ((None, b.0), record { in_range = (tt, b.1.in_range); none = omega (arith, b.1.none) })

blanks : (t : List Shape) → (xs : List Primitive) × IsBlank xs × (passed t xs ≡ Some [])
blanks [] = ([], record { in_range = tt; none = refl }, refl)
blanks (s ∷ t) =
    let b = blank s in
    let bs = blanks t in
    (items_of s b.0 ++ bs.0, record { in_range = in_range-append (items_of s b.0) bs.0 b.1.in_range bs.1.in_range; none = omega (arith, total-append (items_of s b.0) bs.0, b.1.none, bs.1.none) }, comes s b.0 t bs.0 ∙ bs.2)

-- ---- completing

pub joined : (s : Shape) (xs ys : List Primitive) (u : List Shape) → passed (s ∷ []) xs ≡ Some u → passed u ys ≡ Some [] → passed (s ∷ []) (xs ++ ys) ≡ Some []
joined s xs ys u e h = passed-append (s ∷ []) xs ys ∙ ap (option_and_then (λ w. passed w ys)) e ∙ h

-- what comes is the front of some value's items, whatever the limit
pub is_front : (s : Shape) (xs : List Primitive) (u : List Shape) → passed (s ∷ []) xs ≡ Some u → (v : Value s) × (ys : List Primitive) × (items_of s v ≡ xs ++ ys) × (AreInRange ys × (total_entries ys ≡ 0))
is_front s xs u e =
    let bs = blanks u in
    let v = value_of s (xs ++ bs.0) (joined s xs bs.0 u e bs.2) in
    (v.0, bs.0, v.1, (bs.1.in_range, bs.1.none))

pub first_items : (s : Shape) (xs : List Primitive) (u : List Shape) → passed (s ∷ []) xs ≡ Some u → AreReadable xs → AreFirstItems s xs
first_items s xs u e h =
    let f = is_front s xs u e in
    let all : AreReadable (xs ++ f.1) = record { in_range = in_range-append xs f.1 h.in_range f.3.0; within_limit = omega (arith, total-append xs f.1, f.3.1, h.within_limit) } in
    (f.0, f.1, f.2, subst AreReadable (sym f.2) all)

-- and the front of a value's items comes
pub some_passed : (xs ys : List Primitive) (o : Option (List Shape)) → option_and_then (λ w. passed w ys) o ≡ Some [] → (u : List Shape) × (o ≡ Some u) × (passed u ys ≡ Some [])
some_passed xs ys None h = absurd cc
some_passed xs ys (Some u) h = (u, refl, h)

pub whole_passes : (s : Shape) (v : Value s) → passed (s ∷ []) (items_of s v) ≡ Some []
whole_passes s v = ap (passed (s ∷ [])) (sym (append-nil (items_of s v))) ∙ comes s v [] []

pub front_passes : (s : Shape) (v : Value s) (xs ys : List Primitive) → items_of s v ≡ xs ++ ys → (u : List Shape) × (passed (s ∷ []) xs ≡ Some u) × (passed u ys ≡ Some [])
front_passes s v xs ys e =
    some_passed xs ys (passed (s ∷ []) xs) (sym (passed-append (s ∷ []) xs ys) ∙ ap (passed (s ∷ [])) (sym e) ∙ whole_passes s v)
