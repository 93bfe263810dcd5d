-- What follows the entries of an array, and the fields of a value.
use Rattle.std.proofs.Common.{◌≡◌, ℕ, zero, suc, ◌+◌, ◌<◌, ◌≤◌, List, [], ◌∷◌, ◌++◌, length, take, drop, Option, Some, None, refl, sym, ap, ◌∙◌, append_assoc, append-nil, arith, subst}
use Rattle.std.specs.Prelude.{slice_get}
use Rattle.std.specs.List.{flat_map}
use Rattle.std.specs.Option.{option_and_then}
use Rattle.kp_schema.specs.declared.kind.Kind.{Kind}
use Rattle.kp_schema.specs.declared.kind.Kind.TheVariants as kinds
use Rattle.tree_spelling.specs.declared.primitive.Primitive.{Primitive}
use Rattle.tree_spelling.specs.declared.primitive.Primitive.TheVariants.{Count}
use Rattle.tree_spelling.specs.Primitives.{entries_of}
use Rattle.tree_spelling.specs.Shape.{Shape, End, Plain, Array, field_shape}
use Rattle.tree_spelling.specs.Value.{Value, leaf_item, items_of}
use Rattle.tree_spelling.specs.Agenda.{copies, settled, after, passed, items_behind, behind_next, next_kind}
use Rattle.tree_spelling.specs.Paths.{further, field_place}
use Rattle.tree_spelling.proofs.Coming.{comes, entries_come, after-settled}

pub behind-settled : (t : List Shape) (xs : List Primitive) → items_behind (settled t) xs ≡ items_behind t xs
behind-settled t [] = refl
behind-settled t (x ∷ xs) = ap (behind_next (λ u. items_behind u xs) (x ∷ xs)) (after-settled t x)

behind-nothing : (xs : List Primitive) → items_behind [] xs ≡ xs
behind-nothing [] = refl
behind-nothing (x ∷ xs) = refl

done_behind : (t : List Shape) (rest : List Primitive) → Some (settled t) ≡ Some [] → items_behind t rest ≡ rest
done_behind t rest h =
    let e : settled t ≡ [] = cc in
    sym (behind-settled t rest) ∙ ap (λ u. items_behind u rest) e ∙ behind-nothing rest

some_behind : (o : Option (List Shape)) (x : Primitive) (xs rest : List Primitive) → ((u : List Shape) → passed u xs ≡ Some [] → items_behind u (xs ++ rest) ≡ rest) → option_and_then (λ u. passed u xs) o ≡ Some [] → behind_next (λ u. items_behind u (xs ++ rest)) (x ∷ (xs ++ rest)) o ≡ rest
some_behind None x xs rest ih h = absurd cc
some_behind (Some u) x xs rest ih h = ih u h

-- items that come and leave nothing are passed
pub behind_all : (xs : List Primitive) (t : List Shape) (rest : List Primitive) → passed t xs ≡ Some [] → items_behind t (xs ++ rest) ≡ rest
behind_all [] t rest h = done_behind t rest h
behind_all (x ∷ xs) t rest h = some_behind (after t x) x xs rest (λ u g. behind_all xs u rest g) h

pub copies_pass : (e : Shape) (es : List (Value e)) → passed (copies (length es) e) (flat_map (items_of e) es) ≡ Some []
copies_pass e es =
    ap (passed (copies (length es) e)) (sym (append-nil (flat_map (items_of e) es))) ∙ ap (λ t. passed t (flat_map (items_of e) es ++ [])) (sym (append-nil (copies (length es) e))) ∙ entries_come e (comes e) es [] []

-- ---- one step of a walk

pub behind_one : (t u : List Shape) (x : Primitive) (xs : List Primitive) → after t x ≡ Some u → items_behind (settled u) xs ≡ items_behind t (x ∷ xs)
behind_one t u x xs h = behind-settled u xs ∙ sym (ap (behind_next (λ w. items_behind w xs) (x ∷ xs)) h)

none_kind : (t : List Shape) → next_kind t ≡ None → settled t ≡ []
none_kind [] h = refl
none_kind (End ∷ t) h = none_kind t h
none_kind (Plain k r ∷ t) h = absurd cc
none_kind (Array e r ∷ t) h = absurd cc

pub behind_end : (t : List Shape) (xs : List Primitive) → next_kind t ≡ None → items_behind t xs ≡ xs
behind_end t xs h = sym (behind-settled t xs) ∙ ap (λ u. items_behind u xs) (none_kind t h) ∙ behind-nothing xs

-- ---- an entry of an array

picked_more : {A : Type 0} (f : A → List Primitive) (x w : A) (es : List A) (i : ℕ) → flat_map f es ≡ flat_map f (take i es) ++ (f w ++ flat_map f (drop (suc i) es)) → flat_map f (x ∷ es) ≡ flat_map f (take (suc i) (x ∷ es)) ++ (f w ++ flat_map f (drop (suc (suc i)) (x ∷ es)))
picked_more f x w es i h =
    ap (λ z. f x ++ z) h ∙ sym (append_assoc (f x) (flat_map f (take i es)) (f w ++ flat_map f (drop (suc i) es)))

pick : {A : Type 0} (f : A → List Primitive) (es : List A) (i : ℕ) → i < length es → (w : A) × (slice_get es i ≡ Some w) × (flat_map f es ≡ flat_map f (take i es) ++ (f w ++ flat_map f (drop (suc i) es))) × (length (take i es) ≡ i)
pick f [] i h = absurd (omega arith)
pick f (x ∷ es) zero h = (x, refl, refl, refl)
pick f (x ∷ es) (suc i) h =
    let p = pick f es i (omega arith) in
    (p.0, p.1, picked_more f x p.0 es i p.2, ap suc p.3)

missing : {A : Type 0} (es : List A) (i : ℕ) → length es ≤ i → slice_get es i ≡ None
missing [] i h = refl
missing (x ∷ es) zero h = absurd (omega arith)
missing (x ∷ es) (suc i) h = missing es i (omega arith)

-- the entry with this number: what stands before it in the array, and items_behind it
pub record Entry (e s : Shape) (v : Value s) (i : ℕ) : Type 0 where
  pub first : Primitive
  pub front : List Primitive
  pub entry : Value e
  pub back : List Primitive
  pub items_are : items_of s v ≡ (first ∷ front) ++ (items_of e entry ++ back)
  pub comes : passed (copies i e) front ≡ Some []
  pub place : (n : ℕ) (path : List ℕ) → field_place s v zero (i ∷ n ∷ path) ≡ further (1 + length front) (field_place e entry n path)

-- either there is no such entry, and the path names nothing, or there is one
abbrev EntryOrNot : Shape → (s : Shape) → Value s → ℕ → Primitive → Type 0
EntryOrNot e s v i first =
    (entries_of first ≤ i → (n : ℕ) (path : List ℕ) → field_place s v zero (i ∷ n ∷ path) ≡ None) × (i < entries_of first → Entry e s v i)

abbrev array_count_item : {A : Type 0} → Option (List A) → Primitive
array_count_item None = Count None
array_count_item (Some es) = Count (Some (length es))

plain_entry : (k : Kind) (e r : Shape) (v : Value (Plain k r)) (i : ℕ) (first : Primitive) → entries_of first ≡ 0 → EntryOrNot e (Plain k r) v i first
plain_entry k e r v i first none = (λ _ n path. refl, λ h. absurd (omega arith))

array_entry : (e r : Shape) (o : Option (List (Value e))) (w : Value r) (i : ℕ) (first : Primitive) → entries_of first ≡ entries_of (array_count_item o) → EntryOrNot e (Array e r) (o, w) i first
array_entry e r None w i first h = (λ _ n path. refl, λ few. absurd (omega arith))
array_entry e r (Some es) w i first h = (
  λ over n path. ap (option_and_then (λ entry. further (1 + length (flat_map (items_of e) (take i es))) (field_place e entry n path))) (missing es i (omega arith)),
  λ few. (
      let p = pick (items_of e) es i (omega arith) in
      record {
        first = Count (Some (length es));
        front = flat_map (items_of e) (take i es);
        entry = p.0;
        back = flat_map (items_of e) (drop (suc i) es) ++ items_of r w;
        items_are = ap (λ z. Count (Some (length es)) ∷ (z ++ items_of r w)) p.2 ∙ ap (λ z. Count (Some (length es)) ∷ z) (append_assoc (flat_map (items_of e) (take i es)) (items_of e p.0 ++ flat_map (items_of e) (drop (suc i) es)) (items_of r w) ∙ ap (λ z. flat_map (items_of e) (take i es) ++ z) (append_assoc (items_of e p.0) (flat_map (items_of e) (drop (suc i) es)) (items_of r w)));
        comes = ap (λ n. passed (copies n e) (flat_map (items_of e) (take i es))) (sym p.3) ∙ copies_pass e (take i es);
        place = λ n path. ap (option_and_then (λ entry. further (1 + length (flat_map (items_of e) (take i es))) (field_place e entry n path))) p.1;
      }),
)

-- ---- the first field of a value

-- a value of a field and the rest: the field's items, what follows the first of them, and the rest
pub record FirstField (e r s : Shape) (v : Value s) : Type 0 where
  pub first : Primitive
  pub entries : List Primitive
  pub rest : Value r
  pub items_are : items_of s v ≡ (first ∷ entries) ++ items_of r rest
  pub comes : passed (copies (entries_of first) e) entries ≡ Some []
  pub place : (n : ℕ) (path : List ℕ) → field_place s v (suc n) path ≡ further (1 + length entries) (field_place r rest n path)
  pub here : field_place s v zero [] ≡ Some 0
  pub half : (i : ℕ) → field_place s v zero (i ∷ []) ≡ None
  pub each : (i : ℕ) → EntryOrNot e s v i first

plain_first : (k : Kind) (e r : Shape) (v : Value (Plain k r)) → entries_of (leaf_item k v.0) ≡ 0 → FirstField e r (Plain k r) v
plain_first k e r v none = record {
  first = leaf_item k v.0;
  entries = [];
  rest = v.1;
  items_are = refl;
  comes = ap (λ n. passed (copies n e) []) none;
  place = λ n path. refl;
  here = refl;
  half = λ i. refl;
  each = λ i. plain_entry k e r v i (leaf_item k v.0) none;
}

array_first : (e r : Shape) (o : Option (List (Value e))) (w : Value r) → FirstField e r (Array e r) (o, w)
array_first e r None w = record {
  first = Count None;
  entries = [];
  rest = w;
  items_are = refl;
  comes = refl;
  place = λ n path. refl;
  here = refl;
  half = λ i. refl;
  each = λ i. array_entry e r None w i (Count None) refl;
}
array_first e r (Some es) w = record {
  first = Count (Some (length es));
  entries = flat_map (items_of e) es;
  rest = w;
  items_are = refl;
  comes = copies_pass e es;
  place = λ n path. ap (λ m. further m (field_place r w n path)) (omega arith);
  here = refl;
  half = λ i. refl;
  each = λ i. array_entry e r (Some es) w i (Count (Some (length es))) refl;
}

field_first : (k : Kind) (e r : Shape) (v : Value (field_shape k e r)) → FirstField e r (field_shape k e r) v
field_first kinds.I8 e r v = plain_first kinds.I8 e r v refl
field_first kinds.I16 e r v = plain_first kinds.I16 e r v refl
field_first kinds.I32 e r v = plain_first kinds.I32 e r v refl
field_first kinds.I64 e r v = plain_first kinds.I64 e r v refl
field_first kinds.Bool e r v = plain_first kinds.Bool e r v refl
field_first kinds.Str e r v = plain_first kinds.Str e r v refl
field_first kinds.Bytes e r v = plain_first kinds.Bytes e r v refl
field_first kinds.Array e r v = array_first e r v.0 v.1

pub first_field : (k : Kind) (e r s : Shape) → s ≡ field_shape k e r → (v : Value s) → FirstField e r s v
first_field k e r s h =
    subst (λ (z : Shape). (v : Value z) → FirstField e r z v) (sym h) (field_first k e r)
