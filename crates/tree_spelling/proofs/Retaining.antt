-- What becomes of a value's items where an array loses entries.
use Rattle.std.proofs.Common.{◌≡◌, ◌∙◌, ap, sym, refl, subst, ℕ, zero, suc, ◌<◌, ◌≤◌, Bool, List, [], ◌∷◌, ◌++◌, length, Option, Some, None, Result, Ok, Err, append_assoc, arith}
use Rattle.std.specs.Prelude.{slice_get, slice_set}
use Rattle.std.specs.List.{flat_map}
use Rattle.kp_schema.specs.declared.kind.Kind.{Kind}
use Rattle.kp_schema.specs.declared.kind.Kind.TheVariants as kinds
use Rattle.tree_spelling.specs.declared.primitive.Primitive.{Primitive}
use Rattle.tree_spelling.specs.declared.primitive.Primitive.TheVariants.{Count}
use Rattle.tree_spelling.specs.declared.edit_fault.EditFault.{EditFault}
use Rattle.tree_spelling.specs.declared.edit_fault.EditFault.TheVariants.{NoSuch, WrongKind}
use Rattle.tree_spelling.specs.Primitives.{entries_of, kind_of}
use Rattle.tree_spelling.specs.Shape.{Shape, Plain, Array, field_shape}
use Rattle.tree_spelling.specs.Value.{Value, leaf_item, items_of}
use Rattle.tree_spelling.specs.Agenda.{copies, passed}
use Rattle.tree_spelling.specs.Retaining.{within, flagged, entry_changed, field_flagged}
use Rattle.tree_spelling.proofs.Walking.{copies_pass}

-- ---- one member of a list

-- the member with this number: what stands before it and behind it, and the list with another one in its place
record Member {A : Type 0} (f : A → List Primitive) (xs : List A) (i : ℕ) : Type 0 where
  member : A
  there : slice_get xs i ≡ Some member
  front : List A
  back : List A
  count : length front ≡ i
  items_are : flat_map f xs ≡ flat_map f front ++ (f member ++ flat_map f back)
  with : (y : A) → flat_map f (slice_set xs i y) ≡ flat_map f front ++ (f y ++ flat_map f back)
  same_count : (y : A) → length (slice_set xs i y) ≡ length xs

member_at : {A : Type 0} (f : A → List Primitive) (xs : List A) (i : ℕ) → i < length xs → Member f xs i
member_at f [] i h = absurd (omega arith)
member_at f (x ∷ xs) zero h =
    record { member = x; there = refl; front = []; back = xs; count = refl; items_are = refl; with = λ y. refl; same_count = λ y. refl }
member_at f (x ∷ xs) (suc i) h =
    let m = member_at f xs i (omega (arith, h)) in
    record {
      member = m.member;
      there = m.there;
      front = x ∷ m.front;
      back = m.back;
      count = ap suc m.count;
      items_are = ap (λ z. f x ++ z) m.items_are ∙ sym (append_assoc (f x) (flat_map f m.front) (f m.member ++ flat_map f m.back));
      with = λ y. ap (λ z. f x ++ z) (m.with y) ∙ sym (append_assoc (f x) (flat_map f m.front) (f y ++ flat_map f m.back));
      same_count = λ y. ap suc (m.same_count y);
    }

no_member : {A : Type 0} (xs : List A) (i : ℕ) → length xs ≤ i → slice_get xs i ≡ None
no_member [] i h = refl
no_member (x ∷ xs) zero h = absurd (omega (arith, h))
no_member (x ∷ xs) (suc i) h = no_member xs i (omega (arith, h))

-- ---- the first field of a value

-- the entry with this number, and the value with another one in its place
pub record EntryFlagged (e s : Shape) (v : Value s) (i : ℕ) (first : Primitive) : Type 0 where
  pub front : List Primitive
  pub entry : Value e
  pub back : List Primitive
  pub items_are : items_of s v ≡ (first ∷ front) ++ (items_of e entry ++ back)
  pub comes : passed (copies i e) front ≡ Some []
  pub with_entry : Value e → Value s
  pub new_items : (w : Value e) → items_of s (with_entry w) ≡ (first ∷ front) ++ (items_of e w ++ back)
  pub named : (flags : List Bool) (n : ℕ) (path : List ℕ) → field_flagged s v flags zero (i ∷ n ∷ path) ≡ within with_entry (field_flagged e entry flags n path)

-- the entries of the field itself, and the value without some of them
pub record ItselfFlagged (e r s : Shape) (v : Value s) (entries : List Primitive) (rest : Value r) (n : ℕ) : Type 0 where
  pub values : List (Value e)
  pub count : length values ≡ n
  pub entries_are : entries ≡ flat_map (items_of e) values
  pub with_flagged : List Bool → Value s
  pub flagged_is : (flags : List Bool) → field_flagged s v flags zero [] ≡ Ok (with_flagged flags)
  pub new_items : (flags : List Bool) → items_of s (with_flagged flags) ≡ (Count (Some (length (flagged flags values))) ∷ flat_map (items_of e) (flagged flags values)) ++ items_of r rest

pub record FirstFlagged (e r s : Shape) (v : Value s) : Type 0 where
  pub first : Primitive
  pub entries : List Primitive
  pub rest : Value r
  pub items_are : items_of s v ≡ (first ∷ entries) ++ items_of r rest
  pub comes : passed (copies (entries_of first) e) entries ≡ Some []
  -- a later field
  pub with_rest : Value r → Value s
  pub new_items : (w : Value r) → items_of s (with_rest w) ≡ (first ∷ entries) ++ items_of r w
  pub later : (flags : List Bool) (n : ℕ) (path : List ℕ) → field_flagged s v flags (suc n) path ≡ within with_rest (field_flagged r rest flags n path)
  -- the field itself
  pub no_array : (kind_of first ≡ kinds.Array → ⊥) → (flags : List Bool) → field_flagged s v flags zero [] ≡ Err WrongKind
  pub null : first ≡ Count None → (flags : List Bool) → field_flagged s v flags zero [] ≡ Ok v
  pub itself : (n : ℕ) → first ≡ Count (Some n) → ItselfFlagged e r s v entries rest n
  -- its entries
  pub half : (flags : List Bool) (i : ℕ) → field_flagged s v flags zero (i ∷ []) ≡ Err NoSuch
  pub missing : (flags : List Bool) (i n : ℕ) (path : List ℕ) → entries_of first ≤ i → field_flagged s v flags zero (i ∷ n ∷ path) ≡ Err NoSuch
  pub each : (i : ℕ) → i < entries_of first → EntryFlagged e s v i first

plain_flagged : (k : Kind) (e r : Shape) (v : Value (Plain k r)) → entries_of (leaf_item k v.0) ≡ 0 → (kind_of (leaf_item k v.0) ≡ kinds.Array → ⊥) → FirstFlagged e r (Plain k r) v
plain_flagged k e r v none other = record {
  first = leaf_item k v.0;
  entries = [];
  rest = v.1;
  items_are = refl;
  comes = ap (λ n. passed (copies n e) []) none;
  with_rest = λ w. (v.0, w);
  new_items = λ w. refl;
  later = λ flags n path. refl;
  no_array = λ h flags. refl;
  null = λ h flags. absurd (other (ap kind_of h));
  itself = λ n h. absurd (other (ap kind_of h));
  half = λ flags i. refl;
  missing = λ flags i n path h. refl;
  each = λ i h. absurd (omega (arith, h, none));
}

twice : {A B C : Type 0} (f : A → B) (g : B → C) (x : Result A EditFault) → within g (within f x) ≡ within (λ y. g (f y)) x
twice f g (Ok x) = refl
twice f g (Err fault) = refl

array_entry : (e r : Shape) (es : List (Value e)) (w : Value r) (i : ℕ) → i < length es → EntryFlagged e (Array e r) (Some es, w) i (Count (Some (length es)))
array_entry e r es w i h =
    let m = member_at (items_of e) es i h in
    let put : (x : Value e) → flat_map (items_of e) m.front ++ ((items_of e x ++ flat_map (items_of e) m.back) ++ items_of r w) ≡ flat_map (items_of e) m.front ++ (items_of e x ++ (flat_map (items_of e) m.back ++ items_of r w)) = λ x. ap (λ z. flat_map (items_of e) m.front ++ z) (append_assoc (items_of e x) (flat_map (items_of e) m.back) (items_of r w)) in
    record {
      front = flat_map (items_of e) m.front;
      entry = m.member;
      back = flat_map (items_of e) m.back ++ items_of r w;
      items_are = ap (λ z. Count (Some (length es)) ∷ (z ++ items_of r w)) m.items_are ∙ ap (λ z. Count (Some (length es)) ∷ z) (append_assoc (flat_map (items_of e) m.front) (items_of e m.member ++ flat_map (items_of e) m.back) (items_of r w) ∙ put m.member);
      comes = ap (λ n. passed (copies n e) (flat_map (items_of e) m.front)) (sym m.count) ∙ copies_pass e m.front;
      with_entry = λ x. (Some (slice_set es i x), w);
      new_items = λ x. ap (λ n. Count (Some n) ∷ (flat_map (items_of e) (slice_set es i x) ++ items_of r w)) (m.same_count x) ∙ (ap (λ z. Count (Some (length es)) ∷ (z ++ items_of r w)) (m.with x) ∙ ap (λ z. Count (Some (length es)) ∷ z) (append_assoc (flat_map (items_of e) m.front) (items_of e x ++ flat_map (items_of e) m.back) (items_of r w) ∙ put x));
      named = λ flags n path.
          ap (λ o. within (λ array. (array, w)) (entry_changed (λ x. field_flagged e x flags n path) es i o)) m.there ∙ twice (λ x. Some (slice_set es i x)) (λ array. (array, w)) (field_flagged e m.member flags n path);
    }

array_flagged_first : (e r : Shape) (o : Option (List (Value e))) (w : Value r) → FirstFlagged e r (Array e r) (o, w)
array_flagged_first e r None w = record {
  first = Count None;
  entries = [];
  rest = w;
  items_are = refl;
  comes = refl;
  with_rest = λ x. (None, x);
  new_items = λ x. refl;
  later = λ flags n path. refl;
  no_array = λ h flags. absurd (h refl);
  null = λ h flags. refl;
  itself = λ n h. cc;
  half = λ flags i. refl;
  missing = λ flags i n path h. refl;
  each = λ i h. absurd (omega (arith, h));
}
array_flagged_first e r (Some es) w = record {
  first = Count (Some (length es));
  entries = flat_map (items_of e) es;
  rest = w;
  items_are = refl;
  comes = copies_pass e es;
  with_rest = λ x. (Some es, x);
  new_items = λ x. refl;
  later = λ flags n path. refl;
  no_array = λ h flags. absurd (h refl);
  null = λ h flags. cc;
  itself = λ n h. (let same : length es ≡ n = cc in record {
    values = es;
    count = same;
    entries_are = refl;
    with_flagged = λ flags. (Some (flagged flags es), w);
    flagged_is = λ flags. refl;
    new_items = λ flags. refl;
  });
  half = λ flags i. refl;
  missing = λ flags i n path h. ap (λ o. within (λ array. (array, w)) (entry_changed (λ x. field_flagged e x flags n path) es i o)) (no_member es i h);
  each = λ i h. array_entry e r es w i h;
}

field_flagged_first : (k : Kind) (e r : Shape) (v : Value (field_shape k e r)) → FirstFlagged e r (field_shape k e r) v
field_flagged_first kinds.I8 e r v = plain_flagged kinds.I8 e r v refl (λ h. cc)
field_flagged_first kinds.I16 e r v = plain_flagged kinds.I16 e r v refl (λ h. cc)
field_flagged_first kinds.I32 e r v = plain_flagged kinds.I32 e r v refl (λ h. cc)
field_flagged_first kinds.I64 e r v = plain_flagged kinds.I64 e r v refl (λ h. cc)
field_flagged_first kinds.Bool e r v = plain_flagged kinds.Bool e r v refl (λ h. cc)
field_flagged_first kinds.Str e r v = plain_flagged kinds.Str e r v refl (λ h. cc)
field_flagged_first kinds.Bytes e r v = plain_flagged kinds.Bytes e r v refl (λ h. cc)
field_flagged_first kinds.Array e r v = array_flagged_first e r v.0 v.1

pub first_flagged : (k : Kind) (e r s : Shape) → s ≡ field_shape k e r → (v : Value s) → FirstFlagged e r s v
first_flagged k e r s h =
    subst (λ (z : Shape). (v : Value z) → FirstFlagged e r z v) (sym h) (field_flagged_first k e r)
