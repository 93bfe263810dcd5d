-- A body with one item changed for another of its kind.
use Rattle.std.proofs.Common.{◌≡◌, ◌≢◌, ℕ, ℤ, zero, suc, ◌+◌, ◌-◌, ◌<◌, ◌≤◌, Bool, true, false, List, [], ◌∷◌, ◌++◌, length, length-append, get_or, Some, None, Ok, refl, sym, ap, ◌∙◌, subst, arith}
use Rattle.std.specs.Prelude.{slice_get, slice_set}
use Rattle.std.specs.Option.{option_and_then}
use Rattle.kp_schema.specs.declared.dir.Dir.{Dir}
use Rattle.kp_schema.specs.declared.kind.Kind.{Kind}
use Rattle.kp_schema.specs.declared.kind.Kind.TheVariants as kinds
use Rattle.tree_spelling.specs.declared.primitive.Primitive.{Primitive}
use Rattle.tree_spelling.specs.declared.primitive.Primitive.TheVariants.{Int8, Int16, Int32, Int64, Boolean, Text, Binary, Count}
use Rattle.tree_spelling.specs.declared.item.Item.{Item}
use Rattle.tree_spelling.specs.Primitives.{spelled, kind_of, IsInRange}
use Rattle.tree_spelling.specs.Shape.{Shape, End, Plain, Array, message_shape}
use Rattle.tree_spelling.specs.Spelling.{spelling, AreInRange}
use Rattle.tree_spelling.specs.Body.{IsTree}
use Rattle.tree_spelling.specs.Changes.{in_place_of, put_at, set_old, set_items}
use Rattle.tree_spelling.specs.Agenda.{is_kind, after, after_array, passed}
use Rattle.tree_spelling.proofs.Coming.{value_of}
use Rattle.tree_spelling.proofs.Blanks.{whole_passes, in_range-append, in_range-front, in_range-back}
use Rattle.tree_spelling.proofs.Fronts.{spelling-append}

-- ---- one place of a list

pub record Split (xs : List Primitive) (n : ℕ) (x y : Primitive) : Type 0 where
  pub front : List Primitive
  pub back : List Primitive
  pub old_is : xs ≡ front ++ (x ∷ back)
  pub new_is : slice_set xs n y ≡ front ++ (y ∷ back)
  pub there : slice_get xs n ≡ Some x

pub split : (xs : List Primitive) (n : ℕ) (x y : Primitive) → n < length xs → x ≡ get_or xs n x → Split xs n x y
split [] n x y h e = absurd (omega arith)
split (z ∷ xs) zero x y h e =
    record { front = []; back = xs; old_is = ap (λ w. w ∷ xs) (sym e); new_is = refl; there = ap Some (sym e) }
split (z ∷ xs) (suc n) x y h e =
    let s = split xs n x y (omega arith) e in
    record {
      front = z ∷ s.front;
      back = s.back;
      old_is = ap (λ ys. z ∷ ys) s.old_is;
      new_is = ap (λ ys. z ∷ ys) s.new_is;
      there = s.there;
    }

-- ---- items of one kind

abbrev same_kind : Kind → Kind → Bool
same_kind kinds.I8 kinds.I8 = true
same_kind kinds.I16 kinds.I16 = true
same_kind kinds.I32 kinds.I32 = true
same_kind kinds.I64 kinds.I64 = true
same_kind kinds.Bool kinds.Bool = true
same_kind kinds.Str kinds.Str = true
same_kind kinds.Bytes kinds.Bytes = true
same_kind kinds.Array kinds.Array = true
same_kind _ _ = false

is_kind-of : (k : Kind) (x : Primitive) → is_kind k x ≡ same_kind k (kind_of x)
is_kind-of kinds.I8 (Int8 v) = refl
is_kind-of kinds.I16 (Int16 v) = refl
is_kind-of kinds.I32 (Int32 v) = refl
is_kind-of kinds.I64 (Int64 v) = refl
is_kind-of kinds.Bool (Boolean v) = refl
is_kind-of kinds.Str (Text v) = refl
is_kind-of kinds.Bytes (Binary v) = refl
is_kind-of kinds.Array (Count v) = refl
is_kind-of k x = refl

array_none : (e r : Shape) (t : List Shape) (x : Primitive) → kind_of x ≢ kinds.Array → after_array e r t x ≡ None
array_none e r t (Count v) other = absurd (other refl)
array_none e r t x other = refl

after_same : (t : List Shape) (x y : Primitive) → kind_of y ≡ kind_of x → kind_of y ≢ kinds.Array → after t x ≡ after t y
after_same [] x y e other = refl
after_same (End ∷ t) x y e other = after_same t x y e other
after_same (Plain k r ∷ t) x y e other =
    let same : is_kind k x ≡ is_kind k y = is_kind-of k x ∙ ap (same_kind k) (sym e) ∙ sym (is_kind-of k y) in
    rw same refl
after_same (Array f r ∷ t) x y e other =
    array_none f r t x (λ h. other (e ∙ h)) ∙ sym (array_none f r t y other)

pub passed_same : (t : List Shape) (front back : List Primitive) (x y : Primitive) → kind_of y ≡ kind_of x → kind_of y ≢ kinds.Array → passed t (front ++ (x ∷ back)) ≡ passed t (front ++ (y ∷ back))
passed_same t [] back x y e other = ap (option_and_then (λ u. passed u back)) (after_same t x y e other)
passed_same t (z ∷ front) back x y e other =
    elim (after t z) as (λ o. option_and_then (λ u. passed u (front ++ (x ∷ back))) o ≡ option_and_then (λ u. passed u (front ++ (y ∷ back))) o) [
      | None ↦ refl
      | Some u ↦ passed_same u front back x y e other
    ]

-- ---- the whole body

abbrev IsWhole : ℤ → ℤ → Dir → List Primitive → ℕ → Type 0
IsWhole key version dir xs size =
    (size ≡ length (spelling xs)) × IsTree (record { key = key; version = version; dir = dir; items = xs })

pub old_fits : (key version : ℤ) (dir : Dir) (xs : List Primitive) (size n : ℕ) (x : Primitive) → IsWhole key version dir xs size → n < length xs → x ≡ get_or xs n x → length (spelled x) ≤ size
old_fits key version dir xs size n x w h e =
    let s = split xs n x x h e in
    omega (arith, w.0, ap (λ ys. length (spelling ys)) s.old_is, ap length (spelling-append s.front (x ∷ s.back)), length-append (spelling s.front) (spelling (x ∷ s.back)), length-append (spelled x) (spelling s.back))

pub set_whole : (key version : ℤ) (dir : Dir) (xs : List Primitive) (size grown n : ℕ) (x y : Primitive) → IsWhole key version dir xs size → n < length xs → x ≡ get_or xs n x → (kind_of y ≡ kind_of x) × (kind_of y ≢ kinds.Array) → IsInRange y → grown ≡ (size - length (spelled x)) + length (spelled y) → IsWhole key version dir (slice_set xs n y) grown
set_whole key version dir xs size grown n x y w h e same range g =
    let s = split xs n x y h e in
    let shape = message_shape key version dir in
    let come : passed (message_shape key version dir ∷ []) (slice_set xs n y) ≡ Some [] = ap (passed (shape ∷ [])) s.new_is ∙ sym (passed_same (shape ∷ []) s.front s.back x y same.0 same.1) ∙ ap (passed (shape ∷ [])) (sym s.old_is) ∙ ap (passed (shape ∷ [])) w.1.is ∙ whole_passes shape w.1.value in
    let v = value_of shape (slice_set xs n y) come in
    let all : AreInRange (s.front ++ (x ∷ s.back)) = subst AreInRange s.old_is w.1.in_range in
    let ranges : AreInRange (s.front ++ (y ∷ s.back)) = in_range-append s.front (y ∷ s.back) (in_range-front s.front (x ∷ s.back) all) (range, (in_range-back s.front (x ∷ s.back) all).1) in
    let before : size ≡ length (spelling s.front) + (length (spelled x) + length (spelling s.back)) = omega (arith, w.0, ap (λ ys. length (spelling ys)) s.old_is, ap length (spelling-append s.front (x ∷ s.back)), length-append (spelling s.front) (spelling (x ∷ s.back)), length-append (spelled x) (spelling s.back)) in (
      omega (arith, g, before, ap (λ ys. length (spelling ys)) s.new_is, ap length (spelling-append s.front (y ∷ s.back)), length-append (spelling s.front) (spelling (y ∷ s.back)), length-append (spelled y) (spelling s.back)),
      record {
        value = v.0;
        is = sym v.1;
        in_range = subst AreInRange (sym s.new_is) ranges;
      },
    )

pub set_is : (xs : List Primitive) (n : ℕ) (x y : Primitive) (item : Item) → n < length xs → x ≡ get_or xs n x → Ok y ≡ in_place_of (kind_of x) item → set_items xs (Some n) item ≡ Ok (slice_set xs n y)
set_is xs n x y item h e made =
    ap (λ o. set_old xs n o item) (split xs n x y h e).there ∙ ap (put_at xs n) (sym made)
