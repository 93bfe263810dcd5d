-- Items are those of one view at most that fits the version.
use Rattle.std.proofs.Common.{◌≡◌, ℤ, List, [], ◌∷◌, length, Option, Some, None, is_some, refl, sym, ap, ◌∙◌}
use Rattle.std.specs.List.{AllByRecursion}
use Rattle.kp_schema.specs.declared.kind.Kind.{Kind}
use Rattle.kp_schema.specs.declared.kind.Kind.TheVariants as kinds
use Rattle.tree_spelling.specs.declared.primitive.Primitive.{Primitive}
use Rattle.tree_spelling.specs.declared.primitive.Primitive.TheVariants.{Count}
use Rattle.tree_spelling.specs.Value.{Leaf, leaf_item}
use Rattle.views.specs.Format.{Format, Finished, Single, SingleIn, Several, SeveralIn}
use Rattle.views.specs.Reading.{given_before, entries_before, array_before, items_before}
use Rattle.views.specs.Fitting.{FitVersion, AllEntriesFit, FitsIfGiven}

-- what is before the rest, and the rest, can be told apart
abbrev pub IsOne : {A : Type 0} → (A → Type 0) → (A → List Primitive → List Primitive) → Type 0
IsOne {A} P h = (a b : A) (r s : List Primitive) → P a → P b → h a r ≡ h b s → (a ≡ b) × (r ≡ s)

pair_is : {A B : Type 0} (x y : A × B) → x.0 ≡ y.0 → x.1 ≡ y.1 → x ≡ y
pair_is {A} {B} x y e f = ap (λ (a : A). let p : A × B = (a, x.1) in p) e ∙ ap (λ (b : B). let p : A × B = (y.0, b) in p) f

front_is : (a b : Primitive) (r s : List Primitive) → a ∷ r ≡ b ∷ s → a ≡ b
front_is a b r s e = cc

back_is : (a b : Primitive) (r s : List Primitive) → a ∷ r ≡ b ∷ s → r ≡ s
back_is a b r s e = cc

leaf_is : (kind : Kind) (a b : Leaf kind) → leaf_item kind a ≡ leaf_item kind b → a ≡ b
leaf_is kinds.I8 a b e = cc
leaf_is kinds.I16 a b e = cc
leaf_is kinds.I32 a b e = cc
leaf_is kinds.I64 a b e = cc
leaf_is kinds.Bool a b e = cc
leaf_is kinds.Str a b e = cc
leaf_is kinds.Bytes a b e = cc
leaf_is kinds.Array a b e = cc

leaf_one : (kind : Kind) → IsOne {A = Leaf kind} (λ x. Unit {0}) (λ x behind. leaf_item kind x ∷ behind)
leaf_one kind a b r s p q e =
    (leaf_is kind a b (front_is (leaf_item kind a) (leaf_item kind b) r s e), back_is (leaf_item kind a) (leaf_item kind b) r s e)

given_one : {A : Type 0} (P : A → Type 0) (h : A → List Primitive → List Primitive) → IsOne P h → (x y : Option A) (r s : List Primitive) → is_some x ≡ is_some y → FitsIfGiven P x → FitsIfGiven P y → given_before h x r ≡ given_before h y s → (x ≡ y) × (r ≡ s)
unfolding given_before FitsIfGiven
given_one P h one None None r s same p q e = (refl, e)
given_one P h one (Some a) (Some b) r s same p q e = let o = one a b r s p q e in (ap Some o.0, o.1)
given_one P h one None (Some b) r s same p q e = cc
given_one P h one (Some a) None r s same p q e = cc

entries_one : {A : Type 0} (P : A → Type 0) (h : A → List Primitive → List Primitive) → IsOne P h → (xs ys : List A) (r s : List Primitive) → length xs ≡ length ys → AllByRecursion P xs → AllByRecursion P ys → entries_before h xs r ≡ entries_before h ys s → (xs ≡ ys) × (r ≡ s)
entries_one P h one [] [] r s same p q e = (refl, e)
entries_one P h one (x ∷ xs) (y ∷ ys) r s same p q e =
    let o = one x y (entries_before h xs r) (entries_before h ys s) p.0 q.0 e in
    let len : length xs ≡ length ys = cc in
    let os = entries_one P h one xs ys r s len p.1 q.1 o.1 in
    let heads : x ≡ y = o.0 in
    let tails : xs ≡ ys = os.0 in
    (cc, os.1)
entries_one P h one [] (y ∷ ys) r s same p q e = cc
entries_one P h one (x ∷ xs) [] r s same p q e = cc

array_one : {A : Type 0} (P : A → Type 0) (h : A → List Primitive → List Primitive) → IsOne P h → IsOne (AllEntriesFit P) (array_before h)
unfolding array_before AllEntriesFit
array_one P h one None None r s p q e = (refl, back_is (Count None) (Count None) r s e)
array_one P h one (Some xs) (Some ys) r s p q e =
    let first = front_is (Count (Some (length xs))) (Count (Some (length ys))) (entries_before h xs r) (entries_before h ys s) e in
    let len : length xs ≡ length ys = cc in
    let os = entries_one P h one xs ys r s len p q (back_is (Count (Some (length xs))) (Count (Some (length ys))) (entries_before h xs r) (entries_before h ys s) e) in
    (ap Some os.0, os.1)
array_one P h one None (Some ys) r s p q e = cc
array_one P h one (Some xs) None r s p q e = cc

always_given : {A : Type 0} (x : Option A) → FitsIfGiven (λ v. Unit {0}) x
unfolding FitsIfGiven
always_given None = tt
always_given (Some x) = tt

pub fields_one : (format : Format) (version : ℤ) → IsOne (FitVersion format version) (items_before format)
fields_one Finished version x y r s p q e = (refl, e)
fields_one (Single kind more) version x y r s p q e =
    let o = leaf_one kind x.0 y.0 (items_before more x.1 r) (items_before more y.1 s) tt tt e in
    let os = fields_one more version x.1 y.1 r s p q o.1 in
    (pair_is x y o.0 os.0, os.1)
fields_one (SingleIn number first last kind more) version x y r s p q e =
    let o = given_one (λ v. Unit {0}) (λ v behind. leaf_item kind v ∷ behind) (leaf_one kind) x.0 y.0 (items_before more x.1 r) (items_before more y.1 s) (p.0 ∙ sym q.0) (always_given x.0) (always_given y.0) e in
    let os = fields_one more version x.1 y.1 r s p.1 q.1 o.1 in
    (pair_is x y o.0 os.0, os.1)
fields_one (Several entry more) version x y r s p q e =
    let o = array_one (FitVersion entry version) (items_before entry) (fields_one entry version) x.0 y.0 (items_before more x.1 r) (items_before more y.1 s) p.0 q.0 e in
    let os = fields_one more version x.1 y.1 r s p.1 q.1 o.1 in
    (pair_is x y o.0 os.0, os.1)
fields_one (SeveralIn number first last entry more) version x y r s p q e =
    let o = given_one (AllEntriesFit (FitVersion entry version)) (array_before (items_before entry)) (array_one (FitVersion entry version) (items_before entry) (fields_one entry version)) x.0 y.0 (items_before more x.1 r) (items_before more y.1 s) (p.0 ∙ sym q.0) p.1.0 q.1.0 e in
    let os = fields_one more version x.1 y.1 r s p.1.1 q.1.1 o.1 in
    (pair_is x y o.0 os.0, os.1)
