-- What a draft at its end says of the view.
use Rattle.std.proofs.Common.{◌≡◌, ℕ, ◌+◌, ◌≤◌, ℤ, pos, Bool, true, false, ◌⊎◌, inl, inr, List, [], ◌∷◌, ◌++◌, Option, Some, None, Result, Ok, Err, IfOk, IfErr, OnOk, is_some, refl, sym, ap, ◌∙◌, nat_lt, if◌then◌else◌, arith}
use Rattle.std.proofs.lemmas.Bool.Decides.{nat_tests}
use Rattle.std.proofs.Math.Facts.{to_z-of_z}
use mir.Val.{SFits, of_z, to_z}
use mir.Syntax.{w16}
use Rattle.std.specs.List.{flat_map, AllByRecursion}
use Rattle.kp_schema.specs.declared.dir.Dir.{Dir}
use Rattle.tree_spelling.specs.declared.primitive.Primitive.{Primitive}
use Rattle.tree_spelling.specs.Body.{Contents}
use Rattle.views.specs.declared.view_fault.ViewFault.{ViewFault}
use Rattle.views.specs.declared.view_fault.ViewFault.TheVariants.{WrongApi, Misplaced, TooLong, NoMemory}
use Rattle.views.specs.Format.{Format, Finished, Single, SingleIn, Several, SeveralIn, Fields}
use Rattle.views.specs.Reading.{items_before}
use Rattle.views.specs.Fitting.{is_same, is_wanted, if_unfit, in_each_entry, in_given, unfit_fields, FitVersion, AllEntriesFit, FitsIfGiven}
use Rattle.views.specs.Lengths.{first_excess}
use Rattle.views.specs.Writing.{Draft, Begun, Exceeded, Unfit, put_fields}
use Rattle.views.specs.Drafting.{least_of, long_draft, drafted}
use Rattle.views.specs.Drafts.{IsDraftFault}
use Rattle.views.specs.Views.{view_body, IsAmong, IsLeastOf, HasNoBody}
use Rattle.views.proofs.Drafts.{fields_add}

-- the least number

smaller_by : (n m : ℕ) (b : Bool) → nat_lt n m ≡ b → (((if b then n else m) ≡ n) × (n ≤ m)) ⊎ (((if b then n else m) ≡ m) × (m ≤ n))
smaller_by n m true e = inl (refl, grind (arith, nat_tests))
smaller_by n m false e = inr (refl, grind (arith, nat_tests))

smaller : (n m : ℕ) → (((if nat_lt n m then n else m) ≡ n) × (n ≤ m)) ⊎ (((if nat_lt n m then n else m) ≡ m) × (m ≤ n))
smaller n m = smaller_by n m (nat_lt n m) refl

among_two : (p n m k : ℕ) (ns : List ℕ) → (p ≡ n) ⊎ (p ≡ m) → IsAmong k (p ∷ ns) → IsAmong k (m ∷ (n ∷ ns))
among_two p n m k ns (inl e) (inl is) = inr (inl (is ∙ e))
among_two p n m k ns (inr e) (inl is) = inl (is ∙ e)
among_two p n m k ns e (inr later) = inr (inr later)

either_is : (n m p : ℕ) → ((p ≡ n) × (n ≤ m)) ⊎ ((p ≡ m) × (m ≤ n)) → (p ≡ n) ⊎ (p ≡ m)
either_is n m p (inl h) = inl h.0
either_is n m p (inr h) = inr h.0

at_most_first : (n m p : ℕ) → ((p ≡ n) × (n ≤ m)) ⊎ ((p ≡ m) × (m ≤ n)) → p ≤ m
at_most_first n m p (inl h) = omega (arith, h.0, h.1)
at_most_first n m p (inr h) = omega (arith, h.0)

at_most_second : (n m p : ℕ) → ((p ≡ n) × (n ≤ m)) ⊎ ((p ≡ m) × (m ≤ n)) → p ≤ n
at_most_second n m p (inl h) = omega (arith, h.0)
at_most_second n m p (inr h) = omega (arith, h.0, h.1)

least_among : (m : ℕ) (ms : List ℕ) → IsAmong (least_of m ms) (m ∷ ms)
least_among m [] = inl refl
least_among m (n ∷ ns) =
    among_two (if nat_lt n m then n else m) n m (least_of (if nat_lt n m then n else m) ns) ns (either_is n m _ (smaller n m)) (least_among (if nat_lt n m then n else m) ns)

least_first : (m : ℕ) (ms : List ℕ) → least_of m ms ≤ m
least_first m [] = omega arith
least_first m (n ∷ ns) =
    let a = least_first (if nat_lt n m then n else m) ns in
    let b = at_most_first n m (if nat_lt n m then n else m) (smaller n m) in
    omega (arith, a, b)

least_all : (m : ℕ) (ms : List ℕ) → AllByRecursion (λ other. least_of m ms ≤ other) ms
least_all m [] = tt
least_all m (n ∷ ns) =
    let a = least_first (if nat_lt n m then n else m) ns in
    let b = at_most_second n m (if nat_lt n m then n else m) (smaller n m) in
    (omega (arith, a, b), least_all (if nat_lt n m then n else m) ns)

least_is : (m : ℕ) (ms : List ℕ) → IsLeastOf (m ∷ ms) (least_of m ms)
least_is m ms = record { is_one = least_among m ms; least = (least_first m ms, least_all m ms) }

-- a view whose fields all fit

no_front : (xs ys : List ℕ) → xs ++ ys ≡ [] → xs ≡ []
no_front [] ys e = refl
no_front (x ∷ xs) ys e = cc

no_back : (xs ys : List ℕ) → xs ++ ys ≡ [] → ys ≡ []
no_back [] ys e = e
no_back (x ∷ xs) ys e = cc

same_bools : (a b : Bool) (n : ℕ) → if_unfit n (is_same a b) ≡ [] → a ≡ b
unfolding is_same
same_bools true true n e = refl
same_bools false false n e = refl
same_bools true false n e = cc
same_bools false true n e = cc

all_entries_fit : {A : Type 0} (f : A → List ℕ) (P : A → Type 0) → ((x : A) → f x ≡ [] → P x) → (es : List A) → flat_map f es ≡ [] → AllByRecursion P es
all_entries_fit f P h [] e = tt
all_entries_fit f P h (x ∷ xs) e =
    (h x (no_front (f x) (flat_map f xs) e), all_entries_fit f P h xs (no_back (f x) (flat_map f xs) e))

array_fits : {A : Type 0} (f : A → List ℕ) (P : A → Type 0) → ((x : A) → f x ≡ [] → P x) → (es : Option (List A)) → in_each_entry f es ≡ [] → AllEntriesFit P es
unfolding AllEntriesFit
array_fits f P h None e = tt
array_fits f P h (Some es) e = all_entries_fit f P h es e

given_fits : {A : Type 0} (f : A → List ℕ) (P : A → Type 0) → ((x : A) → f x ≡ [] → P x) → (x : Option A) → in_given f x ≡ [] → FitsIfGiven P x
unfolding FitsIfGiven
given_fits f P h None e = tt
given_fits f P h (Some x) e = h x e

fields_fit : (format : Format) (version : ℤ) (fields : Fields format) → unfit_fields format version fields ≡ [] → FitVersion format version fields
fields_fit Finished version fields e = tt
fields_fit (Single kind more) version fields e = fields_fit more version fields.1 e
fields_fit (SingleIn number first last kind more) version fields e =
    let us = if_unfit number (is_same (is_some fields.0) (is_wanted (pos first) (pos last) version)) in
    let vs = unfit_fields more version fields.1 in
    (same_bools (is_some fields.0) (is_wanted (pos first) (pos last) version) number (no_front us vs e), fields_fit more version fields.1 (no_back us vs e))
fields_fit (Several entry more) version fields e =
    let us = in_each_entry (unfit_fields entry version) fields.0 in
    let vs = unfit_fields more version fields.1 in
    (array_fits (unfit_fields entry version) (FitVersion entry version) (fields_fit entry version) fields.0 (no_front us vs e), fields_fit more version fields.1 (no_back us vs e))
fields_fit (SeveralIn number first last entry more) version fields e =
    let ws = if_unfit number (is_same (is_some fields.0) (is_wanted (pos first) (pos last) version)) in
    let us = in_given (in_each_entry (unfit_fields entry version)) fields.0 in
    let vs = unfit_fields more version fields.1 in
    let later = no_back ws (us ++ vs) e in
    (same_bools (is_some fields.0) (is_wanted (pos first) (pos last) version) number (no_front ws (us ++ vs) e), (given_fits (in_each_entry (unfit_fields entry version)) (AllEntriesFit (FitVersion entry version)) (array_fits (unfit_fields entry version) (FitVersion entry version) (fields_fit entry version)) fields.0 (no_front us vs later), fields_fit more version fields.1 (no_back us vs later)))

-- what a draft says at its end

abbrev pub blank : ℤ → ℤ → Dir → Contents
blank key version dir = record { key = key; version = version; dir = dir; items = [] }

long_begun : (body made : Contents) (items : List Primitive) (e : Option ℕ) → long_draft body items e ≡ Begun made → made ≡ record body { items = body.items ++ items }
long_begun body made items None h = cc
long_begun body made items (Some n) h = cc

long_exceeded : (body : Contents) (items : List Primitive) (e : Option ℕ) (n : ℕ) → long_draft body items e ≡ Exceeded n → e ≡ Some n
long_exceeded body items None n h = cc
long_exceeded body items (Some m) n h = cc

long_unfit : (body : Contents) (items : List Primitive) (e : Option ℕ) (n : ℕ) → long_draft body items e ≡ Unfit n → ⊥
long_unfit body items None n h = cc
long_unfit body items (Some m) n h = cc

begun_fits : (body made : Contents) (us : List ℕ) (items : List Primitive) → drafted body us items ≡ Begun made → us ≡ []
begun_fits body made [] items h = refl
begun_fits body made (u ∷ us) items h = cc

begun_body : (body made : Contents) (us : List ℕ) (items : List Primitive) → drafted body us items ≡ Begun made → made ≡ record body { items = body.items ++ items }
begun_body body made [] items h = long_begun body made items (first_excess items) h
begun_body body made (u ∷ us) items h = cc

exceeded_fits : (body : Contents) (us : List ℕ) (items : List Primitive) (n : ℕ) → drafted body us items ≡ Exceeded n → us ≡ []
exceeded_fits body [] items n h = refl
exceeded_fits body (u ∷ us) items n h = cc

exceeded_is : (body : Contents) (us : List ℕ) (items : List Primitive) (n : ℕ) → drafted body us items ≡ Exceeded n → first_excess items ≡ Some n
exceeded_is body [] items n h = long_exceeded body items (first_excess items) n h
exceeded_is body (u ∷ us) items n h = cc

unfit_is : (body : Contents) (us : List ℕ) (items : List Primitive) (n : ℕ) → drafted body us items ≡ Unfit n → IsLeastOf us n
unfit_is body [] items n h = absurd (long_unfit body items (first_excess items) n h)
unfit_is body (u ∷ us) items n h =
    let e : least_of u us ≡ n = cc in
    rw (← e) (least_is u us)

-- the draft of a view
at_end : (key version : ℤ) (dir : Dir) (format : Format) (fields : Fields format) (end : Draft) → end ≡ put_fields format version fields (Begun (blank key version dir)) → drafted (blank key version dir) (unfit_fields format version fields) (items_before format fields []) ≡ end
at_end key version dir format fields end h = sym (h ∙ fields_add format version fields (blank key version dir) [] [])

pub body_is : (key version : ℤ) (dir : Dir) (format : Format) (fields : Fields format) (end : Draft) (made : Contents) → end ≡ put_fields format version fields (Begun (blank key version dir)) → end ≡ Begun made → made ≡ view_body key dir version format fields
body_is key version dir format fields end made h k =
    begun_body (blank key version dir) made (unfit_fields format version fields) (items_before format fields []) (at_end key version dir format fields end h ∙ k)

pub body_fits : (key version : ℤ) (dir : Dir) (format : Format) (fields : Fields format) (end : Draft) (made : Contents) → end ≡ put_fields format version fields (Begun (blank key version dir)) → end ≡ Begun made → FitVersion format version fields
body_fits key version dir format fields end made h k =
    fields_fit format version fields (begun_fits (blank key version dir) made (unfit_fields format version fields) (items_before format fields []) (at_end key version dir format fields end h ∙ k))

pub no_body : (key version : ℤ) (dir : Dir) (format : Format) (fields : Fields format) (end : Draft) (fault : ViewFault) → end ≡ put_fields format version fields (Begun (blank key version dir)) → IsDraftFault end fault → HasNoBody version format fields fault
no_body key version dir format fields end WrongApi h k = k
no_body key version dir format fields end (Misplaced field) h k =
    unfit_is (blank key version dir) (unfit_fields format version fields) (items_before format fields []) field (at_end key version dir format fields end h ∙ k)
no_body key version dir format fields end (TooLong len) h k =
    let e = at_end key version dir format fields end h ∙ k in
    (fields_fit format version fields (exceeded_fits (blank key version dir) (unfit_fields format version fields) (items_before format fields []) len e), exceeded_is (blank key version dir) (unfit_fields format version fields) (items_before format fields []) len e)
no_body key version dir format fields end NoMemory h k = tt

-- the draft at the start, by the numbers that the calls gave
pub from_start : (key k version v : ℤ) (dir d : Dir) (format : Format) (fields : Fields format) (start end : Draft) → SFits w16 k → SFits w16 v → end ≡ put_fields format version fields start → start ≡ Begun (blank (to_z w16 (of_z w16 k)) (to_z w16 (of_z w16 v)) d) → k ≡ key → v ≡ version → d ≡ dir → end ≡ put_fields format version fields (Begun (blank key version dir))
from_start key k version v dir d format fields start end fk fv h s e f g =
    h ∙ ap (put_fields format version fields) (s ∙ (ap (λ x. Begun (blank x (to_z w16 (of_z w16 v)) d)) (to_z-of_z fk ∙ e) ∙ (ap (λ x. Begun (blank key x d)) (to_z-of_z fv ∙ f) ∙ ap (λ x. Begun (blank key version x)) g)))

-- the same of the result of the call

pub result_body : (key version : ℤ) (dir : Dir) (format : Format) (fields : Fields format) (end : Draft) (result : Result Contents ViewFault) → end ≡ put_fields format version fields (Begun (blank key version dir)) → IfOk result (λ made. end ≡ Begun made) → IfOk result (λ made. made ≡ view_body key dir version format fields)
result_body key version dir format fields end (Ok made) h k = body_is key version dir format fields end made h k
result_body key version dir format fields end (Err fault) h k = tt

pub result_fits : (key version : ℤ) (dir : Dir) (format : Format) (fields : Fields format) (end : Draft) (result : Result Contents ViewFault) → end ≡ put_fields format version fields (Begun (blank key version dir)) → IfOk result (λ made. end ≡ Begun made) → OnOk result (FitVersion format version fields)
result_fits key version dir format fields end (Ok made) h k = body_fits key version dir format fields end made h k
result_fits key version dir format fields end (Err fault) h k = tt

pub result_fault : (key version : ℤ) (dir : Dir) (format : Format) (fields : Fields format) (end : Draft) (result : Result Contents ViewFault) → end ≡ put_fields format version fields (Begun (blank key version dir)) → IfErr result (IsDraftFault end) → IfErr result (HasNoBody version format fields)
result_fault key version dir format fields end (Ok made) h k = tt
result_fault key version dir format fields end (Err fault) h k = no_body key version dir format fields end fault h k
