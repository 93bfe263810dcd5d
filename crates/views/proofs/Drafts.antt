-- What putting the fields comes to.
use Rattle.std.proofs.Common.{◌≡◌, ℕ, ◌+◌, ℤ, pos, Bool, true, false, List, [], ◌∷◌, ◌++◌, length, Option, Some, None, is_some, refl, sym, ap, ◌∙◌, subst, append_assoc, append-nil, nat_lt, if◌then◌else◌}
use Rattle.std.specs.List.{flat_map}
use Rattle.tree_spelling.specs.declared.primitive.Primitive.{Primitive}
use Rattle.tree_spelling.specs.declared.primitive.Primitive.TheVariants.{Count}
use Rattle.kp_schema.specs.declared.kind.Kind.{Kind}
use Rattle.tree_spelling.specs.Value.{Leaf, leaf_item}
use Rattle.tree_spelling.specs.Body.{Contents}
use Rattle.views.specs.Format.{Format, Finished, Single, SingleIn, Several, SeveralIn, Fields}
use Rattle.views.specs.Reading.{given_before, entries_before, array_before, items_before}
use Rattle.views.specs.Fitting.{is_same, is_wanted, if_unfit, in_each_entry, in_given, unfit_fields}
use Rattle.views.specs.Lengths.{excess, this_or_later, first_excess}
use Rattle.views.specs.Writing.{Draft, Begun, Unfit, begun_with, put_item, placed_field, unfit_after, put_if_given, put_field_in, put_entries, put_array, put_fields}
use Rattle.views.specs.Drafting.{least_of, long_draft, drafted, Adds}
use Rattle.views.proofs.Splits.{Splits, given_split, array_split, items_split}

this_or_none : (x : Option ℕ) → this_or_later x None ≡ x
this_or_none None = refl
this_or_none (Some n) = refl

this_or_assoc : (x y z : Option ℕ) → this_or_later x (this_or_later y z) ≡ this_or_later (this_or_later x y) z
this_or_assoc None y z = refl
this_or_assoc (Some n) y z = refl

first_excess_last : (xs : List Primitive) (i : Primitive) → first_excess (xs ++ i ∷ []) ≡ this_or_later (first_excess xs) (excess i)
first_excess_last [] i = this_or_none (excess i)
first_excess_last (x ∷ xs) i =
    ap (this_or_later (excess x)) (first_excess_last xs i) ∙ this_or_assoc (excess x) (first_excess xs) (excess i)

begun_is : (body : Contents) (items : List Primitive) (i : Primitive) (x : Option ℕ) → begun_with (record body { items = body.items ++ items }) i x ≡ long_draft body (items ++ i ∷ []) x
unfolding put_item
begun_is body items i None = ap (λ l. Begun (record body { items = l })) (append_assoc body.items items (i ∷ []))
begun_is body items i (Some n) = refl

put_long : (body : Contents) (items : List Primitive) (i : Primitive) (e : Option ℕ) → put_item i (long_draft body items e) ≡ long_draft body (items ++ i ∷ []) (this_or_later e (excess i))
unfolding put_item
put_long body items i None = begun_is body items i (excess i)
put_long body items i (Some n) = refl

item_adds : (i : Primitive) → Adds (put_item i) [] (i ∷ [])
unfolding put_item
item_adds i body [] items =
    put_long body items i (first_excess items) ∙ ap (long_draft body (items ++ i ∷ [])) (sym (first_excess_last items i))
item_adds i body (m ∷ ms) items = ap (λ l. Unfit (least_of m l)) (sym (append-nil ms))

least_last : (m n : ℕ) (ms : List ℕ) → least_of m (ms ++ n ∷ []) ≡ (if nat_lt n (least_of m ms) then n else least_of m ms)
least_last m n [] = refl
least_last m n (k ∷ ks) = least_last (if nat_lt k m then k else m) n ks

unfit_long : (n : ℕ) (body : Contents) (items : List Primitive) (e : Option ℕ) → unfit_after n (long_draft body items e) ≡ Unfit n
unfit_long n body items None = refl
unfit_long n body items (Some len) = refl

placed_adds : (n : ℕ) (ok : Bool) → Adds (placed_field n ok) (if_unfit n ok) []
unfolding placed_field
placed_adds n true body ms items = ap (λ l. drafted body l items) (sym (append-nil ms)) ∙ ap (drafted body (ms ++ [])) (sym (append-nil items))
placed_adds n false body [] items = unfit_long n body items (first_excess items)
placed_adds n false body (m ∷ ms) items = ap Unfit (sym (least_last m n ms))

nothing_adds : Adds (λ draft. draft) [] []
nothing_adds body ms items = ap (λ l. drafted body l items) (sym (append-nil ms)) ∙ ap (drafted body (ms ++ [])) (sym (append-nil items))

both_add : (f g : Draft → Draft) (us vs : List ℕ) (is js : List Primitive) → Adds f us is → Adds g vs js → Adds (λ draft. g (f draft)) (us ++ vs) (is ++ js)
both_add f g us vs is js a b body ms items =
    ap g (a body ms items) ∙ (b body (ms ++ us) (items ++ is) ∙ (ap (λ l. drafted body l ((items ++ is) ++ js)) (append_assoc ms us vs) ∙ ap (drafted body (ms ++ (us ++ vs))) (append_assoc items is js)))

given_adds : {A : Type 0} (f : A → Draft → Draft) (g : A → List ℕ) (h : A → List Primitive → List Primitive) → ((x : A) → Adds (f x) (g x) (h x [])) → (x : Option A) → Adds (put_if_given f x) (in_given g x) (given_before h x [])
unfolding put_if_given given_before
given_adds f g h a None = nothing_adds
given_adds f g h a (Some x) = a x

given_item_adds : (kind : Kind) (x : Option (Leaf kind)) → Adds (put_if_given (λ v. put_item (leaf_item kind v)) x) [] (given_before (λ v behind. leaf_item kind v ∷ behind) x [])
unfolding put_if_given given_before
given_item_adds kind None = nothing_adds
given_item_adds kind (Some x) = item_adds (leaf_item kind x)

entries_add : {A : Type 0} (f : A → Draft → Draft) (g : A → List ℕ) (h : A → List Primitive → List Primitive) → Splits h → ((x : A) → Adds (f x) (g x) (h x [])) → (es : List A) → Adds (put_entries f es) (flat_map g es) (entries_before h es [])
entries_add f g h s a [] = nothing_adds
entries_add f g h s a (e ∷ es) =
    subst (λ is. Adds (λ draft. put_entries f es (f e draft)) (g e ++ flat_map g es) is) (sym (s e (entries_before h es []))) (both_add (f e) (put_entries f es) (g e) (flat_map g es) (h e []) (entries_before h es []) (a e) (entries_add f g h s a es))

array_adds : {A : Type 0} (f : A → Draft → Draft) (g : A → List ℕ) (h : A → List Primitive → List Primitive) → Splits h → ((x : A) → Adds (f x) (g x) (h x [])) → (es : Option (List A)) → Adds (put_array f es) (in_each_entry g es) (array_before h es [])
unfolding put_array array_before
array_adds f g h s a None = item_adds (Count None)
array_adds f g h s a (Some es) =
    both_add (put_item (Count (Some (length es)))) (put_entries f es) [] (flat_map g es) (Count (Some (length es)) ∷ []) (entries_before h es []) (item_adds (Count (Some (length es)))) (entries_add f g h s a es)

then_adds : (f g : Draft → Draft) (us vs : List ℕ) (is js all : List Primitive) → all ≡ is ++ js → Adds f us is → Adds g vs js → Adds (λ draft. g (f draft)) (us ++ vs) all
then_adds f g us vs is js all e a b = subst (Adds (λ draft. g (f draft)) (us ++ vs)) (sym e) (both_add f g us vs is js a b)

-- putting fields adds those that don't fit, and the items
pub fields_add : (format : Format) (version : ℤ) (fields : Fields format) → Adds (put_fields format version fields) (unfit_fields format version fields) (items_before format fields [])
unfolding put_field_in
fields_add Finished version fields = nothing_adds
fields_add (Single kind more) version fields =
    both_add (put_item (leaf_item kind fields.0)) (put_fields more version fields.1) [] (unfit_fields more version fields.1) (leaf_item kind fields.0 ∷ []) (items_before more fields.1 []) (item_adds (leaf_item kind fields.0)) (fields_add more version fields.1)
fields_add (SingleIn number first last kind more) version fields =
    let ok = is_same (is_some fields.0) (is_wanted (pos first) (pos last) version) in
    let put = put_if_given (λ x. put_item (leaf_item kind x)) fields.0 in
    let later = put_fields more version fields.1 in
    both_add (placed_field number ok) (λ draft. later (put draft)) (if_unfit number ok) (unfit_fields more version fields.1) [] (given_before (λ x behind. leaf_item kind x ∷ behind) fields.0 (items_before more fields.1 [])) (placed_adds number ok) (then_adds put later [] (unfit_fields more version fields.1) (given_before (λ x behind. leaf_item kind x ∷ behind) fields.0 []) (items_before more fields.1 []) (given_before (λ x behind. leaf_item kind x ∷ behind) fields.0 (items_before more fields.1 [])) (given_split (λ x behind. leaf_item kind x ∷ behind) (λ x r. refl) fields.0 (items_before more fields.1 [])) (given_item_adds kind fields.0) (fields_add more version fields.1))
fields_add (Several entry more) version fields =
    let put = put_array (put_fields entry version) fields.0 in
    let h = items_before entry in
    then_adds put (put_fields more version fields.1) (in_each_entry (unfit_fields entry version) fields.0) (unfit_fields more version fields.1) (array_before h fields.0 []) (items_before more fields.1 []) (array_before h fields.0 (items_before more fields.1 [])) (array_split h (items_split entry) fields.0 (items_before more fields.1 [])) (array_adds (put_fields entry version) (unfit_fields entry version) h (items_split entry) (fields_add entry version) fields.0) (fields_add more version fields.1)
fields_add (SeveralIn number first last entry more) version fields =
    let ok = is_same (is_some fields.0) (is_wanted (pos first) (pos last) version) in
    let put = put_if_given (put_array (put_fields entry version)) fields.0 in
    let later = put_fields more version fields.1 in
    let h = array_before (items_before entry) in
    let us = in_given (in_each_entry (unfit_fields entry version)) fields.0 in
    both_add (placed_field number ok) (λ draft. later (put draft)) (if_unfit number ok) (us ++ unfit_fields more version fields.1) [] (given_before h fields.0 (items_before more fields.1 [])) (placed_adds number ok) (then_adds put later us (unfit_fields more version fields.1) (given_before h fields.0 []) (items_before more fields.1 []) (given_before h fields.0 (items_before more fields.1 [])) (given_split h (array_split (items_before entry) (items_split entry)) fields.0 (items_before more fields.1 [])) (given_adds (put_array (put_fields entry version)) (in_each_entry (unfit_fields entry version)) h (array_adds (put_fields entry version) (unfit_fields entry version) (items_before entry) (items_split entry) (fields_add entry version)) fields.0) (fields_add more version fields.1))
