-- Items before the rest are the items, and then the rest.
use Rattle.std.proofs.Common.{◌≡◌, List, [], ◌∷◌, ◌++◌, length, Option, Some, None, refl, sym, ap, ◌∙◌, append_assoc}
use Rattle.tree_spelling.specs.declared.primitive.Primitive.{Primitive}
use Rattle.tree_spelling.specs.declared.primitive.Primitive.TheVariants.{Count}
use Rattle.tree_spelling.specs.Value.{leaf_item}
use Rattle.views.specs.Format.{Format, Finished, Single, SingleIn, Several, SeveralIn, Fields}
use Rattle.views.specs.Reading.{given_before, entries_before, array_before, items_before}

abbrev pub Splits : {A : Type 0} → (A → List Primitive → List Primitive) → Type 0
Splits {A} h = (x : A) (rest : List Primitive) → h x rest ≡ h x [] ++ rest

pub two_split : (h k : List Primitive → List Primitive) → ((r : List Primitive) → h r ≡ h [] ++ r) → ((r : List Primitive) → k r ≡ k [] ++ r) → (rest : List Primitive) → h (k rest) ≡ h (k []) ++ rest
two_split h k s t rest =
    s (k rest) ∙ (ap (λ r. h [] ++ r) (t rest) ∙ (sym (append_assoc (h []) (k []) rest) ∙ ap (λ l. l ++ rest) (sym (s (k [])))))

pub given_split : {A : Type 0} (h : A → List Primitive → List Primitive) → Splits h → (x : Option A) (rest : List Primitive) → given_before h x rest ≡ given_before h x [] ++ rest
unfolding given_before array_before
given_split h s None rest = refl
given_split h s (Some x) rest = s x rest

pub entries_split : {A : Type 0} (h : A → List Primitive → List Primitive) → Splits h → (es : List A) (rest : List Primitive) → entries_before h es rest ≡ entries_before h es [] ++ rest
entries_split h s [] rest = refl
entries_split h s (e ∷ es) rest = two_split (h e) (entries_before h es) (s e) (entries_split h s es) rest

pub array_split : {A : Type 0} (h : A → List Primitive → List Primitive) → Splits h → (es : Option (List A)) (rest : List Primitive) → array_before h es rest ≡ array_before h es [] ++ rest
unfolding given_before array_before
array_split h s None rest = refl
array_split h s (Some es) rest = ap (λ r. Count (Some (length es)) ∷ r) (entries_split h s es rest)

pub items_split : (format : Format) (fields : Fields format) (rest : List Primitive) → items_before format fields rest ≡ items_before format fields [] ++ rest
unfolding given_before array_before
items_split Finished fields rest = refl
items_split (Single kind more) fields rest = ap (λ r. leaf_item kind fields.0 ∷ r) (items_split more fields.1 rest)
items_split (SingleIn number first last kind more) fields rest =
    two_split (given_before (λ x behind. leaf_item kind x ∷ behind) fields.0) (items_before more fields.1) (given_split (λ x behind. leaf_item kind x ∷ behind) (λ x r. refl) fields.0) (items_split more fields.1) rest
items_split (Several entry more) fields rest =
    two_split (array_before (items_before entry) fields.0) (items_before more fields.1) (array_split (items_before entry) (items_split entry) fields.0) (items_split more fields.1) rest
items_split (SeveralIn number first last entry more) fields rest =
    two_split (given_before (array_before (items_before entry)) fields.0) (items_before more fields.1) (given_split (array_before (items_before entry)) (array_split (items_before entry) (items_split entry)) fields.0) (items_split more fields.1) rest
