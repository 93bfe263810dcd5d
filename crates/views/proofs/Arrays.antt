-- One entry more.
use Rattle.std.proofs.Common.{◌≡◌, ℕ, ◌+◌, ◌<◌, ◌≤◌, List, [], ◌∷◌, ◌++◌, length, map, take, get_or, refl, sym, ap, ◌∙◌}
use Rattle.std.proofs.lemmas.List.{take_more, take_all}
use Rattle.std.specs.List.{AllByRecursion}
use Rattle.tree_spelling.specs.declared.primitive.Primitive.{Primitive}
use Rattle.views.specs.Reading.{entries_before}
use Rattle.views.specs.Writing.{Draft, put_entries}

pub entries_before_last : {A B : Type 0} (g : A → B) (f : B → List Primitive → List Primitive) (xs : List A) (x : A) (rest : List Primitive) → entries_before f (map g (xs ++ x ∷ [])) rest ≡ entries_before f (map g xs) (f (g x) rest)
entries_before_last g f [] x rest = refl
entries_before_last g f (y ∷ ys) x rest = ap (f (g y)) (entries_before_last g f ys x rest)

pub all_map_last : {A B : Type 0} (g : A → B) (P : B → Type 0) (xs : List A) (x : A) → AllByRecursion P (map g xs) → P (g x) → AllByRecursion P (map g (xs ++ x ∷ []))
all_map_last g P [] x all last = (last, tt)
all_map_last g P (y ∷ ys) x all last = (all.0, all_map_last g P ys x all.1 last)

pub put_entries_last : {A B : Type 0} (g : A → B) (f : B → Draft → Draft) (xs : List A) (x : A) (draft : Draft) → put_entries f (map g (xs ++ x ∷ [])) draft ≡ f (g x) (put_entries f (map g xs) draft)
put_entries_last g f [] x draft = refl
put_entries_last g f (y ∷ ys) x draft = put_entries_last g f ys x (f (g y) draft)

-- one step of a loop that puts entries, and its end
pub put_entries_step : {A B : Type 0} (g : A → B) (f : B → Draft → Draft) (es : List A) (i : ℕ) (x : A) (before now next : Draft) → i < length es → x ≡ get_or es i x → now ≡ put_entries f (map g (take i es)) before → next ≡ f (g x) now → next ≡ put_entries f (map g (take (i + 1) es)) before
put_entries_step g f es i x before now next lt is h k =
    k ∙ (ap (f (g x)) h ∙ (sym (put_entries_last g f (take i es) x before) ∙ ap (λ ys. put_entries f (map g ys) before) (ap (λ y. take i es ++ y ∷ []) is ∙ sym (take_more es i x lt))))

pub put_entries_end : {A B : Type 0} (g : A → B) (f : B → Draft → Draft) (es : List A) (i : ℕ) (before now : Draft) → length es ≤ i → now ≡ put_entries f (map g (take i es)) before → now ≡ put_entries f (map g es) before
put_entries_end g f es i before now le h = h ∙ ap (λ ys. put_entries f (map g ys) before) (take_all i es le)
