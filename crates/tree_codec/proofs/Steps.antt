-- One step of a walk over items.
use Rattle.std.proofs.Common.{◌≡◌, ℕ, suc, ◌+◌, ◌<◌, ◌≤◌, true, List, [], ◌∷◌, ◌++◌, length, length-append, length-drop, drop, get_or, Option, Some, None, Result, refl, sym, ap, ◌∙◌, append_assoc, append-nil, add-one, drop-cons, arith, subst, ◌-◌}
use Rattle.std.specs.Result.{IfOk}
use Rattle.kp_schema.specs.declared.kind.Kind.{Kind}
use Rattle.tree_spelling.specs.declared.primitive.Primitive.{Primitive}
use Rattle.tree_spelling.specs.Primitives.{entries_of}
use Rattle.tree_spelling.specs.Shape.{Shape, field_shape}
use Rattle.tree_spelling.specs.Value.{Value, items_of}
use Rattle.tree_spelling.specs.Agenda.{is_kind, next_kind, after, settled, passed, copies, items_behind}
use Rattle.tree_spelling.specs.Paths.{further, field_place, place_at}
use Rattle.tree_spelling.proofs.Endings.{kind_is_next}
use Rattle.tree_spelling.proofs.Fronts.{next_comes}
use Rattle.tree_spelling.proofs.Walking.{behind_one, behind_all, FirstField, first_field}

pub item_there : (items : List Primitive) (n : ℕ) (x : Primitive) → n < length items → x ≡ get_or items n x → drop n items ≡ x ∷ drop (n + 1) items
item_there items n x h e =
    let d : drop n items ≡ get_or items n x ∷ drop (suc n) items = drop-cons items n x h in
    d ∙ ap (λ y. y ∷ drop (suc n) items) (sym e) ∙ ap (λ m. x ∷ drop m items) (sym (add-one n))

pub walked_one : (t w : List Shape) (kind : Kind) (items : List Primitive) (n : ℕ) (x : Primitive) → Some kind ≡ next_kind t → is_kind kind x ≡ true → n < length items → x ≡ get_or items n x → ((u : List Shape) → after t x ≡ Some u → w ≡ settled u) → items_behind w (drop (n + 1) items) ≡ items_behind t (drop n items)
walked_one t w kind items n x next is h e goes_on =
    let a = next_comes t x (kind_is_next t kind x (sym next) is) in
    ap (λ z. items_behind z (drop (n + 1) items)) (goes_on a.0 a.1) ∙ behind_one t a.0 x (drop (n + 1) items) a.1 ∙ ap (items_behind t) (sym (item_there items n x h e))

-- ---- paths

further_twice : (a b : ℕ) (o : Option ℕ) → further a (further b o) ≡ further (a + b) o
further_twice a b None = refl
further_twice a b (Some n) = ap Some (omega arith)

heads_are : (x y : Primitive) (xs ys : List Primitive) → x ∷ xs ≡ y ∷ ys → (x ≡ y) × (xs ≡ ys)
heads_are x y xs ys e = (cc, cc)

-- the items at a place are a first one and, items_behind it, some that are passed and a tail
passed_to : (e : Shape) (items : List Primitive) (at end i : ℕ) (x first : Primitive) (front tail : List Primitive) → at < length items → x ≡ get_or items at x → end ≤ length items → drop end items ≡ items_behind (copies i e) (drop (at + 1) items) → passed (copies i e) front ≡ Some [] → drop at items ≡ first ∷ (front ++ tail) → (x ≡ first) × (drop end items ≡ tail) × (end ≡ at + (1 + length front))
passed_to e items at end i x first front tail h is within skipped comes there =
    let one = heads_are x first (drop (at + 1) items) (front ++ tail) (sym (item_there items at x h is) ∙ there) in
    let rest : drop end items ≡ tail = skipped ∙ ap (items_behind (copies i e)) one.1 ∙ behind_all front (copies i e) tail comes in
    (one.0, rest, omega (arith, ap length rest, ap length one.1, length-append front tail, length-drop end items, length-drop (at + 1) items))

pub next_field_found : (k : Kind) (e r s : Shape) → s ≡ field_shape k e r → (items : List Primitive) (at end fld : ℕ) (path : List ℕ) (x : Primitive) → at < length items → x ≡ get_or items at x → end ≤ length items → drop end items ≡ items_behind (copies (entries_of x) e) (drop (at + 1) items) → 0 < fld → (v : Value s) (more : List Primitive) → drop at items ≡ items_of s v ++ more → (w : Value r) × (drop end items ≡ items_of r w ++ more) × (further end (field_place r w (fld - 1) path) ≡ further at (field_place s v fld path))
next_field_found k e r s same items at end fld path x h is within skipped some v more there =
    let f = first_field k e r s same v in
    let t : drop at items ≡ f.first ∷ (f.entries ++ (items_of r f.rest ++ more)) = there ∙ ap (λ z. z ++ more) f.items_are ∙ ap (λ z. f.first ∷ z) (append_assoc f.entries (items_of r f.rest) more) in
    let one = heads_are x f.first (drop (at + 1) items) (f.entries ++ (items_of r f.rest ++ more)) (sym (item_there items at x h is) ∙ t) in
    let skipped' : drop end items ≡ items_behind (copies (entries_of f.first) e) (drop (at + 1) items) = skipped ∙ ap (λ (y : Primitive). items_behind (copies (entries_of y) e) (drop (at + 1) items)) one.0 in
    let p = passed_to e items at end (entries_of f.first) x f.first f.entries (items_of r f.rest ++ more) h is within skipped' f.comes t in
    let number : fld ≡ suc (fld - 1) = omega arith in
    (f.rest, p.1, ap (λ n. further n (field_place r f.rest (fld - 1) path)) p.2 ∙ sym (ap (λ n. further at (field_place s v n path)) number ∙ ap (further at) (f.place (fld - 1) path) ∙ further_twice at (1 + length f.entries) (field_place r f.rest (fld - 1) path)))

first_is : (k : Kind) (e r s : Shape) → (same : s ≡ field_shape k e r) → (items : List Primitive) (at : ℕ) (x : Primitive) → at < length items → x ≡ get_or items at x → (v : Value s) (more : List Primitive) → drop at items ≡ items_of s v ++ more → (f : FirstField e r s v) → x ≡ f.first
first_is k e r s same items at x h is v more there f =
    let t : drop at items ≡ f.first ∷ (f.entries ++ (items_of r f.rest ++ more)) = there ∙ ap (λ z. z ++ more) f.items_are ∙ ap (λ z. f.first ∷ z) (append_assoc f.entries (items_of r f.rest) more) in
    (heads_are x f.first (drop (at + 1) items) (f.entries ++ (items_of r f.rest ++ more)) (sym (item_there items at x h is) ∙ t)).0

pub entry_found : (k : Kind) (e r s : Shape) → s ≡ field_shape k e r → (items : List Primitive) (at begin i fld : ℕ) (path : List ℕ) (x : Primitive) → at < length items → x ≡ get_or items at x → begin ≤ length items → drop begin items ≡ items_behind (copies i e) (drop (at + 1) items) → i < entries_of x → (v : Value s) (more : List Primitive) → drop at items ≡ items_of s v ++ more → (w : Value e) × (rest : List Primitive) × (drop begin items ≡ items_of e w ++ rest) × (further begin (field_place e w fld path) ≡ further at (field_place s v 0 (i ∷ fld ∷ path)))
entry_found k e r s same items at begin i fld path x h is within skipped few v more there =
    let f = first_field k e r s same v in
    let x_is : x ≡ f.first = first_is k e r s same items at x h is v more there f in
    let n = (f.each i).1 (subst (λ (y : Primitive). i < entries_of y) x_is few) in
    let t : drop at items ≡ n.first ∷ (n.front ++ ((items_of e n.entry ++ n.back) ++ more)) = there ∙ ap (λ z. z ++ more) n.items_are ∙ ap (λ z. n.first ∷ z) (append_assoc n.front (items_of e n.entry ++ n.back) more) in
    let p = passed_to e items at begin i x n.first n.front ((items_of e n.entry ++ n.back) ++ more) h is within skipped n.comes t in
    (n.entry, n.back ++ more, p.1 ∙ append_assoc (items_of e n.entry) n.back more, ap (λ m. further m (field_place e n.entry fld path)) p.2 ∙ sym (ap (further at) (n.place fld path) ∙ further_twice at (1 + length n.front) (field_place e n.entry fld path)))

pub entry_missing : (k : Kind) (e r s : Shape) → s ≡ field_shape k e r → (items : List Primitive) (at i fld : ℕ) (path : List ℕ) (x : Primitive) → at < length items → x ≡ get_or items at x → entries_of x ≤ i → (v : Value s) (more : List Primitive) → drop at items ≡ items_of s v ++ more → None ≡ further at (field_place s v 0 (i ∷ fld ∷ path))
entry_missing k e r s same items at i fld path x h is over v more there =
    let f = first_field k e r s same v in
    let x_is : x ≡ f.first = first_is k e r s same items at x h is v more there f in
    sym (ap (further at) ((f.each i).0 (subst (λ (y : Primitive). entries_of y ≤ i) x_is over) fld path))

no_further : (o : Option ℕ) → further 0 o ≡ o
no_further None = refl
no_further (Some n) = ap Some (omega arith)

placed_here : (E : Type 0) (s : Shape) (v : Value s) (items : List Primitive) → items ≡ items_of s v → (fld : ℕ) (path whole : List ℕ) → whole ≡ fld ∷ path → (r : Result (Option ℕ) E) → ((w : Value s) (more : List Primitive) → drop 0 items ≡ items_of s w ++ more → IfOk r (λ place. place ≡ further 0 (field_place s w fld path))) → IfOk r (λ place. place ≡ place_at s v whole)
placed_here E s v items has fld path whole e r found =
    let eq : further 0 (field_place s v fld path) ≡ place_at s v whole = no_further (field_place s v fld path) ∙ ap (place_at s v) (sym e) in
    subst (λ (p : Option ℕ). IfOk r (λ place. place ≡ p)) eq (found v [] (has ∙ sym (append-nil (items_of s v))))

-- a place from the first item on
pub placed : (E : Type 0) (s z : Shape) → s ≡ z → (v : Value s) (items : List Primitive) → items ≡ items_of s v → (fld : ℕ) (path whole : List ℕ) → whole ≡ fld ∷ path → (r : Result (Option ℕ) E) → ((w : Value z) (more : List Primitive) → drop 0 items ≡ items_of z w ++ more → IfOk r (λ place. place ≡ further 0 (field_place z w fld path))) → IfOk r (λ place. place ≡ place_at s v whole)
placed E s z same v items has fld path whole e r =
    subst (λ (y : Shape). ((w : Value y) (more : List Primitive) → drop 0 items ≡ items_of y w ++ more → IfOk r (λ place. place ≡ further 0 (field_place y w fld path))) → IfOk r (λ place. place ≡ place_at s v whole)) same (placed_here E s v items has fld path whole e r)
