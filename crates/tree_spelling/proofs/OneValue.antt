-- The laws of the spelling.
use Rattle.std.proofs.Common.{◌≡◌, ℕ, List, [], ◌∷◌, ◌++◌, length, Option, Some, None, refl, sym, ap, ◌∙◌, inl, inr, append_assoc, append-nil, length-append, arith, subst}
use Rattle.std.specs.List.{flat_map}
use Rattle.kp_schema.specs.declared.kind.Kind.{Kind}
use Rattle.kp_schema.specs.declared.kind.Kind.TheVariants as kinds
use Rattle.tree_spelling.specs.declared.primitive.Primitive.{Primitive}
use Rattle.tree_spelling.specs.declared.primitive.Primitive.TheVariants.{Count}
use Rattle.tree_spelling.specs.Primitives.{spelled}
use Rattle.tree_spelling.specs.Shape.{Shape, End, Plain, Array}
use Rattle.tree_spelling.specs.Value.{Leaf, Value, leaf_item, array_items, items_of}
use Rattle.tree_spelling.specs.Spelling.{spelling, AreInRange, AreReadable, LongestFront, PassesLimit, IsBadAt, HasTooManyAt}
use Rattle.tree_spelling.specs.Agenda.{passed}
use Rattle.tree_spelling.specs.Laws.{EachValueHasOneSpelling, NoSpellingBeginsAnother, FaultsAreOne}
use Rattle.tree_spelling.proofs.Blanks.{front_passes, whole_passes, readable-front}
use Rattle.tree_spelling.proofs.Fronts.{agree, item_takes, spelling-append}

-- ---- items tell their value

leaf_is : (k : Kind) (a b : Leaf k) → leaf_item k a ≡ leaf_item k b → a ≡ b
leaf_is kinds.I8 a b e = cc
leaf_is kinds.I16 a b e = cc
leaf_is kinds.I32 a b e = cc
leaf_is kinds.I64 a b e = cc
leaf_is kinds.Bool a b e = cc
leaf_is kinds.Str a b e = cc
leaf_is kinds.Bytes a b e = cc
leaf_is kinds.Array a b e = cc

abbrev Tells : Shape → Type 0
Tells s = (a b : Value s) (x y : List Primitive) → items_of s a ++ x ≡ items_of s b ++ y → (a ≡ b) × (x ≡ y)

head_is : (x y : Primitive) (xs ys : List Primitive) → x ∷ xs ≡ y ∷ ys → (x ≡ y) × (xs ≡ ys)
head_is x y xs ys e = (cc, cc)

entries_tell : (e : Shape) → Tells e → (cs bs : List (Value e)) (x y : List Primitive) → length cs ≡ length bs → flat_map (items_of e) cs ++ x ≡ flat_map (items_of e) bs ++ y → (cs ≡ bs) × (x ≡ y)
entries_tell e tells [] [] x y l h = (refl, h)
entries_tell e tells [] (b ∷ bs) x y l h = absurd (omega arith)
entries_tell e tells (a ∷ cs) [] x y l h = absurd (omega arith)
entries_tell e tells (a ∷ cs) (b ∷ bs) x y l h =
    let h' : items_of e a ++ (flat_map (items_of e) cs ++ x) ≡ items_of e b ++ (flat_map (items_of e) bs ++ y) = sym (append_assoc (items_of e a) (flat_map (items_of e) cs) x) ∙ h ∙ append_assoc (items_of e b) (flat_map (items_of e) bs) y in
    let one = tells a b (flat_map (items_of e) cs ++ x) (flat_map (items_of e) bs ++ y) h' in
    let l' : length cs ≡ length bs = omega arith in
    let more = entries_tell e tells cs bs x y l' one.1 in
    let first : a ≡ b = one.0 in
    let rest : cs ≡ bs = more.0 in
    (cc, more.1)

count_is : (m n : ℕ) → Count (Some m) ≡ Count (Some n) → m ≡ n
count_is m n e = cc

array_tells : (e r : Shape) → Tells e → Tells r → (a b : Option (List (Value e))) (v w : Value r) (x y : List Primitive) → (array_items (items_of e) a ++ items_of r v) ++ x ≡ (array_items (items_of e) b ++ items_of r w) ++ y → (a ≡ b) × (v ≡ w) × (x ≡ y)
array_tells e r te tr None None v w x y h =
    let one = head_is (Count None) (Count None) (items_of r v ++ x) (items_of r w ++ y) h in
    let rest = tr v w x y one.1 in
    (refl, rest.0, rest.1)
array_tells e r te tr None (Some bs) v w x y h = absurd cc
array_tells e r te tr (Some cs) None v w x y h = absurd cc
array_tells e r te tr (Some cs) (Some bs) v w x y h =
    let one = head_is (Count (Some (length cs))) (Count (Some (length bs))) ((flat_map (items_of e) cs ++ items_of r v) ++ x) ((flat_map (items_of e) bs ++ items_of r w) ++ y) h in
    let l : length cs ≡ length bs = count_is (length cs) (length bs) one.0 in
    let h' : flat_map (items_of e) cs ++ (items_of r v ++ x) ≡ flat_map (items_of e) bs ++ (items_of r w ++ y) = sym (append_assoc (flat_map (items_of e) cs) (items_of r v) x) ∙ one.1 ∙ append_assoc (flat_map (items_of e) bs) (items_of r w) y in
    let es = entries_tell e te cs bs (items_of r v ++ x) (items_of r w ++ y) l h' in
    let rest = tr v w x y es.1 in
    (ap Some es.0, rest.0, rest.1)

same_pair : {A B : Type 0} {a c : A} {b d : B} → a ≡ c → b ≡ d → ◌≡◌ {A = A × B} (a, b) (c, d)
same_pair {A} {B} {a} {c} {b} {d} e f = ap (λ x. (x, b)) e ∙ ap (λ y. (c, y)) f

pub tells : (s : Shape) → Tells s
tells End a b x y h = (refl, h)
tells (Plain k r) a b x y h =
    let one = head_is (leaf_item k a.0) (leaf_item k b.0) (items_of r a.1 ++ x) (items_of r b.1 ++ y) h in
    let rest = tells r a.1 b.1 x y one.1 in
    (same_pair (leaf_is k a.0 b.0 one.0) rest.0, rest.1)
tells (Array e r) a b x y h =
    let all = array_tells e r (tells e) (tells r) a.0 b.0 a.1 b.1 x y h in
    (same_pair all.0 all.1, all.2)

pub same_value : (s : Shape) (a b : Value s) → items_of s a ≡ items_of s b → a ≡ b
same_value s a b e = (tells s a b [] [] (ap (λ xs. xs ++ []) e)).0

-- ---- no spelling begins another

some_is : {A : Type 0} {a b : A} → Some a ≡ Some b → a ≡ b
some_is e = cc

none_after : (zs : List Primitive) → passed [] zs ≡ Some [] → zs ≡ []
none_after [] h = refl
none_after (z ∷ zs) h = absurd cc

-- where one list of items begins with the other and both are whole, they are the same
same_whole : (s : Shape) (a b : Value s) (zs : List Primitive) (x y : List ℕ) → items_of s b ≡ items_of s a ++ zs → x ≡ spelling zs ++ y → (items_of s a ≡ items_of s b) × (x ≡ y)
same_whole s a b zs x y e f =
    let p = front_passes s b (items_of s a) zs e in
    let done : p.0 ≡ [] = some_is (sym p.1 ∙ whole_passes s a) in
    let none : zs ≡ [] = none_after zs (subst (λ (t : List Shape). passed t zs ≡ Some []) done p.2) in
    (sym (e ∙ ap (λ z. items_of s a ++ z) none ∙ append-nil (items_of s a)), f ∙ ap (λ z. spelling z ++ y) none)

pub no_front : (s : Shape) (a b : Value s) (x y : List ℕ) → AreInRange (items_of s a) → AreInRange (items_of s b) → spelling (items_of s a) ++ x ≡ spelling (items_of s b) ++ y → (items_of s a ≡ items_of s b) × (x ≡ y)
no_front s a b x y p q e =
    elim (agree (s ∷ []) (items_of s a) (items_of s b) [] [] x y (whole_passes s a) (whole_passes s b) p q e) [
      | inl h ↦ same_whole s a b h.0 x y h.1 h.2
      | inr h ↦ (let w = same_whole s b a h.0 y x h.1 h.2 in (sym w.0, sym w.1))
    ]

pub no_value_begins : NoSpellingBeginsAnother
no_value_begins s a b x y p q e =
    let n = no_front s a b x y p q e in
    (same_value s a b n.0, n.1)

pub one_value : EachValueHasOneSpelling
one_value s a b p q e = (no_value_begins s a b [] [] p q (ap (λ z. z ++ []) e)).0

-- ---- faults

nothing_more : (zs : List Primitive) → length (spelling zs) ≡ 0 → zs ≡ []
nothing_more [] h = refl
nothing_more (z ∷ zs) h = absurd (omega (arith, item_takes z, length-append (spelled z) (spelling zs)))

same_length : (xs ys zs : List Primitive) (p q : List ℕ) → ys ≡ xs ++ zs → p ≡ spelling zs ++ q → length (spelling xs) ≡ length (spelling ys) → (xs ≡ ys) × (p ≡ q)
same_length xs ys zs p q e f l =
    let none : zs ≡ [] = nothing_more zs (omega (arith, ap length (ap spelling e ∙ spelling-append xs zs), length-append (spelling xs) (spelling zs))) in
    (sym (e ∙ ap (λ z. xs ++ z) none ∙ append-nil xs), f ∙ ap (λ z. spelling z ++ q) none)

one_front : (s : Shape) (bytes : List ℕ) (xs ys : List Primitive) (p q : List ℕ) → LongestFront s bytes xs p → LongestFront s bytes ys q → (length (spelling xs) ≡ length (spelling ys)) × (xs ≡ ys) × (p ≡ q)
one_front s bytes xs ys p q a b =
    let l : length (spelling xs) ≡ length (spelling ys) = omega (arith, a.longest ys q b.front, b.longest xs p a.front) in
    let fa = a.front.first in
    let fb = b.front.first in
    let pa = front_passes s fa.0 xs fa.1 fa.2 in
    let pb = front_passes s fb.0 ys fb.1 fb.2 in
    let ra : AreReadable xs = readable-front xs fa.1 (subst AreReadable fa.2 fa.3) in
    let rb : AreReadable ys = readable-front ys fb.1 (subst AreReadable fb.2 fb.3) in
    elim (agree (s ∷ []) xs ys pa.0 pb.0 p q pa.1 pb.1 ra.in_range rb.in_range (sym a.front.bytes_are ∙ b.front.bytes_are)) [
      | inl h ↦ (let w = same_length xs ys h.0 p q h.1 h.2 l in (l, w.0, w.1))
      | inr h ↦ (let w = same_length ys xs h.0 q p h.1 h.2 (sym l) in (l, sym w.0, sym w.1))
    ]

both : (s : Shape) (bytes : List ℕ) (p q : ℕ) → IsBadAt s bytes p → HasTooManyAt s bytes q → ⊥
both s bytes p q a b =
    let one = one_front s bytes b.items a.items b.rest a.rest b.front a.front in
    let moved : PassesLimit s a.items b.rest = subst (λ (xs : List Primitive). PassesLimit s xs b.rest) one.1 b.passed in
    a.not_passed (subst (PassesLimit s a.items) one.2 moved)

pub one_fault : FaultsAreOne
one_fault s bytes p q = (
  λ a b. a.place_is ∙ (one_front s bytes a.items b.items a.rest b.rest a.front b.front).0 ∙ sym b.place_is,
  λ a b. a.place_is ∙ (one_front s bytes a.items b.items a.rest b.rest a.front b.front).0 ∙ sym b.place_is,
  λ a b. both s bytes p q a b,
)
