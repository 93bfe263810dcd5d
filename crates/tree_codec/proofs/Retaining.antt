-- A body that is copied item by item, but for some entries of an array.
use Rattle.std.proofs.Common.{◌≡◌, ◌∙◌, ap, sym, refl, subst, ℕ, zero, suc, ◌+◌, ◌-◌, ◌<◌, ◌≤◌, Bool, true, false, if◌then◌else◌, List, [], ◌∷◌, ◌++◌, length, length-append, length-drop, take, drop, add-one, Some, None, Result, Ok, Err, append_assoc, append-nil, take_all, arith, ◌⊎◌, inl, inr}
use Rattle.std.specs.Prelude.{slice_get, MatchResult}
use Rattle.std.specs.List.{flat_map}
use Rattle.std.specs.Result.{IfOk, IfErr}
use Rattle.std.proofs.lemmas.List.{take_at}
use Rattle.kp_schema.specs.declared.kind.Kind.{Kind}
use Rattle.kp_schema.specs.declared.kind.Kind.TheVariants as kinds
use Rattle.tree_spelling.specs.declared.primitive.Primitive.{Primitive}
use Rattle.tree_spelling.specs.declared.primitive.Primitive.TheVariants.{Int8, Int16, Int32, Int64, Boolean, Text, Binary, Count}
use Rattle.tree_spelling.specs.declared.edit_fault.EditFault.{EditFault}
use Rattle.tree_spelling.specs.declared.edit_fault.EditFault.TheVariants.{NoSuch, WrongKind, NoMemory}
use Rattle.tree_spelling.specs.Primitives.{entries_of, kind_of}
use Rattle.tree_spelling.specs.Shape.{Shape, End, field_shape}
use Rattle.tree_spelling.specs.Value.{Value, items_of}
use Rattle.tree_spelling.specs.Body.{Contents, body_shape}
use Rattle.tree_spelling.specs.Agenda.{copies, passed, items_behind}
use Rattle.tree_spelling.specs.Retaining.{within, flagged, field_flagged, value_flagged}
use Rattle.tree_spelling.proofs.Walking.{behind_all, copies_pass}
use Rattle.tree_spelling.proofs.Retaining.{FirstFlagged, EntryFlagged, ItselfFlagged, first_flagged}
use Rattle.tree_codec.specs.Copying.{followed_by, flag_at, flag_count, IsCopied, IsFlagged, AreCopied, ArrayIsCopied, BeginsWithNoArray}

-- ---- results

pub if_ok : {T E : Type 0} (P Q : T → Type 0) (r : Result T E) → ((x : T) → P x → Q x) → IfOk r P → IfOk r Q
if_ok P Q (Ok x) f h = f x h
if_ok P Q (Err e) f h = h

pub if_err : {T E : Type 0} (P Q : E → Type 0) (r : Result T E) → ((e : E) → P e → Q e) → IfErr r P → IfErr r Q
if_err P Q (Ok x) f h = h
if_err P Q (Err e) f h = f e h

pub no_more : (xs : List ℕ) → length xs ≡ 0 → xs ≡ []
no_more [] h = refl
no_more (x ∷ xs) h = absurd (omega (arith, h))

-- where no field is left there is no array
pub none_flagged : (s : Shape) → s ≡ End → (v : Value s) (flags : List Bool) (n : ℕ) (path : List ℕ) → field_flagged s v flags n path ≡ Err NoSuch
none_flagged s is = subst (λ z. (v : Value z) (flags : List Bool) (n : ℕ) (path : List ℕ) → field_flagged z v flags n path ≡ Err NoSuch) (sym is) (λ v flags n path. refl)

-- ---- what is skipped

front_is : (xs ys zs : List Primitive) (n : ℕ) → zs ≡ xs ++ ys → drop n zs ≡ ys → n ≤ length zs → take n zs ≡ xs
front_is xs ys zs n whole behind le =
    let long : length xs ≡ n = omega (arith, ap length whole, length-append xs ys, ap length behind, length-drop n zs, le) in
    ap (take n) whole ∙ take_at xs ys n long

-- from the first item on, so many entries
pub skipped : (e : Shape) (first : Primitive) (front tail rest : List Primitive) (i end : ℕ) → rest ≡ (first ∷ front) ++ tail → passed (copies i e) front ≡ Some [] → drop end rest ≡ items_behind (copies i e) (drop 1 rest) → end ≤ length rest → (take end rest ≡ first ∷ front) × (drop end rest ≡ tail)
skipped e first front tail rest i end whole comes behind le =
    let left : drop end rest ≡ tail = behind ∙ (ap (λ z. items_behind (copies i e) (drop 1 z)) whole ∙ behind_all front (copies i e) tail comes) in
    (front_is (first ∷ front) tail rest end whole left le, left)

-- one entry
pub skipped_one : (e : Shape) (x : Value e) (tail rest : List Primitive) (end : ℕ) → rest ≡ items_of e x ++ tail → drop end rest ≡ items_behind (copies 1 e) (drop 0 rest) → end ≤ length rest → (take end rest ≡ items_of e x) × (drop end rest ≡ tail)
skipped_one e x tail rest end whole behind le =
    let comes : passed (copies 1 e) (items_of e x) ≡ Some [] = ap (passed (copies 1 e)) (sym (append-nil (items_of e x))) ∙ copies_pass e (x ∷ []) in
    let left : drop end rest ≡ tail = behind ∙ (ap (λ z. items_behind (copies 1 e) (drop 0 z)) whole ∙ behind_all (items_of e x) (copies 1 e) tail comes) in
    (front_is (items_of e x) tail rest end whole left le, left)

-- ---- what is copied

pub followed_twice : (b : Contents) (xs ys : List Primitive) → followed_by (followed_by b xs) ys ≡ followed_by b (xs ++ ys)
followed_twice b xs ys = ap (λ (zs : List Primitive). record b { items = zs }) (append_assoc b.items xs ys)

behind_copied : (s t : Shape) (more others xs : List Primitive) (new : Value s) (w : Value t) (before mid after : Contents) (left : List Primitive) → mid ≡ followed_by before xs → items_of s new ++ more ≡ xs ++ (items_of t w ++ others) → IsCopied t others w mid after left → IsCopied s more new before after left
behind_copied s t more others xs new w before mid after left first same h = record {
  copied = xs ++ h.copied;
  after_is = h.after_is ∙ (ap (λ (b : Contents). followed_by b h.copied) first ∙ followed_twice before xs h.copied);
  items_are = append_assoc xs h.copied left ∙ (ap (λ z. xs ++ z) h.items_are ∙ sym same);
}

module _ (e r s : Shape) (v : Value s) (f : FirstFlagged e r s v) (flags : List Bool) (more : List Primitive) where
  later_by : (n : ℕ) (path : List ℕ) (before mid after : Contents) (left : List Primitive) → mid ≡ followed_by before (f.first ∷ f.entries) → (result : Result (Value r) EditFault) → IsFlagged r more result mid after left → IsFlagged s more (within f.with_rest result) before after left
  later_by n path before mid after left first (Ok w) h =
      behind_copied s r more more (f.first ∷ f.entries) (f.with_rest w) w before mid after left first (ap (λ z. z ++ more) (f.new_items w) ∙ append_assoc (f.first ∷ f.entries) (items_of r w) more) h
  later_by n path before mid after left first (Err fault) h = absurd h

  pub later_flagged : (n : ℕ) (path : List ℕ) (before mid after : Contents) (left : List Primitive) → mid ≡ followed_by before (f.first ∷ f.entries) → IsFlagged r more (field_flagged r f.rest flags n path) mid after left → IsFlagged s more (field_flagged s v flags (suc n) path) before after left
  later_flagged n path before mid after left first h =
      subst (λ o. IsFlagged s more o before after left) (sym (f.later flags n path)) (later_by n path before mid after left first (field_flagged r f.rest flags n path) h)

  pub later_refused : (n : ℕ) (path : List ℕ) (fault : EditFault) → field_flagged r f.rest flags n path ≡ Err fault → field_flagged s v flags (suc n) path ≡ Err fault
  later_refused n path fault is = f.later flags n path ∙ ap (within f.with_rest) is

  entry_by : (i : ℕ) (t : EntryFlagged e s v i f.first) (before mid after : Contents) (left : List Primitive) → mid ≡ followed_by before (f.first ∷ t.front) → (result : Result (Value e) EditFault) → IsFlagged e (t.back ++ more) result mid after left → IsFlagged s more (within t.with_entry result) before after left
  entry_by i t before mid after left first (Ok w) h =
      behind_copied s e more (t.back ++ more) (f.first ∷ t.front) (t.with_entry w) w before mid after left first
      (ap (λ z. z ++ more) (t.new_items w) ∙ (append_assoc (f.first ∷ t.front) (items_of e w ++ t.back) more ∙ ap (λ z. (f.first ∷ t.front) ++ z) (append_assoc (items_of e w) t.back more))) h
  entry_by i t before mid after left first (Err fault) h = absurd h

  pub entry_flagged : (i n : ℕ) (path : List ℕ) (t : EntryFlagged e s v i f.first) (before mid after : Contents) (left : List Primitive) → mid ≡ followed_by before (f.first ∷ t.front) → IsFlagged e (t.back ++ more) (field_flagged e t.entry flags n path) mid after left → IsFlagged s more (field_flagged s v flags zero (i ∷ n ∷ path)) before after left
  entry_flagged i n path t before mid after left first h =
      subst (λ o. IsFlagged s more o before after left) (sym (t.named flags n path)) (entry_by i t before mid after left first (field_flagged e t.entry flags n path) h)

  pub entry_refused : (i n : ℕ) (path : List ℕ) (t : EntryFlagged e s v i f.first) (fault : EditFault) → field_flagged e t.entry flags n path ≡ Err fault → field_flagged s v flags zero (i ∷ n ∷ path) ≡ Err fault
  entry_refused i n path t fault is = t.named flags n path ∙ ap (within t.with_entry) is

  -- ---- the array itself

  abbrev behind : List Primitive
  behind = f.entries ++ (items_of r f.rest ++ more)

  pub whole_is : (rest : List Primitive) → rest ≡ items_of s v ++ more → rest ≡ f.first ∷ behind
  whole_is rest there = there ∙ (ap (λ z. z ++ more) f.items_are ∙ ap (λ z. f.first ∷ z) (append_assoc f.entries (items_of r f.rest) more))

  itself_by : (before after : Contents) (left : List Primitive) (x : Primitive) → f.first ≡ x → ArrayIsCopied e (x ∷ behind) flags before after left → IsFlagged s more (field_flagged s v flags zero []) before after left
  itself_by before after left (Count None) is h =
      subst (λ o. IsFlagged s more o before after left) (sym (f.null is flags)) (record {
        copied = Count None ∷ [];
        after_is = h.0;
        items_are = ap (λ z. Count None ∷ z) h.1 ∙ (ap (λ x. x ∷ behind) (sym is) ∙ sym (whole_is (items_of s v ++ more) refl));
      })
  itself_by before after left (Count (Some n)) is h =
      let t : ItselfFlagged e r s v f.entries f.rest n = f.itself n is in
      let g = h t.values (items_of r f.rest ++ more) t.count (ap (λ z. z ++ (items_of r f.rest ++ more)) t.entries_are) in
      let kept : List Primitive = Count (Some (length (flagged flags t.values))) ∷ flat_map (items_of e) (flagged flags t.values) in
      subst (λ o. IsFlagged s more o before after left) (sym (t.flagged_is flags)) (record {
        copied = kept;
        after_is = g.0;
        items_are = ap (λ z. kept ++ z) g.1 ∙ (sym (append_assoc kept (items_of r f.rest) more) ∙ ap (λ z. z ++ more) (sym (t.new_items flags)));
      })
  itself_by before after left (Int8 x) is h = absurd h
  itself_by before after left (Int16 x) is h = absurd h
  itself_by before after left (Int32 x) is h = absurd h
  itself_by before after left (Int64 x) is h = absurd h
  itself_by before after left (Boolean x) is h = absurd h
  itself_by before after left (Text x) is h = absurd h
  itself_by before after left (Binary x) is h = absurd h

  pub itself_flagged : (rest : List Primitive) (before after : Contents) (left : List Primitive) → rest ≡ items_of s v ++ more → ArrayIsCopied e rest flags before after left → IsFlagged s more (field_flagged s v flags zero []) before after left
  itself_flagged rest before after left there h =
      itself_by before after left f.first refl (subst (λ z. ArrayIsCopied e z flags before after left) (whole_is rest there) h)

  no_array_by : (x : Primitive) → BeginsWithNoArray (x ∷ behind) → kind_of x ≡ kinds.Array → ⊥
  no_array_by (Count n) h is = absurd h
  no_array_by (Int8 x) h is = cc
  no_array_by (Int16 x) h is = cc
  no_array_by (Int32 x) h is = cc
  no_array_by (Int64 x) h is = cc
  no_array_by (Boolean x) h is = cc
  no_array_by (Text x) h is = cc
  no_array_by (Binary x) h is = cc

  pub itself_refused : (rest : List Primitive) → rest ≡ items_of s v ++ more → BeginsWithNoArray rest → field_flagged s v flags zero [] ≡ Err WrongKind
  itself_refused rest there h = f.no_array (no_array_by f.first (subst BeginsWithNoArray (whole_is rest there) h)) flags

-- ---- entry by entry

flagged_one : {A : Type 0} (b : Bool) (bs : List Bool) (x : A) → flagged (b ∷ bs) (x ∷ []) ≡ (if b then x ∷ [] else [])
flagged_one true bs x = refl
flagged_one false bs x = refl

flagged_next : {A : Type 0} (b : Bool) (x : A) (xs ys zs : List A) → xs ≡ ys ++ zs → (if b then x ∷ xs else xs) ≡ (if b then x ∷ ys else ys) ++ zs
flagged_next true x xs ys zs e = ap (λ z. x ∷ z) e
flagged_next false x xs ys zs e = e

-- one member more
flagged_more : {A : Type 0} (flags : List Bool) (xs : List A) (n : ℕ) (x : A) → slice_get xs n ≡ Some x → flagged flags (take (suc n) xs) ≡ flagged flags (take n xs) ++ (if flag_at flags n then x ∷ [] else [])
flagged_more flags [] n x there = cc
flagged_more [] (y ∷ xs) zero x there = refl
flagged_more (b ∷ bs) (y ∷ xs) zero x there = (let e : y ≡ x = cc in flagged_one b bs y ∙ ap (λ z. if b then z ∷ [] else []) e)
flagged_more [] (y ∷ xs) (suc n) x there = refl
flagged_more (b ∷ bs) (y ∷ xs) (suc n) x there =
    flagged_next b y (flagged bs (take (suc n) xs)) (flagged bs (take n xs)) (if flag_at bs n then x ∷ [] else []) (flagged_more bs xs n x there)

one_long : {A : Type 0} (b : Bool) (x : A) → length (if b then x ∷ [] else []) ≡ (if b then 1 else 0)
one_long true x = refl
one_long false x = refl

there_is : {A : Type 0} (xs : List A) (n : ℕ) → n < length xs → (x : A) × (slice_get xs n ≡ Some x) × (drop n xs ≡ x ∷ drop (suc n) xs)
there_is [] n h = absurd (omega (arith, h))
there_is (x ∷ xs) zero h = (x, refl, refl)
there_is (x ∷ xs) (suc n) h = there_is xs n (omega (arith, h))

count_of : {A : Type 0} (flags : List Bool) (xs : List A) (n : ℕ) → n ≤ length xs → length (flagged flags (take n xs)) ≡ flag_count flags n
count_of flags xs zero h = refl
count_of flags xs (suc n) h =
    let t = there_is xs n (omega (arith, h)) in
    ap length (flagged_more flags xs n t.0 t.1) ∙ (length-append (flagged flags (take n xs)) (if flag_at flags n then t.0 ∷ [] else [])
    ∙ (ap (λ k. k + length (if flag_at flags n then t.0 ∷ [] else [])) (count_of flags xs n (omega (arith, h)))
    ∙ ap (λ k. flag_count flags n + k) (one_long (flag_at flags n) t.0)))

pub count_is : {A : Type 0} (flags : List Bool) (xs : List A) (n : ℕ) → length xs ≡ n → length (flagged flags xs) ≡ flag_count flags n
count_is flags xs n long =
    ap (λ z. length (flagged flags z)) (sym (take_all n xs (omega (arith, long)))) ∙ count_of flags xs n (omega (arith, long))

flat_two : {A : Type 0} (f : A → List Primitive) (xs ys : List A) → flat_map f (xs ++ ys) ≡ flat_map f xs ++ flat_map f ys
flat_two f [] ys = refl
flat_two f (x ∷ xs) ys = ap (λ z. f x ++ z) (flat_two f xs ys) ∙ sym (append_assoc (f x) (flat_map f xs) (flat_map f ys))

all_dropped : {A : Type 0} (xs : List A) (n : ℕ) → length xs ≤ n → drop n xs ≡ []
all_dropped [] zero h = refl
all_dropped [] (suc n) h = refl
all_dropped (x ∷ xs) zero h = absurd (omega (arith, h))
all_dropped (x ∷ xs) (suc n) h = all_dropped xs n (omega (arith, h))

module _ (e : Shape) (entries : List (Value e)) (flags : List Bool) (more : List Primitive) where
  -- the next entry
  pub record NextEntry (n end : ℕ) (left : List Primitive) : Type 0 where
    pub entry : Value e
    pub there : slice_get entries n ≡ Some entry
    pub front : take end left ≡ items_of e entry
    pub behind : drop end left ≡ flat_map (items_of e) (drop (n + 1) entries) ++ more

  pub next_entry_is : (n end : ℕ) (before mid : Contents) (left : List Primitive) → n < length entries → AreCopied e entries flags more n before mid left → drop end left ≡ items_behind (copies 1 e) (drop 0 left) → end ≤ length left → NextEntry n end left
  next_entry_is n end before mid left lt h walked le =
      let t = there_is entries n lt in
      let tail : List Primitive = flat_map (items_of e) (drop (suc n) entries) ++ more in
      let whole : left ≡ items_of e t.0 ++ tail = h.rest_is ∙ (ap (λ es. flat_map (items_of e) es ++ more) t.2 ∙ append_assoc (items_of e t.0) (flat_map (items_of e) (drop (suc n) entries)) more) in
      let s = skipped_one e t.0 tail left end whole walked le in
      record {
        entry = t.0;
        there = t.1;
        front = s.0;
        behind = s.1 ∙ ap (λ k. flat_map (items_of e) (drop k entries) ++ more) (sym (add-one n));
      }

  step_by : (n : ℕ) (flag : Bool) → flag_at flags n ≡ flag → (x : Value e) → slice_get entries n ≡ Some x → flat_map (items_of e) (flagged flags (take (n + 1) entries)) ≡ flat_map (items_of e) (flagged flags (take n entries)) ++ (if flag then items_of e x else [])
  step_by n true is x there =
      ap (λ k. flat_map (items_of e) (flagged flags (take k entries))) (add-one n)
      ∙ (ap (flat_map (items_of e)) (flagged_more flags entries n x there ∙ ap (λ b. flagged flags (take n entries) ++ (if b then x ∷ [] else [])) is)
      ∙ (flat_two (items_of e) (flagged flags (take n entries)) (x ∷ [])
      ∙ ap (λ z. flat_map (items_of e) (flagged flags (take n entries)) ++ z) (append-nil (items_of e x))))
  step_by n false is x there =
      ap (λ k. flat_map (items_of e) (flagged flags (take k entries))) (add-one n)
      ∙ (ap (flat_map (items_of e)) (flagged_more flags entries n x there ∙ ap (λ b. flagged flags (take n entries) ++ (if b then x ∷ [] else [])) is)
      ∙ flat_two (items_of e) (flagged flags (take n entries)) [])

  pub one_copied : (n end : ℕ) (before mid after : Contents) (left : List Primitive) → AreCopied e entries flags more n before mid left → NextEntry n end left → flag_at flags n ≡ true → after ≡ followed_by mid (take end left) → AreCopied e entries flags more (n + 1) before after (drop end left)
  one_copied n end before mid after left h next flag is = record {
    after_is = is ∙ (ap (followed_by mid) next.front ∙ (ap (λ (b : Contents). followed_by b (items_of e next.entry)) h.after_is
        ∙ (followed_twice before (flat_map (items_of e) (flagged flags (take n entries))) (items_of e next.entry)
        ∙ ap (followed_by before) (sym (step_by n true flag next.entry next.there)))));
    rest_is = next.behind;
  }

  pub one_left_out : (n end : ℕ) (before mid : Contents) (left : List Primitive) → AreCopied e entries flags more n before mid left → NextEntry n end left → flag_at flags n ≡ false → AreCopied e entries flags more (n + 1) before mid (drop end left)
  one_left_out n end before mid left h next flag = record {
    after_is = h.after_is ∙ ap (followed_by before) (sym (step_by n false flag next.entry next.there ∙ append-nil (flat_map (items_of e) (flagged flags (take n entries)))));
    rest_is = next.behind;
  }

  -- all entries
  pub all_copied : (n : ℕ) (first : Primitive) (before mid after : Contents) (left : List Primitive) → length entries ≡ n → mid ≡ followed_by before (first ∷ []) → AreCopied e entries flags more n mid after left → (after ≡ followed_by before (first ∷ flat_map (items_of e) (flagged flags entries))) × (left ≡ more)
  all_copied n first before mid after left long counted h = (
    h.after_is ∙ (ap (λ (b : Contents). followed_by b (flat_map (items_of e) (flagged flags (take n entries)))) counted
        ∙ (followed_twice before (first ∷ []) (flat_map (items_of e) (flagged flags (take n entries)))
        ∙ ap (λ es. followed_by before (first ∷ flat_map (items_of e) (flagged flags es))) (take_all n entries (omega (arith, long))))),
    h.rest_is ∙ ap (λ es. flat_map (items_of e) es ++ more) (all_dropped entries n (omega (arith, long))),
  )

pub array_copied : (e : Shape) (rest : List Primitive) (first : Primitive) (behind : List Primitive) (n counted : ℕ) (flags : List Bool) (before mid after : Contents) (left : List Primitive) → rest ≡ first ∷ behind → first ≡ Count (Some n) → counted ≡ flag_count flags n → mid ≡ followed_by before (Count (Some counted) ∷ []) → ((entries : List (Value e)) (more : List Primitive) → length entries ≡ n → behind ≡ flat_map (items_of e) entries ++ more → AreCopied e entries flags more n mid after left) → ArrayIsCopied e rest flags before after left
array_copied e rest first behind n counted flags before mid after left whole is count counted_first copied =
    subst (λ z. ArrayIsCopied e z flags before after left) (sym (whole ∙ ap (λ x. x ∷ behind) is))
    (λ entries more long there. all_copied e entries flags more n (Count (Some (length (flagged flags entries)))) before mid after left long
    (counted_first ∙ ap (λ k. followed_by before (Count (Some k) ∷ [])) (count ∙ sym (count_is flags entries n long)))
    (copied entries more long there))

-- ---- from one field to another

heads : (x y : Primitive) (xs ys : List Primitive) → x ∷ xs ≡ y ∷ ys → x ≡ y
heads x y xs ys e = cc

-- what the code knows of the first field of these items
module _ (k : Kind) (e r s : Shape) (is : s ≡ field_shape k e r) (rest : List Primitive) (x : Primitive) (xs : List Primitive) (first : rest ≡ x ∷ xs) (flags : List Bool) (v : Value s) (more : List Primitive) (there : rest ≡ items_of s v ++ more) where
  abbrev pub f : FirstFlagged e r s v
  f = first_flagged k e r s is v

  pub first_is : x ≡ f.first
  first_is = heads x f.first xs _ (sym first ∙ whole_is e r s v f flags more rest there)

  module _ (before mid : Contents) (left : List Primitive) (end : ℕ) (copied : (left ≡ drop end rest) × (mid ≡ followed_by before (take end rest))) (within_rest : end ≤ length rest) where
    -- a later one
    module _ (entries : ℕ) (count : entries ≡ entries_of x) (behind_it : drop end rest ≡ items_behind (copies entries e) (drop 1 rest)) where
      abbrev tail : List Primitive
      tail = items_of r f.rest ++ more

      past : (take end rest ≡ f.first ∷ f.entries) × (drop end rest ≡ tail)
      past = skipped e f.first f.entries tail rest (entries_of f.first) end (whole_is e r s v f flags more rest there) f.comes (subst (λ n. drop end rest ≡ items_behind (copies n e) (drop 1 rest)) (count ∙ ap entries_of first_is) behind_it) within_rest

      pub later_there : left ≡ items_of r f.rest ++ more
      later_there = copied.0 ∙ past.1

      pub later_ok : (n : ℕ) (path : List ℕ) (after : Contents) (last : List Primitive) → 0 < n → IsFlagged r more (field_flagged r f.rest flags (n - 1) path) mid after last → IsFlagged s more (field_flagged s v flags n path) before after last
      later_ok n path after last some h =
          let number : suc (n - 1) ≡ n = omega (arith, some) in
          subst (λ m. IsFlagged s more (field_flagged s v flags m path) before after last) number (later_flagged e r s v f flags more (n - 1) path before mid after last (copied.1 ∙ ap (followed_by before) past.0) h)

      pub later_err : (n : ℕ) (path : List ℕ) (fault : EditFault) → 0 < n → (field_flagged r f.rest flags (n - 1) path ≡ Err fault) ⊎ (fault ≡ NoMemory) → (field_flagged s v flags n path ≡ Err fault) ⊎ (fault ≡ NoMemory)
      later_err n path fault some (inl h) =
          let number : suc (n - 1) ≡ n = omega (arith, some) in
          inl (subst (λ m. field_flagged s v flags m path ≡ Err fault) number (later_refused e r s v f flags more (n - 1) path fault h))
      later_err n path fault some (inr h) = inr h

    -- one of its entries
    module _ (i : ℕ) (few : i < entries_of x) (behind_it : drop end rest ≡ items_behind (copies i e) (drop 1 rest)) where
      abbrev pub t : EntryFlagged e s v i f.first
      t = f.each i (subst (λ (y : Primitive). i < entries_of y) first_is few)

      abbrev inner : List Primitive
      inner = items_of e t.entry ++ (t.back ++ more)

      whole_entry : rest ≡ (f.first ∷ t.front) ++ inner
      whole_entry = there ∙ (ap (λ z. z ++ more) t.items_are ∙ (append_assoc (f.first ∷ t.front) (items_of e t.entry ++ t.back) more ∙ ap (λ z. (f.first ∷ t.front) ++ z) (append_assoc (items_of e t.entry) t.back more)))

      up_to : (take end rest ≡ f.first ∷ t.front) × (drop end rest ≡ inner)
      up_to = skipped e f.first t.front inner rest i end whole_entry t.comes behind_it within_rest

      pub entry_there : left ≡ items_of e t.entry ++ (t.back ++ more)
      entry_there = copied.0 ∙ up_to.1

      pub entry_ok : (field n : ℕ) (path whole : List ℕ) (after : Contents) (last : List Primitive) → field ≡ 0 → whole ≡ i ∷ n ∷ path → IsFlagged e (t.back ++ more) (field_flagged e t.entry flags n path) mid after last → IsFlagged s more (field_flagged s v flags field whole) before after last
      entry_ok field n path whole after last none is_path h =
          subst (λ m. IsFlagged s more (field_flagged s v flags m whole) before after last) (sym none)
          (subst (λ p. IsFlagged s more (field_flagged s v flags 0 p) before after last) (sym is_path)
          (entry_flagged e r s v f flags more i n path t before mid after last (copied.1 ∙ ap (followed_by before) up_to.0) h))

      pub entry_err : (field n : ℕ) (path whole : List ℕ) (fault : EditFault) → field ≡ 0 → whole ≡ i ∷ n ∷ path → (field_flagged e t.entry flags n path ≡ Err fault) ⊎ (fault ≡ NoMemory) → (field_flagged s v flags field whole ≡ Err fault) ⊎ (fault ≡ NoMemory)
      entry_err field n path whole fault none is_path (inl h) =
          inl (ap (λ m. field_flagged s v flags m whole) none ∙ (ap (λ p. field_flagged s v flags 0 p) is_path ∙ entry_refused e r s v f flags more i n path t fault h))
      entry_err field n path whole fault none is_path (inr h) = inr h

  pub half_err : (field i : ℕ) (path : List ℕ) → field ≡ 0 → path ≡ i ∷ [] → field_flagged s v flags field path ≡ Err NoSuch
  half_err field i path none is_path = ap (λ m. field_flagged s v flags m path) none ∙ (ap (λ p. field_flagged s v flags 0 p) is_path ∙ f.half flags i)

  pub missing_err : (field i n : ℕ) (path whole : List ℕ) → field ≡ 0 → whole ≡ i ∷ n ∷ path → entries_of x ≤ i → field_flagged s v flags field whole ≡ Err NoSuch
  missing_err field i n path whole none is_path over = ap (λ m. field_flagged s v flags m whole) none ∙ (ap (λ p. field_flagged s v flags 0 p) is_path ∙ f.missing flags i n path (subst (λ (y : Primitive). entries_of y ≤ i) first_is over))

  pub itself_ok : (field : ℕ) (path : List ℕ) (before after : Contents) (left : List Primitive) → field ≡ 0 → path ≡ [] → ArrayIsCopied e rest flags before after left → IsFlagged s more (field_flagged s v flags field path) before after left
  itself_ok field path before after left none is_path h =
      subst (λ m. IsFlagged s more (field_flagged s v flags m path) before after left) (sym none)
      (subst (λ p. IsFlagged s more (field_flagged s v flags 0 p) before after left) (sym is_path)
      (itself_flagged e r s v f flags more rest before after left there h))

  pub itself_err : (field : ℕ) (path : List ℕ) (fault : EditFault) → field ≡ 0 → path ≡ [] → (fault ≡ NoMemory) ⊎ ((fault ≡ WrongKind) × BeginsWithNoArray rest) → (field_flagged s v flags field path ≡ Err fault) ⊎ (fault ≡ NoMemory)
  itself_err field path fault none is_path (inl h) = inr h
  itself_err field path fault none is_path (inr h) =
      inl (ap (λ m. field_flagged s v flags m path) none ∙ (ap (λ p. field_flagged s v flags 0 p) is_path ∙ (itself_refused e r s v f flags more rest there h.1 ∙ ap (λ x. Err x) (sym h.0))))

-- ---- the whole body

pub whole_body : (s : Shape) (result : Result (Value s) EditFault) (empty mid after body : Contents) (left : List Primitive) → empty.items ≡ [] → IsFlagged s [] result empty mid left → after ≡ followed_by mid left → body ≡ after → MatchResult result (λ new. body ≡ record empty { items = items_of s new }) (λ fault. ⊥)
whole_body s (Ok new) empty mid after body left none h rest is =
    is ∙ (rest ∙ (ap (λ (b : Contents). followed_by b left) h.after_is ∙ (followed_twice empty h.copied left ∙ (ap (λ (xs : List Primitive). followed_by empty xs) (h.items_are ∙ append-nil (items_of s new)) ∙ ap (λ (xs : List Primitive). record empty { items = xs ++ items_of s new }) none))))
whole_body s (Err fault) empty mid after body left none h rest is = h

-- The items are those of a value of the same shape, and nothing follows them.
pub flagged_whole : (s z : Shape) → s ≡ z → (items : List Primitive) (flags : List Bool) (n : ℕ) (path : List ℕ) (empty mid after body : Contents) (left : List Primitive) → ((v : Value z) (more : List Primitive) → items ≡ items_of z v ++ more → IsFlagged z more (field_flagged z v flags n path) empty mid left) → empty.items ≡ [] → after ≡ followed_by mid left → body ≡ after → (v : Value s) → items ≡ items_of s v → MatchResult (field_flagged s v flags n path) (λ new. body ≡ record empty { items = items_of s new }) (λ fault. ⊥)
flagged_whole s z same items flags n path empty mid after body left h none rest is =
    subst (λ w. (v : Value w) → items ≡ items_of w v → MatchResult (field_flagged w v flags n path) (λ new. body ≡ record empty { items = items_of w new }) (λ fault. ⊥)) (sym same)
    (λ v there. whole_body z (field_flagged z v flags n path) empty mid after body left none (h v [] (there ∙ sym (append-nil (items_of z v)))) rest is)

pub refused_whole : (s z : Shape) → s ≡ z → (items : List Primitive) (flags : List Bool) (n : ℕ) (path : List ℕ) (fault : EditFault) → ((v : Value z) (more : List Primitive) → items ≡ items_of z v ++ more → (field_flagged z v flags n path ≡ Err fault) ⊎ (fault ≡ NoMemory)) → (v : Value s) → items ≡ items_of s v → (field_flagged s v flags n path ≡ Err fault) ⊎ (fault ≡ NoMemory)
refused_whole s z same items flags n path fault h =
    subst (λ w. (v : Value w) → items ≡ items_of w v → (field_flagged w v flags n path ≡ Err fault) ⊎ (fault ≡ NoMemory)) (sym same)
    (λ v there. h v [] (there ∙ sym (append-nil (items_of z v))))

-- ---- seen from the body

pub body_retained : (b0 b : Contents) → b0 ≡ b → (items : List Primitive) → items ≡ b0.items → (flags : List Bool) (n : ℕ) (path whole : List ℕ) → whole ≡ n ∷ path → (body : Contents) → ((v : Value (body_shape b0)) → items ≡ items_of (body_shape b0) v → MatchResult (field_flagged (body_shape b0) v flags n path) (λ new. body ≡ record b0 { items = items_of (body_shape b0) new }) (λ fault. ⊥)) → (v : Value (body_shape b)) → b.items ≡ items_of (body_shape b) v → MatchResult (value_flagged (body_shape b) v whole flags) (λ new. body ≡ record b { items = items_of (body_shape b) new }) (λ fault. ⊥)
body_retained b0 b same items is flags n path whole is_path body h =
    subst (λ (x : Contents). (v : Value (body_shape x)) → x.items ≡ items_of (body_shape x) v → MatchResult (value_flagged (body_shape x) v whole flags) (λ new. body ≡ record x { items = items_of (body_shape x) new }) (λ fault. ⊥)) same
    (λ v has. subst (λ p. MatchResult (value_flagged (body_shape b0) v p flags) (λ new. body ≡ record b0 { items = items_of (body_shape b0) new }) (λ fault. ⊥)) (sym is_path) (h v (is ∙ has)))

pub body_refused : (b0 b : Contents) → b0 ≡ b → (items : List Primitive) → items ≡ b0.items → (flags : List Bool) (n : ℕ) (path whole : List ℕ) → whole ≡ n ∷ path → (fault : EditFault) → ((v : Value (body_shape b0)) → items ≡ items_of (body_shape b0) v → (field_flagged (body_shape b0) v flags n path ≡ Err fault) ⊎ (fault ≡ NoMemory)) → (v : Value (body_shape b)) → b.items ≡ items_of (body_shape b) v → (value_flagged (body_shape b) v whole flags ≡ Err fault) ⊎ (fault ≡ NoMemory)
body_refused b0 b same items is flags n path whole is_path fault h =
    subst (λ (x : Contents). (v : Value (body_shape x)) → x.items ≡ items_of (body_shape x) v → (value_flagged (body_shape x) v whole flags ≡ Err fault) ⊎ (fault ≡ NoMemory)) same
    (λ v has. subst (λ p. (value_flagged (body_shape b0) v p flags ≡ Err fault) ⊎ (fault ≡ NoMemory)) (sym is_path) (h v (is ∙ has)))
