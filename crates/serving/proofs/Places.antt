-- Elements of lists by their place.
use Rattle.std.proofs.Common.{◌≡◌, ◌≢◌, ◌∙◌, ap, refl, sym, ℕ, zero, suc, ◌+◌, ◌<◌, ◌==◌, Bool, true, false, ◌||◌, cond, List, [], ◌∷◌, ◌++◌, length, map, drop, Some, slice_get, slice_set, get_or, arith}
use Rattle.std.specs.Prelude.{count_by, sum_by, All}
use Rattle.std.proofs.lemmas.List.Sums.{sum_by-cons, sum_by_push}
use Rattle.std.proofs.lemmas.Option.{slice_get-get_or}
use Rattle.std.proofs.lemmas.Bool.{eqb-true, eqb-false, eq-eqb, ne_eqb}
use Rattle.conn_rules.specs.State.{Request}

pub eqb_same : (k : ℕ) → (k == k) ≡ true
eqb_same k = eq-eqb k k refl

pub eqb_other : (j k : ℕ) → j ≢ k → (k == j) ≡ false
eqb_other j k ne = ne_eqb k j (λ e. ne (sym e))

eqb_back_by : (j k : ℕ) (b : Bool) → (j == k) ≡ b → (k == j) ≡ b
eqb_back_by j k true e = eq-eqb k j (sym (eqb-true j k e))
eqb_back_by j k false e = ne_eqb k j (λ h. eqb-false j k e (sym h))

pub eqb_back : (j k : ℕ) → (k == j) ≡ (j == k)
eqb_back j k = eqb_back_by j k (j == k) refl

pub or_false : (b : Bool) → (b || false) ≡ b
or_false true = refl
or_false false = refl

module _ {X : Type 0} where
  pub set_here : (xs : List X) (i : ℕ) (x y : X) → slice_get xs i ≡ Some x → slice_get (slice_set xs i y) i ≡ Some y
  set_here [] i x y h = cc
  set_here (z ∷ xs) zero x y h = refl
  set_here (z ∷ xs) (suc i) x y h = set_here xs i x y h

  pub set_other : (xs : List X) (i j : ℕ) (y : X) → j ≢ i → slice_get (slice_set xs i y) j ≡ slice_get xs j
  set_other [] i j y h = refl
  set_other (z ∷ xs) zero zero y h = absurd (h refl)
  set_other (z ∷ xs) zero (suc j) y h = refl
  set_other (z ∷ xs) (suc i) zero y h = refl
  set_other (z ∷ xs) (suc i) (suc j) y h = set_other xs i j y (λ e. h (ap (λ n. suc n) e))

  pub set_same : (xs : List X) (i : ℕ) (x : X) → slice_get xs i ≡ Some x → slice_set xs i x ≡ xs
  set_same [] i x h = cc
  set_same (z ∷ xs) zero x h = let e : z ≡ x = cc in rw e
  set_same (z ∷ xs) (suc i) x h = ap (λ ys. z ∷ ys) (set_same xs i x h)

  pub behind_here : (xs : List X) (x : X) → slice_get (xs ++ x ∷ []) (length xs) ≡ Some x
  behind_here [] x = refl
  behind_here (y ∷ xs) x = behind_here xs x

  pub behind_before : (xs : List X) (x : X) (i : ℕ) → i < length xs → slice_get (xs ++ x ∷ []) i ≡ slice_get xs i
  behind_before [] x i h = absurd (omega (arith, h))
  behind_before (y ∷ xs) x zero h = refl
  behind_before (y ∷ xs) x (suc i) h = behind_before xs x i (omega (arith, h))

  pub dropped : (xs : List X) (i j : ℕ) → slice_get (drop i xs) j ≡ slice_get xs (i + j)
  dropped xs zero j = ap (λ n. slice_get xs n) (let e : j ≡ 0 + j = omega arith in e)
  dropped [] (suc i) j = refl
  dropped (x ∷ xs) (suc i) j = dropped xs i j ∙ ap (λ n. slice_get (x ∷ xs) n) (let e : suc (i + j) ≡ suc i + j = omega arith in e)

  pub is_there : (xs : List X) (i : ℕ) → i < length xs → (x : X) × (slice_get xs i ≡ Some x)
  is_there [] i h = absurd (omega arith)
  is_there (x ∷ xs) zero h = (x, refl)
  is_there (x ∷ xs) (suc i) h = is_there xs i (omega arith)

  pub all_of : (P : X → Type 0) (xs : List X) → ((i : ℕ) (x : X) → slice_get xs i ≡ Some x → P x) → All P xs
  all_of P xs h = λ k d lt. h k (get_or xs k d) (slice_get-get_or xs k d lt)

pub count_map : {X Y : Type 0} → (p : Y → Bool) (f : X → Y) (xs : List X) → count_by p (map f xs) ≡ count_by (λ x. p (f x)) xs
count_map p f [] = refl
count_map p f (x ∷ xs) =
    sum_by-cons (λ y. cond (p y) 1 0) (f x) (map f xs)
    ∙ (ap (λ n. cond (p (f x)) 1 0 + n) (count_map p f xs) ∙ sym (sum_by-cons (λ y. cond (p (f y)) 1 0) x xs))

pub count_push : {X : Type 0} → (p : X → Bool) (xs : List X) (x : X) → count_by p (xs ++ x ∷ []) ≡ count_by p xs + cond (p x) 1 0
count_push p xs x = sum_by_push (λ y. cond (p y) 1 0) xs x

pub count_first : {X : Type 0} → (p : X → Bool) (x : X) (xs : List X) → count_by p (x ∷ xs) ≡ cond (p x) 1 0 + count_by p xs
count_first p x xs = sum_by-cons (λ y. cond (p y) 1 0) x xs

-- sizes of frames stay where a request is given something
pub size_given : (e i : ℕ) (rs : List Request) (r t : Request) → slice_get rs i ≡ Some r → t.frame ≡ r.frame → sum_by (λ x. length x.frame) (drop e (slice_set rs i t)) ≡ sum_by (λ x. length x.frame) (drop e rs)
size_given e i [] r t is same = refl
size_given zero zero (x ∷ rs) r t is same =
    let e : x ≡ r = cc in
    sum_by-cons (λ y. length y.frame) t rs ∙ (ap (λ n. n + sum_by (λ y. length y.frame) rs) (rw (same, e)) ∙ sym (sum_by-cons (λ y. length y.frame) x rs))
size_given zero (suc i) (x ∷ rs) r t is same =
    sum_by-cons (λ y. length y.frame) x (slice_set rs i t) ∙ (ap (λ n. length x.frame + n) (size_given zero i rs r t is same) ∙ sym (sum_by-cons (λ y. length y.frame) x rs))
size_given (suc e) zero (x ∷ rs) r t is same = refl
size_given (suc e) (suc i) (x ∷ rs) r t is same = size_given e i rs r t is same
