-- Elements of lists by their place.
use Rattle.std.proofs.Common.{◌≡◌, ap, refl, ℕ, zero, suc, ◌≤◌, List, [], ◌∷◌, ◌++◌, length, take, drop, Some, None, slice_get, slice_set, arith}

module _ {X : Type 0} where
  -- the element at a place is the first behind those before it, and the last of those up to it
  pub found_first : (xs : List X) (n : ℕ) (x : X) → slice_get xs n ≡ Some x → drop n xs ≡ x ∷ drop (suc n) xs
  found_first [] zero x h = cc
  found_first [] (suc n) x h = cc
  found_first (y ∷ ys) zero x h = let e : y ≡ x = cc in rw e
  found_first (y ∷ ys) (suc n) x h = found_first ys n x h

  pub one_more : (xs : List X) (n : ℕ) (x : X) → slice_get xs n ≡ Some x → take (suc n) xs ≡ take n xs ++ x ∷ []
  one_more [] zero x h = cc
  one_more [] (suc n) x h = cc
  one_more (y ∷ ys) zero x h = let e : y ≡ x = cc in rw e
  one_more (y ∷ ys) (suc n) x h = ap (λ rest. y ∷ rest) (one_more ys n x h)

  pub none_behind : (xs : List X) (n : ℕ) → slice_get xs n ≡ None → length xs ≤ n
  none_behind [] n h = omega arith
  none_behind (y ∷ ys) zero h = cc
  none_behind (y ∷ ys) (suc n) h = let e : length ys ≤ n = none_behind ys n h in omega arith

  -- a place is set behind those before it
  pub take_set : (xs : List X) (n m : ℕ) (x : X) → n ≤ m → take n (slice_set xs m x) ≡ take n xs
  take_set xs zero m x h = refl
  take_set [] (suc n) m x h = refl
  take_set (y ∷ ys) (suc n) zero x h = absurd (omega (arith, h))
  take_set (y ∷ ys) (suc n) (suc m) x h = ap (λ rest. y ∷ rest) (take_set ys n m x (omega (arith, h)))
