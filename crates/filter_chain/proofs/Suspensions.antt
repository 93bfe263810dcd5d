-- The suspended filters are the first of the chain: one more, and one fewer.
use Rattle.std.proofs.Common.{◌≡◌, ◌∙◌, ap, refl, sym, subst, ℕ, zero, suc, ◌+◌, Bool, List, [], ◌∷◌, ◌++◌, length, map, drop, slice_get, Option, Some, None, arith}
use Rattle.tree_spelling.specs.Body.{Contents}
use Rattle.filter_core.specs.declared.input.Input.{Input}
use Rattle.filter_core.specs.Decision.{Turn}
use Rattle.filter_chain.specs.declared.suspended.Suspended.{Suspended}
use Rattle.filter_chain.specs.Suspensions.{Suspension, IsSuspension, AreSuspended}

-- a filter that stands at a place is the first of those from there on
pub found_first : {F : Type 0} (fs : List F) (n : ℕ) (f : F) → slice_get fs n ≡ Some f → drop n fs ≡ f ∷ drop (suc n) fs
found_first [] n f h = absurd (let e : None ≡ Some f = h in cc)
found_first (g ∷ fs) zero f h = let e : Some g ≡ Some f = h in let e2 : g ≡ f = cc in ap (λ x. x ∷ fs) e2
found_first (g ∷ fs) (suc n) f h = found_first fs n f h

pub found_none : {F : Type 0} (fs : List F) (n : ℕ) → slice_get fs n ≡ None → drop n fs ≡ []
found_none [] zero h = refl
found_none [] (suc n) h = refl
found_none (g ∷ fs) zero h = absurd (let e : Some g ≡ None = h in cc)
found_none (g ∷ fs) (suc n) h = found_none fs n h

pub one_longer : {A : Type 0} (xs : List A) (x : A) → length (xs ++ x ∷ []) ≡ suc (length xs)
one_longer [] x = refl
one_longer (y ∷ xs) x = ap suc (one_longer xs x)

module _ {F P : Type 0} (turn : F → Turn) (stands : F → P → Contents → List Input → Type 0) where
  -- one more
  pub suspend : (k : ℕ) (fs : List F) (ss : List (Suspended P)) (ds : List Suspension) (s : Suspended P) (d : Suspension) (f : F) (rest : List F)
      → AreSuspended turn stands k fs ss ds → drop (length ss) fs ≡ f ∷ rest → IsSuspension turn stands (k + length ss) f rest s d
      → AreSuspended turn stands k fs (ss ++ s ∷ []) (ds ++ d ∷ [])
  suspend k [] [] [] s d f rest are at is = absurd (let e : [] ≡ f ∷ rest = at in cc)
  suspend k (g ∷ fs) [] [] s d f rest are at is =
      let e : g ∷ fs ≡ f ∷ rest = at in
      let e1 : g ≡ f = cc in
      let e2 : fs ≡ rest = cc in
      let i : IsSuspension turn stands k f rest s d = subst (λ n. IsSuspension turn stands n f rest s d) (let z : k + 0 ≡ k = omega arith in z) is in
      (subst (λ x. IsSuspension turn stands k x fs s d) (sym e1) (subst (λ xs. IsSuspension turn stands k f xs s d) (sym e2) i), tt)
  suspend k [] [] (e ∷ ds) s d f rest are at is = absurd are
  suspend k (g ∷ fs) [] (e ∷ ds) s d f rest are at is = absurd are
  suspend k [] (t ∷ ss) [] s d f rest are at is = absurd are
  suspend k (g ∷ fs) (t ∷ ss) [] s d f rest are at is = absurd are
  suspend k [] (t ∷ ss) (e ∷ ds) s d f rest are at is = absurd are
  suspend k (g ∷ fs) (t ∷ ss) (e ∷ ds) s d f rest are at is =
      (are.0, suspend (suc k) fs ss ds s d f rest are.1 at (subst (λ n. IsSuspension turn stands n f rest s d) (let z : k + suc (length ss) ≡ suc k + length ss = omega arith in z) is))

  -- the last of them
  pub record LastSuspended (k : ℕ) (fs : List F) (ss : List (Suspended P)) (s : Suspended P) (ds : List Suspension) : Type 0 where
    pub before : List Suspension
    pub last : Suspension
    pub filter : F
    pub rest : List F
    pub split : ds ≡ before ++ last ∷ []
    pub are : AreSuspended turn stands k fs ss before
    pub at : drop (length ss) fs ≡ filter ∷ rest
    pub is : IsSuspension turn stands (k + length ss) filter rest s last

  pub release : (k : ℕ) (fs : List F) (ss : List (Suspended P)) (s : Suspended P) (ds : List Suspension)
      → AreSuspended turn stands k fs (ss ++ s ∷ []) ds → LastSuspended k fs ss s ds
  release k [] [] s [] are = absurd are
  release k [] [] s (d ∷ ds) are = absurd are
  release k (f ∷ fs) [] s [] are = absurd are
  release k (f ∷ []) [] s (d ∷ []) are = record { before = []; last = d; filter = f; rest = []; split = refl; are = tt; at = refl; is = subst (λ n. IsSuspension turn stands n f [] s d) (let z : k ≡ k + 0 = omega arith in z) are.0 }
  release k (f ∷ (g ∷ fs)) [] s (d ∷ []) are = record { before = []; last = d; filter = f; rest = g ∷ fs; split = refl; are = tt; at = refl; is = subst (λ n. IsSuspension turn stands n f (g ∷ fs) s d) (let z : k ≡ k + 0 = omega arith in z) are.0 }
  release k (f ∷ []) [] s (d ∷ (e ∷ ds)) are = absurd are.1
  release k (f ∷ (g ∷ fs)) [] s (d ∷ (e ∷ ds)) are = absurd are.1
  release k [] (t ∷ ss) s [] are = absurd are
  release k [] (t ∷ ss) s (d ∷ ds) are = absurd are
  release k (f ∷ fs) (t ∷ ss) s [] are = absurd are
  release k (f ∷ fs) (t ∷ ss) s (d ∷ ds) are =
      let h = release (suc k) fs ss s ds are.1 in
      record {
        before = d ∷ h.before;
        last = h.last;
        filter = h.filter;
        rest = h.rest;
        split = ap (λ es. d ∷ es) h.split;
        are = (are.0, h.are);
        at = h.at;
        is = subst (λ n. IsSuspension turn stands n h.filter h.rest s h.last) (let z : suc k + length ss ≡ k + suc (length ss) = omega arith in z) h.is;
      }
