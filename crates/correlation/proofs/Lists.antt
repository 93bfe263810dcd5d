-- Lists of sends: what stands behind a front of them.
use Rattle.std.proofs.Common.{◌≡◌, ◌∙◌, ap, ℕ, zero, suc, ◌+◌, ◌≤◌, ◌<◌, Bool, true, false, not, if◌then◌else◌, List, [], ◌∷◌, ◌++◌, length, map, take, drop, refl, sym, Option, Some, None, slice_get, arith, zero-add, suc-add, add-one, append_assoc}
use Rattle.std.proofs.lemmas.List.{append-nil, drop-append-le, drop-map, map-append, take-append-drop, length-append}
use Rattle.std.proofs.lemmas.Option.{slice_get_past, slice_get_within}
use Rattle.conn_rules.specs.State.{ListedSend, responding, upstream_frame}
use Rattle.correlation.specs.declared.sends.Unsent.{Unsent}
use Rattle.correlation.specs.Counting.{responding_count}
use Rattle.correlation.specs.IsWindow.{unsent_from}

module _ {X : Type 0} where
  pub first_of_front : (xs ys : List X) (n : ℕ) (x : X) → slice_get xs n ≡ Some x → slice_get (drop n (xs ++ ys)) 0 ≡ Some x
  first_of_front [] ys zero x h = cc
  first_of_front [] ys (suc n) x h = cc
  first_of_front (y ∷ xs) ys zero x h = h
  first_of_front (y ∷ xs) ys (suc n) x h = first_of_front xs ys n x h

responding_one : (j : ℕ) (d : ListedSend) (ds es : List ListedSend) (responds : Bool) → responding (suc j) (ds ++ es) ≡ responding (suc j) ds ++ responding (suc j + length ds) es → (if responds then (j, d) ∷ responding (suc j) (ds ++ es) else responding (suc j) (ds ++ es)) ≡ (if responds then (j, d) ∷ responding (suc j) ds else responding (suc j) ds) ++ responding (j + suc (length ds)) es
responding_one j d ds es true h =
    let n : suc j + length ds ≡ j + suc (length ds) = omega arith in
    ap (λ rest. (j, d) ∷ rest) (h ∙ ap (λ k. responding (suc j) ds ++ responding k es) n)
responding_one j d ds es false h =
    let n : suc j + length ds ≡ j + suc (length ds) = omega arith in
    h ∙ ap (λ k. responding (suc j) ds ++ responding k es) n

pub responding_behind : (j : ℕ) (ds es : List ListedSend) → responding j (ds ++ es) ≡ responding j ds ++ responding (j + length ds) es
responding_behind j [] es = ap (λ k. responding k es) (let e : j ≡ j + 0 = omega arith in e)
responding_behind j (d ∷ ds) es = responding_one j d ds es d.responds (responding_behind (suc j) ds es)

pub unsent_behind : (j : ℕ) (ds es : List ListedSend) → unsent_from j (ds ++ es) ≡ unsent_from j ds ++ unsent_from (j + length ds) es
unsent_behind j [] es = ap (λ k. unsent_from k es) (let e : j ≡ j + 0 = omega arith in e)
unsent_behind j (d ∷ ds) es =
    let n : suc j + length ds ≡ j + suc (length ds) = omega arith in
    ap (λ rest. record { silent = not d.responds; frame = upstream_frame j d } ∷ rest) (unsent_behind (suc j) ds es ∙ ap (λ k. unsent_from (suc j) ds ++ unsent_from k es) n)

-- one more that isn't taken
count_one : (u : Unsent) (us : List Unsent) (v : Bool) (n : ℕ) → responding_count (us ++ u ∷ []) ≡ responding_count us + n → (if v then responding_count (us ++ u ∷ []) else suc (responding_count (us ++ u ∷ []))) ≡ (if v then responding_count us else suc (responding_count us)) + n
count_one u us true n h = h
count_one u us false n h = omega (arith, h)

pub count_silent : (u : Unsent) (us : List Unsent) → u.silent ≡ true → responding_count (us ++ u ∷ []) ≡ responding_count us
count_silent u [] h = rw h
count_silent u (v ∷ us) h = count_one u us v.silent 0 (count_silent u us h ∙ (let e : responding_count us ≡ responding_count us + 0 = omega arith in e)) ∙ (let e : (if v.silent then responding_count us else suc (responding_count us)) + 0 ≡ (if v.silent then responding_count us else suc (responding_count us)) = omega arith in e)

pub count_responding : (u : Unsent) (us : List Unsent) → u.silent ≡ false → responding_count (us ++ u ∷ []) ≡ responding_count us + 1
count_responding u [] h = rw h
count_responding u (v ∷ us) h = count_one u us v.silent 1 (count_responding u us h)
