-- Elements of lists by their place.
use Rattle.std.proofs.Common.{◌≡◌, ◌∙◌, ap, refl, ℕ, zero, suc, ◌+◌, ◌<◌, ◌==◌, ◌&&◌, ◌||◌, subst, Bool, true, false, if◌then◌else◌, List, [], ◌∷◌, ◌++◌, length, take, Option, Some, None, slice_get, slice_set, ◌⊎◌, inl, inr, arith, ◌≤◌}
use Rattle.std.proofs.lemmas.Bool.Decides.{nat_tests}
use Rattle.conn_rules.specs.State.{ListedSend, responding}
use Rattle.conn_rules.specs.Settling.{is_listed}

module _ {X : Type 0} where
  -- behind one more, what was there is there still
  pub still_there : (xs : List X) (y : X) (n : ℕ) (x : X) → slice_get xs n ≡ Some x → slice_get (xs ++ y ∷ []) n ≡ Some x
  still_there [] y zero x e = cc
  still_there [] y (suc n) x e = cc
  still_there (z ∷ xs) y zero x e = e
  still_there (z ∷ xs) y (suc n) x e = still_there xs y n x e

  -- and what is there was there, or is the new one
  pub there_or_new : (xs : List X) (y : X) (n : ℕ) (x : X) → slice_get (xs ++ y ∷ []) n ≡ Some x → (slice_get xs n ≡ Some x) ⊎ ((n ≡ length xs) × (y ≡ x))
  there_or_new [] y zero x e = inr (refl, let z : Some y ≡ Some x = e in cc)
  there_or_new [] y (suc n) x e = absurd (let z : None ≡ Some x = e in cc)
  there_or_new (z ∷ xs) y zero x e = inl e
  there_or_new (z ∷ xs) y (suc n) x e = elim (there_or_new xs y n x e) [
    | inl h ↦ inl h
    | inr h ↦ inr (ap suc h.0, h.1)
  ]

  -- an element that was set, and the others
  pub set_there : (xs : List X) (k : ℕ) (new x : X) → slice_get xs k ≡ Some x → slice_get (slice_set xs k new) k ≡ Some new
  set_there [] zero new x e = cc
  set_there [] (suc k) new x e = cc
  set_there (z ∷ xs) zero new x e = refl
  set_there (z ∷ xs) (suc k) new x e = set_there xs k new x e

  pub set_elsewhere : (xs : List X) (k j : ℕ) (new : X) → (j ≡ k → ⊥) → slice_get (slice_set xs k new) j ≡ slice_get xs j
  set_elsewhere [] k j new other = refl
  set_elsewhere (z ∷ xs) zero zero new other = absurd (other refl)
  set_elsewhere (z ∷ xs) zero (suc j) new other = refl
  set_elsewhere (z ∷ xs) (suc k) zero new other = refl
  set_elsewhere (z ∷ xs) (suc k) (suc j) new other = set_elsewhere xs k j new (λ e. other (ap suc e))

  pub same_element : (o : Option X) (x y : X) → o ≡ Some x → o ≡ Some y → x ≡ y
  same_element o x y e f = cc

  pub inside : (xs : List X) (n : ℕ) (x : X) → slice_get xs n ≡ Some x → n < length xs
  inside [] zero x e = cc
  inside [] (suc n) x e = cc
  inside (z ∷ xs) zero x e = omega arith
  inside (z ∷ xs) (suc n) x e = let h = inside xs n x e in omega arith

pub same_or_not : (j k : ℕ) → (j ≡ k) ⊎ (j ≡ k → ⊥)
same_or_not zero zero = inl refl
same_or_not zero (suc k) = inr (λ e. omega arith)
same_or_not (suc j) zero = inr (λ e. omega arith)
same_or_not (suc j) (suc k) = elim (same_or_not j k) [
  | inl e ↦ inl (ap suc e)
  | inr other ↦ inr (λ e. other (let z : j ≡ k = omega (arith, e) in z))
]

-- ---- sends that get a response

respond_take : (b : Bool) (j t n : ℕ) (d : ListedSend) (ds : List ListedSend) (e : ℕ × ListedSend)
    → ((i n : ℕ) → slice_get (responding i (take t ds)) n ≡ Some e → slice_get (responding i ds) n ≡ Some e)
    → slice_get (if b then (j, d) ∷ responding (suc j) (take t ds) else responding (suc j) (take t ds)) n ≡ Some e
    → slice_get (if b then (j, d) ∷ responding (suc j) ds else responding (suc j) ds) n ≡ Some e
respond_take true j t zero d ds e rest h = h
respond_take true j t (suc n) d ds e rest h = rest (suc j) n h
respond_take false j t n d ds e rest h = rest (suc j) n h

-- what the writer was given is the first of them
pub respond_taken : (ds : List ListedSend) (t : ℕ) (e : ℕ × ListedSend) (j n : ℕ) → slice_get (responding j (take t ds)) n ≡ Some e → slice_get (responding j ds) n ≡ Some e
respond_taken ds zero e j zero h = absurd (let z : None ≡ Some e = h in cc)
respond_taken ds zero e j (suc n) h = absurd (let z : None ≡ Some e = h in cc)
respond_taken [] (suc t) e j n h = h
respond_taken (d ∷ ds) (suc t) e j n h = respond_take d.responds j t n d ds e (λ i k. respond_taken ds t e i k) h

-- this one, if it gets a response
abbrev pub if_responding : Bool → ℕ → ListedSend → List (ℕ × ListedSend)
if_responding b j d = if b then (j, d) ∷ [] else []

one_place : (j n : ℕ) → suc j + n ≡ j + suc n
one_place j n = omega arith

respond_one : (b : Bool) (j : ℕ) (d new : ListedSend) (ds : List ListedSend) → responding (suc j) (ds ++ new ∷ []) ≡ responding (suc j) ds ++ if_responding new.responds (suc j + length ds) new
    → (if b then (j, d) ∷ responding (suc j) (ds ++ new ∷ []) else responding (suc j) (ds ++ new ∷ []))
    ≡ (if b then (j, d) ∷ responding (suc j) ds else responding (suc j) ds) ++ if_responding new.responds (j + suc (length ds)) new
respond_one true j d new ds e = ap (λ l. (j, d) ∷ l) (e ∙ ap (λ n. responding (suc j) ds ++ if_responding new.responds n new) (one_place j (length ds)))
respond_one false j d new ds e = e ∙ ap (λ n. responding (suc j) ds ++ if_responding new.responds n new) (one_place j (length ds))

respond_none : (b : Bool) (j : ℕ) (new : ListedSend) → if_responding b j new ≡ if_responding b (j + 0) new
respond_none b j new = ap (λ n. if_responding b n new) (let z : j ≡ j + 0 = omega arith in z)

-- one more send
pub respond_more : (ds : List ListedSend) (new : ListedSend) (j : ℕ) → responding j (ds ++ new ∷ []) ≡ responding j ds ++ if_responding new.responds (j + length ds) new
respond_more [] new j = respond_none new.responds j new
respond_more (d ∷ ds) new j = respond_one d.responds j d new ds (respond_more ds new (suc j))

-- each is a send, and so its ask is listed
same_ask : (k i : ℕ) → ((k == k) && (i == i)) ≡ true
same_ask k i = grind (arith, nat_tests)

first_or : (a b : Bool) → a ≡ true → (a || b) ≡ true
first_or true b e = refl
first_or false b e = cc

second_or : (a b : Bool) → b ≡ true → (a || b) ≡ true
second_or true b e = refl
second_or false b e = e

listed_at : (b : Bool) (j n : ℕ) (d : ListedSend) (ds : List ListedSend) (e : ℕ × ListedSend) → ((i m : ℕ) → slice_get (responding i ds) m ≡ Some e → is_listed ds e.1.request e.1.ask ≡ true)
    → slice_get (if b then (j, d) ∷ responding (suc j) ds else responding (suc j) ds) n ≡ Some e → is_listed (d ∷ ds) e.1.request e.1.ask ≡ true
listed_at true j zero d ds e rest h =
    let z : (j, d) ≡ e = cc in
    subst (λ (x : ℕ × ListedSend). is_listed (d ∷ ds) x.1.request x.1.ask ≡ true) z (first_or ((d.request == d.request) && (d.ask == d.ask)) (is_listed ds d.request d.ask) (same_ask d.request d.ask))
listed_at true j (suc n) d ds e rest h = second_or ((d.request == e.1.request) && (d.ask == e.1.ask)) (is_listed ds e.1.request e.1.ask) (rest (suc j) n h)
listed_at false j n d ds e rest h = second_or ((d.request == e.1.request) && (d.ask == e.1.ask)) (is_listed ds e.1.request e.1.ask) (rest (suc j) n h)

pub respond_listed : (ds : List ListedSend) (e : ℕ × ListedSend) (j n : ℕ) → slice_get (responding j ds) n ≡ Some e → is_listed ds e.1.request e.1.ask ≡ true
respond_listed [] e j zero h = cc
respond_listed [] e j (suc n) h = cc
respond_listed (d ∷ ds) e j n h = listed_at d.responds j n d ds e (λ i m. respond_listed ds e i m) h

-- a send's ask is listed
pub present_listed : (ds : List ListedSend) (n : ℕ) (d : ListedSend) → slice_get ds n ≡ Some d → is_listed ds d.request d.ask ≡ true
present_listed [] n d h = absurd (let z : None ≡ Some d = h in cc)
present_listed (x ∷ ds) zero d h =
    let z : x ≡ d = (let y : Some x ≡ Some d = h in cc) in
    subst (λ (y : ListedSend). is_listed (x ∷ ds) y.request y.ask ≡ true) z (first_or ((x.request == x.request) && (x.ask == x.ask)) (is_listed ds x.request x.ask) (same_ask x.request x.ask))
present_listed (x ∷ ds) (suc n) d h = second_or ((x.request == d.request) && (x.ask == d.ask)) (is_listed ds d.request d.ask) (present_listed ds n d h)

pub less_or_not : (n m : ℕ) → (n < m) ⊎ (m ≤ n)
less_or_not n zero = inr (omega arith)
less_or_not zero (suc m) = inl (omega arith)
less_or_not (suc n) (suc m) = elim (less_or_not n m) [
  | inl h ↦ inl (omega (arith, h))
  | inr h ↦ inr (omega (arith, h))
]
