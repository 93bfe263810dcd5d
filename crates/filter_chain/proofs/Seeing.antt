-- What a filter sees passed the filters nearer the broker alone.
use Rattle.std.proofs.Common.{◌≡◌, ◌∙◌, ap, refl, sym, subst, ℕ, zero, suc, ◌+◌, Bool, true, false, List, [], ◌∷◌, ◌++◌, length, map, append_assoc, append-nil, arith}
use Rattle.std.proofs.lemmas.List.{length-map, map-append}
use Rattle.tree_spelling.specs.Body.{Contents}
use Rattle.filter_core.specs.declared.input.Input.{Input}
use Rattle.filter_core.specs.declared.input.Input.TheVariants as input
use Rattle.filter_core.specs.Decision.{Decision, Turn, Forward, Side, HoldFor, Return, Shut}
use Rattle.side_requests.specs.declared.ask.Ask.{Ask}
use Rattle.side_requests.specs.declared.ask.Ask.TheVariants as ask
use Rattle.filter_chain.specs.declared.outside.Outside.{Outside}
use Rattle.filter_chain.specs.declared.outside.Outside.TheVariants as outside
use Rattle.filter_chain.specs.Answers.{as_answer, as_verdict}
use Rattle.filter_chain.specs.Chain.{Fate, Back, Awaits, Closes, Endless, Course, Way, behind_turns, asked_outside, given_back, gives, decided, turns_on, most_turns, way_from, broker}
use Rattle.filter_chain.specs.Outcomes.{outcome_after}
use Rattle.filter_chain.specs.Laws.{CameFrom, SeenFrom, DecideAlike, SeesOnlyNearer, seen_input, seen_answer, LooksThrough, ChainLooksThrough}

module _ (g h : Input → List Outside → Course) where
  given_alike : (fate : Fate) (n : ℕ) (unused : List Outside) → ((x : Input) → fate ≡ Back x → (ys : List Outside) → g x ys ≡ h x ys) → given_back g n unused fate ≡ given_back h n unused fate
  given_alike (Back x) n unused same = ap (behind_turns n) (same x refl unused)
  given_alike (Awaits question) n unused same = refl
  given_alike (Closes filter reason) n unused same = refl
  given_alike (Endless filter) n unused same = refl

  gives_alike : (c : Course) → ((x : Input) → c.fate ≡ Back x → (ys : List Outside) → g x ys ≡ h x ys) → gives g c ≡ gives h c
  gives_alike c same = given_alike c.fate c.turns c.unused same

asked_back : (question : Ask) (f : Outside → Input) (xs : List Outside) (x : Input) → (asked_outside question f xs).fate ≡ Back x → (y : Outside) × (f y ≡ x)
asked_back question f [] x e = absurd (let z : Awaits question ≡ Back x = e in cc)
asked_back question f (y ∷ ys) x e = (y, let z : Back (f y) ≡ Back x = e in cc)

abbrev AreAlike : Way → Way → Type 0
AreAlike one other = (m : Contents) (main : Bool) (xs : List Outside) → one m main xs ≡ other m main xs

decided_alike : (one other : Way) (k : ℕ) (main : Bool) (g h : Input → List Outside → Course) → AreAlike one other
    → (D : Decision) → ((x : Input) → CameFrom one main D x → (ys : List Outside) → g x ys ≡ h x ys)
    → (xs : List Outside) → decided one k main g xs D ≡ decided other k main h xs D
decided_alike one other k main g h alike (Forward m) same xs = gives_alike g h (one m main xs) (λ x e. same x (xs, e)) ∙ ap (gives h) (alike m main xs)
decided_alike one other k main g h alike (Side m) same xs = gives_alike g h (one m false xs) (λ x e. same x (xs, e)) ∙ ap (gives h) (alike m false xs)
decided_alike one other k main g h alike (HoldFor key) same xs = gives_alike g h (asked_outside (ask.Hold k key) as_verdict xs) (λ x e. same x (asked_back (ask.Hold k key) as_verdict xs x e))
decided_alike one other k main g h alike (Return response) same xs = refl
decided_alike one other k main g h alike (Shut reason) same xs = refl

-- one filter with two ways behind it that are alike
turns_alike : (n : ℕ) (one other : Way) (k : ℕ) (turn : Turn) (request : Contents) (main : Bool) (inputs : List Input) → AreAlike one other
    → (xs : List Outside) → turns_on n one k turn request main inputs xs ≡ turns_on n other k turn request main inputs xs
unfolding turns_on
turns_alike zero one other k turn request main inputs alike xs = refl
turns_alike (suc n) one other k turn request main inputs alike xs =
    ap (behind_turns 1) (decided_alike one other k main (λ x unused. turns_on n one k turn request main (inputs ++ x ∷ []) unused) (λ x unused. turns_on n other k turn request main (inputs ++ x ∷ []) unused) alike (turn request inputs)
    (λ x came ys. turns_alike n one other k turn request main (inputs ++ x ∷ []) alike ys) xs)

seen_more : (nearer : Way) (main : Bool) (turn : Turn) (request : Contents) (before inputs : List Input) (x : Input)
    → SeenFrom nearer main turn request before inputs → CameFrom nearer main (turn request (before ++ inputs)) x → SeenFrom nearer main turn request before (inputs ++ x ∷ [])
seen_more nearer main turn request before [] x seen came = (subst (λ is. CameFrom nearer main (turn request is) x) (append-nil before) came, tt)
seen_more nearer main turn request before (y ∷ inputs) x seen came =
    (seen.0, seen_more nearer main turn request (before ++ y ∷ []) inputs x seen.1 (subst (λ is. CameFrom nearer main (turn request is) x) (sym (append_assoc before (y ∷ []) inputs)) came))

-- two filters that decide alike on what they see
turns_by_seen : (n : ℕ) (nearer : Way) (k : ℕ) (one other : Turn) (request : Contents) (main : Bool) (inputs : List Input) → DecideAlike nearer one other
    → SeenFrom nearer main one request [] inputs
    → (xs : List Outside) → turns_on n nearer k one request main inputs xs ≡ turns_on n nearer k other request main inputs xs
unfolding turns_on
turns_by_seen zero nearer k one other request main inputs alike seen xs = refl
turns_by_seen (suc n) nearer k one other request main inputs alike seen xs =
    let g : Input → List Outside → Course = λ x unused. turns_on n nearer k one request main (inputs ++ x ∷ []) unused in
    let h : Input → List Outside → Course = λ x unused. turns_on n nearer k other request main (inputs ++ x ∷ []) unused in
    ap (behind_turns 1)
    (decided_alike nearer nearer k main g h (λ m b ys. refl) (one request inputs)
    (λ x came ys. turns_by_seen n nearer k one other request main (inputs ++ x ∷ []) alike (seen_more nearer main one request [] inputs x seen came) ys) xs
    ∙ ap (λ D. decided nearer k main h xs D) (alike request main inputs seen))

pub sees_only_nearer : SeesOnlyNearer
sees_only_nearer k [] nearer one other alike m main xs =
    turns_by_seen most_turns (way_from (suc k) nearer) k one other m main [] (subst (λ j. DecideAlike (way_from (suc j) nearer) one other) (let z : k + 0 ≡ k = omega arith in z) alike) tt xs
sees_only_nearer k (b ∷ before) nearer one other alike m main xs =
    turns_alike most_turns (way_from (suc k) (before ++ one ∷ nearer)) (way_from (suc k) (before ++ other ∷ nearer)) k b m main []
    (sees_only_nearer (suc k) before nearer one other (subst (λ j. DecideAlike (way_from (suc j) nearer) one other) (let z : k + suc (length before) ≡ suc k + length before = omega arith in z) alike)) xs

-- ---- answers that are looked at through a function alone

module _ (view : Contents → Contents) where
  answers_through : (x : Outside) → as_answer (seen_answer view x) ≡ seen_input view (as_answer x)
  answers_through (outside.Answer response) = refl
  answers_through outside.NoResponse = refl
  answers_through (outside.Verdict verdict) = refl

  verdicts_through : (x : Outside) → as_verdict (seen_answer view x) ≡ seen_input view (as_verdict x)
  verdicts_through (outside.Answer response) = refl
  verdicts_through outside.NoResponse = refl
  verdicts_through (outside.Verdict verdict) = refl

  verdicts_same : (x : Outside) → as_verdict (seen_answer view x) ≡ as_verdict x
  verdicts_same (outside.Answer response) = refl
  verdicts_same outside.NoResponse = refl
  verdicts_same (outside.Verdict verdict) = refl

  -- the same, with the function on the answers that are unused
  abbrev through : Course → Course
  through c = record { fate = c.fate; unused = map (seen_answer view) c.unused; turns = c.turns }

  abbrev Passes : Way → Type 0
  Passes way = (m : Contents) (main : Bool) (xs : List Outside) → way m main (map (seen_answer view) xs) ≡ through (way m main xs)

  module _ (g h : Input → List Outside → Course) where
    given_through : (fate : Fate) (n : ℕ) (unused : List Outside) → ((x : Input) (ys : List Outside) → h x (map (seen_answer view) ys) ≡ through (g x ys))
        → given_back h n (map (seen_answer view) unused) fate ≡ through (given_back g n unused fate)
    given_through (Back x) n unused same = ap (behind_turns n) (same x unused)
    given_through (Awaits question) n unused same = refl
    given_through (Closes filter reason) n unused same = refl
    given_through (Endless filter) n unused same = refl

    -- an ask whose answer is looked at through the function
    asked_through : (question : Ask) (f : Outside → Input) → ((x : Outside) → f (seen_answer view x) ≡ seen_input view (f x))
        → ((x : Input) (ys : List Outside) → h (seen_input view x) (map (seen_answer view) ys) ≡ through (g x ys))
        → (xs : List Outside) → gives h (asked_outside question f (map (seen_answer view) xs)) ≡ through (gives g (asked_outside question f xs))
    asked_through question f each same [] = refl
    asked_through question f each same (x ∷ xs) = ap (λ i. behind_turns 0 (h i (map (seen_answer view) xs))) (each x) ∙ ap (behind_turns 0) (same (f x) xs)

  hold_through : (question : Ask) (xs : List Outside) → asked_outside question as_verdict (map (seen_answer view) xs) ≡ through (asked_outside question as_verdict xs)
  hold_through question [] = refl
  hold_through question (x ∷ xs) = ap (λ i. record { fate = Back i; unused = map (seen_answer view) xs; turns = 0 }) (verdicts_same x)

  gives_through : (g : Input → List Outside → Course) → ((x : Input) (ys : List Outside) → g x (map (seen_answer view) ys) ≡ through (g x ys))
      → (c d : Course) → d ≡ through c → gives g d ≡ through (gives g c)
  gives_through g same c d e = ap (gives g) e ∙ given_through g g c.fate c.turns c.unused same

  decided_through : (nearer : Way) (k : ℕ) (main : Bool) (g : Input → List Outside → Course) → Passes nearer
      → ((x : Input) (ys : List Outside) → g x (map (seen_answer view) ys) ≡ through (g x ys))
      → (xs : List Outside) (D : Decision) → decided nearer k main g (map (seen_answer view) xs) D ≡ through (decided nearer k main g xs D)
  decided_through nearer k main g passes same xs (Forward m) = gives_through g same (nearer m main xs) _ (passes m main xs)
  decided_through nearer k main g passes same xs (Side m) = gives_through g same (nearer m false xs) _ (passes m false xs)
  decided_through nearer k main g passes same xs (HoldFor key) = gives_through g same (asked_outside (ask.Hold k key) as_verdict xs) _ (hold_through (ask.Hold k key) xs)
  decided_through nearer k main g passes same xs (Return response) = refl
  decided_through nearer k main g passes same xs (Shut reason) = refl

  turns_through : (n : ℕ) (nearer : Way) (k : ℕ) (turn : Turn) (request : Contents) (main : Bool) (inputs : List Input) → Passes nearer
      → (xs : List Outside) → turns_on n nearer k turn request main inputs (map (seen_answer view) xs) ≡ through (turns_on n nearer k turn request main inputs xs)
  unfolding turns_on
  turns_through zero nearer k turn request main inputs passes xs = refl
  turns_through (suc n) nearer k turn request main inputs passes xs =
      ap (behind_turns 1) (decided_through nearer k main (λ x unused. turns_on n nearer k turn request main (inputs ++ x ∷ []) unused) passes (λ x ys. turns_through n nearer k turn request main (inputs ++ x ∷ []) passes ys) xs (turn request inputs))

  module _ (last : Turn) (looks : LooksThrough view last) where
    decided_last : (k : ℕ) (main : Bool) (g h : Input → List Outside → Course)
        → ((x : Input) (ys : List Outside) → h (seen_input view x) (map (seen_answer view) ys) ≡ through (g x ys))
        → (xs : List Outside) (D : Decision) → decided broker k main h (map (seen_answer view) xs) D ≡ through (decided broker k main g xs D)
    decided_last k main g h same xs (Forward m) = asked_through g h (ask.Broker m main) as_answer answers_through same xs
    decided_last k main g h same xs (Side m) = asked_through g h (ask.Broker m false) as_answer answers_through same xs
    decided_last k main g h same xs (HoldFor key) = asked_through g h (ask.Hold k key) as_verdict verdicts_through same xs
    decided_last k main g h same xs (Return response) = refl
    decided_last k main g h same xs (Shut reason) = refl

    turns_last : (n k : ℕ) (request : Contents) (main : Bool) (inputs : List Input) (xs : List Outside)
        → turns_on n broker k last request main (map (seen_input view) inputs) (map (seen_answer view) xs) ≡ through (turns_on n broker k last request main inputs xs)
    unfolding turns_on
    turns_last zero k request main inputs xs = refl
    turns_last (suc n) k request main inputs xs =
        let g : Input → List Outside → Course = λ x unused. turns_on n broker k last request main (inputs ++ x ∷ []) unused in
        let h : Input → List Outside → Course = λ x unused. turns_on n broker k last request main (map (seen_input view) inputs ++ x ∷ []) unused in
        ap (behind_turns 1)
        (ap (λ D. decided broker k main h (map (seen_answer view) xs) D) (looks request inputs)
        ∙ decided_last k main g h
        (λ x ys. ap (λ is. turns_on n broker k last request main is (map (seen_answer view) ys)) (sym (map-append (seen_input view) inputs (x ∷ []))) ∙ turns_last n k request main (inputs ++ x ∷ []) ys)
        xs (last request inputs))

    way_through : (chain : List Turn) (k : ℕ) → Passes (way_from k (chain ++ last ∷ []))
    way_through [] k m main xs = turns_last most_turns k m main [] xs
    way_through (turn ∷ chain) k m main xs = turns_through most_turns (way_from (suc k) (chain ++ last ∷ [])) k turn m main [] (way_through chain (suc k)) xs

pub chain_looks_through : ChainLooksThrough
chain_looks_through view chain last looks request given =
    let e = way_through view last looks chain 0 request true given in (
      ap (λ (c : Course). outcome_after (length (map (seen_answer view) given)) c.fate) e ∙ ap (λ n. outcome_after n (way_from 0 (chain ++ last ∷ []) request true given).fate) (length-map given (seen_answer view)),
      ap (λ (c : Course). c.turns) e,
    )
