-- Answers that fit: each is one that may come for what a way awaits with those before it.
use Rattle.std.proofs.Common.{◌≡◌, ◌∙◌, ap, refl, sym, subst, ℕ, Bool, true, false, if◌then◌else◌, nat_lt, List, [], ◌∷◌, ◌++◌, length, append_assoc, append-nil}
use Rattle.tree_spelling.specs.Body.{Contents}
use Rattle.filter_core.specs.declared.input.Input.{Input}
use Rattle.filter_core.specs.Decision.{Turn}
use Rattle.side_requests.specs.declared.ask.Ask.{Ask}
use Rattle.side_requests.specs.AskNumbers.{ask_limit}
use Rattle.filter_chain.specs.declared.outside.Outside.{Outside}
use Rattle.filter_chain.specs.declared.state.ShutCause.TheVariants as cause
use Rattle.filter_chain.specs.Chain.{Fate, Back, Awaits, Course, gives}
use Rattle.filter_chain.specs.Outcomes.{Needs, Shuts, outcome_after, course, run}
use Rattle.filter_chain.specs.Laws.{IsSettled, UsesFront}
use Rattle.proxy_laws.specs.Coming.{MayAnswer, MayBeGiven, MayHaveComeBehind, MayHaveCome}

abbrev pub Fit : (List Outside → Course) → List Outside → Type 0
Fit way xs =
    (before : List Outside) (x : Outside) (after : List Outside) (question : Ask) → xs ≡ before ++ x ∷ after → (way before).fate ≡ Awaits question → MayAnswer question x

pub fit_alike : (one other : List Outside → Course) → ((ys : List Outside) → one ys ≡ other ys) → (xs : List Outside) → Fit one xs → Fit other xs
fit_alike one other alike xs fit before x after question e awaits = fit before x after question e (ap (λ (c : Course). c.fate) (alike before) ∙ awaits)

-- a front of them fits too
pub fit_front : (way : List Outside → Course) (xs ys : List Outside) → Fit way (xs ++ ys) → Fit way xs
fit_front way xs ys fit before x after question e awaits =
    fit before x (after ++ ys) question (ap (λ l. l ++ ys) e ∙ append_assoc before (x ∷ after) ys) awaits

module _ (way : List Outside → Course) (g : Input → List Outside → Course) where
  awaits_too : (ys : List Outside) (question : Ask) → (way ys).fate ≡ Awaits question → (gives g (way ys)).fate ≡ Awaits question
  awaits_too ys question e = subst (λ c. (gives g c).fate ≡ Awaits question) (let z : record { fate = Awaits question; unused = (way ys).unused; turns = (way ys).turns } ≡ way ys = ap (λ f. record { fate = f; unused = (way ys).unused; turns = (way ys).turns }) (sym e) in z) refl

  -- what fits the whole fits the way to the broker
  pub fit_nearer : (xs : List Outside) → Fit (λ ys. gives g (way ys)) xs → Fit way xs
  fit_nearer xs fit before x after question e awaits = fit before x after question e (awaits_too before question awaits)

  -- and what is unused of it fits what goes on from there
  module _ (xs : List Outside) (u : UsesFront way xs) (x : Input) (back : (way xs).fate ≡ Back x) where
    pub back_with : (more : List Outside) → way (u.used ++ more) ≡ record { fate = Back x; unused = more; turns = (way xs).turns }
    back_with more = u.whatever_follows (subst IsSettled (sym back) tt) more ∙ ap (λ f. record { fate = f; unused = more; turns = (way xs).turns }) back

    pub fit_used : (unused : List Outside) → Fit (λ ys. gives g (way ys)) (u.used ++ unused) → Fit (g x) unused
    fit_used unused fit before y after question e awaits =
        fit (u.used ++ before) y after question (ap (λ l. u.used ++ l) e ∙ sym (append_assoc u.used before (y ∷ after))) (ap (λ (c : Course). (gives g c).fate) (back_with before) ∙ awaits)

    pub fit_left : Fit (λ ys. gives g (way ys)) xs → Fit (g x) (way xs).unused
    fit_left fit = fit_used (way xs).unused (subst (Fit (λ ys. gives g (way ys))) u.front fit)

-- ---- a whole request

behind_split : (chain : List Turn) (request : Contents) (start xs before : List Outside) (x : Outside) (after : List Outside) → MayHaveComeBehind chain request start xs → xs ≡ before ++ x ∷ after → MayBeGiven (run chain request (start ++ before)) x
behind_split chain request start [] [] x after come e = absurd cc
behind_split chain request start [] (y ∷ before) x after come e = absurd cc
behind_split chain request start (z ∷ xs) [] x after come e = let same : z ≡ x = cc in subst (λ l. MayBeGiven (run chain request l) x) (sym (append-nil start)) (subst (MayBeGiven (run chain request start)) same come.0)
behind_split chain request start (z ∷ xs) (y ∷ before) x after come e =
    let same : z ≡ y = cc in
    let rest : xs ≡ before ++ x ∷ after = cc in
    subst (λ l. MayBeGiven (run chain request l) x) (append_assoc start (y ∷ []) before) (behind_split chain request (start ++ y ∷ []) xs before x after (subst (λ w. MayHaveComeBehind chain request (start ++ w ∷ []) xs) same come.1) rest)

-- what may meet a request that awaits something answers it
meets_ask : (b : Bool) (question : Ask) (x : Outside) → MayBeGiven (if b then Needs question else Shuts cause.AskBudget) x → MayAnswer question x
meets_ask true question x h = h
meets_ask false question x h = absurd h

meets_fate : (n : ℕ) (fate : Fate) (question : Ask) (x : Outside) → fate ≡ Awaits question → MayBeGiven (outcome_after n fate) x → MayAnswer question x
meets_fate n fate question x e h = meets_ask (nat_lt n ask_limit) question x (subst (λ f. MayBeGiven (outcome_after n f) x) e h)

pub come_fit : (chain : List Turn) (request : Contents) (given : List Outside) → MayHaveCome chain request given → Fit (course chain request) given
come_fit chain request given come before x after question e awaits =
    meets_fate (length before) (course chain request before).fate question x awaits (behind_split chain request [] given before x after come e)
