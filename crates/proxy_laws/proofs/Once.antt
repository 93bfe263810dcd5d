-- A request goes on to the broker once at most.
use Rattle.std.proofs.Common.{◌≡◌, ◌∙◌, ap, refl, sym, subst, ℕ, zero, suc, ◌+◌, ◌<◌, ◌≤◌, Bool, true, false, List, [], ◌∷◌, ◌++◌, length, append_assoc, arith}
use Rattle.std.specs.List.{AllByRecursion}
use Rattle.tree_spelling.specs.Body.{Contents}
use Rattle.filter_core.specs.declared.input.Input.{Input}
use Rattle.filter_core.specs.Decision.{Decision, Turn, Forward, Side, HoldFor, Return, Shut}
use Rattle.filter_core.specs.Inputs.{MayComeFor, IsVerdict, MayFollow, AreInputs}
use Rattle.filter_core.specs.Laws.{IsForward, IsLawful}
use Rattle.side_requests.specs.declared.ask.Ask.{Ask}
use Rattle.side_requests.specs.declared.ask.Ask.TheVariants as ask
use Rattle.filter_chain.specs.declared.outside.Outside.{Outside}
use Rattle.filter_chain.specs.Answers.{as_verdict}
use Rattle.filter_chain.specs.Chain.{Fate, Back, Awaits, Closes, Endless, Course, Way, behind_turns, asked_outside, given_back, gives, decided, turns_on, most_turns, way_from, broker}
use Rattle.filter_chain.specs.Laws.{UsesFront}
use Rattle.filter_chain.proofs.Fronts.{used_in_order}
use Rattle.filter_chain.proofs.Courses.{one_turn}
use Rattle.proxy_laws.specs.LawfulChains.{turns_within}
use Rattle.proxy_laws.proofs.Fitting.{Fit, fit_alike, fit_front, fit_nearer, fit_left, back_with, fit_used}
use Rattle.proxy_laws.proofs.Sound.{IsAskedFor, IsGoodFate, MayPass, IsGoodWay, IsInner, given_one_more, inner_hold, front_of_asked, answered_too, good_way}

-- it waits for the answer to the main request
abbrev pub IsMainAsk : Ask → Type 0
IsMainAsk (ask.Broker message true) = Unit {0}
IsMainAsk (ask.Broker message false) = ⊥
IsMainAsk (ask.Hold filter key) = ⊥

abbrev pub AwaitsMain : Fate → Type 0
AwaitsMain (Back x) = ⊥
AwaitsMain (Awaits question) = IsMainAsk question
AwaitsMain (Closes filter reason) = ⊥
AwaitsMain (Endless filter) = ⊥

abbrev pub IsOnce : (List Outside → Course) → Type 0
IsOnce way = (before : List Outside) (x : Outside) (more : List Outside) → Fit way (before ++ x ∷ more) → AwaitsMain (way before).fate → AwaitsMain (way (before ++ x ∷ more)).fate → ⊥

abbrev pub IsOnceWay : Way → Type 0
IsOnceWay way = (m : Contents) (main : Bool) → MayPass m main → IsOnce (way m main)

broker_once : IsOnceWay broker
broker_once m main may [] x more fit first again = again
broker_once m main may (y ∷ before) x more fit first again = first

-- what is asked aside leads to no main ask
aside_asks : (m : Contents) (end : ℕ) (question : Ask) → IsAskedFor m false end question → IsMainAsk question → ⊥
aside_asks m end (ask.Broker message true) asked is = let z : false ≡ true = asked.0 in cc
aside_asks m end (ask.Broker message false) asked is = is
aside_asks m end (ask.Hold filter key) asked is = is

aside_fate : (m : Contents) (end : ℕ) (f : Fate) → IsGoodFate m false end f → AwaitsMain f → ⊥
aside_fate m end (Back x) good is = is
aside_fate m end (Awaits question) good is = aside_asks m end question good is
aside_fate m end (Closes filter reason) good is = is
aside_fate m end (Endless filter) good is = is

hold_fate : (k : ℕ) (key : List ℕ) (xs : List Outside) → AwaitsMain (asked_outside (ask.Hold k key) as_verdict xs).fate → ⊥
hold_fate k key [] is = is
hold_fate k key (x ∷ xs) is = is

module _ (way : List Outside → Course) (g : Input → List Outside → Course) where
  -- a main ask of the whole is one of the way to the broker, or of what goes on from there
  main_given : (f : Fate) (n : ℕ) (unused : List Outside) → ((x : Input) → f ≡ Back x → AwaitsMain (g x unused).fate → ⊥) → AwaitsMain (given_back g n unused f).fate → AwaitsMain f
  main_given (Back x) n unused none is = absurd (none x refl is)
  main_given (Awaits question) n unused none is = is
  main_given (Closes filter reason) n unused none is = is
  main_given (Endless filter) n unused none is = is

  pub main_gives : (xs : List Outside) → ((x : Input) → (way xs).fate ≡ Back x → AwaitsMain (g x (way xs).unused).fate → ⊥) → AwaitsMain (gives g (way xs)).fate → AwaitsMain (way xs).fate
  main_gives xs none is = main_given (way xs).fate (way xs).turns (way xs).unused none is

  -- where the way has none, it is what goes on from there that asks once
  module _ (before : List Outside) (u : UsesFront way before) (x : Outside) (more : List Outside) (fit : Fit (λ ys. gives g (way ys)) (before ++ x ∷ more))
      (none : AwaitsMain (way before).fate → ⊥) where
    same_list : before ++ x ∷ more ≡ u.used ++ ((way before).unused ++ x ∷ more)
    same_list = ap (λ l. l ++ x ∷ more) u.front ∙ append_assoc u.used (way before).unused (x ∷ more)

    further : (y : Input) → (way before).fate ≡ Back y → IsOnce (g y) → AwaitsMain (g y (way before).unused).fate → AwaitsMain (gives g (way (before ++ x ∷ more))).fate → ⊥
    further y back once first again =
        once (way before).unused x more
        (fit_used way g before u y back ((way before).unused ++ x ∷ more) (subst (Fit (λ ys. gives g (way ys))) same_list fit))
        first
        (subst (λ c. AwaitsMain (gives g c).fate) (ap way same_list ∙ back_with way g before u y back ((way before).unused ++ x ∷ more)) again)

    once_given : (f : Fate) → (way before).fate ≡ f → ((y : Input) → f ≡ Back y → IsOnce (g y)) → AwaitsMain (given_back g (way before).turns (way before).unused f).fate → AwaitsMain (gives g (way (before ++ x ∷ more))).fate → ⊥
    once_given (Back y) is each first again = further y is (each y refl) first again
    once_given (Awaits question) is each first again = none (subst AwaitsMain (sym is) first)
    once_given (Closes filter reason) is each first again = first
    once_given (Endless filter) is each first again = first

    pub once_gives : ((y : Input) → (way before).fate ≡ Back y → IsOnce (g y)) → AwaitsMain (gives g (way before)).fate → AwaitsMain (gives g (way (before ++ x ∷ more))).fate → ⊥
    once_gives each first again = once_given (way before).fate refl each first again

-- ---- one filter

no_turn : (nearer : Way) (k : ℕ) (turn : Turn) (m : Contents) (main : Bool) (inputs : List Input) (xs : List Outside) → (turns_on zero nearer k turn m main inputs xs).fate ≡ Endless k
unfolding turns_on
no_turn nearer k turn m main inputs xs = refl

module _ (k end most : ℕ) (inside : k < end) (turn : Turn) (lawful : IsLawful turn) (nearer : Way) (good : IsGoodWay nearer end most) (once : IsOnceWay nearer)
    (fronts : (m : Contents) (main : Bool) (xs : List Outside) → UsesFront (nearer m main) xs) (m : Contents) (main : Bool) (may : MayPass m main) where
  abbrev next : ℕ → List Input → Input → List Outside → Course
  next n inputs x unused = turns_on n nearer k turn m main (inputs ++ x ∷ []) unused

  passes_forward : (inputs : List Input) (message : Contents) → AreInputs turn m inputs → turn m inputs ≡ Forward message → MayPass message main
  passes_forward inputs message came is =
      let same = lawful.forwards_the_same m inputs message may.0 came is in
      (same.is_request, λ aside. answered_too m message same (may.1 aside))

  passes_side : (inputs : List Input) (message : Contents) → AreInputs turn m inputs → turn m inputs ≡ Side message → MayPass message false
  passes_side inputs message came is = let answered = lawful.questions_are_answered m inputs message may.0 came is in (answered.is_request, λ aside. answered)

  -- what came back for what was sent on, or asked, is what may follow
  follows : (message : Contents) (b : Bool) (xs : List Outside) (x : Input) → MayPass message b → Fit (nearer message b) xs → (nearer message b xs).fate ≡ Back x → MayComeFor message x
  follows message b xs x passes fit back = subst (IsGoodFate message b end) back (good message b xs passes fit).fate

  follows_hold : (key : List ℕ) (xs : List Outside) (x : Input) → Fit (asked_outside (ask.Hold k key) as_verdict) xs → (asked_outside (ask.Hold k key) as_verdict xs).fate ≡ Back x → IsVerdict x
  follows_hold key xs x fit back = subst (IsInner m main end (HoldFor key)) back (inner_hold m main k end key xs inside fit)

  -- a decision that is no forwarding leads to no main ask, where what follows leads to none
  never_decided : (inputs : List Input) → AreInputs turn m inputs → (g : Input → List Outside → Course) (xs : List Outside) (D : Decision) → turn m inputs ≡ D → (IsForward D → ⊥)
      → ((x : Input) (ys : List Outside) → MayFollow D x → Fit (g x) ys → AwaitsMain (g x ys).fate → ⊥)
      → Fit (λ ys. decided nearer k main g ys D) xs → AwaitsMain (decided nearer k main g xs D).fate → ⊥
  never_decided inputs came g xs (Forward message) is other each fit asks = other tt
  never_decided inputs came g xs (Side message) is other each fit asks =
      let passes = passes_side inputs message came is in
      let way = nearer message false in
      let u = fronts message false xs in
      aside_fate message end (way xs).fate (good message false xs passes (fit_nearer way g xs fit)).fate
      (main_gives way g xs (λ y back. each y (way xs).unused (follows message false xs y passes (fit_nearer way g xs fit) back) (fit_left way g xs u y back fit)) asks)
  never_decided inputs came g xs (HoldFor key) is other each fit asks =
      let way = asked_outside (ask.Hold k key) as_verdict in
      hold_fate k key xs
      (main_gives way g xs (λ y back. each y (way xs).unused (follows_hold key xs y (fit_nearer way g xs fit) back) (fit_left way g xs (front_of_asked (ask.Hold k key) as_verdict xs) y back fit)) asks)
  never_decided inputs came g xs (Return response) is other each fit asks = asks
  never_decided inputs came g xs (Shut reason) is other each fit asks = asks

  fit_turn : (n : ℕ) (inputs : List Input) (xs : List Outside) → Fit (turns_on (suc n) nearer k turn m main inputs) xs → Fit (λ ys. decided nearer k main (next n inputs) ys (turn m inputs)) xs
  fit_turn n inputs xs fit = fit_alike (turns_on (suc n) nearer k turn m main inputs) (λ ys. behind_turns 1 (decided nearer k main (next n inputs) ys (turn m inputs))) (one_turn n nearer k turn m main inputs) xs fit

  asks_turn : (n : ℕ) (inputs : List Input) (xs : List Outside) → AwaitsMain (turns_on (suc n) nearer k turn m main inputs xs).fate → AwaitsMain (decided nearer k main (next n inputs) xs (turn m inputs)).fate
  asks_turn n inputs xs asks = subst (λ (c : Course). AwaitsMain c.fate) (one_turn n nearer k turn m main inputs xs) asks

  -- once it has forwarded the request, nothing that the filter does leads to a main ask
  never_again : (n : ℕ) (inputs : List Input) → AreInputs turn m inputs → (front : List Input) (given : Input) (more : List Input) → inputs ≡ front ++ given ∷ more → IsForward (turn m front)
      → (xs : List Outside) → Fit (turns_on n nearer k turn m main inputs) xs → AwaitsMain (turns_on n nearer k turn m main inputs xs).fate → ⊥
  never_again zero inputs came front given more e forwarded xs fit asks = subst AwaitsMain (no_turn nearer k turn m main inputs xs) asks
  never_again (suc n) inputs came front given more e forwarded xs fit asks =
      never_decided inputs came (next n inputs) xs (turn m inputs) refl
      (λ again. lawful.forwards_once m front given more may.0 (subst (AreInputs turn m) e came) forwarded (subst (λ l. IsForward (turn m l)) e again))
      (λ x ys may_follow fits. never_again n (inputs ++ x ∷ []) (given_one_more turn m [] inputs x came may_follow) front given (more ++ x ∷ []) (ap (λ l. l ++ x ∷ []) e ∙ append_assoc front (given ∷ more) (x ∷ [])) forwarded ys fits)
      (fit_turn n inputs xs fit) (asks_turn n inputs xs asks)

  once_decided : (inputs : List Input) → AreInputs turn m inputs → (g : Input → List Outside → Course) (D : Decision) → turn m inputs ≡ D
      → ((x : Input) → MayFollow D x → IsOnce (g x)) → (IsForward D → (x : Input) (ys : List Outside) → MayFollow D x → Fit (g x) ys → AwaitsMain (g x ys).fate → ⊥)
      → IsOnce (λ ys. decided nearer k main g ys D)
  once_decided inputs came g (Forward message) is each never before x more fit first again =
      let passes = passes_forward inputs message came is in
      let way = nearer message main in
      let none : (xs : List Outside) → Fit (λ ys. gives g (way ys)) xs → (y : Input) → (way xs).fate ≡ Back y → AwaitsMain (g y (way xs).unused).fate → ⊥ =
      λ xs fits y back. never tt y (way xs).unused (follows message main xs y passes (fit_nearer way g xs fits) back) (fit_left way g xs (fronts message main xs) y back fits) in
      once message main passes before x more (fit_nearer way g (before ++ x ∷ more) fit)
      (main_gives way g before (none before (fit_front (λ ys. gives g (way ys)) before (x ∷ more) fit)) first)
      (main_gives way g (before ++ x ∷ more) (none (before ++ x ∷ more) fit) again)
  once_decided inputs came g (Side message) is each never before x more fit first again =
      let passes = passes_side inputs message came is in
      let way = nearer message false in
      let front = fit_nearer way g before (fit_front (λ ys. gives g (way ys)) before (x ∷ more) fit) in
      once_gives way g before (fronts message false before) x more fit (aside_fate message end (way before).fate (good message false before passes front).fate)
      (λ y back. each y (follows message false before y passes front back)) first again
  once_decided inputs came g (HoldFor key) is each never before x more fit first again =
      let way = asked_outside (ask.Hold k key) as_verdict in
      let front = fit_nearer way g before (fit_front (λ ys. gives g (way ys)) before (x ∷ more) fit) in
      once_gives way g before (front_of_asked (ask.Hold k key) as_verdict before) x more fit (hold_fate k key before)
      (λ y back. each y (follows_hold key before y front back)) first again
  once_decided inputs came g (Return response) is each never before x more fit first again = first
  once_decided inputs came g (Shut reason) is each never before x more fit first again = first

  once_turns : (n : ℕ) (inputs : List Input) → AreInputs turn m inputs → IsOnce (turns_on n nearer k turn m main inputs)
  once_turns zero inputs came before x more fit first again = subst AwaitsMain (no_turn nearer k turn m main inputs before) first
  once_turns (suc n) inputs came before x more fit first again =
      once_decided inputs came (next n inputs) (turn m inputs) refl
      (λ y may_follow. once_turns n (inputs ++ y ∷ []) (given_one_more turn m [] inputs y came may_follow))
      (λ forwarded y ys may_follow fits asks. never_again n (inputs ++ y ∷ []) (given_one_more turn m [] inputs y came may_follow) inputs y [] refl forwarded ys fits asks)
      before x more (fit_turn n inputs (before ++ x ∷ more) fit) (asks_turn n inputs before first) (asks_turn n inputs (before ++ x ∷ more) again)

-- ---- a chain

pub once_way : (chain : List Turn) → AllByRecursion IsLawful chain → (k end : ℕ) → k + length chain ≤ end → IsOnceWay (way_from k chain)
once_way [] lawful k end le m main may before x more fit first again = broker_once m main may before x more fit first again
once_way (turn ∷ chain) lawful k end le m main may before x more fit first again =
    once_turns k end (turns_within (length chain)) (omega arith) turn lawful.0 (way_from (suc k) chain) (good_way chain lawful.1 (suc k) end (omega arith)) (once_way chain lawful.1 (suc k) end (omega arith))
    (used_in_order (suc k) chain) m main may most_turns [] tt before x more fit first again
