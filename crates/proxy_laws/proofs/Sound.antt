-- What becomes of a message that passes lawful filters, given what may come.
use Rattle.std.proofs.Common.{◌≡◌, ◌∙◌, refl, sym, subst, ℕ, zero, suc, ◌+◌, ◌*◌, ◌<◌, ◌≤◌, Bool, true, false, List, [], ◌∷◌, ◌++◌, length, append_assoc, append-nil, Option, Some, None, IsTrue, arith}
use Rattle.std.specs.List.{AllByRecursion}
use Rattle.std.proofs.lemmas.List.{length_push}
use Rattle.kp_schema.specs.Messages.{is_supported}
use Rattle.tree_spelling.specs.Body.{Contents}
use Rattle.filter_core.specs.declared.input.Input.{Input}
use Rattle.filter_core.specs.declared.input.Input.TheVariants.{Response, NoResponse, Verdict}
use Rattle.filter_core.specs.Decision.{Decision, Turn, Forward, Side, HoldFor, Return, Shut}
use Rattle.filter_core.specs.Inputs.{IsWholeRequest, MayComeFor, IsVerdict, MayFollow, FollowFrom, AreInputs}
use Rattle.filter_core.specs.Laws.{IsLast, IsSentOnAs, WillBeAnswered, AnswersRequest, IsLawful}
use Rattle.filter_core.specs.Lawful.{sent_on_itself}
use Rattle.filter_core.specs.Responses.{input_with, response_given}
use Rattle.side_requests.specs.declared.ask.Ask.{Ask}
use Rattle.side_requests.specs.declared.ask.Ask.TheVariants as ask
use Rattle.filter_chain.specs.declared.outside.Outside.{Outside}
use Rattle.filter_chain.specs.declared.outside.Outside.TheVariants as outside
use Rattle.filter_chain.specs.Answers.{as_answer, as_verdict}
use Rattle.filter_chain.specs.Chain.{Fate, Back, Awaits, Closes, Endless, Course, Way, behind_turns, asked_outside, given_back, gives, decided, turns_on, way_from, broker}
use Rattle.filter_chain.specs.Laws.{UsesFront}
use Rattle.filter_chain.proofs.Fronts.{used_in_order}
use Rattle.filter_chain.proofs.Courses.{one_turn}
use Rattle.proxy_laws.specs.Coming.{MayAnswer}
use Rattle.proxy_laws.specs.LawfulChains.{turns_within}
use Rattle.proxy_laws.proofs.Fitting.{Fit, fit_alike, fit_nearer, fit_left}

-- ---- what is sent on, and what was given

pub sent_on_both : (a b c : Contents) → IsSentOnAs a b → IsSentOnAs b c → IsSentOnAs a c
sent_on_both a b c h k = record { is_request = k.is_request; same_key = k.same_key ∙ h.same_key; same_version = k.same_version ∙ h.same_version; same_acks = k.same_acks ∙ h.same_acks }

pub answered_too : (a b : Contents) → IsSentOnAs a b → WillBeAnswered a → WillBeAnswered b
answered_too a b h w =
    record {
      is_request = h.is_request;
      supported = subst (λ k. IsTrue (is_supported k b.version)) (sym h.same_key) (subst (λ v. IsTrue (is_supported a.key v)) (sym h.same_version) w.supported);
      response_comes = h.same_acks ∙ w.response_comes;
    }

-- one input more
pub given_one_more : (turn : Turn) (m : Contents) (before inputs : List Input) (x : Input) → FollowFrom turn m before inputs → MayFollow (turn m (before ++ inputs)) x → FollowFrom turn m before (inputs ++ x ∷ [])
given_one_more turn m before [] x came may = (subst (λ l. MayFollow (turn m l) x) (append-nil before) may, tt)
given_one_more turn m before (y ∷ inputs) x came may =
    (came.0, given_one_more turn m (before ++ y ∷ []) inputs x came.1 (subst (λ l. MayFollow (turn m l) x) (sym (append_assoc before (y ∷ []) inputs)) may))

answer_comes : (m : Contents) (main : Bool) (x : Outside) → MayAnswer (ask.Broker m main) x → MayComeFor m (as_answer x)
answer_comes m main (outside.Answer response) may = may
answer_comes m main outside.NoResponse may = may
answer_comes m main (outside.Verdict verdict) may = absurd may

verdict_comes : (k : ℕ) (key : List ℕ) (x : Outside) → MayAnswer (ask.Hold k key) x → IsVerdict (as_verdict x)
verdict_comes k key (outside.Answer response) may = absurd may
verdict_comes k key outside.NoResponse may = absurd may
verdict_comes k key (outside.Verdict verdict) may = tt

returned_comes : (m : Contents) (response : Option Contents) → AnswersRequest m response → MayComeFor m (input_with response)
returned_comes m (Some response) h = h
returned_comes m None h = h

pub coming_answers : (m : Contents) (x : Input) → MayComeFor m x → AnswersRequest m (response_given x)
coming_answers m (Response response) may = may
coming_answers m NoResponse may = may
coming_answers m (Verdict verdict) may = absurd may

-- ---- a good course

-- asked for the sake of this message, by filters that end before number `end`
abbrev pub IsAskedFor : Contents → Bool → ℕ → Ask → Type 0
IsAskedFor m main end (ask.Broker message true) = (main ≡ true) × IsSentOnAs m message
IsAskedFor m main end (ask.Broker message false) = WillBeAnswered message
IsAskedFor m main end (ask.Hold filter key) = filter < end

abbrev pub IsGoodFate : Contents → Bool → ℕ → Fate → Type 0
IsGoodFate m main end (Back x) = MayComeFor m x
IsGoodFate m main end (Awaits question) = IsAskedFor m main end question
IsGoodFate m main end (Closes filter reason) = filter < end
IsGoodFate m main end (Endless filter) = ⊥

pub record IsGood (m : Contents) (main : Bool) (end most : ℕ) (c : Course) : Type 0 where
  pub fate : IsGoodFate m main end c.fate
  pub few : c.turns ≤ most

-- a message that is no main request is one that the broker answers
abbrev pub MayPass : Contents → Bool → Type 0
MayPass m main = IsWholeRequest m × (main ≡ false → WillBeAnswered m)

abbrev pub IsGoodWay : Way → ℕ → ℕ → Type 0
IsGoodWay way end most = (m : Contents) (main : Bool) (xs : List Outside) → MayPass m main → Fit (way m main) xs → IsGood m main end most (way m main xs)

asked_through_forward : (a b : Contents) (main : Bool) (end : ℕ) (question : Ask) → IsSentOnAs a b → IsAskedFor b main end question → IsAskedFor a main end question
asked_through_forward a b main end (ask.Broker message true) h q = (q.0, sent_on_both a b message h q.1)
asked_through_forward a b main end (ask.Broker message false) h q = q
asked_through_forward a b main end (ask.Hold filter key) h q = q

asked_through_side : (a b : Contents) (main : Bool) (end : ℕ) (question : Ask) → IsAskedFor b false end question → IsAskedFor a main end question
asked_through_side a b main end (ask.Broker message true) q = absurd (let z : false ≡ true = q.0 in cc)
asked_through_side a b main end (ask.Broker message false) q = q
asked_through_side a b main end (ask.Hold filter key) q = q

good_broker : (end : ℕ) → IsGoodWay broker end 0
good_broker end m main (x ∷ xs) may fit = record { fate = answer_comes m main x (fit [] x xs (ask.Broker m main) refl refl); few = omega arith }
good_broker end m true [] may fit = record { fate = (refl, sent_on_itself m may.0); few = omega arith }
good_broker end m false [] may fit = record { fate = may.1 refl; few = omega arith }

-- ---- one filter

-- what became of the message of a decision, for the sake of the request that it was made on
abbrev pub IsInner : Contents → Bool → ℕ → Decision → Fate → Type 0
IsInner m main end D (Back x) = MayFollow D x
IsInner m main end D (Awaits question) = IsAskedFor m main end question
IsInner m main end D (Closes filter reason) = filter < end
IsInner m main end D (Endless filter) = ⊥

pub inner_forward : (m message : Contents) (main : Bool) (end : ℕ) (f : Fate) → IsSentOnAs m message → IsGoodFate message main end f → IsInner m main end (Forward message) f
inner_forward m message main end (Back x) same h = h
inner_forward m message main end (Awaits question) same h = asked_through_forward m message main end question same h
inner_forward m message main end (Closes filter reason) same h = h
inner_forward m message main end (Endless filter) same h = h

pub inner_side : (m message : Contents) (main : Bool) (end : ℕ) (f : Fate) → IsGoodFate message false end f → IsInner m main end (Side message) f
inner_side m message main end (Back x) h = h
inner_side m message main end (Awaits question) h = asked_through_side m message main end question h
inner_side m message main end (Closes filter reason) h = h
inner_side m message main end (Endless filter) h = h

-- an ask of the filter's own
pub front_of_asked : (question : Ask) (f : Outside → Input) (xs : List Outside) → UsesFront (asked_outside question f) xs
front_of_asked question f [] = record { used = []; front = refl; whatever_follows = λ settled more. absurd settled; all_used = λ other e. refl }
front_of_asked question f (x ∷ xs) = record { used = x ∷ []; front = refl; whatever_follows = λ settled more. refl; all_used = λ other e. absurd (let z : Back (f x) ≡ Awaits other = e in cc) }

pub inner_hold : (m : Contents) (main : Bool) (k end : ℕ) (key : List ℕ) (xs : List Outside) → k < end → Fit (asked_outside (ask.Hold k key) as_verdict) xs → IsInner m main end (HoldFor key) (asked_outside (ask.Hold k key) as_verdict xs).fate
inner_hold m main k end key [] inside fit = inside
inner_hold m main k end key (x ∷ xs) inside fit = verdict_comes k key x (fit [] x xs (ask.Hold k key) refl refl)

asked_turns : (question : Ask) (f : Outside → Input) (xs : List Outside) → (asked_outside question f xs).turns ≤ 0
asked_turns question f [] = omega arith
asked_turns question f (x ∷ xs) = omega arith

-- how many turns a filter has that may have `n`, where there are so many at most behind each but the last
abbrev pub turns_in : ℕ → ℕ → ℕ
turns_in zero most = 0
turns_in (suc zero) most = 1
turns_in (suc (suc n)) most = 1 + (most + turns_in (suc n) most)

module _ (m : Contents) (main : Bool) (end rest : ℕ) (g : Input → List Outside → Course) (D : Decision)
    (each : (x : Input) (ys : List Outside) → MayFollow D x → Fit (g x) ys → IsGood m main end rest (g x ys)) where
  good_given : (way : List Outside → Course) (most : ℕ) (xs : List Outside) (u : UsesFront way xs) → (way xs).turns ≤ most → Fit (λ ys. gives g (way ys)) xs
      → (f : Fate) → (way xs).fate ≡ f → IsInner m main end D f → IsGood m main end (most + rest) (given_back g (way xs).turns (way xs).unused f)
  good_given way most xs u few fit (Back x) is inner =
      let r = each x (way xs).unused inner (fit_left way g xs u x is fit) in
      record { fate = r.fate; few = omega (arith, few, r.few) }
  good_given way most xs u few fit (Awaits question) is inner = record { fate = inner; few = omega (arith, few) }
  good_given way most xs u few fit (Closes filter reason) is inner = record { fate = inner; few = omega (arith, few) }
  good_given way most xs u few fit (Endless filter) is inner = absurd inner

  pub good_gives : (way : List Outside → Course) (most : ℕ) (xs : List Outside) (u : UsesFront way xs) → (way xs).turns ≤ most → Fit (λ ys. gives g (way ys)) xs
      → IsInner m main end D (way xs).fate → IsGood m main end (most + rest) (gives g (way xs))
  good_gives way most xs u few fit inner = good_given way most xs u few fit (way xs).fate refl inner

-- the last decision has no turn behind it
last_is_good : (m : Contents) (main : Bool) (k end : ℕ) (nearer : Way) (g : Input → List Outside → Course) (xs : List Outside) (D : Decision) → k < end → IsLast D
    → ((response : Option Contents) → D ≡ Return response → AnswersRequest m response) → IsGood m main end 0 (decided nearer k main g xs D)
last_is_good m main k end nearer g xs (Forward message) inside last returns = absurd last
last_is_good m main k end nearer g xs (Side message) inside last returns = absurd last
last_is_good m main k end nearer g xs (HoldFor key) inside last returns = absurd last
last_is_good m main k end nearer g xs (Return response) inside last returns = record { fate = returned_comes m response (returns response refl); few = omega arith }
last_is_good m main k end nearer g xs (Shut reason) inside last returns = record { fate = inside; few = omega arith }

pub more_turns : (m : Contents) (main : Bool) (end few most : ℕ) (c : Course) → few ≤ most → IsGood m main end few c → IsGood m main end most c
more_turns m main end few most c le h = record { fate = h.fate; few = omega (arith, le, h.few) }

pub one_turn_more : (m : Contents) (main : Bool) (end most : ℕ) (c : Course) → IsGood m main end most c → IsGood m main end (1 + most) (behind_turns 1 c)
one_turn_more m main end most c h = record { fate = h.fate; few = omega (arith, h.few) }

module _ (k end most : ℕ) (inside : k < end) (turn : Turn) (lawful : IsLawful turn) (nearer : Way) (good : IsGoodWay nearer end most)
    (fronts : (m : Contents) (main : Bool) (xs : List Outside) → UsesFront (nearer m main) xs) (m : Contents) (main : Bool) (may : MayPass m main) where
  abbrev next : ℕ → List Input → Input → List Outside → Course
  next n inputs x unused = turns_on n nearer k turn m main (inputs ++ x ∷ []) unused

  good_decided : (inputs : List Input) (came : AreInputs turn m inputs) (rest : ℕ) (g : Input → List Outside → Course) (xs : List Outside) (D : Decision) → turn m inputs ≡ D
      → ((x : Input) (ys : List Outside) → MayFollow D x → Fit (g x) ys → IsGood m main end rest (g x ys))
      → Fit (λ ys. decided nearer k main g ys D) xs → IsGood m main end (most + rest) (decided nearer k main g xs D)
  good_decided inputs came rest g xs (Forward message) is each fit =
      let same = lawful.forwards_the_same m inputs message may.0 came is in
      let passes : MayPass message main = (same.is_request, λ aside. answered_too m message same (may.1 aside)) in
      let h = good message main xs passes (fit_nearer (nearer message main) g xs fit) in
      good_gives m main end rest g (Forward message) each (nearer message main) most xs (fronts message main xs) h.few fit (inner_forward m message main end (nearer message main xs).fate same h.fate)
  good_decided inputs came rest g xs (Side message) is each fit =
      let answered = lawful.questions_are_answered m inputs message may.0 came is in
      let h = good message false xs (answered.is_request, λ aside. answered) (fit_nearer (nearer message false) g xs fit) in
      good_gives m main end rest g (Side message) each (nearer message false) most xs (fronts message false xs) h.few fit (inner_side m message main end (nearer message false xs).fate h.fate)
  good_decided inputs came rest g xs (HoldFor key) is each fit =
      let way = asked_outside (ask.Hold k key) as_verdict in
      more_turns m main end (0 + rest) (most + rest) (gives g (way xs)) (omega arith)
      (good_gives m main end rest g (HoldFor key) each way 0 xs (front_of_asked (ask.Hold k key) as_verdict xs) (asked_turns (ask.Hold k key) as_verdict xs) fit
      (inner_hold m main k end key xs inside (fit_nearer way g xs fit)))
  good_decided inputs came rest g xs (Return response) is each fit =
      more_turns m main end 0 (most + rest) _ (omega arith) (last_is_good m main k end nearer g xs (Return response) inside tt (λ other e. lawful.returns_an_answer m inputs other may.0 came (is ∙ e)))
  good_decided inputs came rest g xs (Shut reason) is each fit =
      more_turns m main end 0 (most + rest) _ (omega arith) (last_is_good m main k end nearer g xs (Shut reason) inside tt (λ other e. absurd (let z : Shut reason ≡ Return other = e in cc)))

  pub good_turns : (n : ℕ) (inputs : List Input) → AreInputs turn m inputs → n + length inputs ≡ 6 → (xs : List Outside) → Fit (turns_on (suc n) nearer k turn m main inputs) xs
      → IsGood m main end (turns_in (suc n) most) (turns_on (suc n) nearer k turn m main inputs xs)
  good_turns zero inputs came six xs fit =
      subst (IsGood m main end 1) (sym (one_turn zero nearer k turn m main inputs xs))
      (one_turn_more m main end 0 _ (last_is_good m main k end nearer (next zero inputs) xs (turn m inputs) inside (lawful.ends_after_six m inputs may.0 came (omega arith))
      (λ response e. lawful.returns_an_answer m inputs response may.0 came e)))
  good_turns (suc n) inputs came six xs fit =
      subst (IsGood m main end (turns_in (suc (suc n)) most)) (sym (one_turn (suc n) nearer k turn m main inputs xs))
      (one_turn_more m main end (most + turns_in (suc n) most) _ (good_decided inputs came (turns_in (suc n) most) (next (suc n) inputs) xs (turn m inputs) refl
      (λ x ys follows fits. good_turns n (inputs ++ x ∷ []) (given_one_more turn m [] inputs x came follows) (omega (arith, six, length_push inputs x)) ys fits)
      (fit_alike (turns_on (suc (suc n)) nearer k turn m main inputs) (λ ys. behind_turns 1 (decided nearer k main (next (suc n) inputs) ys (turn m inputs))) (one_turn (suc n) nearer k turn m main inputs) xs fit)))

-- ---- a chain

pub good_way : (chain : List Turn) → AllByRecursion IsLawful chain → (k end : ℕ) → k + length chain ≤ end → IsGoodWay (way_from k chain) end (turns_within (length chain))
good_way [] lawful k end le m main xs may fit = good_broker end m main xs may fit
good_way (turn ∷ chain) lawful k end le m main xs may fit =
    let most = turns_within (length chain) in
    more_turns m main end (turns_in 7 most) (7 + 6 * most) _ (omega arith)
    (good_turns k end most (omega arith) turn lawful.0 (way_from (suc k) chain) (good_way chain lawful.1 (suc k) end (omega arith)) (used_in_order (suc k) chain) m main may 6 [] tt refl xs fit)
