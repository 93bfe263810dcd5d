-- What becomes of a whole request under a chain of lawful filters.
use Rattle.std.proofs.Common.{◌≡◌, subst, sym, ℕ, ◌<◌, Bool, true, false, if◌then◌else◌, nat_lt, List, [], ◌∷◌, ◌++◌, length, Option, arith}
use Rattle.std.specs.List.{All, AllByRecursion}
use Rattle.std.proofs.lemmas.List.Elements.{All-tail}
use Rattle.tree_spelling.specs.Body.{Contents}
use Rattle.filter_core.specs.declared.reason.Reason.{Reason}
use Rattle.filter_core.specs.Decision.{Turn}
use Rattle.filter_core.specs.Inputs.{IsWholeRequest}
use Rattle.filter_core.specs.Laws.{AnswersRequest, IsLawful}
use Rattle.filter_core.specs.Responses.{response_given}
use Rattle.side_requests.specs.declared.ask.Ask.{Ask}
use Rattle.side_requests.specs.declared.ask.Ask.TheVariants as ask
use Rattle.side_requests.specs.AskNumbers.{ask_limit}
use Rattle.filter_chain.specs.declared.outside.Outside.{Outside}
use Rattle.filter_chain.specs.declared.state.ShutCause.TheVariants as cause
use Rattle.filter_chain.specs.Chain.{Fate, Back, Awaits, Closes, Endless}
use Rattle.filter_chain.specs.Outcomes.{Needs, Completed, Shuts, NeverEnds, outcome_after, course}
use Rattle.proxy_laws.specs.Coming.{MayHaveCome}
use Rattle.proxy_laws.specs.LawfulChains.{CompletesWithOwnResponse, IsNeedOf, NeedsWholeMessages, HasOneMainSend, ComesToAnEnd, IsShutByOwnFilter, HasFewTurns, turns_within}
use Rattle.proxy_laws.proofs.Fitting.{come_fit}
use Rattle.proxy_laws.proofs.Once.{IsMainAsk, AwaitsMain, once_way}
use Rattle.proxy_laws.proofs.Sound.{IsGood, IsGoodFate, IsAskedFor, coming_answers, good_way}

pub every_one : {X : Type 0} (P : X → Type 0) (xs : List X) → ((x : X) → P x) → All P xs
every_one P xs h k d le = h _

one_by_one : {X : Type 0} (P : X → Type 0) (xs : List X) → All P xs → AllByRecursion P xs
one_by_one P [] all = tt
one_by_one P (x ∷ xs) all = (all 0 x (omega arith), one_by_one P xs (All-tail P x xs all))

asks_is_not_done : (b : Bool) (question : Ask) (r : Option Contents) → (if b then Needs question else Shuts cause.AskBudget) ≡ Completed r → ⊥
asks_is_not_done true question r e = cc
asks_is_not_done false question r e = cc

asks_is_no_shutting : (b : Bool) (question : Ask) (k : ℕ) (reason : Reason) → (if b then Needs question else Shuts cause.AskBudget) ≡ Shuts (cause.Filter k reason) → ⊥
asks_is_no_shutting true question k reason e = cc
asks_is_no_shutting false question k reason e = cc

asks_has_an_end : (b : Bool) (question : Ask) (k : ℕ) → (if b then Needs question else Shuts cause.AskBudget) ≡ NeverEnds k → ⊥
asks_has_an_end true question k e = cc
asks_has_an_end false question k e = cc

asks_this : (b : Bool) (question other : Ask) → (if b then Needs question else Shuts cause.AskBudget) ≡ Needs other → question ≡ other
asks_this true question other e = cc
asks_this false question other e = cc

need_of : (chain : List Turn) (request : Contents) (question : Ask) → IsAskedFor request true (length chain) question → IsNeedOf chain request question
need_of chain request (ask.Broker message true) h = h.1
need_of chain request (ask.Broker message false) h = h
need_of chain request (ask.Hold filter key) h = h

module _ (chain : List Turn) (request : Contents) (n : ℕ) where
  abbrev IsFine : Fate → Type 0
  IsFine f = IsGoodFate request true (length chain) f

  done_answers : (f : Fate) → IsFine f → (r : Option Contents) → outcome_after n f ≡ Completed r → AnswersRequest request r
  done_answers (Back x) h r e = subst (AnswersRequest request) (let z : response_given x ≡ r = cc in z) (coming_answers request x h)
  done_answers (Awaits question) h r e = absurd (asks_is_not_done (nat_lt n ask_limit) question r e)
  done_answers (Closes filter reason) h r e = absurd cc
  done_answers (Endless filter) h r e = absurd h

  needs_rightly : (f : Fate) → IsFine f → (question : Ask) → outcome_after n f ≡ Needs question → IsNeedOf chain request question
  needs_rightly (Back x) h question e = absurd cc
  needs_rightly (Awaits other) h question e = need_of chain request question (subst (IsAskedFor request true (length chain)) (asks_this (nat_lt n ask_limit) other question e) h)
  needs_rightly (Closes filter reason) h question e = absurd cc
  needs_rightly (Endless filter) h question e = absurd h

  has_an_end : (f : Fate) → IsFine f → (k : ℕ) → outcome_after n f ≡ NeverEnds k → ⊥
  has_an_end (Back x) h k e = cc
  has_an_end (Awaits question) h k e = asks_has_an_end (nat_lt n ask_limit) question k e
  has_an_end (Closes filter reason) h k e = cc
  has_an_end (Endless filter) h k e = h

  shuts_inside : (f : Fate) → IsFine f → (k : ℕ) (reason : Reason) → outcome_after n f ≡ Shuts (cause.Filter k reason) → k < length chain
  shuts_inside (Back x) h k reason e = absurd cc
  shuts_inside (Awaits question) h k reason e = absurd (asks_is_no_shutting (nat_lt n ask_limit) question k reason e)
  shuts_inside (Closes filter why) h k reason e = subst (λ j. j < length chain) (let z : filter ≡ k = cc in z) h
  shuts_inside (Endless filter) h k reason e = absurd h

module _ (chain : List Turn) (lawful : All IsLawful chain) where
  is_good : (request : Contents) (given : List Outside) → IsWholeRequest request → MayHaveCome chain request given → IsGood request true (length chain) (turns_within (length chain)) (course chain request given)
  is_good request given whole come =
      good_way chain (one_by_one IsLawful chain lawful) 0 (length chain) (omega arith) request true given (whole, λ e. absurd (let z : true ≡ false = e in cc)) (come_fit chain request given come)

  pub own_response : CompletesWithOwnResponse chain
  own_response request given response whole come e = done_answers chain request (length given) (course chain request given).fate (is_good request given whole come).fate response e

  pub whole_messages : NeedsWholeMessages chain
  whole_messages request given question whole come e = needs_rightly chain request (length given) (course chain request given).fate (is_good request given whole come).fate question e

  pub comes_to_an_end : ComesToAnEnd chain
  comes_to_an_end request given filter whole come e = has_an_end chain request (length given) (course chain request given).fate (is_good request given whole come).fate filter e

  pub shut_by_own_filter : IsShutByOwnFilter chain
  shut_by_own_filter request given filter reason whole come e = shuts_inside chain request (length given) (course chain request given).fate (is_good request given whole come).fate filter reason e

  pub few_turns : HasFewTurns chain
  few_turns request given whole come = (is_good request given whole come).few

-- ---- a request goes on once

awaits_main : (n : ℕ) (f : Fate) (message : Contents) → outcome_after n f ≡ Needs (ask.Broker message true) → AwaitsMain f
awaits_main n (Back x) message e = absurd cc
awaits_main n (Awaits question) message e = subst IsMainAsk (sym (asks_this (nat_lt n ask_limit) question (ask.Broker message true) e)) tt
awaits_main n (Closes filter reason) message e = absurd cc
awaits_main n (Endless filter) message e = absurd cc

pub one_main_send : (chain : List Turn) → All IsLawful chain → HasOneMainSend chain
one_main_send chain lawful request given x more message again whole come first second =
    once_way chain (one_by_one IsLawful chain lawful) 0 (length chain) (omega arith) request true (whole, λ e. absurd (let z : true ≡ false = e in cc)) given x more (come_fit chain request (given ++ x ∷ more) come)
    (awaits_main (length given) (course chain request given).fate message first) (awaits_main (length (given ++ x ∷ more)) (course chain request (given ++ x ∷ more)).fate again second)
