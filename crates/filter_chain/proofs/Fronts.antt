-- What a run used of its answers is a front of them.
use Rattle.std.proofs.Common.{◌≡◌, ◌∙◌, ap, refl, sym, subst, ℕ, zero, suc, ◌+◌, Bool, true, false, if◌then◌else◌, nat_lt, List, [], ◌∷◌, ◌++◌, length, Option, append_assoc, ◌≤◌, ◌≢◌}
use Rattle.std.proofs.lemmas.Bool.{le-ltb}
use Rattle.tree_spelling.specs.Body.{Contents}
use Rattle.filter_core.specs.declared.input.Input.{Input}
use Rattle.filter_core.specs.declared.reason.Reason.{Reason}
use Rattle.filter_core.specs.Decision.{Decision, Turn, Forward, Side, HoldFor, Return, Shut}
use Rattle.side_requests.specs.declared.ask.Ask.{Ask}
use Rattle.side_requests.specs.declared.ask.Ask.TheVariants as ask
use Rattle.side_requests.specs.AskNumbers.{ask_limit}
use Rattle.filter_chain.specs.declared.outside.Outside.{Outside}
use Rattle.filter_chain.specs.declared.state.ShutCause.TheVariants as cause
use Rattle.filter_core.specs.Responses.{response_given}
use Rattle.filter_chain.specs.Answers.{as_answer, as_verdict}
use Rattle.filter_chain.specs.Chain.{Fate, Back, Awaits, Closes, Endless, Course, Way, behind_turns, asked_outside, given_back, gives, decided, turns_on, most_turns, way_from}
use Rattle.filter_chain.specs.Outcomes.{Outcome, Needs, Completed, Shuts, NeverEnds, outcome_after, course, run}
use Rattle.filter_chain.specs.Laws.{IsSettled, UsesFront, DoneStays, EndStays, NothingBehindBudget, AnswersAreUsedInOrder}

-- `UsesFront` of a way that comes to this course
record Uses (way : List Outside → Course) (xs : List Outside) (c : Course) : Type 0 where
  used : List Outside
  front : xs ≡ used ++ c.unused
  whatever : IsSettled c.fate → (more : List Outside) → way (used ++ more) ≡ record { fate = c.fate; unused = more; turns = c.turns }
  all_used : (ask : Ask) → c.fate ≡ Awaits ask → c.unused ≡ []

uses_asks : (question : Ask) (f : Outside → Input) (xs : List Outside) → Uses (asked_outside question f) xs (asked_outside question f xs)
uses_asks question f [] = record { used = []; front = refl; whatever = λ s more. absurd s; all_used = λ ask e. refl }
uses_asks question f (x ∷ xs) = record { used = x ∷ []; front = refl; whatever = λ s more. refl; all_used = λ ask e. absurd (let e2 : Back (f x) ≡ Awaits ask = e in cc) }

uses_behind : (n : ℕ) (way : List Outside → Course) (xs : List Outside) (c : Course) → Uses way xs c → Uses (λ ys. behind_turns n (way ys)) xs (behind_turns n c)
uses_behind n way xs c u = record { used = u.used; front = u.front; whatever = λ s more. ap (behind_turns n) (u.whatever s more); all_used = u.all_used }

module _ (way : List Outside → Course) (g : Input → List Outside → Course) (each : (x : Input) (ys : List Outside) → Uses (g x) ys (g x ys)) (xs : List Outside) where
  uses_given : (fate : Fate) (unused : List Outside) (turns : ℕ) → Uses way xs (record { fate = fate; unused = unused; turns = turns }) → Uses (λ ys. gives g (way ys)) xs (given_back g turns unused fate)
  uses_given (Back x) unused turns u =
      let v = each x unused in
      record {
        used = u.used ++ v.used;
        front = u.front ∙ ap (λ l. u.used ++ l) v.front ∙ sym (append_assoc u.used v.used (g x unused).unused);
        whatever = λ s more.
            ap (λ l. gives g (way l)) (append_assoc u.used v.used more)
            ∙ ap (gives g) (u.whatever tt (v.used ++ more))
            ∙ ap (behind_turns turns) (v.whatever s more);
        all_used = v.all_used;
      }
  uses_given (Awaits question) unused turns u = record { used = u.used; front = u.front; whatever = λ s more. absurd s; all_used = u.all_used }
  uses_given (Closes filter reason) unused turns u = record { used = u.used; front = u.front; whatever = λ s more. ap (gives g) (u.whatever tt more); all_used = u.all_used }
  uses_given (Endless filter) unused turns u = record { used = u.used; front = u.front; whatever = λ s more. ap (gives g) (u.whatever tt more); all_used = u.all_used }

  uses_gives : (c : Course) → Uses way xs c → Uses (λ ys. gives g (way ys)) xs (gives g c)
  uses_gives c u = uses_given c.fate c.unused c.turns u

abbrev IsFronted : Way → Type 0
IsFronted nearer = (m : Contents) (main : Bool) (xs : List Outside) → Uses (nearer m main) xs (nearer m main xs)

uses_ended : (fate : Fate) (xs : List Outside) → ((ask : Ask) → fate ≡ Awaits ask → ⊥) → Uses (λ ys. record { fate = fate; unused = ys; turns = 0 }) xs (record { fate = fate; unused = xs; turns = 0 })
uses_ended fate xs never = record { used = []; front = refl; whatever = λ s more. refl; all_used = λ ask e. absurd (never ask e) }

uses_decided : (nearer : Way) (k : ℕ) (main : Bool) (g : Input → List Outside → Course) → IsFronted nearer → ((x : Input) (ys : List Outside) → Uses (g x) ys (g x ys))
    → (D : Decision) (xs : List Outside) → Uses (λ ys. decided nearer k main g ys D) xs (decided nearer k main g xs D)
uses_decided nearer k main g fronted each (Forward m) xs = uses_gives (nearer m main) g each xs (nearer m main xs) (fronted m main xs)
uses_decided nearer k main g fronted each (Side m) xs = uses_gives (nearer m false) g each xs (nearer m false xs) (fronted m false xs)
uses_decided nearer k main g fronted each (HoldFor key) xs = uses_gives (asked_outside (ask.Hold k key) as_verdict) g each xs (asked_outside (ask.Hold k key) as_verdict xs) (uses_asks (ask.Hold k key) as_verdict xs)
uses_decided nearer k main g fronted each (Return response) xs = uses_ended (Back _) xs (λ ask e. cc)
uses_decided nearer k main g fronted each (Shut reason) xs = uses_ended (Closes k reason) xs (λ ask e. cc)

uses_turns : (n : ℕ) (nearer : Way) (k : ℕ) (turn : Turn) (request : Contents) (main : Bool) (inputs : List Input) → IsFronted nearer
    → (xs : List Outside) → Uses (turns_on n nearer k turn request main inputs) xs (turns_on n nearer k turn request main inputs xs)
unfolding turns_on
uses_turns zero nearer k turn request main inputs fronted xs = uses_ended (Endless k) xs (λ ask e. cc)
uses_turns (suc n) nearer k turn request main inputs fronted xs =
    uses_behind 1 _ xs _ (uses_decided nearer k main (λ x unused. turns_on n nearer k turn request main (inputs ++ x ∷ []) unused) fronted (λ x ys. uses_turns n nearer k turn request main (inputs ++ x ∷ []) fronted ys) (turn request inputs) xs)

uses_way : (chain : List Turn) (k : ℕ) → IsFronted (way_from k chain)
uses_way [] k m main xs = uses_asks (ask.Broker m main) as_answer xs
uses_way (turn ∷ chain) k m main xs = uses_turns most_turns (way_from (suc k) chain) k turn m main [] (uses_way chain (suc k)) xs

pub used_in_order : AnswersAreUsedInOrder
used_in_order k chain m main xs =
    let u = uses_way chain k m main xs in
    record { used = u.used; front = u.front; whatever_follows = u.whatever; all_used = u.all_used }

-- a fate that asks for nothing stays, whatever more comes
settled_stays : (chain : List Turn) (request : Contents) (given more : List Outside) → IsSettled (course chain request given).fate
    → (course chain request (given ++ more)).fate ≡ (course chain request given).fate
settled_stays chain request given more s =
    let u = uses_way chain 0 request true given in
    ap (λ xs. (course chain request xs).fate) (ap (λ xs. xs ++ more) u.front ∙ append_assoc u.used (course chain request given).unused more)
    ∙ ap (λ (c : Course). c.fate) (u.whatever s ((course chain request given).unused ++ more))

asks_is_not_done : (b : Bool) (ask : Ask) (r : Option Contents) → (if b then Needs ask else Shuts cause.AskBudget) ≡ Completed r → ⊥
asks_is_not_done true ask r e = cc
asks_is_not_done false ask r e = cc

asks_is_no_end : (b : Bool) (ask : Ask) (k : ℕ) (reason : Reason) → (if b then Needs ask else Shuts cause.AskBudget) ≡ Shuts (cause.Filter k reason) → ⊥
asks_is_no_end true ask k reason e = cc
asks_is_no_end false ask k reason e = cc

done_fate : (fate : Fate) (n m : ℕ) (r : Option Contents) → outcome_after n fate ≡ Completed r → IsSettled fate × (outcome_after m fate ≡ Completed r)
done_fate (Back input) n m r h = (tt, h)
done_fate (Awaits ask) n m r h = absurd (asks_is_not_done (nat_lt n ask_limit) ask r h)
done_fate (Closes filter reason) n m r h = (tt, h)
done_fate (Endless filter) n m r h = (tt, h)

end_fate : (fate : Fate) (n m : ℕ) (k : ℕ) (reason : Reason) → outcome_after n fate ≡ Shuts (cause.Filter k reason) → IsSettled fate × (outcome_after m fate ≡ Shuts (cause.Filter k reason))
end_fate (Back input) n m k reason h = (tt, h)
end_fate (Awaits ask) n m k reason h = absurd (asks_is_no_end (nat_lt n ask_limit) ask k reason h)
end_fate (Closes filter why) n m k reason h = (tt, h)
end_fate (Endless filter) n m k reason h = (tt, h)

pub done_stays : DoneStays
done_stays chain request given more response h =
    let f = done_fate (course chain request given).fate (length given) (length (given ++ more)) response h in
    ap (outcome_after (length (given ++ more))) (settled_stays chain request given more f.0) ∙ f.1

pub end_stays : EndStays
end_stays chain request given more filter reason h =
    let f = end_fate (course chain request given).fate (length given) (length (given ++ more)) filter reason h in
    ap (outcome_after (length (given ++ more))) (settled_stays chain request given more f.0) ∙ f.1

asks_no_more : (fate : Fate) (n : ℕ) (ask : Ask) → 64 ≤ n → outcome_after n fate ≡ Needs ask → ⊥
asks_no_more (Back input) n ask h e = cc
asks_no_more (Awaits question) n ask h e = let z = ap (λ b. if b then Needs question else Shuts cause.AskBudget) (le-ltb n 64 h) in let y : Shuts cause.AskBudget ≡ Needs ask = sym z ∙ e in cc
asks_no_more (Closes filter reason) n ask h e = cc
asks_no_more (Endless filter) n ask h e = cc

pub asks_within_budget : NothingBehindBudget
asks_within_budget chain request given ask h e = asks_no_more (course chain request given).fate (length given) ask h e
