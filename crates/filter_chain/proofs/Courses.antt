-- Courses, and what suspended filters make of them.
use Rattle.std.proofs.Common.{◌≡◌, ◌∙◌, ap, refl, sym, ℕ, zero, suc, ◌+◌, Bool, false, List, [], ◌∷◌, ◌++◌, Some, None, arith}
use Rattle.tree_spelling.specs.Body.{Contents}
use Rattle.filter_core.specs.declared.input.Input.{Input}
use Rattle.filter_core.specs.declared.reason.Reason.{Reason}
use Rattle.filter_core.specs.Decision.{Decision, Turn}
use Rattle.side_requests.specs.declared.ask.Ask.{Ask}
use Rattle.filter_chain.specs.declared.outside.Outside.{Outside}
use Rattle.filter_chain.specs.Chain.{Fate, Back, Awaits, Closes, Endless, Course, Way, behind_turns, given_back, gives, decided, turns_on}
use Rattle.filter_chain.specs.Suspensions.{Suspension, given_next, resumed}

pub behind_none : (c : Course) → behind_turns 0 c ≡ c
behind_none c = ap (λ n. record { fate = c.fate; unused = c.unused; turns = n }) (let e : 0 + c.turns ≡ c.turns = omega arith in e)

pub behind_twice : (n m : ℕ) (c : Course) → behind_turns n (behind_turns m c) ≡ behind_turns (n + m) c
behind_twice n m c = ap (λ k. record { fate = c.fate; unused = c.unused; turns = k }) (let e : n + (m + c.turns) ≡ (n + m) + c.turns = omega arith in e)

given_back_behind : (f : Input → List Outside → Course) (n t : ℕ) (unused : List Outside) (fate : Fate) → given_back f (n + t) unused fate ≡ behind_turns n (given_back f t unused fate)
given_back_behind f n t unused (Back x) = sym (behind_twice n t (f x unused))
given_back_behind f n t unused (Awaits question) = refl
given_back_behind f n t unused (Closes filter reason) = refl
given_back_behind f n t unused (Endless filter) = refl

pub gives_behind : (f : Input → List Outside → Course) (n : ℕ) (c : Course) → gives f (behind_turns n c) ≡ behind_turns n (gives f c)
gives_behind f n c = given_back_behind f n c.turns c.unused c.fate

-- turns before are turns before, whoever waits
pub resumed_behind : (ds : List Suspension) (n : ℕ) (c : Course) → resumed ds (behind_turns n c) ≡ behind_turns n (resumed ds c)
resumed_behind [] n c = refl
resumed_behind (d ∷ ds) n c = ap (gives (given_next d)) (resumed_behind ds n c) ∙ gives_behind (given_next d) n (resumed ds c)

-- the last of them is told first
pub resumed_last : (ds : List Suspension) (d : Suspension) (c : Course) → resumed (ds ++ d ∷ []) c ≡ resumed ds (gives (given_next d) c)
resumed_last [] d c = refl
resumed_last (e ∷ ds) d c = ap (gives (given_next e)) (resumed_last ds d c)

-- what doesn't come back comes to the client as it is
pub resumed_asks : (ds : List Suspension) (question : Ask) (xs : List Outside) (n : ℕ) → resumed ds (record { fate = Awaits question; unused = xs; turns = n }) ≡ record { fate = Awaits question; unused = xs; turns = n }
resumed_asks [] question xs n = refl
resumed_asks (d ∷ ds) question xs n = ap (gives (given_next d)) (resumed_asks ds question xs n)

pub resumed_ends : (ds : List Suspension) (k : ℕ) (reason : Reason) (xs : List Outside) (n : ℕ) → resumed ds (record { fate = Closes k reason; unused = xs; turns = n }) ≡ record { fate = Closes k reason; unused = xs; turns = n }
resumed_ends [] k reason xs n = refl
resumed_ends (d ∷ ds) k reason xs n = ap (gives (given_next d)) (resumed_ends ds k reason xs n)

-- one turn of a filter that may have one
pub one_turn : (n : ℕ) (nearer : Way) (k : ℕ) (turn : Turn) (request : Contents) (main : Bool) (inputs : List Input) (xs : List Outside)
    → turns_on (suc n) nearer k turn request main inputs xs
    ≡ behind_turns 1 (decided nearer k main (λ x unused. turns_on n nearer k turn request main (inputs ++ x ∷ []) unused) xs (turn request inputs))
unfolding turns_on
one_turn n nearer k turn request main inputs xs = refl
