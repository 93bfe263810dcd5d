-- What the functions of this crate that go from turn to turn keep: the filters that are suspended stand for what
-- becomes of the request, whatever comes back to the last of them.
use Rattle.std.specs.Prelude.{◌≡◌, ◌<◌, ◌≤◌, ℕ, suc, ◌+◌, Bool, false, List, [], ◌∷◌, ◌++◌, length, map, drop}
use Rattle.tree_spelling.specs.Body.{Contents}
use Rattle.filter_core.specs.declared.input.Input.{Input}
use Rattle.filter_core.specs.Decision.{Turn}
use Rattle.filter_core.specs.declared.moves.Move.{Move}
use Rattle.filter_core.specs.declared.moves.Move.TheVariants as move
use Rattle.side_requests.specs.declared.ask.Ask.{Ask}
use Rattle.side_requests.specs.declared.ask.Ask.TheVariants as ask
use Rattle.side_requests.specs.AskNumbers.{ask_limit}
use Rattle.filter_chain.specs.declared.outside.Outside.{Outside}
use Rattle.filter_chain.specs.declared.awaited.Awaited.{Awaited}
use Rattle.filter_chain.specs.declared.awaited.Awaited.TheVariants as awaited
use Rattle.filter_chain.specs.declared.passing.Passing.{Passing}
use Rattle.filter_chain.specs.declared.passing.Passing.TheVariants as passing
use Rattle.filter_chain.specs.declared.passing.Stop.{Stop}
use Rattle.filter_chain.specs.declared.passing.Stop.TheVariants as stop
use Rattle.filter_chain.specs.declared.passing.Next.{Next}
use Rattle.filter_chain.specs.declared.passing.Next.TheVariants as next
use Rattle.filter_chain.specs.declared.state.ShutCause.TheVariants as cause
use Rattle.filter_chain.specs.declared.state.State.{State}
use Rattle.filter_chain.specs.declared.state.State.TheVariants as state
use Rattle.filter_chain.specs.declared.suspended.Suspended.{Suspended}
use Rattle.filter_core.specs.Responses.{input_with, response_given}
use Rattle.filter_chain.specs.Answers.{as_answer, as_verdict}
use Rattle.filter_chain.specs.Chain.{Back, Closes, Course, Way, behind_turns, asked_outside, gives, turns_on, way_from}

-- A filter that waits, as the rules see it.
pub record Suspension : Type 0 where
  pub number : ℕ
  pub turn : Turn
  -- what stands nearer the broker
  pub nearer : Way
  pub request : Contents
  pub main : Bool
  pub inputs : List Input
  -- how many turns it may still have
  pub unused : ℕ

-- it is given this
abbrev pub given_next : Suspension → Input → List Outside → Course
given_next d x xs = turns_on d.unused d.nearer d.number d.turn d.request d.main (d.inputs ++ x ∷ []) xs

-- what becomes of the request, by what becomes of the message that the last of these sent
abbrev pub resumed : List Suspension → Course → Course
resumed [] c = c
resumed (d ∷ ds) c = gives (given_next d) (resumed ds c)

-- how an answer comes to who awaits it
abbrev pub as_awaited : Awaited → Outside → Input
as_awaited awaited.Answer x = as_answer x
as_awaited awaited.Verdict x = as_verdict x

abbrev pub awaited_by : Ask → Awaited
awaited_by (ask.Broker request main) = awaited.Answer
awaited_by (ask.Hold filter key) = awaited.Verdict

-- what becomes of a message that stopped, while these wait
abbrev pub stopped : List Suspension → Stop → List Outside → Course
stopped ds (stop.Needs question) xs = resumed ds (asked_outside question (as_awaited (awaited_by question)) xs)
stopped ds (stop.Done input) xs = record { fate = Back input; unused = xs; turns = 0 }
stopped ds (stop.Shut filter reason) xs = record { fate = Closes filter reason; unused = xs; turns = 0 }

-- What follows filter `k`'s move, and who waits after it.
abbrev pub next_of : {P : Type 0} → ℕ → Bool → Move P → Next
next_of k main (move.Forward message pending) = next.Passes (passing.Message message main)
next_of k main (move.Side message pending) = next.Passes (passing.Message message false)
next_of k main (move.Hold key pending) = next.Stops (stop.Needs (ask.Hold k key))
next_of k main (move.Return response) = next.Passes (passing.Input (input_with response))
next_of k main (move.Shut reason) = next.Stops (stop.Shut k reason)

abbrev pub kept : {P : Type 0} → Bool → ℕ → Move P → List (Suspended P)
kept main unused (move.Forward message pending) = record { pending = pending; main = main; unused = unused } ∷ []
kept main unused (move.Side message pending) = record { pending = pending; main = main; unused = unused } ∷ []
kept main unused (move.Hold key pending) = record { pending = pending; main = main; unused = unused } ∷ []
kept main unused (move.Return response) = []
kept main unused (move.Shut reason) = []

module _ {F P : Type 0} (turn : F → Turn) (stands : F → P → Contents → List Input → Type 0) where
  -- a filter, with what the code and what the rules know of it, is suspended before the others
  pub record IsSuspension (k : ℕ) (f : F) (nearer : List F) (s : Suspended P) (d : Suspension) : Type 0 where
    pub number_is : d.number ≡ k
    pub turn_is : d.turn ≡ turn f
    pub nearer_is : d.nearer ≡ way_from (suc k) (map turn nearer)
    pub main_is : d.main ≡ s.main
    pub left_is : d.unused ≡ s.unused
    pub keeps : stands f s.pending d.request d.inputs

  -- the first of these filters, from number k on, are those that are suspended
  abbrev pub AreSuspended : ℕ → List F → List (Suspended P) → List Suspension → Type 0
  AreSuspended k fs [] [] = Unit {0}
  AreSuspended k (f ∷ fs) (s ∷ ss) (d ∷ ds) = IsSuspension k f fs s d × AreSuspended (suc k) fs ss ds
  AreSuspended k fs ss ds = ⊥

  -- what becomes of what passes behind so many suspended filters
  abbrev pub passed_on : List F → ℕ → Passing → List Outside → Course
  passed_on chain n (passing.Message message main) xs = way_from n (map turn (drop n chain)) message main xs
  passed_on chain n (passing.Input input) xs = record { fate = Back input; unused = xs; turns = 0 }

  abbrev pub comes_to : List F → List Suspension → ℕ → Next → List Outside → Course
  comes_to chain ds n (next.Passes p) xs = resumed ds (passed_on chain n p xs)
  comes_to chain ds n (next.Stops s) xs = stopped ds s xs

  -- These filters are suspended, and with what comes next they stand for `whole`, after `n` turns.
  pub record StandFor (chain : List F) (suspended : List (Suspended P)) (next : Next) (n : ℕ) (whole : List Outside → Course) : Type 0 where
    pub suspensions : List Suspension
    pub are : AreSuspended 0 chain suspended suspensions
    pub goes : (xs : List Outside) → whole xs ≡ behind_turns n (comes_to chain suspensions (length suspended) next xs)

  -- From one to the other, with the turns that were counted between.
  abbrev pub Leads : List F → List (Suspended P) → Next → ℕ → List (Suspended P) → Next → ℕ → Type 0
  Leads chain old from steps new to steps' =
      (n : ℕ) (whole : List Outside → Course) → StandFor chain old from n whole
      → (made : ℕ) × (steps' ≡ steps + made) × StandFor chain new to (n + made) whole

-- How a request that stopped stands, with so many asks before.
abbrev pub IsConclusion : {P : Type 0} → List (Suspended P) → ℕ → Stop → State P → Type 0
IsConclusion ss asked (stop.Needs question) (state.Needs r ask) =
    (ask ≡ question) × (asked < ask_limit) × (r.suspended.items ≡ ss) × (r.awaits ≡ awaited_by question) × (r.book ≡ asked + 1)
IsConclusion ss asked (stop.Needs question) (state.Shut cause.AskBudget) = ask_limit ≤ asked
IsConclusion ss asked (stop.Done input) (state.Done response) = response ≡ response_given input
IsConclusion ss asked (stop.Shut k reason) (state.Shut (cause.Filter filter why)) = (filter ≡ k) × (why ≡ reason)
IsConclusion ss asked _ _ = ⊥
