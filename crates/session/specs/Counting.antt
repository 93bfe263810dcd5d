-- The steps that the calls of a station count.
use Rattle.std.specs.Prelude.{◌≡◌, ℕ, false, List}
use Rattle.std.specs.List.{list_any}
use Rattle.conn_rules.specs.Meaning.{Meaning}
use Rattle.conn_rules.specs.State.{State}
use Rattle.conn_rules.specs.History.{Entry, LeadsTo, IsHistory}
use Rattle.conn_rules.specs.Work.{TakesGrowth}
use Rattle.conn_rules.specs.Origins.{wants_memory}

-- the connection found memory at each of these entries
abbrev pub FoundMemory : List Entry → Type 0
FoundMemory hs = list_any (λ h. wants_memory h.reply) hs ≡ false

-- From one count of steps to the other there are as many as the requests' work grew by, if the first state is one that a
-- history leads to, and the connection found memory all the way.
abbrev pub CountsGrowth : Meaning → State → List Entry → State → (before after : ℕ) → Type 0
CountsGrowth M s hs t before after = (past : List Entry) → IsHistory M past s → FoundMemory hs → TakesGrowth M before after s t

module _ {C : Type 0} (meaning : C → Meaning) (stands : C → State → Type 0) where
  -- The entries lead the old value to the new one, as in `Brings`, and the steps that are counted at them are the growth of
  -- the requests' work.
  abbrev pub BringsCounted : C → List Entry → C → (before after : ℕ) → Type 0
  BringsCounted old hs new before after =
      (meaning new ≡ meaning old) × ((s : State) → stands old s → (t : State) × LeadsTo (meaning old) s hs t × stands new t × CountsGrowth (meaning old) s hs t before after)
