-- How requests go on and settle, and what of the connection stands for a state of the machine meanwhile.
use Rattle.std.specs.Prelude.{◌≡◌, ◌≢◌, ℕ, suc, ◌+◌, ◌≤◌, ◌<◌, ◌^◌, ◌||◌, Bool, true, false, MatchBool, List, length, Option, Some, None, slice_get, slice_set}
use Rattle.kp_edge.specs.declared.end.End.{End}
use Rattle.conn_rules.specs.declared.causes.Causes.{Causes}
use Rattle.conn_rules.specs.Causes.{below}
use Rattle.conn_rules.specs.Meaning.{Meaning}
use Rattle.conn_rules.specs.State.{Outside, NoResponse, ListedSend, State, held, upstream_frame}
use Rattle.conn_rules.specs.Settling.{is_listed, next_act, Settles}
use Rattle.conn_rules.specs.Sweep.{IsQuietBefore, free_before}
use Rattle.conn_rules.specs.Work.{TakesGrowth}
use Rattle.correlation.specs.WindowOf.{window_of}
use Rattle.correlation.specs.Windows.{Window, with_listed}
use Rattle.correlation.specs.IsWindow.{owner_of, IsWindow}
use Rattle.serving.specs.declared.flight.Flight.{Flight}
use Rattle.serving.specs.declared.message.Message.{Message}
use Rattle.serving.specs.declared.slot.Slot.{Slot}
use Rattle.serving.specs.declared.slot.Stage.TheVariants as stage
use Rattle.serving.specs.Flights.{first_of, OnlySlots}
use Rattle.serving.specs.Services.{behind_id, CountsOn}
use Rattle.serving.specs.Slots.{waiting_run, may_list, has_main, is_picked, pending, GoesOn, Keeps, IsPassed, IsUntouched}

-- the send that a message of request k is, for its ask number i
abbrev pub send_of : ℕ → ℕ → Message → ListedSend
send_of k i m = record { request = k; ask = i; before = m.before; behind = behind_id m; main = m.main; responds = m.responds }

-- the window with that send behind the others
abbrev pub window_with : ℕ → Message → Window → Window
window_with k m w = with_listed (owner_of (send_of k 0 m)) (upstream_frame w.next (send_of k 0 m)) w

-- the same is known of request j in both states, but that a cut may stand at a lesser request
pub record SameFor (j : ℕ) (s t : State) : Type 0 where
  pub request : slice_get t.requests j ≡ slice_get s.requests j
  pub main : has_main t.sends j ≡ has_main s.sends j
  pub listed : (i : ℕ) → is_listed t.sends j i ≡ is_listed s.sends j i
  pub picked : (i : ℕ) → is_picked t.picked j i ≡ is_picked s.picked j i
  pub pending : below t.causes.cut j ≡ true → pending t j ≡ pending s j
  pub served : below t.causes.cut j ≡ true → below s.causes.cut j ≡ true

-- no cut stands before the requests that were passed
abbrev pub IsCutBehind : Option (ℕ × End) → ℕ → Type 0
IsCutBehind None passed = Unit {0}
IsCutBehind (Some cut) passed = passed ≤ cut.0

-- request k alone went on
pub record OnlyAt (k : ℕ) (s t : State) : Type 0 where
  pub others : (j : ℕ) → j ≢ k → SameFor j s t
  pub count : length t.requests ≡ length s.requests
  pub passed : t.passed ≡ s.passed
  pub held_is : held t ≡ held s
  pub halt : t.causes.halt ≡ s.causes.halt
  pub over : t.causes.over ≡ s.causes.over
  pub behind : (passed : ℕ) → passed ≤ k → IsCutBehind s.causes.cut passed → IsCutBehind t.causes.cut passed

-- what want of memory leaves
pub record SameOutside {R : Type 0} (old new : Flight R) : Type 0 where
  pub limit_is : new.limit ≡ old.limit
  pub count : new.count ≡ old.count
  pub held : new.held ≡ old.held
  pub requests : new.requests ≡ old.requests
  pub halt : new.causes.halt ≡ old.causes.halt
  pub over : new.causes.over ≡ old.causes.over

-- the counts stay while a connection settles
pub record SameCounts (s t : State) : Type 0 where
  pub count : length t.requests ≡ length s.requests
  pub passed : t.passed ≡ s.passed
  pub held_is : held t ≡ held s
  pub halt : t.causes.halt ≡ s.causes.halt
  pub over : t.causes.over ≡ s.causes.over

module _ (M : Meaning) where
  -- what settles from t settles from s
  abbrev pub SettlesOn : State → State → Type 0
  SettlesOn s t = (u : State) → Settles M t u → Settles M s u

  -- request k goes on by itself, and all else stays
  pub record GoesTo (k : ℕ) (s t : State) : Type 0 where
    pub settles : SettlesOn s t
    pub only : OnlyAt k s t

  -- the sweep is past request k, or has nothing more to do since a cut stands
  abbrev pub IsSweptPast : State → ℕ → Option Bool → Type 0
  IsSweptPast t k (Some free) = IsQuietBefore M t (suc k) × (free ≡ free_before M t (suc k))
  IsSweptPast t k None = (next_act M t ≡ None) × (t.causes.cut ≢ None)

  -- the requests before this place have nothing to do, and hold back later main sends as `free` says
  pub record AreQuiet (from : ℕ) (free : Bool) (s : State) : Type 0 where
    pub quiet : IsQuietBefore M s (s.passed + from)
    pub free_is : free ≡ free_before M s (s.passed + from)

  -- where no cut stands, `free` says whether none of all requests holds back later main sends
  abbrev pub TellsFree : {R : Type 0} → Flight R → State → Type 0
  TellsFree f s = s.causes.cut ≡ None → f.free ≡ free_before M s (length s.requests)

module _ {R : Type 0} (M : Meaning) (runs : R → List ℕ → List Outside → Type 0) where
  -- the message of request k is listed
  pub record ListsSlot (k : ℕ) (free : Bool) (old : Slot R) (w : Window) (new : Slot R) (v : Window) : Type 0 where
    pub message : Message
    pub run : R
    pub was : old.stage ≡ stage.Unlisted message run
    pub may : may_list free old ≡ true
    pub window : v ≡ window_with k message w
    pub goes : MatchBool message.responds
        (new ≡ record old { main_listed = old.main_listed || message.main; stage = stage.Listed run })
        (GoesOn M runs run NoResponse (record old { main_listed = old.main_listed || message.main }) new)

  abbrev pub ListsNext : ℕ → Bool → Slot R → Window → Bool → Slot R → Window → Type 0
  ListsNext k free old w false new v = (new ≡ old) × (v ≡ w) × (may_list free old ≡ false)
  ListsNext k free old w true new v = ListsSlot k free old w new v

  -- The steps of a listing are those of the run, where it goes on at once.
  abbrev pub CountsNext : Bool → Slot R → (before after : ℕ) → Type 0
  CountsNext false old n m = m ≡ n
  CountsNext true old n m = (message : Message) (run : R) → old.stage ≡ stage.Unlisted message run → MatchBool message.responds (m ≡ n) (CountsOn M runs run NoResponse n m)

  -- the sweep stands at request k
  pub record IsSweptTo (k : ℕ) (free : Bool) (slot : Slot R) (w : Window) (s : State) : Type 0 where
    pub quiet : IsQuietBefore M s k
    pub free_is : free ≡ free_before M s k
    pub kept : Keeps M runs s k slot
    pub window : IsWindow s w

  abbrev pub Advances : ℕ → Bool → Slot R → Window → Slot R → Window → (before after : ℕ) → Type 0
  Advances k free old w new v n m = (s : State) → below s.causes.cut k ≡ true → IsSweptTo k free old w s → (t : State) × GoesTo M k s t × (t.causes ≡ s.causes) × IsSweptTo k free new v t × TakesGrowth M n m s t

  pub record IsSettledAt (k : ℕ) (s : State) (causes : Causes) (slot : Slot R) (w : Window) (past : Option Bool) (t : State) : Type 0 where
    pub goes : GoesTo M k s t
    pub causes_is : causes ≡ t.causes
    pub kept : Keeps M runs t k slot
    pub window : IsWindow t w
    pub past_is : IsSweptPast M t k past

  abbrev pub SettlesAt : ℕ → Bool → Causes → Slot R → Window → Option Bool → Causes → Slot R → Window → (before after : ℕ) → Type 0
  SettlesAt k free causes old w past causes' new v n m = (s : State) → causes ≡ s.causes → IsSweptTo k free old w s → (t : State) × IsSettledAt k s causes' new v past t × TakesGrowth M n m s t

  -- What is kept is that of a connection that stands so, settled or not.
  pub record Carries (f : Flight R) (s : State) : Type 0 where
    pub first_is : first_of f ≡ s.passed
    pub causes_is : f.causes ≡ s.causes
    pub window : IsWindow s (window_of f.sends)
    pub there : s.passed + length f.slots.items ≡ length s.requests
    pub slots : (i : ℕ) (slot : Slot R) → slice_get f.slots.items i ≡ Some slot → Keeps M runs s (s.passed + i) slot
    pub passed : (k : ℕ) → k < s.passed → IsPassed M s k
    pub later : (k : ℕ) → length s.requests ≤ k → IsUntouched s k
    pub cut_behind : IsCutBehind s.causes.cut s.passed

  pub record IsSettled (f : Flight R) (s t : State) : Type 0 where
    pub settles : Settles M s t
    pub carries : Carries f t
    pub counts : SameCounts s t
    pub free : TellsFree M f t

  abbrev pub FlightSettles : Flight R → Flight R → (before after : ℕ) → Type 0
  FlightSettles old new n m = (s : State) → length s.requests < 2 ^ 64 → Carries old s → (t : State) × IsSettled new s t × TakesGrowth M n m s t

  -- the same, where the requests before this place have nothing to do
  abbrev pub FlightSettlesFrom : ℕ → Bool → Flight R → Flight R → (before after : ℕ) → Type 0
  FlightSettlesFrom from free old new n m = (s : State) → length s.requests < 2 ^ 64 → Carries old s → AreQuiet M from free s → (t : State) × IsSettled new s t × TakesGrowth M n m s t

  -- the same, with the sweep at the slot at this place
  pub record IsSweptUpTo (place : ℕ) (free : Bool) (f : Flight R) (s t : State) : Type 0 where
    pub settles : SettlesOn M s t
    pub carries : Carries f t
    pub counts : SameCounts s t
    pub quiet : IsQuietBefore M t (t.passed + place)
    pub free_is : free ≡ free_before M t (t.passed + place)

  abbrev pub SettlesUpTo : (from : ℕ) → (first : Bool) → (place : ℕ) → (free : Bool) → Flight R → Flight R → (before after : ℕ) → Type 0
  SettlesUpTo from first place free old new n m = (s : State) → length s.requests < 2 ^ 64 → Carries old s → AreQuiet M from first s → (t : State) × IsSweptUpTo place free new s t × TakesGrowth M n m s t

  -- the slot at this place was given this
  pub record GivesAt (place : ℕ) (x : Outside) (old new : Flight R) : Type 0 where
    pub rest : OnlySlots old new
    pub slot : Slot R
    pub there : slice_get old.slots.items place ≡ Some slot
    pub run : R
    pub waits : waiting_run slot.stage ≡ Some run
    pub after : Slot R
    pub goes : GoesOn M runs run x slot after
    pub slots : new.slots.items ≡ slice_set old.slots.items place after

  -- and these are its run's steps
  abbrev pub CountsAt : (place : ℕ) → Outside → Flight R → (before after : ℕ) → Type 0
  CountsAt place x old n m = (slot : Slot R) (run : R) → slice_get old.slots.items place ≡ Some slot → waiting_run slot.stage ≡ Some run → CountsOn M runs run x n m
