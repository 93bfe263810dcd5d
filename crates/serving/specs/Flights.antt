-- What a connection keeps, and how the calls that need no service change it.
use Rattle.std.specs.Prelude.{◌≡◌, ℕ, ◌+◌, ◌-◌, ◌<◌, ◌^◌, ◌==◌, ◌&&◌, not, nat_lt, Bool, true, false, [], drop, Option, Some, None, if◌then◌else◌, slice_get, slice_set}
use Rattle.conn_rules.specs.Causes.{no_causes, below}
use Rattle.conn_rules.specs.declared.event.Ticket.{Ticket}
use Rattle.correlation.specs.WindowOf.{window_of}
use Rattle.correlation.specs.Windows.{fresh_window}
use Rattle.serving.specs.declared.frame.WholeFrame.{WholeFrame}
use Rattle.serving.specs.declared.flight.Flight.{Flight}
use Rattle.serving.specs.declared.slot.Slot.{Slot}
use Rattle.serving.specs.declared.slot.Stage.TheVariants as stage
use Rattle.serving.specs.Slots.{is_ready, has_hold, is_unpicked}

abbrev pub is_number : ℕ → Option ℕ → Bool
is_number i None = false
is_number i (Some n) = n == i

module _ {R : Type 0} where
  -- nothing came yet
  pub record IsFresh (limit : ℕ) (f : Flight R) : Type 0 where
    pub limit_is : f.limit ≡ limit
    pub count : f.count ≡ 0
    pub held : f.held ≡ 0
    pub requests : f.requests ≡ 0
    pub causes : f.causes ≡ no_causes
    pub slots : f.slots.items ≡ []
    pub free : f.free ≡ true
    pub sends : window_of f.sends ≡ fresh_window

  -- the number of the oldest request in flight
  abbrev pub first_of : Flight R → ℕ
  first_of f = f.requests - f.count

  abbrev pub slot_hold : Option (Slot R) → Option ℕ
  slot_hold None = None
  slot_hold (Some slot) = if has_hold slot.stage then Some slot.given else None

  -- the ask number of the hold that request k waits for, below the cut
  abbrev pub hold_at : Flight R → ℕ → Option ℕ
  hold_at f k = if below f.causes.cut k && not (nat_lt k (first_of f)) then slot_hold (slice_get f.slots.items (k - first_of f)) else None

  -- all but the slots stays
  pub record OnlySlots (old new : Flight R) : Type 0 where
    pub limit_is : new.limit ≡ old.limit
    pub count : new.count ≡ old.count
    pub held : new.held ≡ old.held
    pub requests : new.requests ≡ old.requests
    pub causes : new.causes ≡ old.causes
    pub free : new.free ≡ old.free
    pub sends : new.sends ≡ old.sends

  abbrev pub SameFlight : Flight R → Flight R → Type 0
  SameFlight old new = OnlySlots old new × (new.slots.items ≡ old.slots.items)

  -- the hold of the slot at this place was picked
  pub record PicksSlot (place : ℕ) (old new : Flight R) (ticket : Ticket) : Type 0 where
    pub rest : OnlySlots old new
    pub slot : Slot R
    pub there : slice_get old.slots.items place ≡ Some slot
    pub run : R
    pub held : slot.stage ≡ stage.Held ticket.key run
    pub index : ticket.index ≡ slot.given
    pub slots : new.slots.items ≡ slice_set old.slots.items place (record slot { stage = stage.Picked run })

  -- the slot at this place, if it is there, has no hold that wasn't picked
  abbrev pub HasNoHold : Flight R → ℕ → Type 0
  HasNoHold f place = (slot : Slot R) → slice_get f.slots.items place ≡ Some slot → is_unpicked slot.stage ≡ false

  abbrev pub PicksAt : ℕ → ℕ → Flight R → Option Ticket → Flight R → Type 0
  PicksAt place request old None new = SameFlight old new × HasNoHold old place
  PicksAt place request old (Some ticket) new = (ticket.request ≡ request) × PicksSlot place old new ticket

  abbrev pub PicksFirst : Flight R → Option Ticket → Flight R → Type 0
  PicksFirst old None new = SameFlight old new × ((place : ℕ) → first_of old + place < 2 ^ 64 → below old.causes.cut (first_of old + place) ≡ true → HasNoHold old place)
  PicksFirst old (Some ticket) new = (place : ℕ) × (first_of old + place < 2 ^ 64 → (ticket.request ≡ first_of old + place) × (below old.causes.cut (first_of old + place) ≡ true) × ((before : ℕ) → before < place → below old.causes.cut (first_of old + before) ≡ true → HasNoHold old before)) × PicksSlot place old new ticket

  -- the oldest request was passed
  pub record PassesSlot (old : Flight R) (slot : Slot R) (new : Flight R) : Type 0 where
    pub there : slice_get old.slots.items 0 ≡ Some slot
    pub slots : new.slots.items ≡ drop 1 old.slots.items
    pub limit_is : new.limit ≡ old.limit
    pub count : new.count ≡ old.count - 1
    pub held : new.held ≡ old.held - slot.size
    pub requests : new.requests ≡ old.requests
    pub causes : new.causes ≡ old.causes
    pub free : new.free ≡ old.free
    pub sends : new.sends ≡ old.sends

  abbrev pub PassesFront : Flight R → Option (Slot R) → Flight R → Type 0
  PassesFront old None new = SameFlight old new × (slice_get old.slots.items 0 ≡ None)
  PassesFront old (Some slot) new = PassesSlot old slot new

  abbrev pub is_passable : Flight R → Slot R → Bool
  is_passable f slot = below f.causes.cut (first_of f) && slot.silent && is_ready slot.stage

  -- the oldest request isn't passed over
  abbrev pub IsStuck : Flight R → Type 0
  IsStuck f = (slot : Slot R) → slice_get f.slots.items 0 ≡ Some slot → is_passable f slot ≡ false

  abbrev pub PassesSilent : Flight R → Bool → Flight R → Type 0
  PassesSilent old false new = SameFlight old new × ((slot : Slot R) → slice_get old.slots.items 0 ≡ Some slot → is_passable old slot ≡ false)
  PassesSilent old true new = (slot : Slot R) × (is_passable old slot ≡ true) × PassesSlot old slot new

  abbrev pub PassesReady : Flight R → Option WholeFrame → Flight R → Type 0
  PassesReady old None new = SameFlight old new × ((slot : Slot R) (response : WholeFrame) → slice_get old.slots.items 0 ≡ Some slot → slot.stage ≡ stage.Ready (Some response) → ⊥)
  PassesReady old (Some response) new = (slot : Slot R) × (slot.stage ≡ stage.Ready (Some response)) × PassesSlot old slot new
