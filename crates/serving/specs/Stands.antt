-- When a connection stands for a state of the machine, and how its events change what it keeps.
use Rattle.std.specs.Prelude.{◌≡◌, ℕ, ◌+◌, ◌-◌, ◌≤◌, ◌<◌, ◌^◌, ◌++◌, ◌∷◌, [], List, length, drop, Bool, true, false, Option, Some, None, if◌then◌else◌, is_some, slice_get, MatchBool}
use Rattle.kp_edge.specs.declared.end.End.{End}
use Rattle.kp_edge.specs.declared.end.End.TheVariants as end
use Rattle.conn_rules.specs.declared.event.Fault.{Fault}
use Rattle.conn_rules.specs.declared.event.Fault.TheVariants as fault
use Rattle.conn_rules.specs.Causes.{below, with_cut, with_death, with_halt, with_told}
use Rattle.conn_rules.specs.Meaning.{Meaning}
use Rattle.conn_rules.specs.Room.{limited}
use Rattle.conn_rules.specs.Settling.{next_act}
use Rattle.conn_rules.specs.State.{Outside, Body, State, in_flight, held}
use Rattle.conn_rules.specs.Steps.{silent_passed}
use Rattle.correlation.specs.declared.owner.AnswerRefusal.{AnswerRefusal}
use Rattle.correlation.specs.declared.owner.AnswerRefusal.TheVariants as refusal
use Rattle.correlation.specs.declared.owner.Owner.{Owner}
use Rattle.serving.specs.declared.cause.Cause.{Cause}
use Rattle.serving.specs.declared.flight.Flight.{Flight}
use Rattle.serving.specs.declared.progress.Progress.{Progress}
use Rattle.serving.specs.Causes.{why_of}
use Rattle.serving.specs.Flights.{first_of, hold_at, OnlySlots}
use Rattle.serving.specs.Services.{IsProgress, cause_function}
use Rattle.serving.specs.Slots.{fresh_slot, rests_in}
use Rattle.serving.specs.Listing.{SameOutside, Carries, TellsFree, FlightSettles, FlightSettlesFrom, GivesAt, CountsAt}

-- with other causes
abbrev pub cut_flight : {R : Type 0} → ℕ → End → Flight R → Flight R
cut_flight k why f = record f { causes = with_cut k why f.causes }

abbrev pub dead_flight : {R : Type 0} → End → Flight R → Flight R
dead_flight why f = record f { causes = with_death why f.causes }

abbrev pub halted_flight : {R : Type 0} → End → Flight R → Flight R
halted_flight why f = record f { causes = with_halt why f.causes }

abbrev pub told_flight : {R : Type 0} → End → Flight R → Flight R
told_flight why f = record f { causes = with_told why f.causes }

-- the broker's frame belongs to no send
abbrev pub refusal_end : AnswerRefusal → End
refusal_end (refusal.Unasked found) = end.Unasked found
refusal_end (refusal.Mismatch expected found) = end.Mismatch expected found

-- something outside failed
abbrev pub flight_faulted : {R : Type 0} → Fault → Flight R → Flight R
flight_faulted fault.ClientRead f = cut_flight f.requests end.ClientReadFault f
flight_faulted fault.ClientWrite f = halted_flight end.ClientWriteFault f
flight_faulted fault.BrokerRead f = dead_flight end.BrokerReadFault f
flight_faulted fault.BrokerWrite f = dead_flight end.BrokerWriteFault f
flight_faulted (fault.ClientBadSize at size) f = cut_flight f.requests (end.BadSize at size) f
flight_faulted (fault.BrokerBadSize at size) f = dead_flight (end.BrokerBadSize at size) f
flight_faulted (fault.Authority k) f = if is_some (hold_at f k) then cut_flight k (end.AuthorityFault k) f else f
flight_faulted fault.Thread f = halted_flight end.ThreadRefused f
flight_faulted fault.NoMemory f = halted_flight end.NoMemory f

module _ {R : Type 0} (M : Meaning) (runs : R → List ℕ → List Outside → Type 0) where
  -- A connection stands for a settled state. Once it has halted, its counts and its ends alone are that state's.
  pub record Stands (f : Flight R) (s : State) : Type 0 where
    pub halt_is : f.causes.halt ≡ s.causes.halt
    pub over_is : f.causes.over ≡ s.causes.over
    pub count_is : f.count ≡ in_flight s
    pub held_is : f.held ≡ held s
    pub rest : next_act M s ≡ None
    pub whole : s.causes.halt ≡ None → (f.requests ≡ length s.requests) × Carries M runs f s
    pub free : s.causes.halt ≡ None → TellsFree M f s

  -- silent requests at the front were passed over, as far as they are done
  abbrev pub PassesAll : Flight R → Flight R → Type 0
  PassesAll old new = (new.limit ≡ old.limit) × ((s : State) → s.causes.halt ≡ None → Stands old s → Stands new (silent_passed M s))

  -- some of these silent requests were passed over: the others are still to be
  pub record HavePassed (new : Flight R) (s t : State) : Type 0 where
    pub same : silent_passed M t ≡ silent_passed M s
    pub stands : Stands new t
    pub no_halt : t.causes.halt ≡ None

  abbrev pub PassesSome : Flight R → Flight R → Type 0
  PassesSome old new = (new.limit ≡ old.limit) × ((s : State) → s.causes.halt ≡ None → Stands old s → (t : State) × HavePassed new s t)

module _ {R : Type 0} (M : Meaning) (runs : R → List ℕ → List Outside → Type 0) where
  -- the flight with one request more, before it settles
  pub record Joins (frame : List ℕ) (old mid : Flight R) : Type 0 where
    pub silent : Bool
    pub progress : Progress R
    pub no_cause : M.no_request frame ≡ None
    pub silent_is : M.silent frame ≡ silent
    pub right : IsProgress M runs frame [] progress
    pub rest : OnlySlots old mid
    pub slots : mid.slots.items ≡ old.slots.items ++ fresh_slot (length frame) silent progress ∷ []

  -- The frame is counted. Its request's own work is counted first, the steps of settling behind it.
  pub record Counts (frame : List ℕ) (old mid new : Flight R) (before after : ℕ) : Type 0 where
    pub small : old.requests + 1 < 2 ^ 64
    pub settled : Flight R
    pub settles : (limit : ℕ) → FlightSettlesFrom (limited limit M) runs (length old.slots.items) old.free mid settled (before + M.work frame []) after
    pub outside : SameOutside mid settled
    pub new_is : new ≡ record settled { requests = old.requests + 1; count = old.count + 1; held = old.held + length frame }

  -- A frame comes from the client: it is no request, which cuts in its place, or it joins the others.
  abbrev pub FlightTakesBy : Option Cause → List ℕ → Flight R → Flight R → (before after : ℕ) → Type 0
  FlightTakesBy (Some cause) frame old new n m = (M.no_request frame ≡ Some (why_of cause)) × (new ≡ cut_flight old.requests (why_of cause old.requests) old) × (m ≡ n)
  FlightTakesBy None frame old new n m = (mid : Flight R) × Joins frame old mid × Counts frame old mid new n m

  abbrev pub FlightTakes : List ℕ → Flight R → Flight R → (before after : ℕ) → Type 0
  FlightTakes frame old new n m = (cause : Option Cause) × FlightTakesBy cause frame old new n m

  -- request k is given something, and all settle
  pub record FlightGives (k : ℕ) (x : Outside) (old new : Flight R) (before after : ℕ) : Type 0 where
    pub small : old.requests < 2 ^ 64
    pub mid : Flight R
    pub in_flight : first_of old ≤ k
    pub gives : GivesAt M runs (k - first_of old) x old mid
    -- how many steps there were when it was given
    pub between : ℕ
    pub counts : CountsAt M runs (k - first_of old) x old before between
    pub settles : MatchBool (rests_in (slice_get mid.slots.items (k - first_of old))) ((new ≡ mid) × (after ≡ between)) ((limit : ℕ) → FlightSettles (limited limit M) runs mid new between after)

  -- the owner of a response gets its body, if that can be read
  abbrev pub GivesBodyBy : Option Cause → Owner → List ℕ → Flight R → Flight R → (before after : ℕ) → Type 0
  GivesBodyBy (Some cause) owner body old new n m = (new ≡ cut_flight owner.request (why_of cause owner.request) old) × (m ≡ n)
  GivesBodyBy None owner body old new n m = FlightGives owner.request (Body body) old new n m

  -- where it stands below the cut
  abbrev pub FlightGivesBodyBy : Bool → Owner → List ℕ → Flight R → Flight R → (before after : ℕ) → Type 0
  FlightGivesBodyBy false owner frame old new n m = (new ≡ old) × (m ≡ n)
  FlightGivesBodyBy true owner frame old new n m = (cause : Option Cause) × (cause_function cause ≡ M.unreadable owner.before (drop 4 frame)) × GivesBodyBy cause owner (drop 4 frame) old new n m

  abbrev pub FlightGivesBody : Owner → List ℕ → Flight R → Flight R → (before after : ℕ) → Type 0
  FlightGivesBody owner frame old new n m = FlightGivesBodyBy (below old.causes.cut owner.request) owner frame old new n m
