-- What is kept of a request in flight.
use Rattle.std.specs.Prelude.{◌≡◌, ℕ, suc, ◌+◌, ◌≤◌, ◌==◌, ◌&&◌, ◌||◌, not, Bool, true, false, List, [], ◌∷◌, ◌++◌, length, Option, Some, None, if◌then◌else◌, slice_get, drop, count_by}
use Rattle.std.specs.List.{list_any}
use Rattle.conn_rules.specs.Causes.{below}
use Rattle.conn_rules.specs.Meaning.{Meaning, ToBroker, Hold, Waits, Done, Fails}
use Rattle.conn_rules.specs.Settling.{is_listed}
use Rattle.conn_rules.specs.State.{Outside, Request, ListedSend, State, responding}
use Rattle.serving.specs.declared.progress.Progress.{Progress}
use Rattle.serving.specs.declared.progress.Progress.TheVariants as progress
use Rattle.serving.specs.declared.slot.Slot.{Slot}
use Rattle.serving.specs.declared.slot.Stage.{Stage}
use Rattle.serving.specs.declared.slot.Stage.TheVariants as stage
use Rattle.serving.specs.Causes.{why_of}
use Rattle.serving.specs.Services.{awaits_answer_to, IsDone, IsProgress}

abbrev pub stage_of : {R : Type 0} → Progress R → Stage R
stage_of (progress.Sends message run) = stage.Unlisted message run
stage_of (progress.Holds key run) = stage.Held key run
stage_of (progress.Done response) = stage.Ready response
stage_of (progress.Failed cause) = stage.Failed cause

abbrev pub fresh_slot : {R : Type 0} → ℕ → Bool → Progress R → Slot R
fresh_slot size silent p = record { size = size; silent = silent; given = 0; main_listed = false; stage = stage_of p }

-- whether it is done
abbrev pub is_ready : {R : Type 0} → Stage R → Bool
is_ready (stage.Ready response) = true
is_ready _ = false

-- whether its send waits for a response of the broker
abbrev pub awaits_response : {R : Type 0} → Stage R → Bool
awaits_response (stage.Listed run) = true
awaits_response _ = false

-- whether its hold was picked
abbrev pub awaits_verdict : {R : Type 0} → Stage R → Bool
awaits_verdict (stage.Picked run) = true
awaits_verdict _ = false

-- whether it waits for a hold, picked or not
abbrev pub has_hold : {R : Type 0} → Stage R → Bool
has_hold (stage.Held key run) = true
has_hold (stage.Picked run) = true
has_hold _ = false

abbrev pub is_unpicked : {R : Type 0} → Stage R → Bool
is_unpicked (stage.Held key run) = true
is_unpicked _ = false

-- the run of one that waits for something from outside
abbrev pub waiting_run : {R : Type 0} → Stage R → Option R
waiting_run (stage.Listed run) = Some run
waiting_run (stage.Held key run) = Some run
waiting_run (stage.Picked run) = Some run
waiting_run _ = None

abbrev pub holds_none_back : {R : Type 0} → Slot R → Bool
holds_none_back slot = is_ready slot.stage || slot.main_listed

-- whether its message may be listed, where no earlier request holds it back or one may
abbrev pub lists_at : {R : Type 0} → Bool → Stage R → Bool
lists_at free (stage.Unlisted message run) = free || not message.main
lists_at free _ = false

abbrev pub may_list : {R : Type 0} → Bool → Slot R → Bool
may_list free slot = lists_at free slot.stage

-- how often it may still list a message by itself
abbrev pub stage_remaining : {R : Type 0} → (R → ℕ) → Stage R → ℕ
stage_remaining remaining (stage.Unlisted message run) = suc (remaining run)
stage_remaining remaining _ = 0

abbrev pub slot_remaining : {R : Type 0} → (R → ℕ) → Slot R → ℕ
slot_remaining remaining slot = stage_remaining remaining slot.stage

-- A request that was just given something rests: nothing is left to do for it, and it holds back later main sends as it
-- did while it waited.
abbrev pub stage_rests : {R : Type 0} → Bool → Stage R → Bool
stage_rests main (stage.Listed run) = true
stage_rests main (stage.Held key run) = true
stage_rests main (stage.Picked run) = true
stage_rests main (stage.Ready response) = main
stage_rests main _ = false

abbrev pub rests : {R : Type 0} → Slot R → Bool
rests slot = stage_rests slot.main_listed slot.stage

abbrev pub rests_in : {R : Type 0} → Option (Slot R) → Bool
rests_in None = false
rests_in (Some slot) = rests slot

-- its hold is handed out, if it has one that wasn't
abbrev pub PicksHold : {R : Type 0} → Slot R → Option (List ℕ) → Slot R → Type 0
PicksHold old None new = (new ≡ old) × (is_unpicked old.stage ≡ false)
PicksHold {R} old (Some key) new = (run : R) × (old.stage ≡ stage.Held key run) × (new ≡ record old { stage = stage.Picked run })

-- the main send of request k is listed
abbrev pub has_main : List ListedSend → ℕ → Bool
has_main sends k = list_any (λ d. (d.request == k) && d.main) sends

-- the hold of request k with this ask number was handed out
abbrev pub is_picked : List (ℕ × ℕ) → ℕ → ℕ → Bool
is_picked picked k i = list_any (λ p. (p.0 == k) && (p.1 == i)) picked

-- how many sends of request k get a response and have none yet
abbrev pub pending : State → ℕ → ℕ
pending s k = count_by (λ due. due.1.request == k) (drop s.answered (responding 0 s.sends))

abbrev pub one_if : Bool → ℕ
one_if b = if b then 1 else 0

module _ {R : Type 0} (M : Meaning) (runs : R → List ℕ → List Outside → Type 0) where
  -- a request with this frame that was given so much has come so far
  abbrev pub IsStage : List ℕ → List Outside → Stage R → Type 0
  IsStage frame given (stage.Unlisted message run) = (M.status frame given ≡ awaits_answer_to message) × runs run frame given
  IsStage frame given (stage.Listed run) = (before : List ℕ) × (behind : List ℕ) × (main : Bool) × (M.status frame given ≡ Waits (ToBroker before behind main true)) × runs run frame given
  IsStage frame given (stage.Held key run) = (M.status frame given ≡ Waits (Hold key)) × runs run frame given
  IsStage frame given (stage.Picked run) = (key : List ℕ) × (M.status frame given ≡ Waits (Hold key)) × runs run frame given
  IsStage frame given (stage.Ready response) = IsDone (M.silent frame) (M.status frame given) response
  IsStage frame given (stage.Failed cause) = M.status frame given ≡ Fails (why_of cause)
  IsStage frame given stage.AtWork = ⊥

  -- its run went on with this
  abbrev pub GoesOn : R → Outside → Slot R → Slot R → Type 0
  GoesOn run x old new = (p : Progress R) × (new ≡ record old { given = old.given + 1; stage = stage_of p }) × ((frame : List ℕ) (before : List Outside) → runs run frame before → IsProgress M runs frame (before ++ x ∷ []) p)

  -- what is kept of request k, which is in flight
  pub record Keeps (s : State) (k : ℕ) (slot : Slot R) : Type 0 where
    pub request : Request
    pub there : slice_get s.requests k ≡ Some request
    pub size : slot.size ≡ length request.frame
    pub silent : slot.silent ≡ M.silent request.frame
    pub given : slot.given ≡ length request.given
    pub main : slot.main_listed ≡ has_main s.sends k
    pub stage : IsStage request.frame request.given slot.stage
    -- of its asks from this one on, none is listed or picked but this one
    pub listed : (i : ℕ) → slot.given ≤ i → is_listed s.sends k i ≡ (awaits_response slot.stage && (i == slot.given))
    pub picked : (i : ℕ) → slot.given ≤ i → is_picked s.picked k i ≡ (awaits_verdict slot.stage && (i == slot.given))
    pub pending : below s.causes.cut k ≡ true → pending s k ≡ one_if (awaits_response slot.stage)

-- request k was passed by an emit step
pub record IsPassed (M : Meaning) (s : State) (k : ℕ) : Type 0 where
  pub request : Request
  pub there : slice_get s.requests k ≡ Some request
  pub response : List ℕ
  pub done : M.status request.frame request.given ≡ Done response
  pub pending : below s.causes.cut k ≡ true → pending s k ≡ 0

-- nothing is listed or picked for request k
pub record IsUntouched (s : State) (k : ℕ) : Type 0 where
  pub main : has_main s.sends k ≡ false
  pub listed : (i : ℕ) → is_listed s.sends k i ≡ false
  pub picked : (i : ℕ) → is_picked s.picked k i ≡ false
  pub pending : below s.causes.cut k ≡ true → pending s k ≡ 0
