-- What happened at a connection, and what came of it.
use Rattle.std.specs.Prelude.{◌≤◌, ◌<◌, Bool, true, false, if◌then◌else◌, length, map, IsTrue, Ok, Err, ◌≡◌, ℕ, List, [], ◌∷◌, take, flat_map, ◌++◌, All, MatchBool, Option, None, Some}
use Rattle.kp_edge.specs.declared.end.End.{End}
use Rattle.conn_rules.specs.declared.event.Event.{Event}
use Rattle.conn_rules.specs.declared.event.Event.TheVariants as event
use Rattle.conn_rules.specs.declared.event.Reply.{Reply}
use Rattle.conn_rules.specs.declared.event.Reply.TheVariants as reply
use Rattle.conn_rules.specs.declared.event.TakeFault.{TakeFault}
use Rattle.conn_rules.specs.declared.event.TakeFault.TheVariants as take_fault
use Rattle.conn_rules.specs.declared.event.Emit.{Emit}
use Rattle.conn_rules.specs.declared.event.Emit.TheVariants as emit
use Rattle.conn_rules.specs.Meaning.{Meaning, Status, Waits, Done, Fails, CarriesId}
use Rattle.conn_rules.specs.State.{Request, State, opening}
use Rattle.conn_rules.specs.Causes.{are_ending}
use Rattle.conn_rules.specs.Steps.{StepOrNoMemory}

-- one event with who brought it and what was answered
pub record Entry : Type 0 where
  pub actor : ℕ
  pub event : Event
  pub reply : Reply

-- the entries, in order, lead from s to t, as the machine may go
abbrev pub LeadsTo : Meaning → State → List Entry → State → Type 0
LeadsTo M s [] t = t ≡ s
LeadsTo M s (h ∷ hs) t = (between : State) × StepOrNoMemory M s h.event h.reply between × LeadsTo M between hs t

-- a history: entries from the opening of a connection on
abbrev pub IsHistory : Meaning → List Entry → State → Type 0
IsHistory M hs t = LeadsTo M opening hs t

-- the bytes that a reply gives to the client's writer, and to the broker's
abbrev pub emitted_by : Emit → List ℕ
emitted_by (emit.Bytes bytes) = bytes
emitted_by emit.Later = []
emitted_by (emit.Over why) = []

abbrev pub to_client : Reply → List ℕ
to_client (reply.Emit e) = emitted_by e
to_client _ = []

abbrev pub send_bytes : Option (List ℕ) → List ℕ
send_bytes None = []
send_bytes (Some frame) = frame

abbrev pub to_broker : Reply → List ℕ
to_broker (reply.Send frame) = send_bytes frame
to_broker _ = []

-- all that the client is sent, and all that the broker is
abbrev pub out : List Entry → List ℕ
out hs = flat_map (λ h. to_client h.reply) hs

abbrev pub sent : List Entry → List ℕ
sent hs = flat_map (λ h. to_broker h.reply) hs

-- the response of a request: no bytes while it has none
abbrev pub response_bytes : Status → List ℕ
response_bytes (Done response) = response
response_bytes (Waits ask) = []
response_bytes (Fails why) = []

-- the responses to the requests that emit steps passed, one after another
abbrev pub responses : Meaning → State → List ℕ
responses M s = flat_map (λ r. response_bytes (M.status r.frame r.given)) (take s.passed s.requests)

-- The request is done. Its response carries its own correlation id, or is no bytes where the request is silent.
pub record IsAnswered (M : Meaning) (r : Request) : Type 0 where
  pub response : List ℕ
  pub done : M.status r.frame r.given ≡ Done response
  pub own_id : MatchBool (M.silent r.frame) (response ≡ []) (CarriesId r.frame response)

-- What the law of order says of a history that led to this state: the client was sent the responses of the passed
-- requests, one after another. These are the first of its requests, and each of them is answered.
pub record IsInOrder (M : Meaning) (hs : List Entry) (s : State) : Type 0 where
  pub sent_is : out hs ≡ responses M s
  pub passed_there : s.passed ≤ length s.requests
  pub answered : All (IsAnswered M) (take s.passed s.requests)

-- the client's frame, where this is a Take that was answered Ok
abbrev pub is_taken : Reply → Bool
is_taken (reply.Take (Ok _)) = true
is_taken _ = false

abbrev pub frame_taken : Event → Reply → List (List ℕ)
frame_taken (event.Take frame) r = if is_taken r then frame ∷ [] else []
frame_taken _ r = []

-- all frames that were taken from the client
abbrev pub frames_taken : List Entry → List (List ℕ)
frames_taken hs = flat_map (λ h. frame_taken h.event h.reply) hs

-- The client's frame stays outside, as there is no room for it. It may be handed on again.
abbrev pub is_full : TakeFault → Bool
is_full (take_fault.Ending frame) = false
is_full (take_fault.Full count held frame) = true
is_full take_fault.NoMemory = false

abbrev pub found_no_room : Reply → Bool
found_no_room (reply.Take (Err e)) = is_full e
found_no_room _ = false

-- the frame of the client's that this entry handed on for good, and that of the broker's
abbrev pub client_frame : Event → Reply → List (List ℕ)
client_frame (event.Take frame) r = if found_no_room r then [] else frame ∷ []
client_frame _ r = []

abbrev pub broker_frame : Event → List (List ℕ)
broker_frame (event.Answer frame) = frame ∷ []
broker_frame _ = []

-- all frames of the client's that were handed on for good, whether the connection took them or not, and all of the
-- broker's
abbrev pub client_frames : List Entry → List (List ℕ)
client_frames hs = flat_map (λ h. client_frame h.event h.reply) hs

abbrev pub broker_frames : List Entry → List (List ℕ)
broker_frames hs = flat_map (λ h. broker_frame h.event) hs

-- The first of the client's frames were taken, and none behind the first that was not.
abbrev pub AreFirst : (taken frames : List (List ℕ)) → Type 0
AreFirst taken frames = (others : List (List ℕ)) × (frames ≡ taken ++ others)

-- The requests are the frames that were taken, in order. The last of those may be none: it ended the connection.
pub record AreRequests (s : State) (taken : List (List ℕ)) : Type 0 where
  pub other : List (List ℕ)
  pub frames : taken ≡ map (λ r. r.frame) s.requests ++ other
  pub at_most_one : length other ≤ 1
  pub ends : 0 < length other → IsTrue (are_ending s.causes)

-- an emit step that was told this end, and one that was told nothing else
abbrev pub IsTold : End → Entry → Type 0
IsTold why h = (h.event ≡ event.Emit) × (h.reply ≡ reply.Emit (emit.Over why))

abbrev pub IsToldIfEmit : End → Entry → Type 0
IsToldIfEmit why h = h.event ≡ event.Emit → h.reply ≡ reply.Emit (emit.Over why)
