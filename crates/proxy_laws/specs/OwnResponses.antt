-- What a client gets for its request, under a chain of lawful filters.
use Rattle.std.specs.Prelude.{◌≡◌, ◌≢◌, ◌<◌, Bool, true, false, not, ℕ, suc, List, [], ◌∷◌, ◌++◌, ◌≤◌, length, map, take, MatchBool, IsTrue, All, Some, slice_get}
use Rattle.kp_schema.specs.Messages.{is_supported}
use Rattle.tree_spelling.specs.Body.{Contents}
use Rattle.tree_spelling.specs.Spelling.{spelling}
use Rattle.framing.specs.Frames.{sized}
use Rattle.framing.specs.CorrelationIds.{request_id}
use Rattle.wire_types.specs.Numbers.{int16}
use Rattle.filter_core.specs.Acks.{has_acks_zero}
use Rattle.filter_core.specs.Decision.{Turn}
use Rattle.filter_core.specs.Inputs.{IsWholeRequest, IsResponseTo}
use Rattle.side_requests.specs.declared.ask.Ask.TheVariants as ask
use Rattle.filter_chain.specs.Outcomes.{NeverEnds}
use Rattle.conn_rules.specs.Meaning.{Meaning, Done}
use Rattle.conn_rules.specs.State.{Outside, Request, ListedSend, State, upstream_frame}
use Rattle.conn_rules.specs.History.{Entry, response_bytes, responses, out, sent, frames_taken, AreFirst}
use Rattle.framing.specs.Heads.{client_id_spelled}
use Rattle.conn_core.specs.Requests.{request_of, is_silent, is_told_versions, versions_told}
use Rattle.conn_core.specs.Chained.{chained, chain_outcome}
use Rattle.proxy_laws.specs.Awaited.{IsGivenAsAwaited, IsAwaitedSend}
use Rattle.proxy_laws.specs.LawfulChains.{IsNeedOf}

-- the frame of a response: the client's own correlation id, and a body of the request's API and version, whole
abbrev pub IsResponseFrame : (frame response : List ℕ) → Type 0
IsResponseFrame frame response = (body : Contents) × IsResponseTo (request_of frame) body × (response ≡ sized (request_id frame ++ spelling body.items))

-- What a client gets for the request in this frame: which versions of ApiVersions are known, if it asked in another one; no
-- bytes for a Produce with acks 0; and for any other the frame of a response.
abbrev pub IsOwnResponse : (frame response : List ℕ) → Type 0
IsOwnResponse frame response =
    MatchBool (is_told_versions frame) (response ≡ versions_told frame) (MatchBool (is_silent frame) (response ≡ []) (IsResponseFrame frame response))

-- each request that is done, in a connection under this chain, has its own response
abbrev pub DoneWithOwnResponse : List Turn → ℕ → Type 0
DoneWithOwnResponse chain limit =
    (r : Request) (response : List ℕ) → IsGivenAsAwaited (chained chain limit) r
    → (chained chain limit).status r.frame r.given ≡ Done response → IsOwnResponse r.frame response

-- What a request sends to the broker: a whole message of a supported API and version, which is the request itself, with other fields
-- at most, or is asked aside.
pub record IsMessageFor (chain : List Turn) (frame : List ℕ) (message : Contents) (main : Bool) : Type 0 where
  pub whole : IsWholeRequest message
  pub supported : IsTrue (is_supported message.key message.version)
  pub need : IsNeedOf chain (request_of frame) (ask.Broker message main)

-- the send is such a message, under its own API and version, and with the client's own id before its body
pub record IsMessageSend (chain : List Turn) (frame : List ℕ) (d : ListedSend) : Type 0 where
  pub message : Contents
  pub is_for : IsMessageFor chain frame message d.main
  pub before_is : d.before ≡ int16 message.key ++ int16 message.version
  pub behind_is : d.behind ≡ client_id_spelled frame ++ spelling message.items
  pub responds_is : d.responds ≡ not (has_acks_zero message)

abbrev pub SendsWholeMessages : List Turn → ℕ → Type 0
SendsWholeMessages chain limit = (frame : List ℕ) (given : List Outside) (d : ListedSend) → IsAwaitedSend (chained chain limit) frame given d → IsMessageSend chain frame d

-- no request waits for a filter without an end
abbrev pub AllComeToAnEnd : List Turn → ℕ → Type 0
AllComeToAnEnd chain limit =
    (r : Request) (filter : ℕ) → IsGivenAsAwaited (chained chain limit) r → is_told_versions r.frame ≡ false → chain_outcome chain r.frame r.given ≢ NeverEnds filter

-- Main sends are in the client's order: each is of a later request than those before it. So a request has one at most.
abbrev pub AreMainSendsInOrder : State → Type 0
AreMainSendsInOrder s =
    (n m : ℕ) (d f : ListedSend) → n < m → slice_get s.sends n ≡ Some d → slice_get s.sends m ≡ Some f → d.main ≡ true → f.main ≡ true → d.request < f.request

-- the frames of these sends as they go to the broker, the first of them with number j
abbrev pub upstream_bytes : ℕ → List ListedSend → List ℕ
upstream_bytes j [] = []
upstream_bytes j (d ∷ ds) = upstream_frame j d ++ upstream_bytes (suc j) ds

-- What the broker was sent: the first of the sends, one after another under their upstream ids. The main ones are in the client's order.
-- Each send is a message for its request.
pub record AreMessageSends (chain : List Turn) (hs : List Entry) (s : State) : Type 0 where
  pub sent_is : sent hs ≡ upstream_bytes 0 (take s.taken s.sends)
  pub in_order : AreMainSendsInOrder s
  pub own : All (λ d. (r : Request) × (slice_get s.requests d.request ≡ Some r) × IsMessageSend chain r.frame d) s.sends

-- what the request means, with all that it was given, is its own response
abbrev pub HasOwnResponse : Meaning → Request → Type 0
HasOwnResponse M r = IsOwnResponse r.frame (response_bytes (M.status r.frame r.given))

-- What the client was sent: the responses of the passed requests, one after another. The frames of these requests are the first
-- that were taken from the client. Each response is its request's own.
pub record AreOwnResponses (M : Meaning) (hs : List Entry) (s : State) : Type 0 where
  pub sent_is : out hs ≡ responses M s
  pub all_there : s.passed ≤ length s.requests
  pub first : AreFirst (map (λ r. r.frame) (take s.passed s.requests)) (frames_taken hs)
  pub own : All (HasOwnResponse M) (take s.passed s.requests)
