-- What a request means under a chain of filters: what it waits for, its response, and why it ends the connection.
use Rattle.std.specs.Prelude.{ℕ, ◌+◌, nat_le, not, Bool, true, if◌then◌else◌, List, [], ◌∷◌, ◌++◌, length, Option, Some, None}
use Rattle.kp_edge.specs.declared.end.End.{End}
use Rattle.kp_edge.specs.declared.end.End.TheVariants as end
use Rattle.wire_types.specs.Numbers.{int16}
use Rattle.tree_spelling.specs.Spelling.{spelling}
use Rattle.tree_spelling.specs.Body.{Contents}
use Rattle.framing.specs.Frames.{sized}
use Rattle.framing.specs.CorrelationIds.{request_id}
use Rattle.framing.specs.RequestStarts.{request_key, request_version}
use Rattle.filter_core.specs.declared.reason.Reason.{Reason}
use Rattle.filter_core.specs.declared.reason.Reason.TheVariants as reason
use Rattle.filter_core.specs.Acks.{has_acks_zero}
use Rattle.filter_core.specs.Decision.{Turn}
use Rattle.side_requests.specs.declared.ask.Ask.TheVariants as ask
use Rattle.filter_chain.specs.declared.outside.Outside.TheVariants as came
use Rattle.filter_chain.specs.declared.outside.Outside as chains
use Rattle.filter_chain.specs.declared.state.ShutCause.{ShutCause}
use Rattle.filter_chain.specs.declared.state.ShutCause.TheVariants as cause
use Rattle.filter_chain.specs.Outcomes.{Outcome, Needs, Completed, Shuts, NeverEnds, run, turns}
use Rattle.conn_rules.specs.Meaning.{Meaning, ToBroker, Hold, Status, Waits, Done, Fails}
use Rattle.conn_rules.specs.State.{Outside, Body, NoResponse, Verdict}
use Rattle.conn_rules.specs.Room.{limited}
use Rattle.framing.specs.Heads.{client_id_spelled}
use Rattle.conn_core.specs.Requests.{request_of, is_silent, is_told_versions, versions_told, frame_cause, answer_cause, answer_decoded, response_read}

-- ---- what a request is given

-- What comes from outside, as the chain is given it where a request stands so. The body of a response is read by the key and the
-- version of the message that it answers.
abbrev pub taken_as : Outcome → Outside → chains.Outside
taken_as (Needs (ask.Broker message main)) (Body bytes) = came.Answer (response_read message bytes)
taken_as _ (Body bytes) = came.NoResponse
taken_as _ NoResponse = came.NoResponse
taken_as _ (Verdict verdict) = came.Verdict verdict

-- All that came, in order, behind what the chain was given before.
abbrev pub given_behind : List Turn → Contents → List chains.Outside → List Outside → List chains.Outside
given_behind chain request before [] = before
given_behind chain request before (x ∷ xs) = given_behind chain request (before ++ taken_as (run chain request before) x ∷ []) xs

abbrev pub given_to : List Turn → Contents → List Outside → List chains.Outside
given_to chain request given = given_behind chain request [] given

-- ---- what goes out

-- the greatest size of a frame that goes out
abbrev pub most_out : ℕ
most_out = 134217728

abbrev pub grown_past : ℕ → Status
grown_past size = Fails (λ k. end.GrownPast k size)

-- the size of the broker's frame for a message: its key, its version, its correlation id, the client's own id, and its body
abbrev pub message_size : List ℕ → Contents → ℕ
message_size frame message = 8 + length (client_id_spelled frame) + length (spelling message.items)

-- A message waits for its answer under its own key and version and the client's own id.
abbrev pub sent_for : List ℕ → Contents → Bool → Status
sent_for frame message main = Waits (ToBroker (int16 message.key ++ int16 message.version) (client_id_spelled frame ++ spelling message.items) main (not (has_acks_zero message)))

abbrev pub message_status : List ℕ → Contents → Bool → Status
message_status frame message main = if nat_le (message_size frame message) most_out then sent_for frame message main else grown_past (message_size frame message)

-- a response stands behind the client's own correlation id
abbrev pub responded : List ℕ → List ℕ → Status
responded frame body = if nat_le (4 + length body) most_out then Done (sized (request_id frame ++ body)) else grown_past (4 + length body)

abbrev pub response_body : Option Contents → List ℕ
response_body (Some response) = spelling response.items
response_body None = []

-- a silent request is done without a response
abbrev pub completed : List ℕ → Option Contents → Status
completed frame response = if is_silent frame then Done [] else responded frame (response_body response)

-- ---- why a filter ends the connection, by the request's number

abbrev pub filter_end : ℕ → Reason → ℕ → End
filter_end filter (reason.Code code) k = end.FilterShut k filter code
filter_end filter (reason.NodeOutOfRange node) k = end.NodeOutOfRange k node
filter_end filter (reason.NameTooLong length) k = end.NameTooLong k length

abbrev pub shut_end : ShutCause → ℕ → End
shut_end (cause.Filter filter reason) k = filter_end filter reason k
shut_end cause.AskBudget k = end.AskBudget k

-- ---- how a request stands

-- The laws of filters forbid the last of these, and the code answers want of memory there.
abbrev pub outcome_status : List ℕ → Outcome → Status
outcome_status frame (Needs (ask.Broker message main)) = message_status frame message main
outcome_status frame (Needs (ask.Hold filter key)) = Waits (Hold key)
outcome_status frame (Completed response) = completed frame response
outcome_status frame (Shuts cause) = Fails (shut_end cause)
outcome_status frame (NeverEnds filter) = Fails (λ k. end.NoMemory)

-- what becomes of a request under the chain, with all that it was given
abbrev pub chain_outcome : List Turn → List ℕ → List Outside → Outcome
chain_outcome chain frame given = run chain (request_of frame) (given_to chain (request_of frame) given)

abbrev pub chain_status : List Turn → List ℕ → List Outside → Status
chain_status chain frame given = if is_told_versions frame then Done (versions_told frame) else outcome_status frame (chain_outcome chain frame given)

-- How many turns its filters had, with all that it was given. Who is told the versions meets no filter.
abbrev pub chain_work : List Turn → List ℕ → List Outside → ℕ
chain_work chain frame given = if is_told_versions frame then 0 else turns chain (request_of frame) (given_to chain (request_of frame) given)

abbrev pub chain_meaning : List Turn → Meaning
chain_meaning chain =
    record {
      room = λ count held size. true;
      no_request = frame_cause;
      silent = is_silent;
      status = chain_status chain;
      work = chain_work chain;
      unreadable = λ before body. answer_cause (request_key before) (request_version before) (answer_decoded before body);
    }

-- the same for so many requests in flight
abbrev pub chained : List Turn → ℕ → Meaning
chained chain limit = limited limit (chain_meaning chain)
