-- What the lines of a script do, and what is answered to each: see docs/SCRIPTS.md.
use Rattle.std.specs.Prelude.{◌≡◌, ℕ, Bool, true, false, if◌then◌else◌, List, [], ◌∷◌, ◌++◌, flat_map, Option, Some, None, Ok, Err}
use Rattle.conn_rules.specs.declared.event.Event.{Event}
use Rattle.conn_rules.specs.declared.event.Event.TheVariants as event
use Rattle.conn_rules.specs.declared.event.Fault.TheVariants as fault
use Rattle.conn_rules.specs.declared.event.Reply.{Reply}
use Rattle.conn_rules.specs.declared.event.Reply.TheVariants as reply
use Rattle.conn_rules.specs.declared.event.Emit.TheVariants as emit
use Rattle.conn_rules.specs.declared.event.CompleteFault.{CompleteFault}
use Rattle.conn_rules.specs.declared.event.CompleteFault.TheVariants as complete_fault
use Rattle.conn_rules.specs.Meaning.{Meaning}
use Rattle.conn_rules.specs.State.{State, opening}
use Rattle.conn_rules.specs.History.{Entry, LeadsTo}
use Rattle.session.specs.declared.peer.Peer.{Peer}
use Rattle.session.specs.declared.peer.Peer.TheVariants as peer
use Rattle.session.specs.declared.told.Told.{Told}
use Rattle.session.specs.declared.told.Told.TheVariants as told
use Rattle.session.specs.Streams.{Stream, fresh_stream}
use Rattle.session.specs.Pushes.{entry_of, IsPush}
use Rattle.session.specs.Calls.{Link, IsPiece, IsEnd}
use Rattle.transcript.specs.declared.line.Line.{Line}
use Rattle.transcript.specs.declared.line.Line.TheVariants as line
use Rattle.transcript.specs.declared.answer.Answer.{Answer}
use Rattle.transcript.specs.declared.answer.Answer.TheVariants as answer
use Rattle.transcript.specs.Answers.{answer_text}

-- a connection and its two streams, as a script gives them
pub record Play : Type 0 where
  pub client : Stream
  pub broker : Stream
  pub state : State

abbrev pub opening_play : Play
opening_play = record { client = fresh_stream peer.Client; broker = fresh_stream peer.Broker; state = opening }

-- the play that a station with these streams stands at
abbrev pub at_state : {C : Type 0} → Link C → State → Play
at_state station s = record { client = station.client; broker = station.broker; state = s }

-- what is answered where the station was told something, and for the reply to one event
abbrev pub told_answer : Told → Answer
told_answer told.Fine = answer.Fine
told_answer told.Full = answer.Full
told_answer told.Closed = answer.Closed
told_answer told.NotWaiting = answer.NotWaiting

abbrev pub complete_answer : CompleteFault → Option Answer
complete_answer (complete_fault.NotWaiting verdict) = Some answer.NotWaiting
complete_answer complete_fault.NoMemory = None

abbrev pub answer_of : Reply → Option Answer
answer_of (reply.Send (Some frame)) = Some (answer.ToBroker frame)
answer_of (reply.Send None) = Some answer.Nothing
answer_of (reply.Emit (emit.Bytes response)) = Some (answer.ToClient response)
answer_of (reply.Emit emit.Later) = Some answer.Later
answer_of (reply.Emit (emit.Over why)) = Some (answer.Over why)
answer_of (reply.Pick (Some ticket)) = Some (answer.Ticket ticket.request ticket.index ticket.key)
answer_of (reply.Pick None) = Some answer.Nothing
answer_of (reply.Complete (Ok _)) = Some answer.Fine
answer_of (reply.Complete (Err e)) = complete_answer e
answer_of reply.Noted = Some answer.Fine
answer_of _ = None

-- A piece of a stream, or its end.
pub record IsPieceLine (before : Stream) (piece : List ℕ) (a : Answer) (hs : List Entry) (after : Stream) : Type 0 where
  pub told : Told
  pub is_piece : IsPiece before piece hs (Ok told) after
  pub answered : a ≡ told_answer told

pub record IsEndLine (before : Stream) (a : Answer) (hs : List Entry) (after : Stream) : Type 0 where
  pub told : Told
  pub is_end : IsEnd before hs (Ok told) after
  pub answered : a ≡ told_answer told

-- One event, and the answer to its reply. The streams stay.
pub record IsEventLine (e : Event) (a : Answer) (hs : List Entry) : Type 0 where
  pub reply : Reply
  pub entry : hs ≡ entry_of e reply ∷ []
  pub answered : answer_of reply ≡ Some a

abbrev pub StreamsStay : Play → Play → Type 0
StreamsStay p q = (q.client ≡ p.client) × (q.broker ≡ p.broker)

-- An emit step makes room, so the client's stream is pushed behind it. The answer is that of the step alone.
pub record IsEmitLine (before : Stream) (a : Answer) (hs : List Entry) (after : Stream) : Type 0 where
  pub first : List Entry
  pub emits : IsEventLine event.Emit a first
  pub rest : List Entry
  pub told : Told
  pub pushes : IsPush before rest (Ok told) after
  pub entries : hs ≡ first ++ rest

-- what a line does to the two streams, and the entries that it brings to the connection
abbrev pub IsPlayed : Play → Line → Answer → List Entry → Play → Type 0
IsPlayed p (line.Client piece) a hs q = IsPieceLine p.client piece a hs q.client × (q.broker ≡ p.broker)
IsPlayed p (line.Broker piece) a hs q = IsPieceLine p.broker piece a hs q.broker × (q.client ≡ p.client)
IsPlayed p line.ClientEnd a hs q = IsEndLine p.client a hs q.client × (q.broker ≡ p.broker)
IsPlayed p line.BrokerEnd a hs q = IsEndLine p.broker a hs q.broker × (q.client ≡ p.client)
IsPlayed p line.Send a hs q = IsEventLine event.Send a hs × StreamsStay p q
IsPlayed p line.Emit a hs q = IsEmitLine p.client a hs q.client × (q.broker ≡ p.broker)
IsPlayed p line.Pick a hs q = IsEventLine event.Pick a hs × StreamsStay p q
IsPlayed p (line.Done k i verdict) a hs q = IsEventLine (event.Complete k i verdict) a hs × StreamsStay p q
IsPlayed p line.FaultClientRead a hs q = IsEventLine (event.Fault fault.ClientRead) a hs × StreamsStay p q
IsPlayed p line.FaultClientWrite a hs q = IsEventLine (event.Fault fault.ClientWrite) a hs × StreamsStay p q
IsPlayed p line.FaultBrokerRead a hs q = IsEventLine (event.Fault fault.BrokerRead) a hs × StreamsStay p q
IsPlayed p line.FaultBrokerWrite a hs q = IsEventLine (event.Fault fault.BrokerWrite) a hs × StreamsStay p q
IsPlayed p (line.FaultAuthority k) a hs q = IsEventLine (event.Fault (fault.Authority k)) a hs × StreamsStay p q

-- The lines are answered one after another, and the connection goes as its rules say.
abbrev pub ArePlayed : Meaning → Play → List Line → List Answer → List Entry → Play → Type 0
ArePlayed M p [] [] hs q = (hs ≡ []) × (q ≡ p)
ArePlayed M p [] (a ∷ answers) hs q = ⊥
ArePlayed M p (l ∷ ls) [] hs q = ⊥
ArePlayed M p (l ∷ ls) (a ∷ answers) hs q =
    (first rest : List Entry) × (between : Play) × IsPlayed p l a first between × LeadsTo M p.state first between.state × ArePlayed M between ls answers rest q × (hs ≡ first ++ rest)

-- All bytes of a peer's stream that the lines bring, up to its end.
abbrev pub piece_of : Line → Peer → List ℕ
piece_of (line.Client piece) peer.Client = piece
piece_of (line.Broker piece) peer.Broker = piece
piece_of _ _ = []

abbrev pub is_end_of : Line → Peer → Bool
is_end_of line.ClientEnd peer.Client = true
is_end_of line.BrokerEnd peer.Broker = true
is_end_of _ _ = false

abbrev pub stream_in : Peer → List Line → List ℕ
stream_in p [] = []
stream_in p (l ∷ ls) = if is_end_of l p then [] else (piece_of l p ++ stream_in p ls)

-- what the answers are as text: a line each
abbrev pub printed : List Answer → List ℕ
printed answers = flat_map (λ a. answer_text a ++ 10 ∷ []) answers

-- the bytes that an answer shows the client
abbrev pub shown_to_client : Answer → List ℕ
shown_to_client (answer.ToClient response) = response
shown_to_client _ = []

-- the bytes that an answer shows the broker
abbrev pub shown_to_broker : Answer → List ℕ
shown_to_broker (answer.ToBroker frame) = frame
shown_to_broker _ = []
