-- What the streams of the two peers are to a connection.
use Rattle.std.specs.Prelude.{ℕ, ℤ, List, Option, Some, None, Ok, Err}
use Rattle.conn_rules.specs.declared.event.Event.{Event}
use Rattle.conn_rules.specs.declared.event.Event.TheVariants as event
use Rattle.conn_rules.specs.declared.event.Fault.{Fault}
use Rattle.conn_rules.specs.declared.event.Fault.TheVariants as fault
use Rattle.conn_rules.specs.declared.event.Reply.{Reply}
use Rattle.conn_rules.specs.declared.event.Reply.TheVariants as reply
use Rattle.conn_rules.specs.declared.event.TakeFault.{TakeFault}
use Rattle.conn_rules.specs.declared.event.TakeFault.TheVariants as take_fault
use Rattle.conn_rules.specs.declared.event.AnswerFault.{AnswerFault}
use Rattle.conn_rules.specs.declared.event.AnswerFault.TheVariants as answer_fault
use Rattle.conn_rules.specs.History.{Entry, client_frames, broker_frames}
use Rattle.session.specs.declared.peer.Peer.{Peer}
use Rattle.session.specs.declared.peer.Peer.TheVariants as peer
use Rattle.session.specs.declared.receipt.Receipt.{Receipt}
use Rattle.session.specs.declared.receipt.Receipt.TheVariants as receipt

-- the sizes of a peer's frames
abbrev pub least_size : Peer → ℕ
least_size peer.Client = 8
least_size peer.Broker = 4

abbrev pub most_size : Peer → ℕ
most_size peer.Client = 104857600
most_size peer.Broker = 134217728

-- what a frame of a peer is to the connection, its stream's end with so many bytes of a frame, and a size outside of
-- the limits at this place
abbrev pub frame_event : Peer → List ℕ → Event
frame_event peer.Client frame = event.Take frame
frame_event peer.Broker frame = event.Answer frame

abbrev pub end_event : Peer → ℕ → Event
end_event peer.Client rest = event.ClientEnd rest
end_event peer.Broker rest = event.BrokerEnd rest

abbrev pub bad_size_fault : Peer → ℕ → ℤ → Fault
bad_size_fault peer.Client at size = fault.ClientBadSize at size
bad_size_fault peer.Broker at size = fault.BrokerBadSize at size

-- what became of a frame, by the reply to it
abbrev pub take_receipt : TakeFault → Receipt
take_receipt (take_fault.Ending back) = receipt.Refused
take_receipt (take_fault.Full count held back) = receipt.Full back
take_receipt take_fault.NoMemory = receipt.NoMemory

abbrev pub answer_receipt : AnswerFault → Receipt
answer_receipt (answer_fault.Dead back) = receipt.Refused
answer_receipt answer_fault.NoMemory = receipt.NoMemory

abbrev pub client_receipt : Reply → Option Receipt
client_receipt (reply.Take (Ok _)) = Some receipt.Accepted
client_receipt (reply.Take (Err e)) = Some (take_receipt e)
client_receipt _ = None

abbrev pub broker_receipt : Reply → Option Receipt
broker_receipt (reply.Answer (Ok _)) = Some receipt.Accepted
broker_receipt (reply.Answer (Err e)) = Some (answer_receipt e)
broker_receipt _ = None

abbrev pub frame_receipt : Peer → Reply → Option Receipt
frame_receipt peer.Client r = client_receipt r
frame_receipt peer.Broker r = broker_receipt r

-- the frames of a peer that were handed on for good
abbrev pub frames_of_peer : Peer → List Entry → List (List ℕ)
frames_of_peer peer.Client hs = client_frames hs
frames_of_peer peer.Broker hs = broker_frames hs
