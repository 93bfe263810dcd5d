-- A peer's byte stream, as far as it wasn't handed on to the connection.
use Rattle.std.specs.Prelude.{◌≡◌, ℕ, ◌+◌, ◌-◌, ◌||◌, ◌&&◌, not, Bool, false, is_some, if◌then◌else◌, List, [], ◌∷◌, ◌++◌, length, Option, option_map, All}
use Rattle.std.specs.Option.{option_to_list}
use Rattle.std.specs.List.{flat_map}
use Rattle.framing.specs.Frames.{sized, IsFrame, bad_size}
use Rattle.conn_rules.specs.declared.event.Event.{Event}
use Rattle.conn_rules.specs.declared.event.Event.TheVariants as event
use Rattle.conn_rules.specs.declared.event.Fault.{Fault}
use Rattle.conn_rules.specs.History.{Entry}
use Rattle.session.specs.declared.peer.Peer.{Peer}
use Rattle.session.specs.declared.peer.Peer.TheVariants as peer
use Rattle.session.specs.Peers.{least_size, most_size, end_event, bad_size_fault, frames_of_peer}

-- Who sends it; how many bytes of it came; the last of these, which stand in no frame that was handed on; whether a bad
-- size at their front was told; whether the stream has ended, and whether that was told.
pub record Stream : Type 0 where
  pub peer : Peer
  pub came : ℕ
  pub rest : List ℕ
  pub bad_told : Bool
  pub ended : Bool
  pub end_told : Bool

abbrev pub fresh_stream : Peer → Stream
fresh_stream p = record { peer = p; came = 0; rest = []; bad_told = false; ended = false; end_told = false }

-- the other of the two streams
abbrev pub other_peer : Peer → Peer
other_peer peer.Client = peer.Broker
other_peer peer.Broker = peer.Client

-- a piece more
abbrev pub with_piece : List ℕ → Stream → Stream
with_piece piece s = record s { came = s.came + length piece; rest = s.rest ++ piece }

-- the frames that were handed on are gone
abbrev pub with_rest : List ℕ → Stream → Stream
with_rest rest s = record s { rest = rest }

-- What stands behind the frames is told once: a size outside of the limits, and that the stream has ended.
abbrev pub tail_fault : Stream → Option Fault
tail_fault s = option_map (bad_size_fault s.peer (s.came - length s.rest)) (bad_size (least_size s.peer) (most_size s.peer) s.rest)

abbrev pub bad_size_events : Stream → List Event
bad_size_events s = if s.bad_told then [] else option_to_list (option_map event.Fault (tail_fault s))

abbrev pub end_events : Stream → List Event
end_events s = if s.ended && not s.end_told then end_event s.peer (length s.rest) ∷ [] else []

abbrev pub tail_told : Stream → Stream
tail_told s = record s { bad_told = s.bad_told || is_some (tail_fault s); end_told = s.end_told || s.ended }

-- Of all these bytes of a stream the frames that these entries handed on are the first, one after another, and the rest
-- stands behind them.
pub record IsStreamOf (bytes : List ℕ) (hs : List Entry) (s : Stream) : Type 0 where
  pub whole : bytes ≡ flat_map sized (frames_of_peer s.peer hs) ++ s.rest
  pub each : All (IsFrame (least_size s.peer) (most_size s.peer)) (frames_of_peer s.peer hs)
  pub came : s.came ≡ length bytes
