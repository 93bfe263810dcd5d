-- What the calls of a station do to a stream and its connection.
use Rattle.std.specs.Prelude.{◌≡◌, ℕ, ◌<◌, true, List, [], ◌∷◌, length, Result, Ok, Err, ◌⊎◌, MatchBool}
use Rattle.kp_edge.specs.declared.no_memory.NoMemory.{NoMemory}
use Rattle.framing.specs.Frames.{BeginsFrame, IsTail}
use Rattle.conn_rules.specs.declared.event.Event.TheVariants as event
use Rattle.conn_rules.specs.declared.event.Fault.TheVariants as fault
use Rattle.conn_rules.specs.declared.event.CompleteFault.{CompleteFault}
use Rattle.conn_rules.specs.declared.event.CompleteFault.TheVariants as complete_fault
use Rattle.conn_rules.specs.History.{Entry}
use Rattle.session.specs.declared.told.Told.{Told}
use Rattle.session.specs.declared.told.Told.TheVariants as told
use Rattle.session.specs.Peers.{least_size, most_size, end_event}
use Rattle.session.specs.Streams.{Stream, with_piece}
use Rattle.session.specs.Pushes.{IsPush, noted_entry}

-- a connection and its two streams
pub record Link (C : Type 0) : Type 0 where
  pub connection : C
  pub client : Stream
  pub broker : Stream

-- the stream has ended before, and nothing is done
pub record IsClosed (before : Stream) (hs : List Entry) (result : Result Told NoMemory) (after : Stream) : Type 0 where
  pub answered : result ≡ Ok told.Closed
  pub nothing : hs ≡ []
  pub same : after ≡ before

-- no memory was found for the piece, which is told; the stream is as if it had not come
pub record LosesPiece (before : Stream) (piece : List ℕ) (hs : List Entry) (after : Stream) : Type 0 where
  pub some : 0 < length piece
  pub told : hs ≡ noted_entry (event.Fault fault.NoMemory) ∷ []
  pub same : after ≡ before

-- A piece that comes is put behind the rest, and the stream is pushed.
abbrev pub TakesPiece : Stream → List ℕ → List Entry → Result Told NoMemory → Stream → Type 0
TakesPiece before piece hs (Ok answered) after = IsPush (with_piece piece before) hs (Ok answered) after
TakesPiece before piece hs (Err e) after = IsPush (with_piece piece before) hs (Err e) after ⊎ LosesPiece before piece hs after

abbrev pub IsPiece : Stream → List ℕ → List Entry → Result Told NoMemory → Stream → Type 0
IsPiece before piece hs result after = MatchBool before.ended (IsClosed before hs result after) (TakesPiece before piece hs result after)

-- The end of a stream is told where no whole frame is left; else the push that leaves none tells it.
pub record EndsLater (before : Stream) (hs : List Entry) (after : Stream) : Type 0 where
  pub begins : BeginsFrame (least_size before.peer) (most_size before.peer) before.rest
  pub nothing : hs ≡ []
  pub after_is : after ≡ record before { ended = true }

pub record EndsAtOnce (before : Stream) (hs : List Entry) (after : Stream) : Type 0 where
  pub tail_is : IsTail (least_size before.peer) (most_size before.peer) before.rest
  pub told : hs ≡ noted_entry (end_event before.peer (length before.rest)) ∷ []
  pub after_is : after ≡ record before { ended = true; end_told = true }

pub record Ends (before : Stream) (hs : List Entry) (result : Result Told NoMemory) (after : Stream) : Type 0 where
  pub answered : result ≡ Ok told.Fine
  pub ends : EndsLater before hs after ⊎ EndsAtOnce before hs after

abbrev pub IsEnd : Stream → List Entry → Result Told NoMemory → Stream → Type 0
IsEnd before hs result after = MatchBool before.ended (IsClosed before hs result after) (Ends before hs result after)

-- what a verdict is answered
abbrev pub IsToldOfFault : CompleteFault → Result Told NoMemory → Type 0
IsToldOfFault (complete_fault.NotWaiting verdict) result = result ≡ Ok told.NotWaiting
IsToldOfFault complete_fault.NoMemory (Ok answered) = ⊥
IsToldOfFault complete_fault.NoMemory (Err e) = Unit {0}

abbrev pub IsToldOf : Result (Unit {0}) CompleteFault → Result Told NoMemory → Type 0
IsToldOf (Ok _) result = result ≡ Ok told.Fine
IsToldOf (Err e) result = IsToldOfFault e result
