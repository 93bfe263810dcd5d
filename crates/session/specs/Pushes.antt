-- What a push does: it hands on the frames of a stream, one after another, as far as there is room.
use Rattle.std.specs.Prelude.{◌≡◌, ℕ, ◌++◌, Bool, true, false, List, [], ◌∷◌, map, All, Option, Some, Result, Ok, Err, ◌⊎◌}
use Rattle.std.specs.List.{flat_map, list_any}
use Rattle.kp_edge.specs.declared.no_memory.NoMemory.{NoMemory}
use Rattle.framing.specs.Frames.{sized, IsFrame, BeginsFrame, IsTail}
use Rattle.conn_rules.specs.declared.event.Event.{Event}
use Rattle.conn_rules.specs.declared.event.Event.TheVariants as event
use Rattle.conn_rules.specs.declared.event.Fault.TheVariants as fault
use Rattle.conn_rules.specs.declared.event.Reply.{Reply}
use Rattle.conn_rules.specs.declared.event.Reply.TheVariants as reply
use Rattle.conn_rules.specs.History.{Entry}
use Rattle.session.specs.declared.peer.Peer.{Peer}
use Rattle.session.specs.declared.receipt.Receipt.{Receipt}
use Rattle.session.specs.declared.receipt.Receipt.TheVariants as receipt
use Rattle.session.specs.declared.told.Told.{Told}
use Rattle.session.specs.declared.told.Told.TheVariants as told
use Rattle.session.specs.Peers.{least_size, most_size, frame_event, frame_receipt, frames_of_peer}
use Rattle.session.specs.Streams.{Stream, with_rest, bad_size_events, end_events, tail_told}

-- A station is one actor, whose events come one after another.
abbrev pub entry_of : Event → Reply → Entry
entry_of e r = record { actor = 0; event = e; reply = r }

abbrev pub noted_entry : Event → Entry
noted_entry e = entry_of e reply.Noted

-- a frame that was accepted or refused: it is no matter of the stream any more, and memory was not wanting
abbrev pub is_handed_on : Option Receipt → Bool
is_handed_on (Some receipt.Accepted) = true
is_handed_on (Some receipt.Refused) = true
is_handed_on _ = false

abbrev pub is_refused : Option Receipt → Bool
is_refused (Some receipt.Refused) = true
is_refused _ = false

pub record IsHandedOn (p : Peer) (h : Entry) : Type 0 where
  pub frame : List ℕ
  pub actor : h.actor ≡ 0
  pub event : h.event ≡ frame_event p frame
  pub for_good : is_handed_on (frame_receipt p h.reply) ≡ true

-- These entries handed on the first frames of the stream, one after another, each of which found room; whether one of
-- them was refused; and what is left.
pub record AreHandedOn (before : Stream) (hs : List Entry) (refused : Bool) (rest : List ℕ) : Type 0 where
  pub whole : before.rest ≡ flat_map sized (frames_of_peer before.peer hs) ++ rest
  pub each : All (IsFrame (least_size before.peer) (most_size before.peer)) (frames_of_peer before.peer hs)
  pub entries : All (IsHandedOn before.peer) hs
  pub refused_is : refused ≡ list_any (λ h. is_refused (frame_receipt before.peer h.reply)) hs

-- the frame at the front, and what stands behind it
pub record FrameInFront (s : Stream) (frame behind : List ℕ) : Type 0 where
  pub is_frame : IsFrame (least_size s.peer) (most_size s.peer) frame
  pub front : s.rest ≡ sized frame ++ behind

-- the push stops where no whole frame is left, and tells what stands there
pub record StopsAtTail (now : Stream) (last : List Entry) (after : Stream) : Type 0 where
  pub tail_is : IsTail (least_size now.peer) (most_size now.peer) now.rest
  pub told : last ≡ map noted_entry (bad_size_events now ++ end_events now)
  pub after_is : after ≡ tail_told now

-- at a frame that finds no room, which stays
pub record StopsAtFull (now : Stream) (last : List Entry) (after : Stream) : Type 0 where
  pub frame : List ℕ
  pub behind : List ℕ
  pub in_front : FrameInFront now frame behind
  pub reply : Reply
  pub full : frame_receipt now.peer reply ≡ Some (receipt.Full frame)
  pub entry : last ≡ entry_of (frame_event now.peer frame) reply ∷ []
  pub after_is : after ≡ now

-- at a frame for which the connection finds no memory: that frame is lost
pub record LosesFrame (now : Stream) (last : List Entry) (after : Stream) : Type 0 where
  pub frame : List ℕ
  pub behind : List ℕ
  pub in_front : FrameInFront now frame behind
  pub reply : Reply
  pub wants : frame_receipt now.peer reply ≡ Some receipt.NoMemory
  pub entry : last ≡ entry_of (frame_event now.peer frame) reply ∷ []
  pub after_is : after ≡ with_rest behind now

-- at a frame that isn't handed on for want of memory outside of the connection, which is told: that frame stays
pub record KeepsFrame (now : Stream) (last : List Entry) (after : Stream) : Type 0 where
  pub begins : BeginsFrame (least_size now.peer) (most_size now.peer) now.rest
  pub told : last ≡ noted_entry (event.Fault fault.NoMemory) ∷ []
  pub after_is : after ≡ now

-- Where a push stops, by what it answers. It is closed where a frame was refused.
abbrev pub Stops : Stream → (refused : Bool) → List Entry → Result Told NoMemory → Stream → Type 0
Stops now refused last (Ok told.Fine) after = (refused ≡ false) × StopsAtTail now last after
Stops now refused last (Ok told.Closed) after = (refused ≡ true) × StopsAtTail now last after
Stops now refused last (Ok told.Full) after = StopsAtFull now last after
Stops now refused last (Ok told.NotWaiting) after = ⊥
Stops now refused last (Err e) after = LosesFrame now last after ⊎ KeepsFrame now last after

pub record IsPush (before : Stream) (hs : List Entry) (result : Result Told NoMemory) (after : Stream) : Type 0 where
  pub first : List Entry
  pub refused : Bool
  pub rest : List ℕ
  pub delivered : AreHandedOn before first refused rest
  pub last : List Entry
  pub stops : Stops (with_rest rest before) refused last result after
  pub entries : hs ≡ first ++ last
