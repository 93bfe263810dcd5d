-- What a side of the code keeps of its stream: the framer's rest, and in front of it the frame that found no room.
use Rattle.std.specs.Prelude.{◌≡◌, ℕ, ◌+◌, ◌-◌, List, ◌++◌, length, Option, Some, None, Result, Ok, Err}
use Rattle.wire_types.specs.declared.no_memory.NoMemory.{NoMemory}
use Rattle.framing.specs.declared.next.Next.{Next}
use Rattle.framing.specs.declared.next.Next.TheVariants as next
use Rattle.framing.specs.Frames.{sized, BeginsFrame, IsPartial, bad_size}
use Rattle.session.specs.declared.receipt.Receipt.{Receipt}
use Rattle.session.specs.declared.receipt.Receipt.TheVariants as receipt
use Rattle.session.specs.declared.side.Side.{Side}
use Rattle.session.specs.Peers.{least_size, most_size}
use Rattle.session.specs.Streams.{Stream, with_rest}
use Rattle.session.specs.Pushes.{FrameInFront}

abbrev pub put_back : Option (List ℕ) → List ℕ → List ℕ
put_back None rest = rest
put_back (Some frame) rest = sized frame ++ rest

abbrev pub stream_of : Side → Stream
stream_of side = record {
  peer = side.peer;
  came = side.framer.at + length side.framer.rest;
  rest = put_back side.kept side.framer.rest;
  bad_told = side.bad_told;
  ended = side.ended;
  end_told = side.end_told;
}

-- what stands next in a stream, and what is left of it
abbrev pub NextIs : Stream → Result Next NoMemory → Stream → Type 0
NextIs old (Ok (next.Frame frame)) new = FrameInFront old frame new.rest × (new ≡ with_rest new.rest old)
NextIs old (Ok next.Wait) new = IsPartial (least_size old.peer) (most_size old.peer) old.rest × (new ≡ old)
NextIs old (Ok (next.BadSize at size)) new = (at ≡ old.came - length old.rest) × (bad_size (least_size old.peer) (most_size old.peer) old.rest ≡ Some size) × (new ≡ old)
NextIs old (Err e) new = BeginsFrame (least_size old.peer) (most_size old.peer) old.rest × (new ≡ old)

-- what became of a frame of this peer
abbrev pub ComesBack : List ℕ → Receipt → Type 0
ComesBack frame (receipt.Full back) = back ≡ frame
ComesBack frame _ = Unit {0}
