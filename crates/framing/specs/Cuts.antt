-- How a stream is cut into frames.
use Rattle.std.specs.Prelude.{◌≡◌, ℕ, List, ◌++◌, All}
use Rattle.std.specs.List.{flat_map}
use Rattle.framing.specs.Frames.{sized, IsFrame, IsTail}

-- the stream is these frames one after the other, and then a tail that begins no further one
pub record Cuts (least most : ℕ) (stream : List ℕ) (frames : List (List ℕ)) (tail : List ℕ) : Type 0 where
  pub whole : stream ≡ flat_map sized frames ++ tail
  pub each : All (IsFrame least most) frames
  pub tail_is : IsTail least most tail
