-- What goes out, to either side.
use Rattle.std.specs.Prelude.{◌≡◌, ℕ, ◌<◌, ◌^◌, List, length, drop}
use Rattle.framing.specs.Frames.{sized}

-- one frame behind its size, which an INT32 can say
abbrev pub IsWhole : List ℕ → Type 0
IsWhole bytes = (bytes ≡ sized (drop 4 bytes)) × (length (drop 4 bytes) < 2 ^ 31)
