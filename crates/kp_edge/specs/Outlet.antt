use Rattle.std.specs.Prelude.{◌≡◌, ℕ, ◌-◌, ◌<◌, ◌⊎◌, List, ◌++◌, length, take, min, max, Contains}
use Rattle.kp_edge.specs.Counts.{raised}

-- a sink in memory that takes so many bytes at a time and fails where it is told to
pub record Outlet : Type 0 where
  -- what was taken, in order
  pub taken : List ℕ
  -- how many more bytes it takes
  pub room : ℕ
  -- the most bytes that a write takes, where 0 counts as 1
  pub most : ℕ
  -- the numbers of the writes that fail
  pub failing : List ℕ
  -- the number of the next write
  pub number : ℕ
  -- how many writes failed
  pub faults : ℕ

-- a write fails where its number is listed, and where there are bytes to take and the room is used up
abbrev pub IsFailingWrite : Outlet → List ℕ → Type 0
IsFailingWrite outlet piece = Contains outlet.failing outlet.number ⊎ ((outlet.room ≡ 0) × (0 < length piece))

-- how many bytes of the piece the next write takes
abbrev pub share : Outlet → List ℕ → ℕ
share outlet piece = min (min (length piece) (max outlet.most 1)) outlet.room

-- the sink after a write that took the first n bytes of the piece
abbrev pub after_accepting : Outlet → List ℕ → ℕ → Outlet
after_accepting outlet piece n = record outlet { taken = outlet.taken ++ take n piece; room = outlet.room - n; number = raised outlet.number }

-- the sink after a write that failed
abbrev pub after_refusing : Outlet → Outlet
after_refusing outlet = record outlet { number = raised outlet.number; faults = raised outlet.faults }
