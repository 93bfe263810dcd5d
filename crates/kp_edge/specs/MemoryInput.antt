use Rattle.std.specs.Prelude.{◌≡◌, ℕ, Bool, false, ◌==◌, List, [], ◌∷◌, ◌++◌, length, drop, min, max, Contains, slice_get}
use Rattle.std.specs.Option.{option_map_or}
use Rattle.kp_edge.specs.Counts.{raised}
use Rattle.kp_edge.specs.Source.{ReadOutcome, Failure, bytes_or_end}

-- a source in memory
pub record MemoryInput : Type 0 where
  -- what is still to come
  pub coming : List ℕ
  -- the most bytes that a read gives, by the read's number
  pub pieces : List ℕ
  -- the numbers of the reads that fail
  pub failing : List ℕ
  -- the number of the next read
  pub number : ℕ
  -- whether the end was given
  pub ended : Bool
  -- what the reads came to
  pub reads : List ReadOutcome
  -- how many reads failed
  pub faults : ℕ

-- a read fails where its number is listed, and never after the end
abbrev pub IsFailingRead : MemoryInput → Type 0
IsFailingRead input = (input.ended ≡ false) × Contains input.failing input.number

-- the most bytes that the next read gives into so much room: its piece, at least one, or all where no piece is left
abbrev pub limit : List ℕ → ℕ → ℕ → ℕ
limit pieces number room = option_map_or (λ piece. min (max piece 1) room) (slice_get pieces number) room

-- how many bytes the next read gives into so much room
abbrev pub portion : MemoryInput → ℕ → ℕ
portion input room = min (limit input.pieces input.number room) (length input.coming)

-- the source after a read that gave n bytes at the buffer's front; one that gave none gave the end
abbrev pub after_giving : MemoryInput → ℕ → List ℕ → MemoryInput
after_giving input n buffer = record input { coming = drop n input.coming; number = raised input.number; ended = n == 0; reads = input.reads ++ bytes_or_end n buffer ∷ [] }

-- the source after a read that failed
abbrev pub after_failing : MemoryInput → MemoryInput
after_failing input = record input { number = raised input.number; reads = input.reads ++ Failure ∷ []; faults = raised input.faults }
