use Rattle.std.specs.Prelude.{ℕ, ◌==◌, Bool, List, [], ◌∷◌, ◌++◌, drop}
use Rattle.kp_edge.specs.Source.{ReadOutcome, bytes_or_end}

-- a source in memory that never fails
pub record Supply : Type 0 where
  -- what is still to come
  pub coming : List ℕ
  -- whether the end was given
  pub ended : Bool
  -- what the reads came to
  pub reads : List ReadOutcome

-- the source after a read that gave n bytes at the buffer's front; one that gave none gave the end
abbrev pub after_supplying : Supply → ℕ → List ℕ → Supply
after_supplying supply n buffer = record { coming = drop n supply.coming; ended = n == 0; reads = supply.reads ++ bytes_or_end n buffer ∷ [] }
