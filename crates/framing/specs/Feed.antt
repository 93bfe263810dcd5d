-- What a framer holds of a stream.
use Rattle.std.specs.Prelude.{ℕ, List}

-- the limits of a frame's size, the bytes that were fed and are in no frame that was given, and the place of
-- the first of them in the whole stream
pub record Feed : Type 0 where
  pub least : ℕ
  pub most : ℕ
  pub at : ℕ
  pub rest : List ℕ
