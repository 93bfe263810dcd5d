-- What a writer has where a body could be written in part alone.
use Rattle.std.specs.Prelude.{◌≡◌, ℕ, List, ◌++◌}

-- A front of the text was written behind what was there.
pub record HasFrontWritten (before after text : List ℕ) : Type 0 where
  pub front : List ℕ
  pub missing : List ℕ
  pub splits : text ≡ front ++ missing
  pub written : after ≡ before ++ front
