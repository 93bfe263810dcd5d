-- What the reads of a source give.
use Rattle.std.specs.Prelude.{◌≡◌, ℕ, ◌==◌, ◌≤◌, Bool, true, if◌then◌else◌, List, [], Option, Some, length, take, drop, Result, Ok, Err, IfOk, OnErr, IsOkAnd}

-- A read gave the first n bytes of what was coming: they stand at the buffer's front, and the rest is still to come.
-- It gave none only where none were coming.
pub record ComesNext (n : ℕ) (coming : List ℕ) (rest : Option (List ℕ)) (buffer : List ℕ) : Type 0 where
  pub within : n ≤ length coming
  pub bytes : take n buffer ≡ take n coming
  pub rest_is : rest ≡ Some (drop n coming)
  pub at_end : n ≡ 0 → coming ≡ []

-- The end is given by a read that gives no bytes. After it every read gives it again, and none fails.
pub record LastingEnd {E : Type 0} (before after : Bool) (result : Result ℕ E) : Type 0 where
  pub given : IfOk result (λ n. after ≡ (n == 0))
  pub stays : before ≡ true → IsOkAnd result (λ n. n ≡ 0)
  pub failed : OnErr result (after ≡ before)

-- what a read came to: some bytes, the end, or a failure
pub data ReadOutcome : Type 0 where
  Bytes : List ℕ → ReadOutcome
  AtEnd : ReadOutcome
  Failure : ReadOutcome

abbrev pub bytes_or_end : ℕ → List ℕ → ReadOutcome
bytes_or_end n buffer = if n == 0 then AtEnd else Bytes (take n buffer)

abbrev pub outcome : {E : Type 0} → Result ℕ E → List ℕ → ReadOutcome
outcome (Ok n) buffer = bytes_or_end n buffer
outcome (Err _) buffer = Failure
