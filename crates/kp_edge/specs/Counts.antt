use Rattle.std.specs.Prelude.{◌≡◌, ℕ, ◌+◌, ◌-◌, ◌^◌, ◌<◌, ◌≤◌, ◌⊎◌, min, Result, IsOk, IsErr}

-- the next number of a count of 64 bits, which stands still at the greatest
abbrev pub raised : ℕ → ℕ
raised count = min (count + 1) (2 ^ 64 - 1)

-- a count went up, or it stands at the greatest number that 64 bits hold: there it is said to rise at each further failure
abbrev pub Rose : ℕ → ℕ → Type 0
Rose before after = (before < after) ⊎ ((before ≡ 2 ^ 64 - 1) × (after ≡ before))

-- a count of faults rose where there was a failure, and stayed where there was none
pub record Counted (failed : Type 0) (before after : ℕ) : Type 0 where
  pub rises : failed → Rose before after
  pub stays : ¬ failed → after ≡ before

-- the same of a call that answers each failure by an Err; so the count never falls
pub record HasCause {T E : Type 0} (before after : ℕ) (result : Result T E) : Type 0 where
  pub later : before ≤ after
  pub failed : IsErr result → Rose before after
  pub kept : IsOk result → after ≡ before

-- the same of a call on an input and an output, of which each has its own failure
pub record BothCounted (input_failed output_failed : Type 0) (input_before input_after output_before output_after : ℕ) : Type 0 where
  pub input : Counted input_failed input_before input_after
  pub output : Counted output_failed output_before output_after
