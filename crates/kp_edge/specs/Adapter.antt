use Rattle.std.specs.Prelude.{ℕ, Bool}

-- an input of the machine, as far as it tells: whether it gave its end, and how many reads failed
pub record AdapterIn : Type 0 where
  pub ended : Bool
  pub faults : ℕ
