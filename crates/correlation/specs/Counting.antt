-- How many of the sends that weren't taken get a response.
use Rattle.std.specs.Prelude.{ℕ, suc, if◌then◌else◌, List, [], ◌∷◌}
use Rattle.correlation.specs.declared.sends.Unsent.{Unsent}

abbrev pub responding_count : List Unsent → ℕ
responding_count [] = 0
responding_count (u ∷ us) = if u.silent then responding_count us else suc (responding_count us)
