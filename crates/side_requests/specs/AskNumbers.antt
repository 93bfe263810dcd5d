-- How often a request may ask the world outside.
use Rattle.std.specs.Prelude.{ℕ, suc, ◌+◌, nat_lt, if◌then◌else◌, Option, Some, None}

-- a request is given at most this much from outside: answers of the broker, that there is none, and verdicts
abbrev pub ask_limit : ℕ
ask_limit = 64

-- the number of the next ask after so many, if it may be asked
abbrev pub ask_number : ℕ → Option ℕ
ask_number asked = if nat_lt asked ask_limit then Some asked else None

-- how many were asked behind it
abbrev pub asked_then : ℕ → ℕ
asked_then asked = if nat_lt asked ask_limit then asked + 1 else asked
