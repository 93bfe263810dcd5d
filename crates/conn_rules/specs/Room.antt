-- Which frames find room.
use Rattle.std.specs.Prelude.{ℕ, ◌+◌, ◌==◌, nat_lt, nat_le, ◌&&◌, ◌||◌, Bool}
use Rattle.conn_rules.specs.Meaning.{Meaning}

-- the most bytes that client frames in flight have together; one frame finds room where none is held
abbrev pub most_held : ℕ
most_held = 209715200

-- whether a frame of this size has room beside so many requests in flight whose frames have so many bytes
abbrev pub has_room : (limit count held size : ℕ) → Bool
has_room limit count held size = nat_lt count limit && ((held == 0) || nat_le (held + size) most_held)

-- the same meaning, with at most so many requests in flight
abbrev pub limited : ℕ → Meaning → Meaning
limited limit M = record M { room = has_room limit }
