-- The correlation ids of whole frames: correlation_id INT32 of "Request Header v1" and "Response Header v0".
use Rattle.std.specs.Prelude.{ℕ, ℤ, List, take, drop}
use Rattle.std.specs.Int.{w32, from_be_bytes, cast_signed}

-- the bytes of a request's, which stand behind its key and its version
abbrev pub request_id : List ℕ → List ℕ
request_id frame = take 4 (drop 4 frame)

-- the number of a response's, which stands first
abbrev pub response_id : List ℕ → ℤ
response_id frame = cast_signed w32 (from_be_bytes w32 (take 4 frame))
