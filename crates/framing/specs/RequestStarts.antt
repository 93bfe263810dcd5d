-- The numbers that a request's frame starts with ("Request Header v1"), as functions of the frame. Of a frame that has
-- fewer than eight bytes they say nothing.
use Rattle.std.specs.Prelude.{ℕ, ℤ, List, take, drop}
use Rattle.std.specs.Int.{w16, w32, from_be_bytes, cast_signed}
use Rattle.framing.specs.CorrelationIds.{request_id}

abbrev pub request_key : List ℕ → ℤ
request_key frame = cast_signed w16 (from_be_bytes w16 (take 2 frame))

abbrev pub request_version : List ℕ → ℤ
request_version frame = cast_signed w16 (from_be_bytes w16 (take 2 (drop 2 frame)))

-- the correlation id
abbrev pub request_number : List ℕ → ℤ
request_number frame = cast_signed w32 (from_be_bytes w32 (request_id frame))
