-- The heads of requests and responses: "Request Header v1" and "Response Header v0".
use Rattle.std.specs.Prelude.{◌≡◌, ℕ, zero, suc, ◌+◌, ◌-◌, ◌≤◌, nat_le, Bool, true, false, ℤ, pos, negsuc, FitsSigned, List, ◌++◌, length, take, drop, slice_range, Option, None, Some}
use Rattle.std.specs.Int.{w16, w32}
use Rattle.wire_types.specs.Numbers.{int16, int32, int16_at}
use Rattle.wire_types.specs.Reading.{need}
use Rattle.wire_types.specs.Strings.{string, IsString}
use Rattle.framing.specs.declared.request_head.RequestHead.{RequestHead}
use Rattle.framing.specs.declared.response_head.ResponseHead.{ResponseHead}

-- api_key INT16, api_version INT16, correlation_id INT32
abbrev pub request_start : ℤ → ℤ → ℤ → List ℕ
request_start key version correlation_id = int16 key ++ int16 version ++ int32 correlation_id

-- the start, and client_id STRING
abbrev pub request_head : RequestHead → List ℕ
request_head head = request_start head.key head.version head.correlation_id ++ string head.client_id

-- a request's frame, without its size, is this start and then this rest
pub record Starts (frame : List ℕ) (key version correlation_id : ℤ) (rest : List ℕ) : Type 0 where
  pub key_fits : FitsSigned w16 key
  pub version_fits : FitsSigned w16 version
  pub id_fits : FitsSigned w32 correlation_id
  pub spelled : frame ≡ request_start key version correlation_id ++ rest

-- it is this head and then this body
pub record IsRequest (frame : List ℕ) (head : RequestHead) (body : List ℕ) : Type 0 where
  pub starts : Starts frame head.key head.version head.correlation_id (string head.client_id ++ body)
  pub is_string : IsString head.client_id

-- whether so many bytes begin with a STRING of this length; the length -1 is null
abbrev pub fits_string : Option ℤ → ℕ → Bool
fits_string None bytes = false
fits_string (Some (pos size)) bytes = nat_le (2 + size) bytes
fits_string (Some (negsuc zero)) bytes = true
fits_string (Some (negsuc (suc below))) bytes = false

-- client_id STRING stands behind the start
abbrev pub has_client_id : List ℕ → Bool
has_client_id frame = fits_string (int16_at (drop 8 frame)) (length (drop 8 frame))

-- how many bytes the client id takes, which stands behind the correlation id
abbrev pub client_id_length : List ℕ → ℕ
client_id_length frame = need 2 (int16_at (drop 8 frame))

-- the client id as it is spelled, a STRING
abbrev pub client_id_spelled : List ℕ → List ℕ
client_id_spelled frame = take (client_id_length frame) (drop 8 frame)

-- the body of a request: what follows its client id
abbrev pub request_body : List ℕ → List ℕ
request_body frame = drop (client_id_length frame) (drop 8 frame)

-- correlation_id INT32
abbrev pub response_head : ResponseHead → List ℕ
response_head head = int32 head.correlation_id

-- a response's frame, without its size, is this head and then this body
pub record IsResponse (frame : List ℕ) (head : ResponseHead) (body : List ℕ) : Type 0 where
  pub id_fits : FitsSigned w32 head.correlation_id
  pub spelled : frame ≡ response_head head ++ body

-- a text stands in the bytes, and ends before this place
abbrev pub EndsAt : List ℕ → ℕ → Option (List ℕ) → Type 0
EndsAt bytes end None = Unit {0}
EndsAt bytes end (Some text) = (length text ≤ end) × (end ≤ length bytes) × (slice_range bytes (end - length text) end ≡ text)
