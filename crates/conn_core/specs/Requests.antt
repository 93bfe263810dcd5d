-- What a client's frame is: a request with a body, a question for the known versions, or no request. Its body is read by the
-- table of messages.
use Rattle.std.specs.Prelude.{ℕ, ◌&&◌, not, Bool, if◌then◌else◌, List, [], ◌++◌, take, drop, Option, Some, None, ℤ}
use Rattle.std.specs.Ordering.{int_eq}
use Rattle.kp_edge.specs.declared.end.End.{End}
use Rattle.kp_edge.specs.declared.end.End.TheVariants as end
use Rattle.kp_schema.specs.declared.dir.Dir.TheVariants as dir
use Rattle.kp_schema.specs.Messages.{is_supported}
use Rattle.tree_spelling.specs.declared.primitive.Primitive.{Primitive}
use Rattle.tree_spelling.specs.Shape.{message_shape}
use Rattle.tree_spelling.specs.Body.{Contents}
use Rattle.tree_spelling.specs.Decoded.{Decoded, decoded, AllItems, BadAt, TooManyAt}
use Rattle.framing.specs.Frames.{sized}
use Rattle.framing.specs.CorrelationIds.{request_id}
use Rattle.framing.specs.RequestStarts.{request_key, request_version}
use Rattle.framing.specs.Heads.{has_client_id, request_body}
use Rattle.api_versions.specs.Refusal.{api_versions_key, refusal_body}
use Rattle.filter_core.specs.Acks.{has_acks_zero}

-- ---- the parts of a frame

-- what it is decoded to, as the body of its own key and version
abbrev pub request_decoded : List ℕ → Decoded
request_decoded frame = decoded (message_shape (request_key frame) (request_version frame) dir.Request) (request_body frame)

-- the items that bytes were decoded to; bytes that can't be read have none
abbrev pub items_read : Decoded → List Primitive
items_read (AllItems items) = items
items_read (BadAt place) = []
items_read (TooManyAt place) = []

-- the request without its header, as filters see it
abbrev pub request_of : List ℕ → Contents
request_of frame = record { key = request_key frame; version = request_version frame; dir = dir.Request; items = items_read (request_decoded frame) }

-- a Produce with acks 0 gets no response
abbrev pub is_silent : List ℕ → Bool
is_silent frame = has_acks_zero (request_of frame)

-- ---- what is a request

-- Who asks for ApiVersions in a version that isn't supported is told at once which ones are known. No more of such a frame is
-- read than its first eight bytes.
abbrev pub is_told_versions : List ℕ → Bool
is_told_versions frame = int_eq (request_key frame) api_versions_key && not (is_supported (request_key frame) (request_version frame))

-- the refusal of ApiVersions under the client's own correlation id
abbrev pub versions_told : List ℕ → List ℕ
versions_told frame = sized (request_id frame ++ refusal_body)

-- Why a body ends the connection, by the number of its request. The place counts from the body's first byte.
abbrev pub body_cause : ℤ → ℤ → Decoded → Option (ℕ → End)
body_cause key version (AllItems items) = None
body_cause key version (BadAt place) = Some (λ k. end.BadBody k key version place)
body_cause key version (TooManyAt place) = Some (λ k. end.TooManyEntries k place)

-- why a frame is no request, by the number that it would have
abbrev pub frame_cause : List ℕ → Option (ℕ → End)
frame_cause frame =
    if is_told_versions frame then None
    else if not (is_supported (request_key frame) (request_version frame)) then Some (λ k. end.UnsupportedApi k (request_key frame) (request_version frame))
    else if not (has_client_id frame) then Some (λ k. end.BadHead k)
    else body_cause (request_key frame) (request_version frame) (request_decoded frame)

-- ---- what is an answer

-- what the body of a response is decoded to; `key` and `version` are those of the message that the broker was sent
abbrev pub response_decoded : ℤ → ℤ → List ℕ → Decoded
response_decoded key version body = decoded (message_shape key version dir.Response) body

-- why it can't be read
abbrev pub answer_cause : ℤ → ℤ → Decoded → Option (ℕ → End)
answer_cause key version (AllItems items) = None
answer_cause key version (BadAt place) = Some (λ k. end.BrokerBadBody k key version)
answer_cause key version (TooManyAt place) = Some (λ k. end.BrokerBadBody k key version)

-- the same by what stands before the correlation id of the message that it answers
abbrev pub answer_decoded : List ℕ → List ℕ → Decoded
answer_decoded before body = response_decoded (request_key before) (request_version before) body

-- the response to a message without its header, as filters see it
abbrev pub response_read : Contents → List ℕ → Contents
response_read message body = record { key = message.key; version = message.version; dir = dir.Response; items = items_read (response_decoded message.key message.version body) }
