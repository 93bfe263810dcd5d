-- Produce requests and responses, as filters read and answer them ("The Messages: Produce API").
use Rattle.std.specs.Prelude.{◌≡◌, ◌⊎◌, ℤ, pos, Bool, true, false, ◌&&◌}
use Rattle.std.specs.Ordering.{int_eq}
use Rattle.std.proofs.Common.{refl, inl, inr}
use Rattle.kp_schema.specs.declared.dir.Dir.{Dir}
use Rattle.kp_schema.specs.declared.dir.Dir.TheVariants.{Request, Response}
use Rattle.kp_schema.specs.declared.kind.Kind.TheVariants as kinds
use Rattle.kp_schema.specs.Field.{is_between}
use Rattle.kp_schema.specs.Messages.{fields_of, messages}
use Rattle.kp_schema.specs.Produce.{request, response}
use Rattle.tree_spelling.specs.Shape.{Shape, End, Plain, Array, message_shape}
use Rattle.tree_spelling.specs.Body.{Contents}
use Rattle.filter_core.specs.ProduceFields.{produce_request}

abbrev pub is_request : Dir → Bool
is_request Request = true
is_request Response = false

-- whether a message is a Produce request
abbrev pub is_produce : Contents → Bool
is_produce message = int_eq message.key (pos 0) && is_request message.dir

-- ---- the response

-- the versions with log_start_offset, and those with record_errors and error_message
abbrev pub has_log_start : ℤ → Bool
has_log_start version = is_between (pos 5) (pos 8) version

abbrev pub has_errors : ℤ → Bool
has_errors version = is_between (pos 8) (pos 8) version

abbrev pub log_start_shape : Bool → Shape → Shape
log_start_shape true rest = Plain kinds.I64 rest
log_start_shape false rest = rest

-- record_errors with batch_index and message; error_message
abbrev pub errors_shape : Bool → Shape
errors_shape true = Array (Plain kinds.I32 (Plain kinds.Str End)) (Plain kinds.Str End)
errors_shape false = End

-- index, error_code, base_offset, log_append_time_ms, and what the version has behind them
abbrev pub answered_partition : Bool → Bool → Shape
answered_partition log_start errors =
    Plain kinds.I32 (Plain kinds.I16 (Plain kinds.I64 (Plain kinds.I64 (log_start_shape log_start (errors_shape errors)))))

-- name, partitions
abbrev pub answered_topic : Bool → Bool → Shape
answered_topic log_start errors = Plain kinds.Str (Array (answered_partition log_start errors) End)

-- topics, throttle_time_ms
abbrev pub produce_response : Bool → Bool → Shape
produce_response log_start errors = Array (answered_topic log_start errors) (Plain kinds.I32 End)

-- ---- the table has these shapes

-- a version that isn't read has no fields
abbrev pub IsRequestShape : ℤ → Shape → Type 0
IsRequestShape version shape = ((is_between (pos 3) (pos 8) version ≡ true) × (shape ≡ produce_request)) ⊎ (shape ≡ End)

request_by : (version : ℤ) (b : Bool) → is_between (pos 3) (pos 8) version ≡ b → IsRequestShape version (message_shape (pos 0) version Request)
unfolding fields_of messages request
request_by version true is = inl (is, rw is refl)
request_by version false is = inr (rw is refl)

pub request_shape : (version : ℤ) → IsRequestShape version (message_shape (pos 0) version Request)
request_shape version = request_by version (is_between (pos 3) (pos 8) version) refl

response_by : (version : ℤ) (log_start errors : Bool) → is_between (pos 5) (pos 8) version ≡ log_start → is_between (pos 8) (pos 8) version ≡ errors
    → is_between (pos 3) (pos 8) version ≡ true → message_shape (pos 0) version Response ≡ produce_response log_start errors
unfolding fields_of messages response
response_by version true true s e is = rw (s, e, is) refl
response_by version true false s e is = rw (s, e, is) refl
response_by version false true s e is = rw (s, e, is) refl
response_by version false false s e is = rw (s, e, is) refl

pub response_shape : (version : ℤ) → is_between (pos 3) (pos 8) version ≡ true → message_shape (pos 0) version Response ≡ produce_response (has_log_start version) (has_errors version)
response_shape version is = response_by version (has_log_start version) (has_errors version) refl refl is
