-- Which fields of a Produce request `produce-all` and `topic-deny` read and change ("The Messages: Produce API").
use Rattle.std.specs.Prelude.{◌≡◌, ℕ, ℤ, pos, negsuc, Bool, false, if◌then◌else◌, List, Option, Some, None}
use Rattle.std.specs.List.{list_any}
use Rattle.std.specs.Ordering.{int_eq}
use Rattle.kp_schema.specs.declared.dir.Dir.TheVariants.{Request, Response}
use Rattle.tree_spelling.specs.declared.primitive.Primitive.{Primitive}
use Rattle.tree_spelling.specs.Shape.{message_shape}
use Rattle.tree_spelling.specs.Value.{Value, items_of}
use Rattle.tree_spelling.specs.Body.{Contents}
use Rattle.filter_core.specs.Fields.{ReadsFields}
use Rattle.filter_core.specs.ProduceFields.{asked_topic, produce_request, acks_of}
use Rattle.stock_filters.specs.Produce.{has_log_start, has_errors, produce_response}
use Rattle.stock_filters.specs.ProduceAll.{with_all_acks}
use Rattle.stock_filters.specs.TopicDeny.{is_denied_topic, is_denied, denial, denied_value}

abbrev pub produce_request_of : ℤ → List Primitive → Contents
produce_request_of version items = record { key = pos 0; version = version; dir = Request; items = items }

-- ---- `produce-all`

-- acks 1 is -1 behind it, and all else is as it was
abbrev pub acked_by_all : Value produce_request → Value produce_request
acked_by_all request = if int_eq (acks_of request) (pos 1) then (request.0, (negsuc 0, request.1.1)) else request

-- in a Produce request of this version `with_all_acks` changes the field acks alone
abbrev pub ChangesAcks : ℤ → Type 0
ChangesAcks version =
    ReadsFields (pos 0) version Request produce_request (λ items. (with_all_acks (produce_request_of version items)).items) (λ request. items_of produce_request (acked_by_all request))

-- ---- `topic-deny`

-- null is no topic's name
abbrev pub is_denied_name : List (List ℕ) → Option (List ℕ) → Bool
is_denied_name listed None = false
is_denied_name listed (Some name) = is_denied_topic listed name

-- whether the name of one of the topics is listed; null has none
abbrev pub is_any_denied : List (List ℕ) → Option (List (Value asked_topic)) → Bool
is_any_denied listed None = false
is_any_denied listed (Some topics) = list_any (λ topic. is_denied_name listed topic.0) topics

-- in a Produce request of this version `is_denied` finds the names of the topics
abbrev pub FindsListed : List (List ℕ) → ℤ → Type 0
FindsListed listed version =
    ReadsFields (pos 0) version Request produce_request (λ items. is_denied listed (produce_request_of version items)) (λ request. is_any_denied listed request.1.1.1.0)

-- The answer to a Produce request of this version has the fields of its version: those of `denied_value`, which has the
-- request's topics and partitions, each partition refused.
pub record DeniesEach (version : ℤ) : Type 0 where
  pub answer_fields_are : message_shape (pos 0) version Response ≡ produce_response (has_log_start version) (has_errors version)
  pub denies : ReadsFields (pos 0) version Request produce_request (λ items. (denial (produce_request_of version items)).items)
      (λ request. items_of (produce_response (has_log_start version) (has_errors version)) (denied_value (has_log_start version) (has_errors version) request))
