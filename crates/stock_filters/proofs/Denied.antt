-- An answer that is pushed part by part is the whole answer.
use Rattle.std.proofs.Common.{◌≡◌, ◌∙◌, ap, ℤ, pos, Bool, List, [], ◌∷◌, ◌++◌, drop}
use Rattle.std.specs.List.{flat_map}
use Rattle.kp_schema.specs.declared.dir.Dir.TheVariants.{Response}
use Rattle.kp_schema.specs.Field.{is_between}
use Rattle.tree_spelling.specs.declared.primitive.Primitive.{Primitive}
use Rattle.tree_spelling.specs.declared.primitive.Primitive.TheVariants.{Int32}
use Rattle.tree_spelling.specs.Body.{Contents}
use Rattle.tree_codec.specs.Copying.{followed_by}
use Rattle.stock_filters.specs.Produce.{has_log_start, has_errors}
use Rattle.stock_filters.specs.TopicDeny.{denied_item, denial}

abbrev pub response_with : ℤ → List Primitive → Contents
response_with version items = record { key = pos 0; version = version; dir = Response; items = items }

abbrev throttle : List Primitive
throttle = Int32 (pos 0) ∷ []

abbrev answer : ℤ → Bool → Bool → List Primitive → Contents
answer version log_start errors items = response_with version (flat_map (denied_item log_start errors) items ++ throttle)

pub denial_built : (request begun topics whole body : Contents) (version : ℤ) (log_start errors : Bool) (items : List Primitive)
    → version ≡ request.version → log_start ≡ is_between (pos 5) (pos 8) version → errors ≡ is_between (pos 8) (pos 8) version → items ≡ drop 3 request.items
    → begun ≡ response_with version [] → topics ≡ followed_by begun (flat_map (denied_item log_start errors) items) → whole ≡ followed_by topics throttle → body ≡ whole
    → body ≡ denial request
denial_built request begun topics whole body version log_start errors items v s e i begins topics_are ends is =
    is ∙ ends ∙ ap (λ (b : Contents). followed_by b throttle) (topics_are ∙ ap (λ (b : Contents). followed_by b (flat_map (denied_item log_start errors) items)) begins)
    ∙ ap (λ b. answer version b errors items) s ∙ ap (λ b. answer version (has_log_start version) b items) e
    ∙ ap (λ z. answer z (has_log_start z) (has_errors z) items) v ∙ ap (answer request.version (has_log_start request.version) (has_errors request.version)) i
