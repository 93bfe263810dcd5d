-- What of a broker's answer to ApiVersions passes: the versions that both know ("ApiVersions Response").
use Rattle.std.specs.Prelude.{ℕ, ◌+◌, ◌*◌, ℤ, int_le, if◌then◌else◌, List, [], ◌∷◌, ◌++◌, take, drop, Option, Some, None}
use Rattle.std.specs.Option.{option_map}
use Rattle.std.specs.List.{filter_map}
use Rattle.std.specs.Ordering.{int_eq}
use Rattle.kp_schema.specs.declared.kind.Kind.TheVariants as kinds
use Rattle.kp_schema.specs.Messages.{supported_versions}
use Rattle.tree_spelling.specs.declared.primitive.Primitive.{Primitive}
use Rattle.tree_spelling.specs.declared.primitive.Primitive.TheVariants.{Int16, Count}
use Rattle.tree_spelling.specs.Shape.{Shape, End, Plain, Array}
use Rattle.tree_spelling.specs.Value.{Value}
use Rattle.tree_spelling.specs.Body.{Contents}

-- api_key INT16, min_version INT16, max_version INT16
abbrev pub entry_shape : Shape
entry_shape = Plain kinds.I16 (Plain kinds.I16 (Plain kinds.I16 End))

-- error_code INT16, an array of entries, and what the version has behind them
abbrev pub versions_shape : Shape → Shape
versions_shape rest = Plain kinds.I16 (Array entry_shape rest)

-- the least and the greatest version of the API with that key in a list of such
abbrev pub range_in : List (ℤ × ℤ × ℤ) → ℤ → Option (ℤ × ℤ)
range_in [] key = None
range_in (api ∷ apis) key = if int_eq api.0 key then Some (api.1, api.2) else range_in apis key

abbrev pub supported_range : ℤ → Option (ℤ × ℤ)
supported_range key = range_in supported_versions key

abbrev pub greater : ℤ → ℤ → ℤ
greater a b = if int_le a b then b else a

abbrev pub lesser : ℤ → ℤ → ℤ
lesser a b = if int_le a b then a else b

-- the versions from the one to the other, if there are any
abbrev pub from_to : ℤ → ℤ → Option (ℤ × ℤ)
from_to least greatest = if int_le least greatest then Some (least, greatest) else None

-- the versions that lie in both ranges, if there are any
abbrev pub known_in : Option (ℤ × ℤ) → ℤ → ℤ → Option (ℤ × ℤ)
known_in None least greatest = None
known_in (Some range) least greatest = from_to (greater least range.0) (lesser greatest range.1)

-- an entry with the versions that both know
abbrev pub narrow_entry : Value entry_shape → Option (Value entry_shape)
narrow_entry entry =
    option_map (λ (range : ℤ × ℤ). (entry.0, (range.0, (range.1, tt)))) (known_in (supported_range entry.0) entry.1.0 entry.1.1.0)

-- the response with the entries that meet, in the broker's order; null stays null
abbrev pub narrowed : (rest : Shape) → Value (versions_shape rest) → Value (versions_shape rest)
narrowed rest value = (value.0, (option_map (filter_map narrow_entry) value.1.0, value.1.1))

-- ---- the same, item by item

abbrev pub range_items : ℤ → Option (ℤ × ℤ) → List Primitive
range_items key None = []
range_items key (Some range) = Int16 key ∷ (Int16 range.0 ∷ (Int16 range.1 ∷ []))

abbrev pub range_count : Option (ℤ × ℤ) → ℕ
range_count None = 0
range_count (Some range) = 1

abbrev pub known_items : List Primitive → List Primitive
known_items (Int16 key ∷ (Int16 least ∷ (Int16 greatest ∷ items))) =
    range_items key (known_in (supported_range key) least greatest) ++ known_items items
known_items _ = []

abbrev pub known_count : List Primitive → ℕ
known_count (Int16 key ∷ (Int16 least ∷ (Int16 greatest ∷ items))) =
    range_count (known_in (supported_range key) least greatest) + known_count items
known_count _ = 0

abbrev pub narrowed_items : List Primitive → List Primitive
narrowed_items (error ∷ (Count (Some entries) ∷ items)) =
    error ∷ (Count (Some (known_count (take (entries * 3) items))) ∷ (known_items (take (entries * 3) items) ++ drop (entries * 3) items))
narrowed_items items = items

-- a response so narrowed
abbrev pub narrowed_body : Contents → Contents
narrowed_body body = record body { items = narrowed_items body.items }

-- a body with these items more at its end
abbrev pub with_items : Contents → List Primitive → Contents
with_items body items = record body { items = body.items ++ items }
