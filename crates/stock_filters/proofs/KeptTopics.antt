-- A request that keeps the entries of its first field by their flags is the request with those topics.
use Rattle.std.proofs.Common.{◌≡◌, ◌∙◌, ap, sym, Bool, List, [], ◌∷◌, Option, Result, Ok, Err, MatchResult}
use Rattle.tree_spelling.specs.declared.edit_fault.EditFault.{EditFault}
use Rattle.tree_spelling.specs.Value.{Value, items_of}
use Rattle.tree_spelling.specs.Retaining.{value_flagged}
use Rattle.tree_spelling.specs.Body.{Contents, IsTree, HasValue, body_shape}
use Rattle.stock_filters.specs.CreateTopics.{with_value, with_flagged, with_topics}
use Rattle.stock_filters.specs.CreateTopicsTrees.{value_found}

-- the body has the items of that value
abbrev pub HasFlagged : (request new : Contents) → Result (Value (body_shape request)) EditFault → Type 0
HasFlagged request new left = MatchResult left (λ value. new ≡ record request { items = items_of (body_shape request) value }) (λ fault. ⊥)

with_left : (request new : Contents) (left : Result (Value (body_shape request)) EditFault) → HasFlagged request new left → new ≡ with_value request left
with_left request new (Ok value) h = h
with_left request new (Err fault) h = absurd h

pub kept_topics : (request new : Contents) (flags : List Bool) → IsTree request
    → ((value : Value (body_shape request)) → HasValue request value → HasFlagged request new (value_flagged (body_shape request) value (0 ∷ []) flags)) → new ≡ with_topics flags request
kept_topics request new flags tree h =
    let f = value_found (body_shape request) request.items (tree.value, tree.is) in
    with_left request new (value_flagged (body_shape request) f.value (0 ∷ []) flags) (h f.value f.items_are) ∙ ap (λ (o : Option (Value (body_shape request))). with_flagged request flags o) (sym f.is)
