-- What the drafts come to: which fields don't fit, and which items there are.
use Rattle.std.specs.Prelude.{◌≡◌, ℕ, nat_lt, if◌then◌else◌, List, [], ◌∷◌, ◌++◌, Option, Some, None}
use Rattle.tree_spelling.specs.declared.primitive.Primitive.{Primitive}
use Rattle.tree_spelling.specs.Body.{Contents}
use Rattle.views.specs.Lengths.{first_excess}
use Rattle.views.specs.Writing.{Draft, Begun, Exceeded, Unfit}

abbrev pub least_of : ℕ → List ℕ → ℕ
least_of m [] = m
least_of m (n ∷ ns) = least_of (if nat_lt n m then n else m) ns

abbrev pub long_draft : Contents → List Primitive → Option ℕ → Draft
long_draft body items None = Begun (record body { items = body.items ++ items })
long_draft body items (Some len) = Exceeded len

-- a draft of a body with these items more, after fields with these numbers didn't fit
abbrev pub drafted : Contents → List ℕ → List Primitive → Draft
drafted body [] items = long_draft body items (first_excess items)
drafted body (m ∷ ms) items = Unfit (least_of m ms)

-- these numbers of fields, and these items, are what the step adds to each draft
abbrev pub Adds : (Draft → Draft) → List ℕ → List Primitive → Type 0
Adds f unfit more =
    (body : Contents) (ms : List ℕ) (items : List Primitive) → f (drafted body ms items) ≡ drafted body (ms ++ unfit) (items ++ more)
