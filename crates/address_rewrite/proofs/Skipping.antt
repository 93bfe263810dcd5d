-- Items that begin with no node's address are passed over one at a time.
use Rattle.std.proofs.Common.{◌≡◌, ◌∙◌, ap, refl, append_assoc, List, ◌∷◌, ◌++◌, None}
use Rattle.tree_spelling.specs.declared.primitive.Primitive.{Primitive}
use Rattle.tree_spelling.specs.declared.primitive.Primitive.TheVariants.{Int32, Text}
use Rattle.tree_spelling.specs.Body.{Contents}
use Rattle.tree_codec.specs.Copying.{followed_by}
use Rattle.address_rewrite.specs.Nodes.{NodeAddress, map_nodes, leading_node}

pub mapped_behind : (change : NodeAddress → NodeAddress) (item : Primitive) (items : List Primitive) → leading_node (item ∷ items) ≡ None → map_nodes change (item ∷ items) ≡ item ∷ map_nodes change items
mapped_behind change (Int32 node) (Text host ∷ (Int32 port ∷ items)) none = absurd cc
mapped_behind change item items none = refl

-- after some items were put, the others are what is missing
pub after_some : (before after whole : Contents) (some more : List Primitive) → after ≡ followed_by before some → followed_by before (some ++ more) ≡ whole → followed_by after more ≡ whole
after_some before after whole some more put is =
    ap (λ b. followed_by b more) put ∙ ap (λ xs. record before { items = xs }) (append_assoc before.items some more) ∙ is
