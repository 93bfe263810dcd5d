-- A message whose addresses are changed stays a message of its fields. It stands here, and not among the proofs, since
-- the filter cites it as it is declared.
use Rattle.std.specs.Prelude.{◌≡◌, List, [], ◌∷◌, ◌++◌, Some, None}
use Rattle.std.specs.Option.{option_and_then}
use Rattle.std.proofs.Common.{refl, sym, ap, ◌∙◌}
use Rattle.tree_spelling.specs.declared.primitive.Primitive.{Primitive}
use Rattle.tree_spelling.specs.declared.primitive.Primitive.TheVariants.{Int32, Text}
use Rattle.tree_spelling.specs.Spelling.{AreInRange}
use Rattle.tree_spelling.specs.Shape.{Shape}
use Rattle.tree_spelling.specs.Agenda.{passed}
use Rattle.tree_spelling.specs.Body.{Contents, IsTree, body_shape}
use Rattle.tree_spelling.proofs.Coming.{value_of, passed-append}
use Rattle.tree_spelling.proofs.Blanks.{whole_passes}
use Rattle.tree_codec.proofs.Edits.{passed_same}
use Rattle.address_rewrite.specs.Nodes.{NodeAddress, address_items, map_nodes}

-- ---- the same fields come

abbrev SamePassed : List Primitive → List Primitive → Type 0
SamePassed xs ys = (t : List Shape) → passed t xs ≡ passed t ys

behind_same : (front xs ys : List Primitive) → SamePassed xs ys → SamePassed (front ++ xs) (front ++ ys)
behind_same front xs ys same t =
    passed-append t front xs
    ∙ (elim (passed t front) as (λ o. option_and_then (λ u. passed u xs) o ≡ option_and_then (λ u. passed u ys) o) [
      | None ↦ refl
      | Some u ↦ same u
    ])
    ∙ sym (passed-append t front ys)

one_address : (old new : NodeAddress) (items : List Primitive) → SamePassed (address_items new ++ items) (address_items old ++ items)
one_address old new items t =
    passed_same t [] (Text new.host ∷ (Int32 new.port ∷ items)) (Int32 new.node) (Int32 old.node) refl (λ e. absurd cc)
    ∙ passed_same t (Int32 old.node ∷ []) (Int32 new.port ∷ items) (Text new.host) (Text old.host) refl (λ e. absurd cc)
    ∙ passed_same t (Int32 old.node ∷ (Text old.host ∷ [])) items (Int32 new.port) (Int32 old.port) refl (λ e. absurd cc)

mapped_passes : (change : NodeAddress → NodeAddress) (items : List Primitive) → SamePassed (map_nodes change items) items
mapped_passes change (Int32 node ∷ (Text host ∷ (Int32 port ∷ items))) t =
    let old : NodeAddress = record { node = node; host = host; port = port } in
    one_address old (change old) (map_nodes change items) t
    ∙ behind_same (address_items old) (map_nodes change items) items (mapped_passes change items) t
mapped_passes change (item ∷ items) t = behind_same (item ∷ []) (map_nodes change items) items (mapped_passes change items) t
mapped_passes change [] t = refl

-- ---- in range

abbrev pub AddressFits : NodeAddress → Type 0
AddressFits address = AreInRange (address_items address)

mapped_fits : (change : NodeAddress → NodeAddress) → ((address : NodeAddress) → AddressFits address → AddressFits (change address))
    → (items : List Primitive) → AreInRange items → AreInRange (map_nodes change items)
mapped_fits change fits (Int32 node ∷ (Text host ∷ (Int32 port ∷ items))) h =
    let new = fits (record { node = node; host = host; port = port }) (h.0, (h.1.0, (h.1.1.0, tt))) in
    (new.0, (new.1.0, (new.1.1.0, mapped_fits change fits items h.1.1.1)))
mapped_fits change fits (item ∷ items) h = (h.0, mapped_fits change fits items h.1)
mapped_fits change fits [] h = tt

-- ---- the whole message

pub mapped_tree : (change : NodeAddress → NodeAddress) → ((address : NodeAddress) → AddressFits address → AddressFits (change address))
    → (message : Contents) → IsTree message → IsTree (record message { items = map_nodes change message.items })
mapped_tree change fits message tree =
    let shape = body_shape message in
    let come : passed (shape ∷ []) (map_nodes change message.items) ≡ Some [] =
    mapped_passes change message.items (shape ∷ []) ∙ ap (passed (shape ∷ [])) tree.is ∙ whole_passes shape tree.value in
    let v = value_of shape (map_nodes change message.items) come in
    record { value = v.0; is = sym v.1; in_range = mapped_fits change fits message.items tree.in_range }
