-- Where the nodes of a cluster are, as its brokers say ("The Messages: Metadata API", "FindCoordinator API").
use Rattle.std.specs.Prelude.{ℕ, ℤ, List, [], ◌∷◌, ◌++◌, Option, Some, None}
use Rattle.tree_spelling.specs.declared.primitive.Primitive.{Primitive}
use Rattle.tree_spelling.specs.declared.primitive.Primitive.TheVariants.{Int32, Text}

-- a node's id, its host and its port
pub record NodeAddress : Type 0 where
  pub node : ℤ
  pub host : Option (List ℕ)
  pub port : ℤ

-- as three items of a message
abbrev pub address_items : NodeAddress → List Primitive
address_items address = Int32 address.node ∷ (Text address.host ∷ (Int32 address.port ∷ []))

-- The addresses in a response to Metadata or to FindCoordinator, in reading order. Of their fields only a node's
-- id, host and port are a number, a text and a number side by side, each in four bytes but the text.
abbrev pub nodes_in : List Primitive → List NodeAddress
nodes_in (Int32 node ∷ (Text host ∷ (Int32 port ∷ items))) = record { node = node; host = host; port = port } ∷ nodes_in items
nodes_in (item ∷ items) = nodes_in items
nodes_in [] = []

-- the items with each address changed, and all else as it was
abbrev pub map_nodes : (NodeAddress → NodeAddress) → List Primitive → List Primitive
map_nodes change (Int32 node ∷ (Text host ∷ (Int32 port ∷ items))) =
    address_items (change (record { node = node; host = host; port = port })) ++ map_nodes change items
map_nodes change (item ∷ items) = item ∷ map_nodes change items
map_nodes change [] = []

-- the address that items begin with
abbrev pub leading_node : List Primitive → Option NodeAddress
leading_node (Int32 node ∷ (Text host ∷ (Int32 port ∷ items))) = Some (record { node = node; host = host; port = port })
leading_node items = None
