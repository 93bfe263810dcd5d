-- The fields of a response in which `nodes_in` finds its addresses: the brokers of Metadata, and the one node of
-- FindCoordinator ("The Messages: Metadata API", "FindCoordinator API").
use Rattle.std.specs.Prelude.{◌≡◌, ℤ, pos, Bool, true, false, List, [], ◌∷◌, map, Option, Some, None, option_map}
use Rattle.kp_schema.specs.declared.dir.Dir.TheVariants as dir
use Rattle.kp_schema.specs.declared.kind.Kind.TheVariants as kinds
use Rattle.kp_schema.specs.Field.{is_between}
use Rattle.tree_spelling.specs.Shape.{Shape, End, Plain, Array, message_shape}
use Rattle.tree_spelling.specs.Value.{Value, items_of}
use Rattle.address_rewrite.specs.Nodes.{NodeAddress, nodes_in, map_nodes}

-- ---- Metadata

-- node_id, host, port, rack
abbrev pub broker_shape : Shape
broker_shape = Plain kinds.I32 (Plain kinds.Str (Plain kinds.I32 (Plain kinds.Str End)))

abbrev pub broker_address : Value broker_shape → NodeAddress
broker_address broker = record { node = broker.0; host = broker.1.0; port = broker.1.1.0 }

-- it with its address changed, and with the rack that it had
abbrev pub moved_broker : (NodeAddress → NodeAddress) → Value broker_shape → Value broker_shape
moved_broker change broker =
    let new = change (broker_address broker) in
    (new.node, (new.host, (new.port, broker.1.1.1)))

-- null is no broker
abbrev pub broker_addresses : Option (List (Value broker_shape)) → List NodeAddress
broker_addresses None = []
broker_addresses (Some brokers) = map broker_address brokers

-- throttle_time_ms from version 3 on; brokers; and what the version has behind them
abbrev pub metadata_shape : Bool → Shape → Shape
metadata_shape true rest = Plain kinds.I32 (Array broker_shape rest)
metadata_shape false rest = Array broker_shape rest

abbrev pub metadata_brokers : (throttle : Bool) (rest : Shape) → Value (metadata_shape throttle rest) → Option (List (Value broker_shape))
metadata_brokers true rest value = value.1.0
metadata_brokers false rest value = value.0

-- the response with each broker's address changed, and all else as it was; null stays null
abbrev pub with_moved_brokers : (change : NodeAddress → NodeAddress) (throttle : Bool) (rest : Shape) → Value (metadata_shape throttle rest) → Value (metadata_shape throttle rest)
with_moved_brokers change true rest value = (value.0, (option_map (map (moved_broker change)) value.1.0, value.1.1))
with_moved_brokers change false rest value = (option_map (map (moved_broker change)) value.0, value.1)

-- In a response to Metadata of this version the addresses are those of the brokers. Where addresses are changed these
-- are changed, and no other field is.
pub record AreOfBrokers (version : ℤ) : Type 0 where
  pub rest : Shape
  pub shape_is : message_shape (pos 3) version dir.Response ≡ metadata_shape (is_between (pos 3) (pos 8) version) rest
  pub nodes_are : (value : Value (metadata_shape (is_between (pos 3) (pos 8) version) rest))
      → nodes_in (items_of (metadata_shape (is_between (pos 3) (pos 8) version) rest) value)
      ≡ broker_addresses (metadata_brokers (is_between (pos 3) (pos 8) version) rest value)
  pub only_they_change : (change : NodeAddress → NodeAddress) (value : Value (metadata_shape (is_between (pos 3) (pos 8) version) rest))
      → map_nodes change (items_of (metadata_shape (is_between (pos 3) (pos 8) version) rest) value)
      ≡ items_of (metadata_shape (is_between (pos 3) (pos 8) version) rest) (with_moved_brokers change (is_between (pos 3) (pos 8) version) rest value)

abbrev pub metadata_versions : List ℤ
metadata_versions = pos 1 ∷ (pos 2 ∷ (pos 3 ∷ (pos 4 ∷ (pos 5 ∷ (pos 6 ∷ (pos 7 ∷ (pos 8 ∷ [])))))))

-- ---- FindCoordinator

-- node_id, host, port
abbrev pub coordinator_shape : Shape
coordinator_shape = Plain kinds.I32 (Plain kinds.Str (Plain kinds.I32 End))

abbrev pub coordinator_address : Value coordinator_shape → NodeAddress
coordinator_address node = record { node = node.0; host = node.1.0; port = node.1.1.0 }

abbrev pub moved_coordinator : (NodeAddress → NodeAddress) → Value coordinator_shape → Value coordinator_shape
moved_coordinator change node =
    let new = change (coordinator_address node) in
    (new.node, (new.host, (new.port, tt)))

-- error_code; in versions 1 and 2 throttle_time_ms in front of it, and error_message behind it; and the node
abbrev pub find_coordinator_shape : Bool → Shape
find_coordinator_shape true = Plain kinds.I32 (Plain kinds.I16 (Plain kinds.Str coordinator_shape))
find_coordinator_shape false = Plain kinds.I16 coordinator_shape

abbrev pub found_coordinator : (later : Bool) → Value (find_coordinator_shape later) → Value coordinator_shape
found_coordinator true value = value.1.1.1
found_coordinator false value = value.1

-- the response with the node's address changed, and all else as it was
abbrev pub with_moved_coordinator : (change : NodeAddress → NodeAddress) (later : Bool) → Value (find_coordinator_shape later) → Value (find_coordinator_shape later)
with_moved_coordinator change true value = (value.0, (value.1.0, (value.1.1.0, moved_coordinator change value.1.1.1)))
with_moved_coordinator change false value = (value.0, moved_coordinator change value.1)

-- In a response to FindCoordinator of this version the only address is that of the node. Where addresses are changed it
-- is changed, and no other field is.
pub record IsOfCoordinator (version : ℤ) : Type 0 where
  pub shape_is : message_shape (pos 10) version dir.Response ≡ find_coordinator_shape (is_between (pos 1) (pos 2) version)
  pub node_is : (value : Value (find_coordinator_shape (is_between (pos 1) (pos 2) version)))
      → nodes_in (items_of (find_coordinator_shape (is_between (pos 1) (pos 2) version)) value)
      ≡ coordinator_address (found_coordinator (is_between (pos 1) (pos 2) version) value) ∷ []
  pub only_it_changes : (change : NodeAddress → NodeAddress) (value : Value (find_coordinator_shape (is_between (pos 1) (pos 2) version)))
      → map_nodes change (items_of (find_coordinator_shape (is_between (pos 1) (pos 2) version)) value)
      ≡ items_of (find_coordinator_shape (is_between (pos 1) (pos 2) version)) (with_moved_coordinator change (is_between (pos 1) (pos 2) version) value)

abbrev pub coordinator_versions : List ℤ
coordinator_versions = pos 0 ∷ (pos 1 ∷ (pos 2 ∷ []))
