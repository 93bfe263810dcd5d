-- `Addresses`: the brokers live at the proxy's address.
use Rattle.std.specs.Prelude.{ℕ, ◌+◌, ℤ, pos, negsuc, ◌-ℤ◌, Bool, false, ◌||◌, if◌then◌else◌, List, map, Option, Some, None, option_map, is_none}
use Rattle.std.specs.List.{find}
use Rattle.std.specs.Ordering.{int_eq}
use Rattle.tree_spelling.specs.declared.primitive.Primitive.{Primitive}
use Rattle.tree_spelling.specs.Body.{Contents}
use Rattle.virtual_cluster.specs.declared.plan.ClusterPlan.{ClusterPlan}
use Rattle.node_ports.specs.Ports.{place_within, node_port}
use Rattle.filter_core.specs.declared.input.Input.{Input}
use Rattle.filter_core.specs.declared.input.Input.TheVariants.{Response}
use Rattle.filter_core.specs.declared.reason.Reason.TheVariants.{NodeOutOfRange}
use Rattle.filter_core.specs.Decision.{Decision, Forward, Return, Shut, Turn}
use Rattle.filter_core.specs.TwoTurns.{two_turns, handed_back}
use Rattle.address_rewrite.specs.Nodes.{NodeAddress, nodes_in, map_nodes}

-- a response to Metadata (3) or to FindCoordinator (10)
abbrev pub names_nodes : Contents → Bool
names_nodes response = int_eq response.key (pos 3) || int_eq response.key (pos 10)

-- a negative number is no node's
abbrev pub client_port : (ℤ → Option ℕ) → ℤ → Option ℕ
client_port ports (negsuc n) = None
client_port ports (pos n) = ports (pos n)

abbrev pub moved_to : List ℕ → NodeAddress → Option ℕ → NodeAddress
moved_to host address None = address
moved_to host address (Some port) = record { node = address.node; host = Some host; port = pos port }

-- a node's address for the clients: this host, and the node's port; no node's address stays as it came
abbrev pub advertised_by : List ℕ → (ℤ → Option ℕ) → NodeAddress → NodeAddress
advertised_by host ports address = moved_to host address (client_port ports address.node)

-- a node without a port
abbrev pub is_stray : (ℤ → Option ℕ) → ℤ → Bool
is_stray ports (negsuc n) = false
is_stray ports (pos n) = is_none (ports (pos n))

abbrev pub first_stray : (ℤ → Option ℕ) → List Primitive → Option ℤ
first_stray ports items = find (is_stray ports) (map (λ (a : NodeAddress). a.node) (nodes_in items))

abbrev pub addressed : List ℕ → (ℤ → Option ℕ) → Contents → Contents
addressed host ports response = record response { items = map_nodes (advertised_by host ports) response.items }

abbrev pub unless_stray : Option ℤ → Contents → Decision
unless_stray (Some node) response = Shut (NodeOutOfRange node)
unless_stray None response = Return (Some response)

-- the first node without a port shuts; any other response goes back as it came
abbrev pub addressed_response : List ℕ → (ℤ → Option ℕ) → Contents → Decision
addressed_response host ports response =
    if names_nodes response then unless_stray (first_stray ports response.items) (addressed host ports response) else Return (Some response)

abbrev pub addressed_back : List ℕ → (ℤ → Option ℕ) → Input → Decision
addressed_back host ports (Response response) = addressed_response host ports response
addressed_back host ports input = handed_back input

-- each request goes on as it came; in what comes back for it each node lives at this host and at its port
abbrev pub addresses_by : List ℕ → (ℤ → Option ℕ) → Turn
addresses_by host ports = two_turns Forward (addressed_back host ports)

-- the same at the host that a plan advertises, and at the ports of its nodes
abbrev pub addresses : ClusterPlan → Turn
addresses plan = addresses_by plan.advertise (node_port plan)

-- port + 1 + (node - first): the ports of so many nodes behind a port
abbrev pub port_behind : ℕ → ℤ → ℕ → ℤ → Option ℕ
port_behind port first count node = option_map (λ k. port + 1 + k) (place_within count (node -ℤ first))
