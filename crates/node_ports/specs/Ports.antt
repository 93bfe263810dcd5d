-- The ports of a plan.
use Rattle.std.specs.Prelude.{ℕ, zero, suc, ◌+◌, ◌-◌, nat_lt, ℤ, pos, negsuc, ◌+ℤ◌, ◌-ℤ◌, length, slice_get, Option, Some, None, option_map, option_and_then, if◌then◌else◌}
use Rattle.virtual_cluster.specs.declared.address.Address.{Address}
use Rattle.virtual_cluster.specs.declared.plan.ClusterPlan.{ClusterPlan}
use Rattle.node_ports.specs.declared.PortRole.{PortRole}
use Rattle.node_ports.specs.declared.PortRole.TheVariants.{Bootstrap, Node}

-- a distance that is one of so many places
abbrev pub place_within : ℕ → ℤ → Option ℕ
place_within count (pos k) = if nat_lt k count then Some k else None
place_within count (negsuc k) = None

-- how far a node of the plan is behind the first one
abbrev pub node_index : ClusterPlan → ℤ → Option ℕ
node_index plan node = place_within (length plan.nodes) (node -ℤ plan.first_node)

-- port + 1 + (node - first_node)
abbrev pub node_port : ClusterPlan → ℤ → Option ℕ
node_port plan node = option_map (λ k. plan.port + 1 + k) (node_index plan node)

-- so far behind the bootstrap port: the port itself, the nodes, and nothing
abbrev pub role_behind : ClusterPlan → ℕ → Option PortRole
role_behind plan zero = Some Bootstrap
role_behind plan (suc k) = if nat_lt k (length plan.nodes) then Some (Node (plan.first_node +ℤ pos k)) else None

abbrev pub port_role : ClusterPlan → ℕ → Option PortRole
port_role plan port = if nat_lt port plan.port then None else role_behind plan (port - plan.port)

-- the address behind a role
abbrev pub role_target : ClusterPlan → PortRole → Option Address
role_target plan Bootstrap = Some plan.bootstrap
role_target plan (Node node) = option_and_then (λ k. slice_get plan.nodes k) (node_index plan node)
