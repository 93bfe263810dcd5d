-- The limits of one plan.
use Rattle.std.specs.Prelude.{◌≡◌, ℕ, ◌+◌, ◌==◌, nat_le, Bool, true, false, not, ◌&&◌, ◌||◌, ℤ, pos, negsuc, List, [], ◌∷◌, length, Option, None, option_map}
use Rattle.std.specs.Option.{option_map_or}
use Rattle.std.specs.List.{list_all, find}
use Rattle.virtual_cluster.specs.declared.address.Address.{Address}
use Rattle.virtual_cluster.specs.declared.plan.ClusterPlan.{ClusterPlan}
use Rattle.virtual_cluster.specs.declared.fault.LimitKey.{LimitKey}
use Rattle.virtual_cluster.specs.declared.fault.LimitKey.TheVariants.{Name, Listen, Advertise, FirstNode, Bootstrap, Nodes, Prefix, Filters, PolicyDeny, InFlight, Completers, Connections}

-- from the first number to the second
abbrev pub is_in_range : ℕ → ℕ → ℕ → Bool
is_in_range least most n = nat_le least n && nat_le n most

-- an ASCII letter or digit, a dot, an underscore or a minus
abbrev pub is_label_byte : ℕ → Bool
is_label_byte b =
    ((((is_in_range 97 122 b || is_in_range 65 90 b) || is_in_range 48 57 b) || b == 46) || b == 95) || b == 45

-- the name of a cluster, or a prefix: 1 to 64 such bytes
unfoldable pub is_label : List ℕ → Bool
is_label name = is_in_range 1 64 (length name) && list_all is_label_byte name

-- neither a colon nor a space or a control byte
abbrev pub is_host_byte : ℕ → Bool
is_host_byte b = nat_le 33 b && not (b == 58)

-- a host: 1 to 255 such bytes
unfoldable pub is_host : List ℕ → Bool
is_host host = is_in_range 1 255 (length host) && list_all is_host_byte host

-- 0 to 2,147,483,000
abbrev pub is_first_node : ℤ → Bool
is_first_node (pos n) = nat_le n 2147483000
is_first_node (negsuc n) = false

-- 1 to 64 nodes, each at a host
unfoldable pub are_nodes : List Address → Bool
are_nodes nodes = is_in_range 1 64 (length nodes) && list_all (λ node. is_host node.host) nodes

-- at most 1,024 names, each of 1 to 249 bytes
unfoldable pub are_denied : List (List ℕ) → Bool
are_denied names = nat_le (length names) 1024 && list_all (λ name. is_in_range 1 249 (length name)) names

-- each key, and whether its limit is kept
abbrev pub limits : ClusterPlan → List (LimitKey × Bool)
limits plan =
    (Name, is_label plan.name)
    ∷ (Listen, is_host plan.listen)
    ∷ (Advertise, is_host plan.advertise)
    ∷ (FirstNode, is_first_node plan.first_node)
    ∷ (Bootstrap, is_host plan.bootstrap.host)
    ∷ (Nodes, are_nodes plan.nodes)
    ∷ (Prefix, option_map_or is_label plan.prefix true)
    ∷ (Filters, nat_le (length plan.filters) 8)
    ∷ (PolicyDeny, are_denied plan.policy_deny)
    ∷ (InFlight, is_in_range 1 64 plan.in_flight)
    ∷ (Completers, is_in_range 1 4 plan.completers)
    ∷ (Connections, is_in_range 1 1024 plan.connections)
    ∷ []

-- the key of the first limit that isn't kept
abbrev pub first_broken : List (LimitKey × Bool) → Option LimitKey
first_broken checks = option_map (λ check. check.0) (find (λ check. not check.1) checks)

unfoldable pub broken_limit : ClusterPlan → Option LimitKey
broken_limit plan = first_broken (limits plan)

-- the last port: one for each node follows the bootstrap port
abbrev pub last_port : ClusterPlan → ℕ
last_port plan = plan.port + length plan.nodes

-- all ports are TCP ports
abbrev pub has_ports : ClusterPlan → Bool
has_ports plan = nat_le 1 plan.port && nat_le (last_port plan) 65535

-- a plan that has no fault by itself
pub record IsValid (plan : ClusterPlan) : Type 0 where
  pub within_limits : broken_limit plan ≡ None
  pub has_its_ports : has_ports plan ≡ true
