-- How `plan` writes which port leads where.
use Rattle.std.specs.Prelude.{ℕ, ◌+◌, zero, suc, List, [], ◌∷◌, ◌++◌, length, codes, decimal, Option, Some, None}
use Rattle.std.specs.Fmt.{signed_decimal}
use Rattle.virtual_cluster.specs.declared.address.Address.{Address}
use Rattle.virtual_cluster.specs.declared.plan.ClusterPlan.{ClusterPlan}
use Rattle.node_ports.specs.Ports.{port_role, role_target}
use Rattle.node_ports.specs.declared.PortRole.{PortRole}
use Rattle.node_ports.specs.declared.PortRole.TheVariants.{Bootstrap, Node}

abbrev pub address_text : Address → List ℕ
address_text address = address.host ++ codes ":" ++ decimal address.port

abbrev pub role_text : PortRole → List ℕ
role_text Bootstrap = codes "bootstrap "
role_text (Node n) = codes "node " ++ signed_decimal n ++ codes " "

-- the line of a port with that role and that target
abbrev pub led_text : PortRole → ℕ → Option Address → List ℕ
led_text role port None = []
led_text role port (Some target) = role_text role ++ decimal port ++ codes " " ++ address_text target ++ codes "\n"

abbrev pub role_line : ClusterPlan → ℕ → Option PortRole → List ℕ
role_line plan port None = []
role_line plan port (Some role) = led_text role port (role_target plan role)

-- the line of a port of the plan: its role, the port, and the target
unfoldable pub port_line : ClusterPlan → ℕ → List ℕ
port_line plan port = role_line plan port (port_role plan port)

-- the lines of so many ports, from the first one on
abbrev pub port_lines : ClusterPlan → ℕ → ℕ → List ℕ
port_lines plan port zero = []
port_lines plan port (suc count) = port_line plan port ++ port_lines plan (port + 1) count

abbrev pub prefix_line : Option (List ℕ) → List ℕ
prefix_line None = []
prefix_line (Some prefix) = codes "prefix " ++ prefix ++ codes "\n"

-- the name, the prefix if there is one, the bootstrap port and a port a node
unfoldable pub plan_text : ClusterPlan → List ℕ
plan_text plan =
    codes "cluster " ++ plan.name ++ codes "\n" ++ prefix_line plan.prefix ++ port_lines plan plan.port (1 + length plan.nodes)

abbrev pub plans_text : List ClusterPlan → List ℕ
plans_text [] = []
plans_text (plan ∷ plans) = plan_text plan ++ plans_text plans
