-- How the faults of plans are written.
use Rattle.std.specs.Prelude.{ℕ, List, ◌++◌, codes}
use Rattle.std.specs.Fmt.{decimal}
use Rattle.virtual_cluster.specs.declared.fault.LimitKey.{LimitKey}
use Rattle.virtual_cluster.specs.declared.fault.LimitKey.TheVariants.{Name, Listen, Advertise, FirstNode, Bootstrap, Nodes, Prefix, Filters, PolicyDeny, InFlight, Completers, Connections}
use Rattle.virtual_cluster.specs.declared.fault.PlanFault.{PlanFault}
use Rattle.virtual_cluster.specs.declared.fault.PlanFault.TheVariants.{BadLimit, PortRange, NameTwice, PortClash, PrefixClash, NoMemory}

-- the key in the configuration
abbrev pub limit_word : LimitKey → List ℕ
limit_word Name = codes "name"
limit_word Listen = codes "listen"
limit_word Advertise = codes "advertise"
limit_word FirstNode = codes "first_node"
limit_word Bootstrap = codes "bootstrap"
limit_word Nodes = codes "nodes"
limit_word Prefix = codes "prefix"
limit_word Filters = codes "filters"
limit_word PolicyDeny = codes "policy_deny"
limit_word InFlight = codes "in_flight"
limit_word Completers = codes "completers"
limit_word Connections = codes "connections"

-- its words, and the numbers of the plans
abbrev pub plan_fault_text : PlanFault → List ℕ
plan_fault_text (BadLimit a key) = codes "bad-limit " ++ decimal a ++ codes " " ++ limit_word key
plan_fault_text (PortRange a) = codes "port-range " ++ decimal a
plan_fault_text (NameTwice a b) = codes "name-twice " ++ decimal a ++ codes " " ++ decimal b
plan_fault_text (PortClash a b) = codes "port-clash " ++ decimal a ++ codes " " ++ decimal b
plan_fault_text (PrefixClash a b) = codes "prefix-clash " ++ decimal a ++ codes " " ++ decimal b
plan_fault_text NoMemory = codes "no-memory"
