-- What requests mean under the plan of a cluster, and the plan of `replay` where no configuration is named.
use Rattle.std.specs.Prelude.{pos, List, [], ◌∷◌, codes, None}
use Rattle.virtual_cluster.specs.declared.address.Address.{Address}
use Rattle.virtual_cluster.specs.declared.plan.ClusterPlan.{ClusterPlan}
use Rattle.conn_rules.specs.Meaning.{Meaning}
use Rattle.conn_core.specs.Chained.{chained}
use Rattle.any_filter.specs.Chains.{cluster_chain}

-- the chain of its filters, and how many requests may be in flight
abbrev pub cluster_meaning : ClusterPlan → Meaning
cluster_meaning plan = chained (cluster_chain plan) plan.in_flight

-- the one broker
abbrev pub default_broker : Address
default_broker = record { host = codes "localhost"; port = 9092 }

abbrev pub default_plan : ClusterPlan
default_plan =
    record {
      name = codes "default";
      listen = codes "localhost";
      advertise = codes "localhost";
      port = 19092;
      first_node = pos 0;
      bootstrap = default_broker;
      nodes = default_broker ∷ [];
      prefix = None;
      filters = [];
      policy_deny = [];
      in_flight = 16;
      completers = 2;
      connections = 64;
    }

abbrev pub default_meaning : Meaning
default_meaning = cluster_meaning default_plan
