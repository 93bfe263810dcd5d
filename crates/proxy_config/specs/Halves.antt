-- What the table of a cluster gives, in two halves, as private functions read it.
use Rattle.std.specs.Prelude.{ℕ, pos, List, [], ◌∷◌, Option, None}
use Rattle.std.specs.Result.{result_err}
use Rattle.toml.specs.Data.{Members}
use Rattle.virtual_cluster.specs.declared.plan.ClusterPlan.{ClusterPlan}
use Rattle.proxy_config.specs.Values.{Given}
use Rattle.proxy_config.specs.Meant.{unless, first_fault, value_or, given_name, given_listen, given_advertise, given_port, given_first_node, given_bootstrap, given_nodes, given_prefix, given_filters, given_policy_deny, given_in_flight, given_completers, given_connections}
use Rattle.proxy_config.specs.declared.fault.ConfigFault.{ConfigFault}
use Rattle.proxy_config.specs.declared.cluster.Needed.{Needed}
use Rattle.proxy_config.specs.declared.cluster.Options.{Options}

module _ (n : ℕ) (t : Members) where
  -- the keys that have to be there
  abbrev pub needed_checks : List (Option ConfigFault)
  needed_checks =
      result_err (given_name n t)
      ∷ result_err (given_listen n t)
      ∷ result_err (given_advertise n t)
      ∷ result_err (given_port n t)
      ∷ result_err (given_first_node n t)
      ∷ result_err (given_bootstrap n t)
      ∷ result_err (given_nodes n t)
      ∷ []

  abbrev pub needed_values : Needed
  needed_values = record {
    name = value_or [] (given_name n t);
    listen = value_or [] (given_listen n t);
    advertise = value_or [] (given_advertise n t);
    port = value_or 0 (given_port n t);
    first_node = value_or (pos 0) (given_first_node n t);
    bootstrap = value_or (record { host = []; port = 0 }) (given_bootstrap n t);
    nodes = value_or [] (given_nodes n t);
  }

  unfoldable pub needed_of : Given Needed
  needed_of = unless (first_fault needed_checks) needed_values

  -- those that may be missing
  abbrev pub option_checks : List (Option ConfigFault)
  option_checks =
      result_err (given_prefix n t)
      ∷ result_err (given_filters n t)
      ∷ result_err (given_policy_deny n t)
      ∷ result_err (given_in_flight n t)
      ∷ result_err (given_completers n t)
      ∷ result_err (given_connections n t)
      ∷ []

  abbrev pub option_values : Options
  option_values = record {
    prefix = value_or None (given_prefix n t);
    filters = value_or [] (given_filters n t);
    policy_deny = value_or [] (given_policy_deny n t);
    in_flight = value_or 0 (given_in_flight n t);
    completers = value_or 0 (given_completers n t);
    connections = value_or 0 (given_connections n t);
  }

  unfoldable pub options_of : Given Options
  options_of = unless (first_fault option_checks) option_values

-- a plan of both
abbrev pub joined_plan : Needed → Options → ClusterPlan
joined_plan a b = record {
  name = a.name;
  listen = a.listen;
  advertise = a.advertise;
  port = a.port;
  first_node = a.first_node;
  bootstrap = a.bootstrap;
  nodes = a.nodes;
  prefix = b.prefix;
  filters = b.filters;
  policy_deny = b.policy_deny;
  in_flight = b.in_flight;
  completers = b.completers;
  connections = b.connections;
}
