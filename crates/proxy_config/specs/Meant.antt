-- What a configuration means: its plans, or its first fault. docs/CONFIG.md has the same in words.
use Rattle.std.specs.Prelude.{◌≡◌, ℕ, ◌+◌, ℤ, pos, List, [], ◌∷◌, ◌++◌, codes, if◌then◌else◌, Option, Some, None, option_map, unwrap_or, Result, Ok, Err, ◌⊎◌}
use Rattle.std.specs.Option.{option_or}
use Rattle.std.specs.List.{list_any}
use Rattle.std.specs.Result.{result_ok, result_err}
use Rattle.std.specs.Str.{is_utf8, bytes_eq}
use Rattle.toml.specs.Data.{Data, Items, no_items, item, Members, no_members, member, as_table}
use Rattle.toml.specs.Parse.{parse_document}
use Rattle.virtual_cluster.specs.Pairs.{plans_fault}
use Rattle.virtual_cluster.specs.declared.address.Address.{Address}
use Rattle.virtual_cluster.specs.declared.plan.ClusterPlan.{ClusterPlan}
use Rattle.virtual_cluster.specs.declared.filter_plan.FilterPlan.{FilterPlan}
use Rattle.proxy_config.specs.Values.{Given, text_value, natural_in, int32_value, version_in, address_in, some_text_in, texts_in, addresses_in, filters_in, tables_in, required, optional}
use Rattle.proxy_config.specs.declared.fault.ConfigFault.{ConfigFault}
use Rattle.proxy_config.specs.declared.fault.ConfigFault.TheVariants.{NotToml, UnknownKey, Plan, NoMemory}
use Rattle.proxy_config.specs.declared.fault.Place.{Place}

-- the keys of a cluster, and those of the file
abbrev pub cluster_keys : List (List ℕ)
cluster_keys =
    codes "name" ∷ codes "listen" ∷ codes "advertise" ∷ codes "port" ∷ codes "first_node" ∷ codes "bootstrap" ∷ codes "nodes"
    ∷ codes "prefix" ∷ codes "filters" ∷ codes "policy_deny" ∷ codes "in_flight" ∷ codes "completers" ∷ codes "connections" ∷ []

abbrev pub keys_of : Option ℕ → List (List ℕ)
keys_of None = codes "version" ∷ codes "cluster" ∷ []
keys_of (Some n) = cluster_keys

-- a key of the file, or of cluster n
abbrev pub key_place : Option ℕ → List ℕ → Place
key_place cluster key = record { cluster = cluster; key = key }

-- the first key of a table that isn't among these; a table has its keys in byte order
abbrev pub first_unknown : List (List ℕ) → Members → Option (List ℕ)
first_unknown keys no_members = None
first_unknown keys (member k d rest) = if list_any (bytes_eq k) keys then first_unknown keys rest else Some k

unfoldable pub unknown_key : Option ℕ → Members → Option ConfigFault
unknown_key cluster t = option_map (λ key. UnknownKey (key_place cluster key)) (first_unknown (keys_of cluster) t)

-- the value that is given, where one is
abbrev pub value_or : {A : Type 0} → A → Given A → A
value_or d given = unwrap_or (result_ok given) d

-- What the table of cluster n gives for each of its keys.
module _ (n : ℕ) (t : Members) where
  abbrev pub given_name : Given (List ℕ)
  given_name = required text_value (key_place (Some n) (codes "name")) t

  abbrev pub given_listen : Given (List ℕ)
  given_listen = required text_value (key_place (Some n) (codes "listen")) t

  abbrev pub given_advertise : Given (List ℕ)
  given_advertise = required text_value (key_place (Some n) (codes "advertise")) t

  abbrev pub given_port : Given ℕ
  given_port = required (natural_in 65535) (key_place (Some n) (codes "port")) t

  abbrev pub given_first_node : Given ℤ
  given_first_node = required int32_value (key_place (Some n) (codes "first_node")) t

  abbrev pub given_bootstrap : Given Address
  given_bootstrap = required address_in (key_place (Some n) (codes "bootstrap")) t

  abbrev pub given_nodes : Given (List Address)
  given_nodes = required addresses_in (key_place (Some n) (codes "nodes")) t

  abbrev pub given_prefix : Given (Option (List ℕ))
  given_prefix = optional None some_text_in (key_place (Some n) (codes "prefix")) t

  abbrev pub given_filters : Given (List FilterPlan)
  given_filters = optional [] filters_in (key_place (Some n) (codes "filters")) t

  abbrev pub given_policy_deny : Given (List (List ℕ))
  given_policy_deny = optional [] texts_in (key_place (Some n) (codes "policy_deny")) t

  abbrev pub given_in_flight : Given ℕ
  given_in_flight = optional 16 (natural_in 4294967295) (key_place (Some n) (codes "in_flight")) t

  abbrev pub given_completers : Given ℕ
  given_completers = optional 2 (natural_in 4294967295) (key_place (Some n) (codes "completers")) t

  abbrev pub given_connections : Given ℕ
  given_connections = optional 64 (natural_in 4294967295) (key_place (Some n) (codes "connections")) t

  -- what may be amiss with it, in order
  abbrev pub cluster_checks : List (Option ConfigFault)
  cluster_checks =
      result_err given_name
      ∷ result_err given_listen
      ∷ result_err given_advertise
      ∷ result_err given_port
      ∷ result_err given_first_node
      ∷ result_err given_bootstrap
      ∷ result_err given_nodes
      ∷ result_err given_prefix
      ∷ result_err given_filters
      ∷ result_err given_policy_deny
      ∷ result_err given_in_flight
      ∷ result_err given_completers
      ∷ result_err given_connections
      ∷ unknown_key (Some n) t
      ∷ []

  -- the plan, where nothing is
  unfoldable pub given_plan : ClusterPlan
  given_plan = record {
    name = value_or [] given_name;
    listen = value_or [] given_listen;
    advertise = value_or [] given_advertise;
    port = value_or 0 given_port;
    first_node = value_or (pos 0) given_first_node;
    bootstrap = value_or (record { host = []; port = 0 }) given_bootstrap;
    nodes = value_or [] given_nodes;
    prefix = value_or None given_prefix;
    filters = value_or [] given_filters;
    policy_deny = value_or [] given_policy_deny;
    in_flight = value_or 0 given_in_flight;
    completers = value_or 0 given_completers;
    connections = value_or 0 given_connections;
  }

-- the value, unless something is amiss
abbrev pub unless : {A : Type 0} → Option ConfigFault → A → Given A
unless None value = Ok value
unless (Some fault) value = Err fault

-- the first thing that is amiss
abbrev pub first_fault : List (Option ConfigFault) → Option ConfigFault
first_fault [] = None
first_fault (check ∷ checks) = option_or check (first_fault checks)

-- the plan of cluster n, or its first fault
unfoldable pub cluster_of : ℕ → Members → Given ClusterPlan
cluster_of n t = unless (first_fault (cluster_checks n t)) (given_plan n t)

-- What the file gives.
abbrev pub given_version : Members → Given ℕ
given_version t = required version_in (key_place None (codes "version")) t

abbrev pub given_tables : Members → Given Items
given_tables t = required tables_in (key_place None (codes "cluster")) t

-- the table of a cluster
abbrev pub table_of : Data → Members
table_of d = unwrap_or (as_table d) no_members

-- the checks of all clusters from number n on, and their plans
abbrev pub clusters_checks : ℕ → Items → List (Option ConfigFault)
clusters_checks n no_items = []
clusters_checks n (item d ds) = cluster_checks n (table_of d) ++ clusters_checks (n + 1) ds

abbrev pub clusters_plans : ℕ → Items → List ClusterPlan
clusters_plans n no_items = []
clusters_plans n (item d ds) = given_plan n (table_of d) ∷ clusters_plans (n + 1) ds

abbrev pub config_plans : Members → List ClusterPlan
config_plans t = clusters_plans 0 (value_or no_items (given_tables t))

-- what may be amiss with a file, in order
abbrev pub config_checks : Members → List (Option ConfigFault)
config_checks t =
    result_err (given_version t)
    ∷ result_err (given_tables t)
    ∷ unknown_key None t
    ∷ (clusters_checks 0 (value_or no_items (given_tables t)) ++ option_map Plan (plans_fault (config_plans t)) ∷ [])

unfoldable pub config_of : Members → Given (List ClusterPlan)
config_of t = unless (first_fault (config_checks t)) (config_plans t)

-- the table that a text is: TOML in UTF-8
unfoldable pub toml_table : List ℕ → Option Members
toml_table text = if is_utf8 text then parse_document text else None

abbrev pub config_in : Option Members → Given (List ClusterPlan)
config_in None = Err NotToml
config_in (Some t) = config_of t

-- what a text means
abbrev pub meant_by : List ℕ → Given (List ClusterPlan)
meant_by text = config_in (toml_table text)

-- The result is what is meant, or memory ran out.
abbrev pub IsMeant : {A : Type 0} → Given A → Given A → Type 0
IsMeant (Ok x) meant = meant ≡ Ok x
IsMeant (Err e) meant = (e ≡ NoMemory) ⊎ (meant ≡ Err e)
