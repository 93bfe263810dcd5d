-- How a refusal is written.
use Rattle.std.specs.Prelude.{ℕ, List, [], ◌++◌, codes, Option, Some, None}
use Rattle.std.specs.Fmt.{decimal}
use Rattle.virtual_cluster.specs.Refusals.{plan_fault_text}
use Rattle.proxy_config.specs.declared.fault.ConfigFault.{ConfigFault}
use Rattle.proxy_config.specs.declared.fault.ConfigFault.TheVariants.{NotToml, Missing, WrongType, BadValue, UnknownKey, UnknownFilter, Plan, NoMemory}
use Rattle.proxy_config.specs.declared.fault.Place.{Place}

-- the number of the cluster, if there is one, and the key
abbrev pub cluster_text : Option ℕ → List ℕ
cluster_text None = []
cluster_text (Some n) = decimal n ++ codes " "

abbrev pub place_text : Place → List ℕ
place_text p = cluster_text p.cluster ++ p.key

abbrev pub config_fault_text : ConfigFault → List ℕ
config_fault_text NotToml = codes "not-toml"
config_fault_text (Missing p) = codes "missing " ++ place_text p
config_fault_text (WrongType p) = codes "wrong-type " ++ place_text p
config_fault_text (BadValue p) = codes "bad-value " ++ place_text p
config_fault_text (UnknownKey p) = codes "unknown-key " ++ place_text p
config_fault_text (UnknownFilter p) = codes "unknown-filter " ++ place_text p
config_fault_text (Plan fault) = plan_fault_text fault
config_fault_text NoMemory = codes "no-memory"
