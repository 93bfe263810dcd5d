-- What the clauses of private functions cite.
use Rattle.std.specs.Prelude.{◌≡◌, ℕ, true, false, List, [], ◌∷◌, codes, Option, Some, None, Result, Ok, Err, ◌⊎◌, if◌then◌else◌, Vec}
use Rattle.std.specs.Borrow.{Bor}
use Rattle.std.specs.declared.alloc.Global.{Global}
use Rattle.std.specs.Str.{all_ascii_digits}
use Rattle.std.specs.Str.Parse.{digits_value}
use Rattle.toml.specs.Data.{Items}
use Rattle.virtual_cluster.specs.declared.address.Address.{Address}
use Rattle.virtual_cluster.specs.declared.plan.ClusterPlan.{ClusterPlan}
use Rattle.virtual_cluster.specs.declared.filter_plan.FilterPlan.{FilterPlan}
use Rattle.proxy_config.specs.Texts.{comma_parts}
use Rattle.proxy_config.specs.Values.{Given, are_addresses, address_list, first_strange, filters}
use Rattle.proxy_config.specs.Meant.{key_place, first_fault, clusters_checks, clusters_plans}
use Rattle.proxy_config.specs.declared.fault.ConfigFault.{ConfigFault}
use Rattle.proxy_config.specs.declared.fault.ConfigFault.TheVariants.{Missing, WrongType, BadValue, UnknownKey, UnknownFilter, NoMemory}
use Rattle.proxy_config.specs.declared.fault.Place.{Place}
use Rattle.proxy_config.specs.declared.fault.Why.{Why}
use Rattle.proxy_config.specs.declared.fault.Why.TheVariants as why

abbrev pub fault_at : Why → Place → ConfigFault
fault_at why.Missing p = Missing p
fault_at why.WrongType p = WrongType p
fault_at why.BadValue p = BadValue p
fault_at why.UnknownKey p = UnknownKey p
fault_at why.UnknownFilter p = UnknownFilter p

-- the fault, or memory ran out
abbrev pub IsFault : ConfigFault → ConfigFault → Type 0
IsFault e fault = (e ≡ NoMemory) ⊎ (e ≡ fault)

-- the result stands for what is meant, or memory ran out
abbrev pub IsMeantAs : {A B : Type 0} → (A → B) → Result A ConfigFault → Given B → Type 0
IsMeantAs seen (Ok x) meant = meant ≡ Ok (seen x)
IsMeantAs seen (Err e) meant = (e ≡ NoMemory) ⊎ (meant ≡ Err e)

-- the number that some digits stand for
abbrev pub digits_number : List ℕ → Option ℕ
digits_number word = if all_ascii_digits word then Some (digits_value 10 word) else None

abbrev pub address_from : List ℕ → ℕ → Address
address_from host port = record { host = host; port = port }

-- the parts of what stands behind a comma
abbrev pub parts_behind : Option (Bor (List ℕ)) → List (List ℕ)
parts_behind None = []
parts_behind (Some text) = comma_parts text.now

-- the addresses, where all texts are some
abbrev pub AreFound : Items → Option (Vec Address Global) → Type 0
AreFound ds None = are_addresses ds ≡ false
AreFound ds (Some found) = (are_addresses ds ≡ true) × (found.items ≡ address_list ds)

-- the filters, where all texts ask for some
abbrev pub AreFilters : Option ℕ → Items → Result (Vec FilterPlan Global) ConfigFault → Type 0
AreFilters cluster ds (Ok found) = (first_strange ds ≡ None) × (found.items ≡ filters ds)
AreFilters cluster ds (Err e) = (e ≡ NoMemory) ⊎ ((text : List ℕ) × (first_strange ds ≡ Some text) × (e ≡ UnknownFilter (key_place cluster text)))

-- the keys of a cluster that have to be there, and those that may be missing
abbrev pub plan_keys : List (List ℕ)
plan_keys =
    codes "name" ∷ codes "listen" ∷ codes "advertise" ∷ codes "port" ∷ codes "first_node" ∷ codes "bootstrap" ∷ codes "nodes" ∷ []

abbrev pub option_keys : List (List ℕ)
option_keys =
    codes "prefix" ∷ codes "filters" ∷ codes "policy_deny" ∷ codes "in_flight" ∷ codes "completers" ∷ codes "connections" ∷ []

-- the plans of all the tables, where nothing is amiss with them
abbrev pub AreClusters : Items → Result (Vec ClusterPlan Global) ConfigFault → Type 0
AreClusters ds (Ok plans) = (first_fault (clusters_checks 0 ds) ≡ None) × (plans.items ≡ clusters_plans 0 ds)
AreClusters ds (Err e) = (e ≡ NoMemory) ⊎ (first_fault (clusters_checks 0 ds) ≡ Some e)
