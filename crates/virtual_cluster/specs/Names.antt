-- Prefixes and names.
use Rattle.std.specs.Prelude.{◌≡◌, ℕ, ◌<◌, Bool, List, length, drop, Option, Some, None, nat_eq, if◌then◌else◌}
use Rattle.std.specs.List.{starts_with}
use Rattle.virtual_cluster.specs.declared.fault.NameFault.{NameFault}
use Rattle.virtual_cluster.specs.declared.fault.NameFault.TheVariants.{TooLong, NoMemory}

-- the name begins with the prefix
abbrev pub prefix_begins : List ℕ → List ℕ → Bool
prefix_begins prefix name = starts_with nat_eq name prefix

-- what follows the prefix
abbrev pub stripped : List ℕ → List ℕ → Option (List ℕ)
stripped prefix name = if prefix_begins prefix name then Some (drop (length prefix) name) else None

-- the fault of a name that would have this many bytes
abbrev pub IsNameFault : ℕ → NameFault → Type 0
IsNameFault whole (TooLong length) = (32767 < whole) × (length ≡ whole)
IsNameFault whole NoMemory = Unit {0}
