-- The filter as a value.
use Rattle.std.specs.Prelude.{ℕ, ℤ, Option}
use Rattle.filter_core.specs.Decision.{Turn}
use Rattle.filter_core.specs.Laws.{IsLawful}
use Rattle.address_rewrite.specs.declared.addresses.Addresses.{Addresses}
use Rattle.address_rewrite.specs.Addresses.{addresses_by, port_behind}
use Rattle.address_rewrite.specs.AddressLaws.{can_be_spelled, addresses_lawful}

-- the ports of its nodes
abbrev pub ports_of : Addresses → ℤ → Option ℕ
ports_of filter = port_behind filter.port filter.first_node filter.count

-- what it does: it has the host and the ports
abbrev pub addresses_turn : Addresses → Turn
addresses_turn filter = addresses_by filter.host (ports_of filter)

pub addresses_turn_lawful : (filter : Addresses) → IsLawful (addresses_turn filter)
addresses_turn_lawful filter =
    addresses_lawful filter.host (ports_of filter) (can_be_spelled filter.host filter.port filter.first_node filter.count filter.host_fits filter.ports_fit)
