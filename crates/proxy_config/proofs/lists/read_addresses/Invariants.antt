use Rattle.std.proofs.Common.{◌≡◌, drop, ◌++◌}
use Rattle.toml.specs.View.{items_view}
use Rattle.proxy_config.specs.Values.{are_addresses, address_list}
use Rattle.proxy_config.proofs.lists.read_addresses.Given as goal

abbrev pub invariant-loop-value : goal.invariant-loop-value
invariant-loop-value l = record {
  some : are_addresses (items_view (drop l.value-index l.items)) ≡ are_addresses (items_view l.items);
  so_far : l.found.items ++ address_list (items_view (drop l.value-index l.items)) ≡ address_list (items_view l.items);
}
