use Rattle.std.proofs.Common.{◌≡◌, drop, ◌++◌}
use Rattle.toml.specs.View.{items_view}
use Rattle.proxy_config.specs.Values.{first_strange, filters}
use Rattle.proxy_config.proofs.lists.read_filters.Given as goal

abbrev pub invariant-loop-value : goal.invariant-loop-value
invariant-loop-value l = record {
  known : first_strange (items_view (drop l.value-index l.items)) ≡ first_strange (items_view l.items);
  so_far : l.filters.items ++ filters (items_view (drop l.value-index l.items)) ≡ filters (items_view l.items);
}
