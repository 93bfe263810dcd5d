use Rattle.std.proofs.Common.{◌≡◌, drop, ◌++◌}
use Rattle.toml.specs.View.{items_view}
use Rattle.proxy_config.specs.Values.{texts}
use Rattle.proxy_config.proofs.lists.copy_texts.Given as goal

abbrev pub invariant-loop-value : goal.invariant-loop-value
invariant-loop-value l = l.copies.items ++ texts (items_view (drop l.value-index l.items)) ≡ texts (items_view l.items)
