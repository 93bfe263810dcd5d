use Rattle.std.proofs.Common.{◌≡◌, drop}
use Rattle.toml.specs.View.{items_view}
use Rattle.proxy_config.specs.Values.{are_texts}
use Rattle.proxy_config.proofs.lists.are_texts.Given as goal

abbrev pub invariant-loop-value : goal.invariant-loop-value
invariant-loop-value l = are_texts (items_view (drop l.value-index l.items)) ≡ are_texts (items_view l.items)
