-- How many items a list has.
use Rattle.std.proofs.Common.{◌≡◌, ℕ, ◌+◌, List, [], ◌∷◌, length, refl, arith}
use Rattle.toml.specs.View.{items_view}
use Rattle.toml.specs.declared.value.Value.{Value}
use Rattle.proxy_config.specs.Values.{items_count}

pub items_count_is : (vs : List Value) → items_count (items_view vs) ≡ length vs
items_count_is [] = refl
items_count_is (v ∷ vs) = rw (items_count_is vs) (omega arith)
