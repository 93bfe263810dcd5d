use Rattle.std.proofs.Common.{◌≡◌, ℕ, List, length, ◌++◌, Option, Some, None, Bor}
use Rattle.std.specs.Prelude.{is_some}
use Rattle.std.specs.List.{list_all}
use Rattle.proxy_config.specs.Texts.{comma_parts, keys_in, short_number}
use Rattle.proxy_config.specs.Steps.{parts_behind}
use Rattle.proxy_config.proofs.Commas.{still}
use Rattle.proxy_config.proofs.comma_list.blocked_keys.Given as goal

abbrev pub invariant-loop-rest : goal.invariant-loop-rest
invariant-loop-rest l = record {
  keys : l.keys.items ++ keys_in (parts_behind l.rest) ≡ keys_in (comma_parts l.fn.text);
  numbers : list_all (λ part. is_some (short_number 32767 part)) (parts_behind l.rest) ≡ list_all (λ part. is_some (short_number 32767 part)) (comma_parts l.fn.text);
}

abbrev pub decreases-loop-rest : goal.decreases-loop-rest
decreases-loop-rest l = still l.rest
