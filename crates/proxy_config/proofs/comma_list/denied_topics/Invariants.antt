use Rattle.std.proofs.Common.{◌≡◌, ℕ, List, length, ◌++◌, Option, Some, None, Bor}
use Rattle.std.specs.Prelude.{nat_le}
use Rattle.std.specs.List.{list_all}
use Rattle.proxy_config.specs.Texts.{comma_parts}
use Rattle.proxy_config.specs.Steps.{parts_behind}
use Rattle.proxy_config.proofs.Commas.{still}
use Rattle.proxy_config.proofs.comma_list.denied_topics.Given as goal

abbrev pub invariant-loop-rest : goal.invariant-loop-rest
invariant-loop-rest l = record {
  topics : l.topics.items ++ parts_behind l.rest ≡ comma_parts l.fn.text;
  named : list_all (λ part. nat_le 1 (length part)) (parts_behind l.rest) ≡ list_all (λ part. nat_le 1 (length part)) (comma_parts l.fn.text);
}

abbrev pub decreases-loop-rest : goal.decreases-loop-rest
decreases-loop-rest l = still l.rest
