use Rattle.std.proofs.Common.{◌≡◌, drop}
use Rattle.std.specs.List.{list_any}
use Rattle.stock_filters.specs.CreateTopics.{is_flagged}
use Rattle.stock_filters.proofs.create_topics.is_any.Given as goal

abbrev pub invariant-loop-flag : goal.invariant-loop-flag
invariant-loop-flag l = list_any is_flagged (drop l.flag-index l.flags) ≡ list_any is_flagged l.flags
