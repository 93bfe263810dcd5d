use Rattle.std.proofs.Common.{◌≡◌, drop}
use Rattle.std.specs.List.{list_all}
use Rattle.stock_filters.specs.CreateTopics.{is_flagged}
use Rattle.stock_filters.proofs.create_topics.are_all.Given as goal

abbrev pub invariant-loop-flag : goal.invariant-loop-flag
invariant-loop-flag l = list_all is_flagged (drop l.flag-index l.flags) ≡ list_all is_flagged l.flags
