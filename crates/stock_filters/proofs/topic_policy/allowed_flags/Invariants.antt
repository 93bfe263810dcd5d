use Rattle.std.proofs.Common.{◌≡◌, ◌++◌, drop}
use Rattle.stock_filters.specs.TopicPolicy.{allowed_flags}
use Rattle.stock_filters.proofs.topic_policy.allowed_flags.Given as goal

abbrev pub invariant-loop-name : goal.invariant-loop-name
invariant-loop-name l = l.flags.items ++ allowed_flags (drop l.name-index l.names) l.rest ≡ allowed_flags l.names l.verdict
