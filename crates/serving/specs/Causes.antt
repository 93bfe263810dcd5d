-- Causes that wait for the number of their request.
use Rattle.std.specs.Prelude.{ℕ}
use Rattle.kp_edge.specs.declared.end.End.{End}
use Rattle.kp_edge.specs.declared.end.End.TheVariants as end
use Rattle.serving.specs.declared.cause.Cause.{Cause}
use Rattle.serving.specs.declared.cause.Cause.TheVariants as cause

-- the end that a cause is, by the request's number
abbrev pub why_of : Cause → ℕ → End
why_of cause.BadHead k = end.BadHead k
why_of (cause.UnsupportedApi key version) k = end.UnsupportedApi k key version
why_of (cause.BadBody key version at) k = end.BadBody k key version at
why_of (cause.TooManyEntries at) k = end.TooManyEntries k at
why_of (cause.FilterShut filter code) k = end.FilterShut k filter code
why_of (cause.NodeOutOfRange node) k = end.NodeOutOfRange k node
why_of (cause.NameTooLong length) k = end.NameTooLong k length
why_of (cause.GrownPast size) k = end.GrownPast k size
why_of cause.AskBudget k = end.AskBudget k
why_of (cause.BrokerBadBody key version) k = end.BrokerBadBody k key version
