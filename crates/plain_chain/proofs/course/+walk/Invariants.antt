use Rattle.std.proofs.Common.{length, ◌<◌}
use Rattle.plain_chain.proofs.course.+walk.Given as goal

abbrev pub decreases-walk : goal.decreases-walk
decreases-walk l = length l.chain.now

-- those nearer the broker are fewer
abbrev pub invariant-loop : goal.invariant-loop
invariant-loop l = length l.nearer < length l.chain
