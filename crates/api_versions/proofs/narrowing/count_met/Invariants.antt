use Rattle.std.proofs.Common.{◌≡◌, ◌+◌, length}
use Rattle.api_versions.specs.Narrowing.{known_count}
use Rattle.api_versions.proofs.narrowing.count_met.Given as goal

abbrev pub invariant-loop-key : goal.invariant-loop-key
invariant-loop-key l = l.count + known_count l.rest ≡ known_count l.entries

abbrev pub decreases-loop-key : goal.decreases-loop-key
decreases-loop-key l = length l.rest
