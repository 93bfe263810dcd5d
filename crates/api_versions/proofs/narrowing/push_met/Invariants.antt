use Rattle.std.proofs.Common.{◌≡◌, length}
use Rattle.api_versions.specs.Narrowing.{known_items, with_items}
use Rattle.api_versions.proofs.narrowing.push_met.Given as goal

abbrev pub invariant-loop-key : goal.invariant-loop-key
invariant-loop-key l = with_items l.out (known_items l.rest) ≡ with_items l.fn.out (known_items l.entries)

abbrev pub decreases-loop-key : goal.decreases-loop-key
decreases-loop-key l = length l.rest
