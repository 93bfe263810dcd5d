use Rattle.std.proofs.Common.{◌≡◌, ◌++◌, drop, map}
use Rattle.any_filter.specs.AnyTurn.{any_turn}
use Rattle.any_filter.specs.Chains.{filter_turn}
use Rattle.any_filter.proofs.chains.push_filters.Given as goal

abbrev pub invariant-loop-plan : goal.invariant-loop-plan
invariant-loop-plan l = map any_turn l.chain.items ++ map filter_turn (drop l.plan-index l.plans) ≡ map any_turn l.fn.chain.items ++ map filter_turn l.plans
