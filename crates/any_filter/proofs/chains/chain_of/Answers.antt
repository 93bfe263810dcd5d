use Rattle.std.proofs.Common.{◌∙◌, ap, ◌++◌, map}
use Rattle.any_filter.specs.AnyTurn.{any_turn}
use Rattle.any_filter.specs.Chains.{filter_turn}
use Rattle.any_filter.proofs.Chained.{chained_whole}
use Rattle.any_filter.proofs.chains.chain_of.Goals as goal

pub returns : goal.returns
returns c =
    let filters = ap (λ plans. map any_turn c.push.new.self.items ++ map filter_turn plans) c.as_slice.ensures in
    chained_whole c.args.plan.now _ c.in_ok-new.field-0 c.new-chain.result.items c.push.new.self.items c.push_filters.new.chain.items c.push-2.new.self.items
    c.new-chain.ensures.items c.in_ok-push.ensures.items (c.in_ok-push_filters.ensures ∙ filters) c.in_ok-new.ensures c.in_ok-push-2.ensures.items
