use Rattle.std.proofs.Common.{◌≡◌, ◌∙◌, ap, sym, true}
use Rattle.filter_core.specs.Acks.{acks_in}
use Rattle.stock_filters.specs.ProduceAll.{is_one, has_acks_one}
use Rattle.stock_filters.proofs.Produced.{both_are, acks_are_set, with_acks_set}
use Rattle.stock_filters.proofs.produce_all.with_all_acks.Goals as goal

pub returns-in-Ok : goal.returns-in-Ok
returns-in-Ok c =
    let tree = c.is_tree.ensures in
    let one : has_acks_one c.args.request ≡ true = both_are _ _ (sym c.is_produce.ensures ∙ c.if-not-is_produce.false) (sym (c.begins_with_one.ensures ∙ ap (λ xs. is_one (acks_in xs)) c.items.ensures) ∙ c.if-not-begins_with_one.false) in
    let set = c.in-Ok.ensures.ok tree.value tree.is in
    with_acks_set c.args.request c.set.new.self one (rw (acks_are_set c.args.request one tree.value tree.is) at set)
