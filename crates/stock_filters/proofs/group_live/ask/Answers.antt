use Rattle.std.proofs.Common.{◌≡◌, ◌∙◌, ap, sym, length}
use Rattle.filter_core.specs.Decision.{Side}
use Rattle.stock_filters.specs.GroupLive.{listed_items, group_ids, listed_ids, group_question, on_listing}
use Rattle.stock_filters.proofs.Groups.{asks_about}
use Rattle.stock_filters.proofs.group_live.ask.Goals as goal

pub returns : goal.returns
returns c =
    let listing = c.in-Response.listing in
    let ids : group_ids c.listed_items-groups.result.now ≡ listed_ids listing = ap group_ids (c.listed_items-groups.ensures ∙ ap listed_items c.items.ensures) in
    let asks = asks_about listing (listed_ids listing) c.in-Some.count (c.in-Some.ensures ∙ ap length ids) c.if-count-eq0.false in
    (ap on_listing c.in-Response.is ∙ asks ∙ ap (λ xs. Side (group_question xs)) (sym ids) ∙ ap Side (sym c.in_ok-question.ensures), c.in-Response.is)
