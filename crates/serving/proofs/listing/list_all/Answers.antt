use Rattle.std.proofs.Common.{◌≡◌, ◌∙◌, ap, true}
use Rattle.conn_rules.specs.Causes.{below}
use Rattle.conn_rules.specs.Room.{limited}
use Rattle.correlation.specs.WindowOf.{window_of}
use Rattle.serving.specs.Listing.{ListsSlot, CountsNext}
use Rattle.serving.proofs.Same.{goes_trans}
use Rattle.serving.proofs.Asks.{advance}
use Rattle.serving.proofs.Working.{grows_trans}
use Rattle.serving.proofs.listing.list_all.Goals as goal

pub asks-preserved : goal.asks-preserved
asks-preserved g c = λ limit s low h.
    let N = limited limit (g.S.Service.meaning c.args.service.now) in
    let first = c.asks.invariant limit s low h in
    let low' : below first.0.causes.cut c.args.request ≡ true = ap (λ causes. below causes.cut c.args.request) first.2 ∙ low in
    let lists : ListsSlot (g.S.Service.meaning c.args.service.now) (g.S.Service.stands c.args.service.now) c.args.request c.args.free c.asks.slot (window_of c.asks.sends) c.list_next.new.slot (window_of c.list_next.new.sends) =
    rw c.if-branch.true at c.in_ok-list_next.ensures.lists in
    let counts : CountsNext (g.S.Service.meaning c.args.service.now) (g.S.Service.stands c.args.service.now) true c.asks.slot c.asks.steps c.list_next.new.steps = rw c.if-branch.true at c.in_ok-list_next.ensures.counted in
    let next = advance (g.S.Service.meaning c.args.service.now) (g.S.Service.stands c.args.service.now) limit c.args.request c.args.free c.asks.slot c.list_next.new.slot (window_of c.asks.sends) (window_of c.list_next.new.sends) c.asks.steps c.list_next.new.steps first.0 low' first.3 lists counts in
    (next.0, goes_trans N c.args.request s first.0 next.0 first.1 next.1, next.2 ∙ first.2, next.3, grows_trans N c.args.steps.now c.asks.steps c.list_next.new.steps s first.0 next.0 first.4 next.4)
