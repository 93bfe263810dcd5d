use Rattle.std.proofs.Common.{true, subst}
use Rattle.filter_chain.specs.declared.passing.Passing.TheVariants as passing
use Rattle.filter_chain.specs.declared.passing.Next.TheVariants as next
use Rattle.filter_chain.specs.declared.passing.Stop.TheVariants as stop
use Rattle.filter_chain.specs.Suspensions.{Leads, IsConclusion}
use Rattle.filter_chain.proofs.Concluding.{started}
use Rattle.filter_chain.proofs.run.Run.start.Goals as goal

pub returns-clause-state : goal.returns-clause-state
returns-clause-state g c =
    (started g.F.Filter.turn g.F.Filter.stands c.args.chain.now c.args.request c.pass.new.suspended.items c.in_ok-stop.stop c.conclude.result c.args.steps.now c.pass.new.steps (subst (λ ss. Leads g.F.Filter.turn g.F.Filter.stands c.args.chain.now ss (next.Passes (passing.Message c.args.request true)) c.args.steps.now c.pass.new.suspended.items (next.Stops c.in_ok-stop.stop) c.pass.new.steps) c.new-suspended.ensures.items c.in_ok-stop.ensures) (subst (λ k. IsConclusion c.pass.new.suspended.items k c.in_ok-stop.stop c.conclude.result) c.new.ensures c.conclude.ensures)).0

pub returns-clause-counted : goal.returns-clause-counted
returns-clause-counted g c =
    (started g.F.Filter.turn g.F.Filter.stands c.args.chain.now c.args.request c.pass.new.suspended.items c.in_ok-stop.stop c.conclude.result c.args.steps.now c.pass.new.steps (subst (λ ss. Leads g.F.Filter.turn g.F.Filter.stands c.args.chain.now ss (next.Passes (passing.Message c.args.request true)) c.args.steps.now c.pass.new.suspended.items (next.Stops c.in_ok-stop.stop) c.pass.new.steps) c.new-suspended.ensures.items c.in_ok-stop.ensures) (subst (λ k. IsConclusion c.pass.new.suspended.items k c.in_ok-stop.stop c.conclude.result) c.new.ensures c.conclude.ensures)).1
