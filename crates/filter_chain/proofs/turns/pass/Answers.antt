use Rattle.std.proofs.Common.{subst}
use Rattle.filter_chain.specs.declared.passing.Next.TheVariants as next
use Rattle.filter_chain.specs.Suspensions.{Leads}
use Rattle.filter_chain.proofs.Turning.{leads_none, leads_then}
use Rattle.filter_chain.proofs.turns.pass.Goals as goal

pub loop-turn-init : goal.loop-turn-init
loop-turn-init g c = leads_none g.F.Filter.turn g.F.Filter.stands c.args.chain.now c.args.suspended.now.items (next.Passes c.args.passing) c.args.steps.now

pub loop-turn-preserved : goal.loop-turn-preserved
loop-turn-preserved g c =
    leads_then g.F.Filter.turn g.F.Filter.stands c.args.chain.now c.args.suspended.now.items c.loop-turn.suspended.items c.turn_once.new.suspended.items (next.Passes c.args.passing) (next.Passes c.loop-turn.current) (next.Passes c.in-Passes.next) c.args.steps.now c.loop-turn.steps c.turn_once.new.steps c.loop-turn.invariant (subst (λ nx. Leads g.F.Filter.turn g.F.Filter.stands c.args.chain.now c.loop-turn.suspended.items (next.Passes c.loop-turn.current) c.loop-turn.steps c.turn_once.new.suspended.items nx c.turn_once.new.steps) c.in-Passes.is c.in_ok-next.ensures)

pub returns-in-Stops : goal.returns-in-Stops
returns-in-Stops g c =
    leads_then g.F.Filter.turn g.F.Filter.stands c.args.chain.now c.args.suspended.now.items c.loop-turn.suspended.items c.turn_once.new.suspended.items (next.Passes c.args.passing) (next.Passes c.loop-turn.current) (next.Stops c.in-Stops.stop) c.args.steps.now c.loop-turn.steps c.turn_once.new.steps c.loop-turn.invariant (subst (λ nx. Leads g.F.Filter.turn g.F.Filter.stands c.args.chain.now c.loop-turn.suspended.items (next.Passes c.loop-turn.current) c.loop-turn.steps c.turn_once.new.suspended.items nx c.turn_once.new.steps) c.in-Stops.is c.in_ok-next.ensures)
