use Rattle.filter_chain.specs.declared.passing.Next.TheVariants as next
use Rattle.filter_chain.specs.Suspensions.{Leads}
use Rattle.filter_chain.proofs.turns.pass.Given as goal

abbrev pub invariant-loop-turn : goal.invariant-loop-turn
invariant-loop-turn g l =
    Leads g.F.Filter.turn g.F.Filter.stands l.chain l.fn.suspended.items (next.Passes l.fn.passing) l.fn.steps l.suspended.items (next.Passes l.current) l.steps
