use Rattle.std.proofs.Common.{◌≡◌, ◌∙◌, ◌++◌, ap, sym, refl, subst, ℕ, ◌+◌, length, Some, slice_get, arith, None}
use Rattle.std.proofs.lemmas.Option.{slice_get_read, slice_get_past}
use Rattle.filter_chain.specs.Suspensions.{Leads, next_of, kept}
use Rattle.filter_chain.specs.declared.passing.Passing.TheVariants as passing
use Rattle.filter_chain.specs.declared.passing.Next.TheVariants as next
use Rattle.filter_chain.proofs.Turning.{first_leads, asks_broker, ok_both, leads_none}
use Rattle.filter_chain.proofs.turns.first_turn.Goals as goal

pub returns-in_default : goal.returns-in_default
returns-in_default g c = λ n whole s. (
  0,
  (omega arith),
  (let there : slice_get c.args.chain.now (length c.args.suspended.now.items) ≡ None = slice_get_past c.args.chain.now (length c.args.suspended.now.items) (omega (arith, c.len.ensures, c.in_default.ensures.lookup)) in
      let z : n ≡ n + 0 = omega arith in
      rw (← z) (asks_broker g.F.Filter.turn g.F.Filter.stands c.args.chain.now c.args.suspended.now.items c.args.message c.args.main n whole there s)),
)

pub returns : goal.returns
returns g c =
    let k = length c.args.suspended.now.items in
    let f = c.in-Some.filter.now in
    let place : c.len.result ≡ k = omega (arith, c.len.ensures) in
    let there : slice_get c.args.chain.now k ≡ Some f = subst (λ i. slice_get c.args.chain.now i ≡ Some f) place (slice_get_read c.args.chain.now (length c.args.chain.now) c.len.result f refl c.in-Some.ensures.lookup.3.0 (c.in-Some.ensures.lookup.3.1 f)) in
    ok_both c.act.result _ _ _
    (λ nx e1 e2. first_leads g.F.Filter.turn g.F.Filter.stands c.args.chain.now c.args.suspended.now.items c.act.new.suspended.items f c.args.message c.args.main c.in_ok-made.made nx c.args.steps.now c.tick.new.self there c.in_ok-made.ensures e1 e2 c.tick.ensures)
    c.act.ensures.next c.act.ensures.suspended
