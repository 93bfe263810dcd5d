use Rattle.std.proofs.Common.{◌≡◌, ◌∙◌, ◌++◌, ap, sym, refl, subst, ℕ, suc, ◌+◌, length, Some, slice_get, arith}
use Rattle.std.proofs.lemmas.Option.{slice_get_read, slice_get_past}
use Rattle.filter_chain.proofs.Turning.{next_leads, ok_both}
use Rattle.filter_chain.proofs.turns.next_turn.Goals as goal

pub returns : goal.returns
returns g c =
    let k = length c.pop.new.self.items in
    let f = c.in-Some-get.filter.now in
    let place : c.len.result ≡ k = omega (arith, c.len.ensures) in
    let there : slice_get c.args.chain.now k ≡ Some f = subst (λ i. slice_get c.args.chain.now i ≡ Some f) place (slice_get_read c.args.chain.now (length c.args.chain.now) c.len.result f refl c.in-Some-get.ensures.lookup.3.0 (c.in-Some-get.ensures.lookup.3.1 f)) in
    let more : c.in-Some.last.unused ≡ suc c.in-Some-checked_sub.unused = omega (arith, c.in-Some-checked_sub.ensures) in
    ok_both c.act.result _ _ _
    (λ nx e1 e2. next_leads g.F.Filter.turn g.F.Filter.stands c.args.chain.now c.args.suspended.now.items c.pop.new.self.items c.act.new.suspended.items c.in-Some.last f c.args.input c.in-Some-checked_sub.unused c.in_ok-made.made nx c.args.steps.now c.tick.new.self c.in-Some.ensures.items there more c.in_ok-made.ensures e1 e2 c.tick.ensures)
    c.act.ensures.next c.act.ensures.suspended
