use Rattle.std.proofs.Common.{rules, ◌≡◌, ◌∙◌, ap, sym, refl, true, Some}
use Rattle.conn_rules.specs.declared.causes.Causes.{Causes}
use Rattle.conn_rules.specs.Causes.{below, with_cut}
use Rattle.serving.proofs.connection.Serving.give_body.Goals as goal

pub returns-in-Err-clause-gives : goal.returns-in-Err-clause-gives
returns-in-Err-clause-gives g c =
    let flight = c.args.self.now.flight in
    let request = c.args.owner.request in
    let low : below flight.causes.cut request ≡ true = search rules in
    let cut = c.cut_at.ensures ∙ ap (λ why. with_cut request why flight.causes) c.at.ensures in
    rw low (
      Some c.in-Err.cause,
      sym (rw c.in-Err.is at c.in_ok-cause.ensures),
      (ap (λ (causes : Causes). record flight { causes = causes }) cut, refl),
    )
