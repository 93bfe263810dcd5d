use Rattle.std.proofs.Common.{◌∙◌, sym, ap, true, false, slice_get}
use Rattle.conn_rules.specs.Room.{limited}
use Rattle.serving.specs.Flights.{PassesSilent}
use Rattle.serving.proofs.Passing.{passes_one, have_passed, passes_all, stands_like, passable_like}
use Rattle.serving.proofs.connection.Serving.pass_silent.Goals as goal

pub silent-preserved : goal.silent-preserved
silent-preserved g c =
    let passed : PassesSilent c.silent.self.flight true c.pass_silent.new.self = rw c.silent-test.true at c.pass_silent.ensures in (
      c.silent.invariant.0,
      λ limit.
          let M = limited limit (g.S.Service.meaning c.args.self.now.service) in
          let runs = g.S.Service.stands c.args.self.now.service in
          let before = c.silent.invariant.1 limit in (
            passed.2.limit_is ∙ before.0,
            λ s none h.
                let first = before.1 s none h in
                (_, have_passed M runs c.silent.self.flight s first.0 _ first.1 c.pass_silent.new.self (passes_one M runs c.silent.self.flight c.pass_silent.new.self first.0 first.1.no_halt first.1.stands passed.0 passed.1 passed.2)),
          ),
    )

pub returns-clause-passes : goal.returns-clause-passes
returns-clause-passes g c = λ limit.
    let M = limited limit (g.S.Service.meaning c.args.self.now.service) in
    let runs = g.S.Service.stands c.args.self.now.service in
    let stuck : PassesSilent c.silent.self.flight false c.pass_silent.new.self = rw c.silent-test.false at c.pass_silent.ensures in
    let before = c.silent.invariant.1 limit in (
      stuck.0.0.limit_is ∙ before.0,
      λ s none h.
          let first = before.1 s none h in
          stands_like M runs c.silent.self.flight c.pass_silent.new.self _ stuck.0 (passes_all M runs c.silent.self.flight s first.0 first.1 stuck.1),
    )

pub returns-clause-stuck : goal.returns-clause-stuck
returns-clause-stuck g c =
    let stuck : PassesSilent c.silent.self.flight false c.pass_silent.new.self = rw c.silent-test.false at c.pass_silent.ensures in
    λ slot is. passable_like c.silent.self.flight c.pass_silent.new.self stuck.0 slot ∙ stuck.1 slot (ap (λ xs. slice_get xs 0) (sym stuck.0.1) ∙ is)
