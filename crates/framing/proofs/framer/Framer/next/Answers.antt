use Rattle.std.proofs.Common.{rules, w32, FitsSigned, ◌≤◌, ◌+◌, length}
use Rattle.std.proofs.lemmas.Result.{err_from_is_err_and}
use Rattle.framing.proofs.Fronts.{fronts, begins_frame, takes_frame}
use Rattle.framing.proofs.framer.Framer.next.Goals as goal

pub returns-in_err-take-clause-no_memory : goal.returns-in_err-take-clause-no_memory
returns-in_err-take-clause-no_memory c =
    let there : 4 + c.in-Some-allowed.length ≤ length c.args.self.now.rest = search rules in
    let fits : FitsSigned w32 c.in-Some.size = search rules in
    let f = fronts c.args.self.now.least c.args.self.now.most c.in-Some-allowed.length c.args.self.now.rest c.in-Some.size fits there c.in-Some-allowed.ensures.allowed c.in-Some.ensures.spelled in
    let p = err_from_is_err_and c.from_residual.result c.from_residual.ensures.1 in
    rw p.1 (begins_frame _ _ _ _ f)

pub returns-clause-frame : goal.returns-clause-frame
returns-clause-frame c =
    let there : 4 + c.in-Some-allowed.length ≤ length c.args.self.now.rest = search rules in
    let fits : FitsSigned w32 c.in-Some.size = search rules in
    let f = fronts c.args.self.now.least c.args.self.now.most c.in-Some-allowed.length c.args.self.now.rest c.in-Some.size fits there c.in-Some-allowed.ensures.allowed c.in-Some.ensures.spelled in
    takes_frame _ _ _ _ f c.in_ok-take.ensures.frame c.in_ok-take.ensures.ok
