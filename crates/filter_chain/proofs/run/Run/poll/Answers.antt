use Rattle.filter_chain.proofs.Concluding.{polled, fewer_left}
use Rattle.filter_chain.proofs.run.Run.poll.Goals as goal

pub returns-clause-state : goal.returns-clause-state
returns-clause-state g c = λ request given runs.
    (polled g.F.Filter.turn g.F.Filter.stands c.args.chain.now request given c.args.outside c.args.self c.pass.new.suspended.items c.in_ok-stop.stop c.conclude.result c.args.steps.now c.pass.new.steps (rw c.input_of.ensures at c.in_ok-stop.ensures) c.conclude.ensures runs).0

pub returns-clause-counted : goal.returns-clause-counted
returns-clause-counted g c = λ request given runs.
    (polled g.F.Filter.turn g.F.Filter.stands c.args.chain.now request given c.args.outside c.args.self c.pass.new.suspended.items c.in_ok-stop.stop c.conclude.result c.args.steps.now c.pass.new.steps (rw c.input_of.ensures at c.in_ok-stop.ensures) c.conclude.ensures runs).1

pub returns-clause-fewer : goal.returns-clause-fewer
returns-clause-fewer g c = fewer_left c.pass.new.suspended.items c.args.self.book c.in_ok-stop.stop c.conclude.result c.conclude.ensures
