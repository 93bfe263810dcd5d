use Rattle.std.proofs.Common.{ap, subst, sym}
use Rattle.virtual_cluster.specs.Limits.{IsValid}
use Rattle.proxy_main.specs.DefaultPlan.{default_meaning, cluster_meaning}
use Rattle.proxy_main.specs.Replayed.{ReplaysInput}
use Rattle.proxy_main.proofs.Plans.{default_valid, leaves_to_come}
use Rattle.proxy_main.proofs.default_plan.replay_default.Goals as goal

pub replay_plan-requires-clause-valid : goal.replay_plan-requires-clause-valid
replay_plan-requires-clause-valid g c = subst IsValid (sym c.in-Ok.ensures) default_valid

pub replay_plan-requires-clause-unprefixed : goal.replay_plan-requires-clause-unprefixed
replay_plan-requires-clause-unprefixed g c = ap (λ plan. plan.prefix) c.in-Ok.ensures

pub returns-in-Ok-clause-replay : goal.returns-in-Ok-clause-replay
returns-in-Ok-clause-replay g c =
    subst (λ plan. ReplaysInput (cluster_meaning plan) (g.I.Source.coming c.args.input.now) (g.I.Source.coming c.replay_plan.new.input) (g.O.Sink.taken c.args.out.now) (g.O.Sink.taken c.replay_plan.new.out) c.args.steps.now c.replay_plan.new.steps c.replay_plan.result)
    c.in-Ok.ensures c.replay_plan.ensures.replay

pub returns-in-Err-clause-replay : goal.returns-in-Err-clause-replay
returns-in-Err-clause-replay g c = leaves_to_come default_meaning (g.I.Source.coming c.args.input.now) (g.O.Sink.taken c.args.out.now) c.args.steps.now c.args.steps.now
