use Rattle.std.proofs.Common.{◌∙◌, ap}
use Rattle.virtual_cluster.proofs.Bounds.{in_flight-bound}
use Rattle.conn_core.specs.Chained.{chained}
use Rattle.any_filter.specs.Chains.{cluster_chain}
use Rattle.proxy_main.specs.DefaultPlan.{cluster_meaning}
use Rattle.proxy_main.proofs.Plans.{leaves_to_come}
use Rattle.proxy_main.proofs.plan_replay.replay_plan.Goals as goal

pub new-requires-clause-some : goal.new-requires-clause-some
new-requires-clause-some g c = (in_flight-bound c.args.plan.now c.requires.valid).0

pub new-requires-clause-few : goal.new-requires-clause-few
new-requires-clause-few g c = (in_flight-bound c.args.plan.now c.requires.valid).1

pub returns-in-Ok-clause-replay : goal.returns-in-Ok-clause-replay
returns-in-Ok-clause-replay g c =
    let plan = c.args.plan.now in
    let lasting = c.chain_law.ensures (cluster_chain plan) plan.in_flight in
    let meaning = c.new.ensures.meaning ∙ ap (λ chain. chained chain plan.in_flight) c.in-Ok.ensures in
    record {
      text = λ script is. c.replay.ensures.text (cluster_meaning plan) lasting meaning c.new.ensures.opens script is;
      status_is = c.replay.ensures.statuses;
      so_far = c.replay.ensures.so_far;
      all_read = λ done script is. c.replay.ensures.read (cluster_meaning plan) lasting meaning c.new.ensures.opens done script is;
    }

pub returns-in-Err-clause-replay : goal.returns-in-Err-clause-replay
returns-in-Err-clause-replay g c = leaves_to_come (cluster_meaning c.args.plan.now) (g.I.Source.coming c.args.input.now) (g.O.Sink.taken c.args.out.now) c.args.steps.now c.args.steps.now
