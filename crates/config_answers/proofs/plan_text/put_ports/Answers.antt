use Rattle.std.proofs.Common.{◌+◌, length, arith}
use Rattle.config_answers.proofs.PlanLines.{one_line_more}
use Rattle.config_answers.proofs.plan_text.put_ports.Goals as goal

pub loop-behind-preserved : goal.loop-behind-preserved
loop-behind-preserved c =
    one_line_more c.args.plan.now c.loop-behind.text.items c.put_port.new.text.items _ c.args.plan.now.port c.loop-behind.behind (1 + length c.args.plan.now.nodes) (omega arith) c.in_ok-put_port.ensures c.loop-behind.invariant
