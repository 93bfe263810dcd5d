use Rattle.std.proofs.Common.{◌≡◌, ◌+◌, ◌-◌, ◌++◌, length}
use Rattle.config_answers.specs.PlanTexts.{port_lines}
use Rattle.config_answers.proofs.plan_text.put_ports.Given as goal

-- the ports so far are written
abbrev pub invariant-loop-behind : goal.invariant-loop-behind
invariant-loop-behind l =
    l.text.items ++ port_lines l.plan (l.plan.port + l.behind) (1 + length l.plan.nodes - l.behind)
    ≡ l.fn.text.items ++ port_lines l.plan l.plan.port (1 + length l.plan.nodes)
