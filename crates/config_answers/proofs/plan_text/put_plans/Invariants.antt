use Rattle.std.proofs.Common.{◌≡◌, drop, ◌++◌}
use Rattle.config_answers.specs.PlanTexts.{plans_text}
use Rattle.config_answers.proofs.plan_text.put_plans.Given as goal

-- the plans so far are written
abbrev pub invariant-loop-n : goal.invariant-loop-n
invariant-loop-n l = l.text.items ++ plans_text (drop l.n l.plans) ≡ l.fn.text.items ++ plans_text l.plans
