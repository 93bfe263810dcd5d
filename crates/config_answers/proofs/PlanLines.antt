-- The lines of ports, one after another.
use Rattle.std.proofs.Common.{◌≡◌, ℕ, ◌+◌, ◌-◌, ◌<◌, zero, suc, List, ◌++◌, refl, sym, ap, ◌∙◌, append_assoc, arith}
use Rattle.virtual_cluster.specs.declared.plan.ClusterPlan.{ClusterPlan}
use Rattle.config_answers.specs.PlanTexts.{port_line, port_lines}

-- the first of the lines
first_port_line : (plan : ClusterPlan) (port count rest : ℕ) → rest + 1 ≡ count → port_lines plan port count ≡ port_line plan port ++ port_lines plan (port + 1) rest
first_port_line plan port zero rest same = absurd (omega arith)
first_port_line plan port (suc count) rest same =
    let less : count ≡ rest = omega arith in
    rw less refl

-- a line more was written
pub one_line_more : (plan : ClusterPlan) (now after whole : List ℕ) (port behind count : ℕ) → behind < count → after ≡ now ++ port_line plan (port + behind)
    → now ++ port_lines plan (port + behind) (count - behind) ≡ whole → after ++ port_lines plan (port + (behind + 1)) (count - (behind + 1)) ≡ whole
one_line_more plan now after whole port behind count within written so_far =
    let next : (port + behind) + 1 ≡ port + (behind + 1) = omega arith in
    let step = first_port_line plan (port + behind) (count - behind) (count - (behind + 1)) (omega arith) in
    ap (λ t. t ++ port_lines plan (port + (behind + 1)) (count - (behind + 1))) written
    ∙ append_assoc now (port_line plan (port + behind)) (port_lines plan (port + (behind + 1)) (count - (behind + 1)))
    ∙ ap (λ r. now ++ r) (ap (λ p. port_line plan (port + behind) ++ port_lines plan p (count - (behind + 1))) (sym next) ∙ sym step)
    ∙ so_far
