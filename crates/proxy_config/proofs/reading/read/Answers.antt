use Rattle.std.proofs.Common.{◌≡◌, ℕ, List, sym, subst, ◌∙◌, inr}
use Rattle.std.proofs.lemmas.Bool.{false≢true}
use Rattle.virtual_cluster.specs.declared.plan.ClusterPlan.{ClusterPlan}
use Rattle.proxy_config.specs.Meant.{IsMeant}
use Rattle.proxy_config.proofs.Documents.{meant_by_table, meant_without_table}
use Rattle.proxy_config.proofs.reading.read.Goals as goal

pub returns-in-Ok : goal.returns-in-Ok
returns-in-Ok c =
    subst (λ meant. IsMeant {A = List ClusterPlan} c.config.result meant) (meant_by_table c.args.text.now _ c.in-Ok.ensures.ok.0 c.in-Ok.ensures.ok.1) c.config.ensures

pub returns-else-is_memory : goal.returns-else-is_memory
returns-else-is_memory c = inr (meant_without_table c.args.text.now (c.in-Err.ensures.refused (λ memory. false≢true (sym c.if-is_memory.false ∙ c.is_memory.ensures.1 memory))))
