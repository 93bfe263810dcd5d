use Rattle.std.proofs.Common.{ap, ◌∙◌}
use Rattle.std.proofs.lemmas.Result.{IfOk-weaker}
use Rattle.tree_spelling.specs.Body.{Contents}
use Rattle.api_versions.proofs.Entries.{narrowed_is}
use Rattle.api_versions.proofs.narrowing.narrow.Goals as goal

pub returns-clause-narrowed : goal.returns-clause-narrowed
returns-clause-narrowed c = λ rest value h.
    IfOk-weaker c.narrow_body.result _ _ (λ new e. ap (λ (b : Contents). b.items) e ∙ narrowed_is rest value _ h) c.narrow_body.ensures
