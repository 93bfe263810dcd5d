use Rattle.std.proofs.Common.{◌∙◌, refl, FitsSigned, w16, rules}
use Rattle.std.proofs.lemmas.Int.{to_z-of_z}
use Rattle.conn_core.proofs.Progress.{size_here, is_grown, is_small}
use Rattle.conn_core.proofs.telling.tell_send.Goals as goal

pub returns-then-size-gt-MOST_OUT-clause-told : goal.returns-then-size-gt-MOST_OUT-clause-told
returns-then-size-gt-MOST_OUT-clause-told g c = λ frame is.
    is_grown frame c.args.request c.args.main c.in-Some.size (size_here c.args.envelope frame c.args.request c.in-Some.size is c.in-Some.ensures) c.if-size-gt-MOST_OUT.true

pub returns-clause-told : goal.returns-clause-told
returns-clause-told g c = λ frame is.
    let key : FitsSigned w16 c.key.result = search rules in
    let version : FitsSigned w16 c.version.result = search rules in (
      is_small frame c.args.request c.args.main c.in-Some.size (size_here c.args.envelope frame c.args.request c.in-Some.size is c.in-Some.ensures) c.if-size-gt-MOST_OUT.false ∙ c.in_ok-message.ensures frame is,
      (refl, (to_z-of_z w16 c.key.result key ∙ c.key.ensures, to_z-of_z w16 c.version.result version ∙ c.version.ensures), refl),
    )
