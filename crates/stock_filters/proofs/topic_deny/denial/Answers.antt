use Rattle.std.proofs.Common.{◌≡◌, ◌∙◌, ap, drop, pos, [], to_z, of_z, w16, FitsSigned}
use Rattle.std.proofs.lemmas.Int.{to_z-of_z}
use Rattle.kp_schema.specs.Field.{is_between}
use Rattle.stock_filters.proofs.Denied.{denial_built, response_with}
use Rattle.stock_filters.proofs.topic_deny.denial.Goals as goal

pub returns-in-Ok : goal.returns-in-Ok
returns-in-Ok c =
    let version = c.version-version.result in
    let fits : FitsSigned w16 c.version-version.result = record { sfits = c.version-version.type_inv } in
    let same : to_z w16 (of_z w16 c.version-version.result) ≡ c.version-version.result = to_z-of_z w16 c.version-version.result fits in
    denial_built c.args.request.now c.new-out.result c.push_denied.new.out c.push_all.new.out c.in-Ok.body version c.is_between-log_start.result c.is_between-errors.result c.topic_items.result.now
    c.version-version.ensures
    (c.is_between-log_start.ensures ∙ ap (λ z. is_between (pos 5) (pos 8) z) same)
    (c.is_between-errors.ensures ∙ ap (λ z. is_between (pos 8) (pos 8) z) same)
    (c.topic_items.ensures ∙ ap (drop 3) c.items.ensures)
    (c.new-out.ensures ∙ ap (λ z. response_with z []) same)
    c.in_ok-push_denied.ensures c.in_ok-push_all.ensures c.in-Ok.ensures.ok
