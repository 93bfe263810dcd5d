use Rattle.std.proofs.Common.{◌≡◌, inr, sym, None}
use Rattle.std.proofs.lemmas.Result.{err_from_is_err_and}
use Rattle.toml.specs.View.{table_view}
use Rattle.proxy_config.specs.Meant.{unknown_key}
use Rattle.proxy_config.proofs.Order.{nothing_amiss, refused_by_clusters, by_plans, by_fault}
use Rattle.proxy_config.proofs.reading.config.Goals as goal

pub returns-in_err-plans : goal.returns-in_err-plans
returns-in_err-plans c =
    let known : unknown_key None (table_view c.args.table.now) ≡ None = nothing_amiss _ c.in_ok-only_known.ensures in
    let p = err_from_is_err_and c.from_residual-in_err-plans.result c.from_residual-in_err-plans.ensures.1 in
    rw (p.1, p.2) (refused_by_clusters _ _ _ _ c.in_ok-_one.ensures c.in_ok-items.ensures.meant known c.in_err-plans.ensures.clusters)

pub returns-in-Ok : goal.returns-in-Ok
returns-in-Ok c =
    let known : unknown_key None (table_view c.args.table.now) ≡ None = nothing_amiss _ c.in_ok-only_known.ensures in
    by_plans _ _ _ _ _ c.in_ok-_one.ensures c.in_ok-items.ensures.meant known c.in_ok-plans.ensures.clusters.0 c.in_ok-plans.ensures.clusters.1 (sym c.in-Ok.ensures.checked)

pub returns-in-Err : goal.returns-in-Err
returns-in-Err c =
    let known : unknown_key None (table_view c.args.table.now) ≡ None = nothing_amiss _ c.in_ok-only_known.ensures in
    inr (by_fault _ _ _ _ _ c.in_ok-_one.ensures c.in_ok-items.ensures.meant known c.in_ok-plans.ensures.clusters.0 c.in_ok-plans.ensures.clusters.1 (sym c.in-Err.ensures.checked))
