use Rattle.std.proofs.Common.{◌≡◌, sym, ◌∙◌, ap, Some, None, Ok}
use Rattle.std.proofs.lemmas.Result.{err_from_is_err_and}
use Rattle.toml.specs.View.{table_view}
use Rattle.proxy_config.proofs.Clusters.{cluster_given, needed_refused, options_refused, key_refused}
use Rattle.proxy_config.proofs.Order.{carried, nothing_amiss, that_amiss}
use Rattle.proxy_config.proofs.cluster.cluster.Goals as goal

pub returns-in_err-needed : goal.returns-in_err-needed
returns-in_err-needed c =
    let p = err_from_is_err_and c.from_residual.result c.from_residual.ensures.1 in
    rw (p.1, p.2) (carried _ _ _ c.in_err-needed.ensures (needed_refused c.args.n (table_view c.args.table.now) _))

pub returns-in_err-options : goal.returns-in_err-options
returns-in_err-options c =
    let p = err_from_is_err_and c.from_residual-in_err-options.result c.from_residual-in_err-options.ensures.1 in
    rw (p.1, p.2) (carried _ _ _ c.in_err-options.ensures (options_refused c.args.n (table_view c.args.table.now) _ _ c.in_ok-needed.ensures))

pub returns-in_err-only_known : goal.returns-in_err-only_known
returns-in_err-only_known c =
    let p = err_from_is_err_and c.from_residual-in_err-only_known.result c.from_residual-in_err-only_known.ensures.1 in
    rw (p.1, p.2) (carried _ _ _ c.in_err-only_known.ensures (λ r. key_refused c.args.n (table_view c.args.table.now) _ _ _ c.in_ok-needed.ensures c.in_ok-options.ensures (that_amiss _ _ r)))

pub returns : goal.returns
returns c =
    cluster_given c.args.n (table_view c.args.table.now) _ _ c.in_ok-needed.ensures c.in_ok-options.ensures (nothing_amiss _ c.in_ok-only_known.ensures) ∙ ap Ok (sym c.joined.ensures)
