use Rattle.std.proofs.Common.{◌≡◌, refl}
use Rattle.std.proofs.lemmas.Result.{err_from_is_err_and}
use Rattle.proxy_config.proofs.Order.{carried}
use Rattle.proxy_config.specs.Halves.{options_of}
use Rattle.toml.specs.View.{table_view}
use Rattle.proxy_config.proofs.Clusters.{options_given}
use Rattle.proxy_config.proofs.cluster.read_options.Goals as goal

pub returns : goal.returns
returns c =
    options_given c.args.n (table_view c.args.table.now) _ (record {
      prefix = c.in_ok-text_or_none.ensures;
      filters = c.in_ok-filters_or_none.ensures;
      policy_deny = c.in_ok-texts_or_none.ensures;
      in_flight = c.in_ok-natural_or.ensures;
      completers = c.in_ok-natural_or-2.ensures;
      connections = c.in_ok-natural_or-3.ensures;
    })

pub returns-in_err-texts_or_none : goal.returns-in_err-texts_or_none
unfolding options_of
returns-in_err-texts_or_none c =
    let p = err_from_is_err_and c.from_residual-in_err-texts_or_none.result c.from_residual-in_err-texts_or_none.ensures.1 in
    rw (p.1, p.2) (carried _ _ _ c.in_err-texts_or_none.ensures (λ r. rw (c.in_ok-text_or_none.ensures, c.in_ok-filters_or_none.ensures, r) refl))

pub returns-in_err-natural_or : goal.returns-in_err-natural_or
unfolding options_of
returns-in_err-natural_or c =
    let p = err_from_is_err_and c.from_residual-in_err-natural_or.result c.from_residual-in_err-natural_or.ensures.1 in
    rw (p.1, p.2) (carried _ _ _ c.in_err-natural_or.ensures (λ r. rw (c.in_ok-text_or_none.ensures, c.in_ok-filters_or_none.ensures, c.in_ok-texts_or_none.ensures, r) refl))

pub returns-in_err-natural_or-2 : goal.returns-in_err-natural_or-2
unfolding options_of
returns-in_err-natural_or-2 c =
    let p = err_from_is_err_and c.from_residual-in_err-natural_or-2.result c.from_residual-in_err-natural_or-2.ensures.1 in
    rw (p.1, p.2) (carried _ _ _ c.in_err-natural_or-2.ensures (λ r. rw (c.in_ok-text_or_none.ensures, c.in_ok-filters_or_none.ensures, c.in_ok-texts_or_none.ensures, c.in_ok-natural_or.ensures, r) refl))

pub returns-in_err-natural_or-3 : goal.returns-in_err-natural_or-3
unfolding options_of
returns-in_err-natural_or-3 c =
    let p = err_from_is_err_and c.from_residual-in_err-natural_or-3.result c.from_residual-in_err-natural_or-3.ensures.1 in
    rw (p.1, p.2) (carried _ _ _ c.in_err-natural_or-3.ensures (λ r. rw (c.in_ok-text_or_none.ensures, c.in_ok-filters_or_none.ensures, c.in_ok-texts_or_none.ensures, c.in_ok-natural_or.ensures, c.in_ok-natural_or-2.ensures, r) refl))
