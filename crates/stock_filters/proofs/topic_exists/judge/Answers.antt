use Rattle.std.proofs.Common.{◌≡◌, ◌∙◌, ap, subst, pos, Bool, List, map}
use Rattle.std.proofs.lemmas.Result.{IfOk-weaker}
use Rattle.filter_core.specs.Decision.{Makes}
use Rattle.stock_filters.specs.declared.create_topics.Screened.{Screened}
use Rattle.stock_filters.specs.CreateTopics.{topic_names, go_on, KeepsRefused}
use Rattle.stock_filters.specs.TopicExists.{is_new, metadata_items, exists_flags}
use Rattle.stock_filters.proofs.topic_exists.judge.Goals as goal

pub returns : goal.returns
returns c =
    let names : c.as_slice.result.now ≡ topic_names c.args.request = c.as_slice.ensures.value ∙ c.in_ok-names.ensures in
    let flags : c.as_slice-2.result.now ≡ exists_flags c.args.request c.args.input.now =
    c.as_slice-2.ensures.value ∙ c.in_ok-flags.ensures ∙ ap (λ xs. map (is_new xs) c.as_slice.result.now) c.metadata_items.ensures ∙ ap (map (is_new (metadata_items c.args.input.now))) names in
    IfOk-weaker c.go_on.result _ _
    (λ made m. subst (λ (fl : List Bool). Makes (λ (p : Screened). KeepsRefused c.args.request fl p.request p.refuses p.refused.items) (go_on (pos 36) c.args.request fl) made) flags m)
    c.go_on.ensures
