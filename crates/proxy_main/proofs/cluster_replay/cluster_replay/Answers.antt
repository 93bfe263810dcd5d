use Rattle.std.proofs.Common.{◌∷◌, [], sym, ◌∙◌, ap}
use Rattle.std.specs.Prelude.{codes}
use Rattle.std.specs.Str.{bytes_eq}
use Rattle.std.proofs.lemmas.Slice.Eq.{bytes_eq-Decides}
use Rattle.proxy_main.proofs.Word.{three_words, not_other}
use Rattle.proxy_main.proofs.cluster_replay.cluster_replay.Goals as goal

pub returns-clause-some : goal.returns-clause-some
returns-clause-some c =
    let is_replay = (bytes_eq-Decides c.as_str.result.now (codes "replay")).0 (not_other (bytes_eq c.as_str.result.now (codes "replay")) c.ne.result c.ne.ensures c.if-ne.false) in
    let three = three_words c.args.words.now c.index-words-0.result c.index-words-1.result c.index-words-2.result c.as_str.result.now c.as_bytes-file.result.now c.as_bytes-cluster.result.now c.if-words-ne3.false c.index-words-0.is c.index-words-1.is c.index-words-2.is c.as_str.ensures.value c.as_bytes-file.ensures.value c.as_bytes-cluster.ensures.value in
    record {
      words_are = three ∙ ap (λ word. word ∷ (c.as_bytes-file.result.now ∷ (c.as_bytes-cluster.result.now ∷ []))) is_replay;
      names_file = sym c.begins_with_a_dash.ensures ∙ c.if-begins_with_a_dash.false;
      names_cluster = sym c.begins_with_a_dash-else-begins_with_a_dash.ensures ∙ c.if-begins_with_a_dash-2.false;
    }
