use Rattle.std.proofs.lemmas.List.Elements.{All-map}
use Rattle.filter_core.specs.Laws.{IsLawful}
use Rattle.proxy_laws.proofs.Requests.{every_one}
use Rattle.proxy_laws.proofs.chains.filters_are_lawful.Goals as goal

pub returns : goal.returns
returns g c =
    All-map IsLawful g.F.Filter.turn c.args.filters.now
    (every_one (λ f. IsLawful (g.F.Filter.turn f)) c.args.filters.now
    (λ f. record {
      forwards_once = g.met.F.Filter.forwards_once f;
      ends_after_six = g.met.F.Filter.ends_after_six f;
      forwards_the_same = g.met.F.Filter.forwards_the_same f;
      questions_are_answered = g.met.F.Filter.questions_are_answered f;
      returns_an_answer = g.met.F.Filter.returns_an_answer f;
    }))
