use Rattle.std.proofs.Common.{sym, subst, arith, ◌++◌, ◌∷◌, [], length-append}
use Rattle.transcript.specs.Answers.{answer_text}
use Rattle.proxy_main.specs.Progress.{IsAt}
use Rattle.proxy_main.proofs.Playing.{answered_more, counted_more}
use Rattle.proxy_main.proofs.Stepping.{played_on}
use Rattle.proxy_main.proofs.replay.Replay.answer.Goals as goal

pub returns-clause-ok : goal.returns-clause-ok
returns-clause-ok g c M begun lines text st =
    let k = c.in_ok-answer.ensures in
    let p = played_on g.C.Connection.meaning g.C.Connection.stands M c.args.self.now.station c.perform.new.station st.answered.last c.in_ok-line.line c.in_ok-answer.answer c.args.self.now.steps c.perform.new.steps st.is_at k in
    let grows = p.counts st.answered.history st.answered.is_history in
    let m = answered_more M lines text c.args.line.now c.in_ok-line.line c.in_ok-answer.answer p.history p.last st.answered st.lasting c.in_ok-line.ensures.ok p.played p.leads in (
      answer_text c.in_ok-answer.answer ++ 10 ∷ [],
      record {
        lasting = st.lasting;
        answered = m.answered;
        is_at = subst (λ q. IsAt g.C.Connection.meaning g.C.Connection.stands M c.perform.new.station q) (sym m.last_is) p.is_at;
        count = omega (arith, st.count, c.in-Some.ensures.1, length-append lines (c.args.line.now ∷ []));
        counted = counted_more M begun c.args.self.now.steps c.perform.new.steps st.answered m.answered p.last st.counted grows m.last_is;
      },
      c.in_ok-put_answer.ensures.ok,
    )
