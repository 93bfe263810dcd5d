use Rattle.std.proofs.Common.{refl, ◌∙◌, ap}
use Rattle.proxy_main.proofs.LineCuts.{empty_vec, full_vec}
use Rattle.proxy_main.proofs.Lists.{on_ok_then}
use Rattle.proxy_main.proofs.Reading.{finishes_empty, finishes, finishes_badly}
use Rattle.proxy_main.proofs.replay.Replay.finish.Goals as goal

pub returns-then-is_empty-clause-ok : goal.returns-then-is_empty-clause-ok
returns-then-is_empty-clause-ok g c = finishes_empty g.C.Connection.meaning g.C.Connection.stands c.args.self.now (empty_vec c.args.self.now.partial _ c.is_empty.ensures c.if-is_empty.true)

pub returns-clause-ok : goal.returns-clause-ok
returns-clause-ok g c =
    let line = c.as_slice.ensures.value ∙ ap (λ v. v.items) c.replace-line.ensures.value in
    on_ok_then c.answer.result _ _ _ (λ le answers. finishes g.C.Connection.meaning g.C.Connection.stands c.args.self.now _ c.answer.new.self c.as_slice.result.now (record { station = refl; answers = refl; lines = refl; steps = refl }) line (full_vec c.args.self.now.partial _ c.is_empty.ensures c.if-is_empty.false) answers le) c.answer.ensures.within c.answer.ensures.ok

pub returns-clause-bad : goal.returns-clause-bad
returns-clause-bad g c is =
    let line = c.as_slice.ensures.value ∙ ap (λ v. v.items) c.replace-line.ensures.value in
    finishes_badly g.C.Connection.meaning g.C.Connection.stands c.args.self.now _ c.answer.new.self c.as_slice.result.now (record { station = refl; answers = refl; lines = refl; steps = refl }) line (full_vec c.args.self.now.partial _ c.is_empty.ensures c.if-is_empty.false) (c.answer.ensures.same is) (c.answer.ensures.bad is)
