use Rattle.std.proofs.Common.{refl, ◌∙◌, ap}
use Rattle.proxy_main.proofs.LineCuts.{empty_vec}
use Rattle.proxy_main.proofs.Lists.{on_ok_then}
use Rattle.proxy_main.proofs.Reading.{ends, ends_badly, tells_new, tells_kept}
use Rattle.proxy_main.proofs.replay.Replay.end_line.Goals as goal

pub returns-then-is_empty-clause-ok : goal.returns-then-is_empty-clause-ok
returns-then-is_empty-clause-ok g c =
    let empty = empty_vec c.args.self.now.partial _ c.is_empty.ensures c.if-is_empty.true in
    on_ok_then c.answer.result _ _ _ (λ le answers. ends g.C.Connection.meaning g.C.Connection.stands c.args.self.now _ c.answer.new.self c.args.piece.now c.args.piece.now (record { station = refl; answers = refl; lines = refl; steps = refl }) (tells_new g.C.Connection.meaning g.C.Connection.stands c.args.self.now c.args.piece.now empty) answers le (c.answer.ensures.partial ∙ empty)) c.answer.ensures.within c.answer.ensures.ok

pub returns-then-is_empty-clause-bad : goal.returns-then-is_empty-clause-bad
returns-then-is_empty-clause-bad g c is =
    let empty = empty_vec c.args.self.now.partial _ c.is_empty.ensures c.if-is_empty.true in
    ends_badly g.C.Connection.meaning g.C.Connection.stands c.args.self.now _ c.answer.new.self c.args.piece.now c.args.piece.now (record { station = refl; answers = refl; lines = refl; steps = refl }) (tells_new g.C.Connection.meaning g.C.Connection.stands c.args.self.now c.args.piece.now empty) (c.answer.ensures.same is) (c.answer.ensures.bad is)

pub returns-clause-ok : goal.returns-clause-ok
returns-clause-ok g c =
    let line = c.as_slice.ensures.value ∙ ap (λ v. v.items) c.replace-line.ensures.value in
    on_ok_then c.answer-2.result _ _ _ (λ le answers. ends g.C.Connection.meaning g.C.Connection.stands c.args.self.now _ c.answer-2.new.self c.as_slice.result.now c.args.piece.now (record { station = refl; answers = refl; lines = refl; steps = refl }) (tells_kept g.C.Connection.meaning g.C.Connection.stands c.args.self.now _ c.args.piece.now _ c.in_ok-keep.ensures.ok line) answers le (c.answer-2.ensures.partial ∙ ap (λ v. v.items) c.replace-line.ensures.after ∙ c.new.ensures.items)) c.answer-2.ensures.within c.answer-2.ensures.ok

pub returns-clause-bad : goal.returns-clause-bad
returns-clause-bad g c is =
    let line = c.as_slice.ensures.value ∙ ap (λ v. v.items) c.replace-line.ensures.value in
    ends_badly g.C.Connection.meaning g.C.Connection.stands c.args.self.now _ c.answer-2.new.self c.as_slice.result.now c.args.piece.now (record { station = refl; answers = refl; lines = refl; steps = refl }) (tells_kept g.C.Connection.meaning g.C.Connection.stands c.args.self.now _ c.args.piece.now _ c.in_ok-keep.ensures.ok line) (c.answer-2.ensures.same is) (c.answer-2.ensures.bad is)
