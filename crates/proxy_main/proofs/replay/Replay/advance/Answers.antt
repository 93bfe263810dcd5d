use Rattle.std.proofs.Common.{refl, ◌∙◌, ◌≡◌, sym, ap, subst, ◌++◌, ◌+◌, ◌∷◌, [], drop, Err}
use Rattle.std.proofs.lemmas.List.{take-append-drop}
use Rattle.proxy_main.specs.Scripts.{HasNoBreak}
use Rattle.proxy_main.specs.Progress.{Advances, Stumbles}
use Rattle.proxy_main.proofs.LineCuts.{first_break, no_break, take_whole}
use Rattle.proxy_main.proofs.Reading.{goes_on, stumbles_at}
use Rattle.proxy_main.specs.declared.stop.LineStop.TheVariants.{BadLine}
use Rattle.proxy_main.proofs.replay.Replay.advance.Goals as goal

pub returns-in-Err-clause-bad : goal.returns-in-Err-clause-bad
returns-in-Err-clause-bad g c is =
    let b = first_break c.args.bytes.now c.in-Some.end c.in-Some.ensures in
    let same : c.in-Err.stop ≡ BadLine = cc in
    let piece = c.split_at.result.0.now in
    let behind = drop (c.in-Some.end + 1) c.args.bytes.now in
    let whole : (piece ++ 10 ∷ []) ++ behind ≡ c.args.bytes.now = ap (λ xs. xs ++ behind) (ap (λ xs. xs ++ 10 ∷ []) c.split_at.ensures.front ∙ sym b.ends) ∙ take-append-drop (c.in-Some.end + 1) c.args.bytes.now in
    subst (λ xs. Stumbles g.C.Connection.meaning g.C.Connection.stands c.args.self.now xs c.end_line.new.self) whole (stumbles_at g.C.Connection.meaning g.C.Connection.stands c.args.self.now c.end_line.new.self piece behind (c.in-Err.ensures.bad (ap Err same)) (subst HasNoBreak (sym c.split_at.ensures.front) b.quiet))

pub returns-in-Ok-clause-ok : goal.returns-in-Ok-clause-ok
returns-in-Ok-clause-ok g c =
    let b = first_break c.args.bytes.now c.in-Some.end c.in-Some.ensures in
    subst (λ xs. Advances g.C.Connection.meaning g.C.Connection.stands c.args.self.now xs c.end_line.new.self) (ap (λ xs. xs ++ 10 ∷ []) c.split_at.ensures.front ∙ sym b.ends) (c.in-Ok.ensures.ok (subst HasNoBreak (sym c.split_at.ensures.front) b.quiet))

pub returns-in_ok-keep-in-None-clause-ok : goal.returns-in_ok-keep-in-None-clause-ok
returns-in_ok-keep-in-None-clause-ok g c =
    subst (λ xs. Advances g.C.Connection.meaning g.C.Connection.stands c.args.self.now xs (record c.args.self.now { partial = c.keep.new.partial })) (sym (take_whole c.args.bytes.now)) (goes_on g.C.Connection.meaning g.C.Connection.stands c.args.self.now (record c.args.self.now { partial = c.keep.new.partial }) c.args.bytes.now c.keep.new.partial.items (record { station = refl; answers = refl; lines = refl; steps = refl }) refl c.in_ok-keep-in-None.ensures.ok (no_break c.args.bytes.now c.in-None.ensures))
