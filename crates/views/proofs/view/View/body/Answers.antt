use Rattle.std.proofs.Common.{rules}
use mir.Val.{SFits}
use mir.Syntax.{w16}
use Rattle.views.proofs.Bodies.{from_start, result_body, result_fits, result_fault}
use Rattle.views.proofs.view.View.body.Goals as goal

pub returns-clause-body : goal.returns-clause-body
returns-clause-body g c =
    let V = g.Self.View in
    let version = V.version_of c.args.self.now in
    let fields = V.fields c.args.self.now in
    let fk : SFits w16 c.KEY.result = search rules in
    let fv : SFits w16 c.version.result = search rules in
    result_body V.KEY version V.DIR V.format fields c.write.new.writer c.finish.result (from_start V.KEY c.KEY.result version c.version.result V.DIR c.DIR.result V.format fields c.new-writer.result c.write.new.writer fk fv c.in_ok-write.ensures c.new-writer.ensures c.KEY.ensures c.version.ensures c.DIR.ensures) c.finish.ensures.ok

pub returns-clause-fit : goal.returns-clause-fit
returns-clause-fit g c =
    let V = g.Self.View in
    let version = V.version_of c.args.self.now in
    let fields = V.fields c.args.self.now in
    let fk : SFits w16 c.KEY.result = search rules in
    let fv : SFits w16 c.version.result = search rules in
    result_fits V.KEY version V.DIR V.format fields c.write.new.writer c.finish.result (from_start V.KEY c.KEY.result version c.version.result V.DIR c.DIR.result V.format fields c.new-writer.result c.write.new.writer fk fv c.in_ok-write.ensures c.new-writer.ensures c.KEY.ensures c.version.ensures c.DIR.ensures) c.finish.ensures.ok

pub returns-clause-err : goal.returns-clause-err
returns-clause-err g c =
    let V = g.Self.View in
    let version = V.version_of c.args.self.now in
    let fields = V.fields c.args.self.now in
    let fk : SFits w16 c.KEY.result = search rules in
    let fv : SFits w16 c.version.result = search rules in
    result_fault V.KEY version V.DIR V.format fields c.write.new.writer c.finish.result (from_start V.KEY c.KEY.result version c.version.result V.DIR c.DIR.result V.format fields c.new-writer.result c.write.new.writer fk fv c.in_ok-write.ensures c.new-writer.ensures c.KEY.ensures c.version.ensures c.DIR.ensures) c.finish.ensures.err
