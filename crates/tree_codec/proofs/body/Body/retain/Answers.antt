use Rattle.tree_codec.proofs.Retaining.{body_retained, body_refused}
use Rattle.tree_codec.proofs.body.Body.retain.Goals as goal

pub returns-in-Ok-clause-ok : goal.returns-in-Ok-clause-ok
returns-in-Ok-clause-ok c = λ value has.
    rw (c.drop.view_is) (body_retained (record { key = c.self.inside.message.key; version = c.self.inside.message.version; dir = c.self.inside.message.dir; items = c.self.inside.items.items }) c.args.self.now c.self.view_is c.as_slice.result.now c.as_slice.ensures.value c.args.keep.now c.in-Some.field.now c.in-Some.path.now c.args.path.now c.in-Some.ensures.cases.0 c.in-Ok.body c.in-Ok.ensures.ok value has)

pub returns-in-Err-clause-err : goal.returns-in-Err-clause-err
returns-in-Err-clause-err c =
    body_refused (record { key = c.self.inside.message.key; version = c.self.inside.message.version; dir = c.self.inside.message.dir; items = c.self.inside.items.items }) c.args.self.now c.self.view_is c.as_slice.result.now c.as_slice.ensures.value c.args.keep.now c.in-Some.field.now c.in-Some.path.now c.args.path.now c.in-Some.ensures.cases.0 c.in-Err.fault c.in-Err.ensures.err
