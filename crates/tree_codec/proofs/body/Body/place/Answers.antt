use Rattle.std.proofs.Common.{◌≡◌, sym, ap, ◌∙◌}
use Rattle.wire_types.specs.declared.no_memory.NoMemory.{NoMemory}
use Rattle.tree_spelling.specs.Shape.{nest}
use Rattle.tree_spelling.specs.Body.{Contents, body_shape}
use Rattle.tree_spelling.specs.Value.{items_of}
use Rattle.tree_codec.proofs.Steps.{placed}
use Rattle.tree_codec.proofs.body.Body.place.Goals as goal

pub returns : goal.returns
returns c = λ value has.
    let same : body_shape c.args.self.now ≡ nest c.message_fields-fields.result.now 0 = ap body_shape (sym c.self.view_is) ∙ c.message_fields-fields.ensures in
    let items : c.as_slice.result.now ≡ items_of (body_shape c.args.self.now) value = c.as_slice.ensures.value ∙ ap (λ (b : Contents). b.items) c.self.view_is ∙ has in
    placed NoMemory (body_shape c.args.self.now) (nest c.message_fields-fields.result.now 0) same value c.as_slice.result.now items c.in-Some.field.now c.in-Some.path.now c.args.path.now c.in-Some.ensures.cases.0 c.find.result c.find.ensures
