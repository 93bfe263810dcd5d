use Rattle.std.proofs.Common.{◌≡◌, ap, subst}
use Rattle.std.specs.Prelude.{MatchResult}
use Rattle.tree_spelling.specs.Body.{Contents}
use Rattle.tree_spelling.specs.Retaining.{field_flagged}
use Rattle.tree_spelling.specs.Shape.{nest, message_shape}
use Rattle.tree_spelling.specs.Value.{items_of}
use Rattle.tree_codec.proofs.Retaining.{flagged_whole, refused_whole}
use Rattle.tree_codec.proofs.retain.retained.Goals as goal

pub returns-in-Err-clause-err : goal.returns-in-Err-clause-err
returns-in-Err-clause-err c =
    refused_whole (message_shape c.args.message.key c.args.message.version c.args.message.dir) (nest c.message_fields-fields.result.now 0) c.message_fields-fields.ensures c.args.items.now c.args.keep.now c.args.field c.args.path.now c.in-Err.fault c.in-Err.ensures.err

pub returns-in-Ok-finish-clause-ok : goal.returns-in-Ok-finish-clause-ok
returns-in-Ok-finish-clause-ok c = λ value there.
    subst (λ (b : Contents). MatchResult (field_flagged (message_shape c.args.message.key c.args.message.version c.args.message.dir) value c.args.keep.now c.args.field c.args.path.now) (λ new. c.in-Ok-finish.body ≡ record b { items = items_of (message_shape c.args.message.key c.args.message.version c.args.message.dir) new }) (λ fault. ⊥)) c.empty-out.ensures
    (flagged_whole (message_shape c.args.message.key c.args.message.version c.args.message.dir) (nest c.message_fields-fields.result.now 0) c.message_fields-fields.ensures c.args.items.now c.args.keep.now c.args.field c.args.path.now
    c.empty-out.result c.retain_in.new.out c.copy_all.new.out c.in-Ok-finish.body c.in-Ok.left.now
    c.in-Ok.ensures.ok (ap (λ (b : Contents). b.items) c.empty-out.ensures) c.in_ok-copy_all.ensures.ok c.in-Ok-finish.ensures.ok value there)
