use Rattle.std.proofs.Common.{◌≡◌, ℕ, List, sym, subst, refl, w16}
use Rattle.std.proofs.lemmas.Result.{err_from_is_err_and}
use Rattle.std.proofs.lemmas.Int.{to_z-of_z}
use Rattle.tree_spelling.specs.Shape.{Shape, nest, message_shape}
use Rattle.tree_codec.specs.Faults.{IsFaultOf}
use Rattle.tree_codec.specs.Decoding.{AreItemsOf}
use Rattle.tree_codec.proofs.Progress.{only_memory, whole_body}
use Rattle.tree_codec.proofs.decoder.decode.Goals as goal

pub returns-in_err-items-clause-spelled_is_read : goal.returns-in_err-items-clause-spelled_is_read
returns-in_err-items-clause-spelled_is_read c = λ value spells.
    let p = err_from_is_err_and c.from_residual.result c.from_residual.ensures.1 in
    let key = c.ranges.key in
    let version = c.ranges.version in
    let shape : message_shape c.args.key c.args.version c.args.dir ≡ nest c.message_fields.result.now 0 = simp to_z-of_z at c.message_fields.ensures in
    let found = subst (λ (bytes : List ℕ). IsFaultOf (nest c.message_fields.result.now 0) bytes c.in_err-items.field-0.0) c.as_slice.ensures c.in_err-items.ensures.err in
    let fault = subst (λ (s : Shape). IsFaultOf s c.args.bytes c.in_err-items.field-0.0) (sym shape) found in
    rw (p.1, p.2) (only_memory _ _ c.in_err-items.field-0.0 fault value spells)

pub invariant_of-result : goal.invariant_of-result
invariant_of-result c =
    let key = c.ranges.key in
    let version = c.ranges.version in
    let shape : message_shape c.args.key c.args.version c.args.dir ≡ nest c.message_fields.result.now 0 = simp to_z-of_z at c.message_fields.ensures in
    let found = subst (λ (bytes : List ℕ). AreItemsOf (nest c.message_fields.result.now 0) bytes c.in_ok-items.items.items) c.as_slice.ensures c.in_ok-items.ensures.ok in
    let items = subst (λ (s : Shape). AreItemsOf s c.args.bytes c.in_ok-items.items.items) (sym shape) found in
    simp to_z-of_z (whole_body c.args.key c.args.version c.args.dir c.args.bytes c.in_ok-items.items.items c.len.result items c.len.ensures.value)

pub returns-clause-ok : goal.returns-clause-ok
returns-clause-ok c =
    let key = c.ranges.key in
    let version = c.ranges.version in
    let shape : message_shape c.args.key c.args.version c.args.dir ≡ nest c.message_fields.result.now 0 = simp to_z-of_z at c.message_fields.ensures in
    let found = subst (λ (bytes : List ℕ). AreItemsOf (nest c.message_fields.result.now 0) bytes c.in_ok-items.items.items) c.as_slice.ensures c.in_ok-items.ensures.ok in
    let items = subst (λ (s : Shape). AreItemsOf s c.args.bytes c.in_ok-items.items.items) (sym shape) found in
    record {
      of = record { key_is = to_z-of_z w16 c.args.key c.ranges.key; version_is = to_z-of_z w16 c.args.version c.ranges.version; dir_is = refl };
      value = items.value;
      items_are = items.items_are;
      spelled = items.spelled;
    }
