use Rattle.std.proofs.Common.{◌∙◌, ap, sym, ◌∷◌, ◌++◌, arith, inl}
use Rattle.tree_spelling.specs.Shape.{nest, field_shape}
use Rattle.tree_codec.proofs.Retaining.{if_ok, if_err, none_flagged, f, t, later_there, later_ok, later_err, entry_there, entry_ok, entry_err, half_err, missing_err, itself_ok, itself_err, no_more}
use Rattle.tree_codec.proofs.retain.+retain_in.Goals as goal

pub returns-in_default-clause-err : goal.returns-in_default-clause-err
returns-in_default-clause-err n c = λ value more there. inl (none_flagged (nest c.args.fields.now c.args.depth) c.in_default.ensures.next value c.args.keep.now c.args.field c.args.path.now)

pub returns-then-field-gt0-clause-ok : goal.returns-then-field-gt0-clause-ok
returns-then-field-gt0-clause-ok n c =
    if_ok _ _ c.retain_in.result (λ left goes value more there.
    later_ok c.in-Some.field-0-0.now.kind (nest c.in-Some.behind.now c.in-Some-checked_add.deeper) (nest c.in-Some.behind.now c.args.depth) (nest c.args.fields.now c.args.depth) (c.in-Some.ensures.next ∙ ap (λ d. field_shape c.in-Some.field-0-0.now.kind (nest c.in-Some.behind.now d) (nest c.in-Some.behind.now c.args.depth)) (sym c.in-Some-checked_add.ensures.1)) c.args.rest.now c.in-Some-split_first.first.now _ c.in-Some-split_first.ensures.cases.0 c.args.keep.now value more there c.args.out.now c.copy.new.out c.in_ok-left.left.now c.in_ok-end.end c.in_ok-left.ensures.ok c.in_ok-end.ensures.within c.entries_of-entries.result c.entries_of-entries.ensures c.in_ok-end.ensures.rest c.args.field c.args.path.now c.retain_in.new.out left.now c.if-field-gt0.true
    (goes (f c.in-Some.field-0-0.now.kind (nest c.in-Some.behind.now c.in-Some-checked_add.deeper) (nest c.in-Some.behind.now c.args.depth) (nest c.args.fields.now c.args.depth) (c.in-Some.ensures.next ∙ ap (λ d. field_shape c.in-Some.field-0-0.now.kind (nest c.in-Some.behind.now d) (nest c.in-Some.behind.now c.args.depth)) (sym c.in-Some-checked_add.ensures.1)) c.args.rest.now c.in-Some-split_first.first.now _ c.in-Some-split_first.ensures.cases.0 c.args.keep.now value more there).rest more (later_there c.in-Some.field-0-0.now.kind (nest c.in-Some.behind.now c.in-Some-checked_add.deeper) (nest c.in-Some.behind.now c.args.depth) (nest c.args.fields.now c.args.depth) (c.in-Some.ensures.next ∙ ap (λ d. field_shape c.in-Some.field-0-0.now.kind (nest c.in-Some.behind.now d) (nest c.in-Some.behind.now c.args.depth)) (sym c.in-Some-checked_add.ensures.1)) c.args.rest.now c.in-Some-split_first.first.now _ c.in-Some-split_first.ensures.cases.0 c.args.keep.now value more there c.args.out.now c.copy.new.out c.in_ok-left.left.now c.in_ok-end.end c.in_ok-left.ensures.ok c.in_ok-end.ensures.within c.entries_of-entries.result c.entries_of-entries.ensures c.in_ok-end.ensures.rest))) c.retain_in.ensures.ok

pub returns-then-field-gt0-clause-err : goal.returns-then-field-gt0-clause-err
returns-then-field-gt0-clause-err n c =
    if_err _ _ c.retain_in.result (λ fault goes value more there.
    later_err c.in-Some.field-0-0.now.kind (nest c.in-Some.behind.now c.in-Some-checked_add.deeper) (nest c.in-Some.behind.now c.args.depth) (nest c.args.fields.now c.args.depth) (c.in-Some.ensures.next ∙ ap (λ d. field_shape c.in-Some.field-0-0.now.kind (nest c.in-Some.behind.now d) (nest c.in-Some.behind.now c.args.depth)) (sym c.in-Some-checked_add.ensures.1)) c.args.rest.now c.in-Some-split_first.first.now _ c.in-Some-split_first.ensures.cases.0 c.args.keep.now value more there c.args.out.now c.copy.new.out c.in_ok-left.left.now c.in_ok-end.end c.in_ok-left.ensures.ok c.in_ok-end.ensures.within c.entries_of-entries.result c.entries_of-entries.ensures c.in_ok-end.ensures.rest c.args.field c.args.path.now fault c.if-field-gt0.true
    (goes (f c.in-Some.field-0-0.now.kind (nest c.in-Some.behind.now c.in-Some-checked_add.deeper) (nest c.in-Some.behind.now c.args.depth) (nest c.args.fields.now c.args.depth) (c.in-Some.ensures.next ∙ ap (λ d. field_shape c.in-Some.field-0-0.now.kind (nest c.in-Some.behind.now d) (nest c.in-Some.behind.now c.args.depth)) (sym c.in-Some-checked_add.ensures.1)) c.args.rest.now c.in-Some-split_first.first.now _ c.in-Some-split_first.ensures.cases.0 c.args.keep.now value more there).rest more (later_there c.in-Some.field-0-0.now.kind (nest c.in-Some.behind.now c.in-Some-checked_add.deeper) (nest c.in-Some.behind.now c.args.depth) (nest c.args.fields.now c.args.depth) (c.in-Some.ensures.next ∙ ap (λ d. field_shape c.in-Some.field-0-0.now.kind (nest c.in-Some.behind.now d) (nest c.in-Some.behind.now c.args.depth)) (sym c.in-Some-checked_add.ensures.1)) c.args.rest.now c.in-Some-split_first.first.now _ c.in-Some-split_first.ensures.cases.0 c.args.keep.now value more there c.args.out.now c.copy.new.out c.in_ok-left.left.now c.in_ok-end.end c.in_ok-left.ensures.ok c.in_ok-end.ensures.within c.entries_of-entries.result c.entries_of-entries.ensures c.in_ok-end.ensures.rest))) c.retain_in.ensures.err

pub returns-in_default-split_first-2-clause-ok : goal.returns-in_default-split_first-2-clause-ok
returns-in_default-split_first-2-clause-ok n c =
    if_ok _ _ c.retain_entries.result (λ left copied value more there.
    itself_ok c.in-Some.field-0-0.now.kind (nest c.in-Some.behind.now c.in-Some-checked_add.deeper) (nest c.in-Some.behind.now c.args.depth) (nest c.args.fields.now c.args.depth) (c.in-Some.ensures.next ∙ ap (λ d. field_shape c.in-Some.field-0-0.now.kind (nest c.in-Some.behind.now d) (nest c.in-Some.behind.now c.args.depth)) (sym c.in-Some-checked_add.ensures.1)) c.args.rest.now c.in-Some-split_first.first.now _ c.in-Some-split_first.ensures.cases.0 c.args.keep.now value more there c.args.field c.args.path.now c.args.out.now c.retain_entries.new.out left.now (omega (arith, c.if-field-gt0.false)) (no_more c.args.path.now c.in_default-split_first-2.ensures.cases) copied) c.retain_entries.ensures.ok

pub returns-in_default-split_first-2-clause-err : goal.returns-in_default-split_first-2-clause-err
returns-in_default-split_first-2-clause-err n c =
    if_err _ _ c.retain_entries.result (λ fault why value more there.
    itself_err c.in-Some.field-0-0.now.kind (nest c.in-Some.behind.now c.in-Some-checked_add.deeper) (nest c.in-Some.behind.now c.args.depth) (nest c.args.fields.now c.args.depth) (c.in-Some.ensures.next ∙ ap (λ d. field_shape c.in-Some.field-0-0.now.kind (nest c.in-Some.behind.now d) (nest c.in-Some.behind.now c.args.depth)) (sym c.in-Some-checked_add.ensures.1)) c.args.rest.now c.in-Some-split_first.first.now _ c.in-Some-split_first.ensures.cases.0 c.args.keep.now value more there c.args.field c.args.path.now fault (omega (arith, c.if-field-gt0.false)) (no_more c.args.path.now c.in_default-split_first-2.ensures.cases) why) c.retain_entries.ensures.err

pub returns-in_default-split_first-3-clause-err : goal.returns-in_default-split_first-3-clause-err
returns-in_default-split_first-3-clause-err n c = λ value more there.
    inl (half_err c.in-Some.field-0-0.now.kind (nest c.in-Some.behind.now c.in-Some-checked_add.deeper) (nest c.in-Some.behind.now c.args.depth) (nest c.args.fields.now c.args.depth) (c.in-Some.ensures.next ∙ ap (λ d. field_shape c.in-Some.field-0-0.now.kind (nest c.in-Some.behind.now d) (nest c.in-Some.behind.now c.args.depth)) (sym c.in-Some-checked_add.ensures.1)) c.args.rest.now c.in-Some-split_first.first.now _ c.in-Some-split_first.ensures.cases.0 c.args.keep.now value more there c.args.field c.in-Some-split_first-2.entry.now c.args.path.now (omega (arith, c.if-field-gt0.false)) (c.in-Some-split_first-2.ensures.cases.0 ∙ ap (λ z. c.in-Some-split_first-2.entry.now ∷ z) (no_more c.in-Some-split_first-2.path.now c.in_default-split_first-3.ensures.cases)))

pub returns-then-entry-entries-clause-err : goal.returns-then-entry-entries-clause-err
returns-then-entry-entries-clause-err n c = λ value more there.
    inl (missing_err c.in-Some.field-0-0.now.kind (nest c.in-Some.behind.now c.in-Some-checked_add.deeper) (nest c.in-Some.behind.now c.args.depth) (nest c.args.fields.now c.args.depth) (c.in-Some.ensures.next ∙ ap (λ d. field_shape c.in-Some.field-0-0.now.kind (nest c.in-Some.behind.now d) (nest c.in-Some.behind.now c.args.depth)) (sym c.in-Some-checked_add.ensures.1)) c.args.rest.now c.in-Some-split_first.first.now _ c.in-Some-split_first.ensures.cases.0 c.args.keep.now value more there c.args.field c.in-Some-split_first-2.entry.now c.in-Some-split_first-3.field.now c.in-Some-split_first-3.path.now c.args.path.now (omega (arith, c.if-field-gt0.false)) (c.in-Some-split_first-2.ensures.cases.0 ∙ ap (λ z. c.in-Some-split_first-2.entry.now ∷ z) c.in-Some-split_first-3.ensures.cases.0) (omega (arith, c.entries_of-entries.ensures, c.if-entry-entries.true)))

pub returns-clause-ok : goal.returns-clause-ok
returns-clause-ok n c =
    if_ok _ _ c.retain_in-2.result (λ left goes value more there.
    entry_ok c.in-Some.field-0-0.now.kind (nest c.in-Some.behind.now c.in-Some-checked_add.deeper) (nest c.in-Some.behind.now c.args.depth) (nest c.args.fields.now c.args.depth) (c.in-Some.ensures.next ∙ ap (λ d. field_shape c.in-Some.field-0-0.now.kind (nest c.in-Some.behind.now d) (nest c.in-Some.behind.now c.args.depth)) (sym c.in-Some-checked_add.ensures.1)) c.args.rest.now c.in-Some-split_first.first.now _ c.in-Some-split_first.ensures.cases.0 c.args.keep.now value more there c.args.out.now c.copy-2.new.out c.in_ok-left-2.left.now c.in_ok-end-2.end c.in_ok-left-2.ensures.ok c.in_ok-end-2.ensures.within c.in-Some-split_first-2.entry.now (omega (arith, c.entries_of-entries.ensures, c.if-entry-entries.false)) c.in_ok-end-2.ensures.rest c.args.field c.in-Some-split_first-3.field.now c.in-Some-split_first-3.path.now c.args.path.now c.retain_in-2.new.out left.now (omega (arith, c.if-field-gt0.false)) (c.in-Some-split_first-2.ensures.cases.0 ∙ ap (λ z. c.in-Some-split_first-2.entry.now ∷ z) c.in-Some-split_first-3.ensures.cases.0)
    (goes (t c.in-Some.field-0-0.now.kind (nest c.in-Some.behind.now c.in-Some-checked_add.deeper) (nest c.in-Some.behind.now c.args.depth) (nest c.args.fields.now c.args.depth) (c.in-Some.ensures.next ∙ ap (λ d. field_shape c.in-Some.field-0-0.now.kind (nest c.in-Some.behind.now d) (nest c.in-Some.behind.now c.args.depth)) (sym c.in-Some-checked_add.ensures.1)) c.args.rest.now c.in-Some-split_first.first.now _ c.in-Some-split_first.ensures.cases.0 c.args.keep.now value more there c.args.out.now c.copy-2.new.out c.in_ok-left-2.left.now c.in_ok-end-2.end c.in_ok-left-2.ensures.ok c.in_ok-end-2.ensures.within c.in-Some-split_first-2.entry.now (omega (arith, c.entries_of-entries.ensures, c.if-entry-entries.false)) c.in_ok-end-2.ensures.rest).entry ((t c.in-Some.field-0-0.now.kind (nest c.in-Some.behind.now c.in-Some-checked_add.deeper) (nest c.in-Some.behind.now c.args.depth) (nest c.args.fields.now c.args.depth) (c.in-Some.ensures.next ∙ ap (λ d. field_shape c.in-Some.field-0-0.now.kind (nest c.in-Some.behind.now d) (nest c.in-Some.behind.now c.args.depth)) (sym c.in-Some-checked_add.ensures.1)) c.args.rest.now c.in-Some-split_first.first.now _ c.in-Some-split_first.ensures.cases.0 c.args.keep.now value more there c.args.out.now c.copy-2.new.out c.in_ok-left-2.left.now c.in_ok-end-2.end c.in_ok-left-2.ensures.ok c.in_ok-end-2.ensures.within c.in-Some-split_first-2.entry.now (omega (arith, c.entries_of-entries.ensures, c.if-entry-entries.false)) c.in_ok-end-2.ensures.rest).back ++ more) (entry_there c.in-Some.field-0-0.now.kind (nest c.in-Some.behind.now c.in-Some-checked_add.deeper) (nest c.in-Some.behind.now c.args.depth) (nest c.args.fields.now c.args.depth) (c.in-Some.ensures.next ∙ ap (λ d. field_shape c.in-Some.field-0-0.now.kind (nest c.in-Some.behind.now d) (nest c.in-Some.behind.now c.args.depth)) (sym c.in-Some-checked_add.ensures.1)) c.args.rest.now c.in-Some-split_first.first.now _ c.in-Some-split_first.ensures.cases.0 c.args.keep.now value more there c.args.out.now c.copy-2.new.out c.in_ok-left-2.left.now c.in_ok-end-2.end c.in_ok-left-2.ensures.ok c.in_ok-end-2.ensures.within c.in-Some-split_first-2.entry.now (omega (arith, c.entries_of-entries.ensures, c.if-entry-entries.false)) c.in_ok-end-2.ensures.rest))) c.retain_in-2.ensures.ok

pub returns-clause-err : goal.returns-clause-err
returns-clause-err n c =
    if_err _ _ c.retain_in-2.result (λ fault goes value more there.
    entry_err c.in-Some.field-0-0.now.kind (nest c.in-Some.behind.now c.in-Some-checked_add.deeper) (nest c.in-Some.behind.now c.args.depth) (nest c.args.fields.now c.args.depth) (c.in-Some.ensures.next ∙ ap (λ d. field_shape c.in-Some.field-0-0.now.kind (nest c.in-Some.behind.now d) (nest c.in-Some.behind.now c.args.depth)) (sym c.in-Some-checked_add.ensures.1)) c.args.rest.now c.in-Some-split_first.first.now _ c.in-Some-split_first.ensures.cases.0 c.args.keep.now value more there c.args.out.now c.copy-2.new.out c.in_ok-left-2.left.now c.in_ok-end-2.end c.in_ok-left-2.ensures.ok c.in_ok-end-2.ensures.within c.in-Some-split_first-2.entry.now (omega (arith, c.entries_of-entries.ensures, c.if-entry-entries.false)) c.in_ok-end-2.ensures.rest c.args.field c.in-Some-split_first-3.field.now c.in-Some-split_first-3.path.now c.args.path.now fault (omega (arith, c.if-field-gt0.false)) (c.in-Some-split_first-2.ensures.cases.0 ∙ ap (λ z. c.in-Some-split_first-2.entry.now ∷ z) c.in-Some-split_first-3.ensures.cases.0)
    (goes (t c.in-Some.field-0-0.now.kind (nest c.in-Some.behind.now c.in-Some-checked_add.deeper) (nest c.in-Some.behind.now c.args.depth) (nest c.args.fields.now c.args.depth) (c.in-Some.ensures.next ∙ ap (λ d. field_shape c.in-Some.field-0-0.now.kind (nest c.in-Some.behind.now d) (nest c.in-Some.behind.now c.args.depth)) (sym c.in-Some-checked_add.ensures.1)) c.args.rest.now c.in-Some-split_first.first.now _ c.in-Some-split_first.ensures.cases.0 c.args.keep.now value more there c.args.out.now c.copy-2.new.out c.in_ok-left-2.left.now c.in_ok-end-2.end c.in_ok-left-2.ensures.ok c.in_ok-end-2.ensures.within c.in-Some-split_first-2.entry.now (omega (arith, c.entries_of-entries.ensures, c.if-entry-entries.false)) c.in_ok-end-2.ensures.rest).entry ((t c.in-Some.field-0-0.now.kind (nest c.in-Some.behind.now c.in-Some-checked_add.deeper) (nest c.in-Some.behind.now c.args.depth) (nest c.args.fields.now c.args.depth) (c.in-Some.ensures.next ∙ ap (λ d. field_shape c.in-Some.field-0-0.now.kind (nest c.in-Some.behind.now d) (nest c.in-Some.behind.now c.args.depth)) (sym c.in-Some-checked_add.ensures.1)) c.args.rest.now c.in-Some-split_first.first.now _ c.in-Some-split_first.ensures.cases.0 c.args.keep.now value more there c.args.out.now c.copy-2.new.out c.in_ok-left-2.left.now c.in_ok-end-2.end c.in_ok-left-2.ensures.ok c.in_ok-end-2.ensures.within c.in-Some-split_first-2.entry.now (omega (arith, c.entries_of-entries.ensures, c.if-entry-entries.false)) c.in_ok-end-2.ensures.rest).back ++ more) (entry_there c.in-Some.field-0-0.now.kind (nest c.in-Some.behind.now c.in-Some-checked_add.deeper) (nest c.in-Some.behind.now c.args.depth) (nest c.args.fields.now c.args.depth) (c.in-Some.ensures.next ∙ ap (λ d. field_shape c.in-Some.field-0-0.now.kind (nest c.in-Some.behind.now d) (nest c.in-Some.behind.now c.args.depth)) (sym c.in-Some-checked_add.ensures.1)) c.args.rest.now c.in-Some-split_first.first.now _ c.in-Some-split_first.ensures.cases.0 c.args.keep.now value more there c.args.out.now c.copy-2.new.out c.in_ok-left-2.left.now c.in_ok-end-2.end c.in_ok-left-2.ensures.ok c.in_ok-end-2.ensures.within c.in-Some-split_first-2.entry.now (omega (arith, c.entries_of-entries.ensures, c.if-entry-entries.false)) c.in_ok-end-2.ensures.rest))) c.retain_in-2.ensures.err
