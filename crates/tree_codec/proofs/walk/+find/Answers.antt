use Rattle.std.proofs.Common.{◌≡◌, ◌≤◌, ◌<◌, ◌+◌, ◌∷◌, ℕ, Option, arith, sym, subst, ap, ◌∙◌, drop}
use Rattle.std.specs.Result.{IfOk}
use Rattle.tree_spelling.specs.Primitives.{entries_of}
use Rattle.tree_spelling.specs.Shape.{nest, field_shape}
use Rattle.tree_spelling.specs.Agenda.{items_behind, copies}
use Rattle.tree_spelling.specs.Paths.{further, field_place}
use Rattle.tree_codec.proofs.Steps.{next_field_found, entry_found, entry_missing}
use Rattle.tree_codec.proofs.walk.+find.Goals as goal

pub returns-then-field-gt0 : goal.returns-then-field-gt0
returns-then-field-gt0 t c = λ value more there.
    let get = c.in-Some-get.ensures.lookup in
    let tail = drop (c.args.at + 1) c.args.items.now in
    let skipped : drop c.in_ok-end.end c.args.items.now ≡ items_behind (copies (entries_of c.in-Some-get.first.now) (nest c.in-Some.behind.now (c.args.depth + 1))) (drop (c.args.at + 1) c.args.items.now) = c.in_ok-end.ensures.rest ∙ ap (λ d. items_behind (copies c.entries_of-entries.result (nest c.in-Some.behind.now d)) tail) c.in-Some-checked_add.ensures.1 ∙ ap (λ n. items_behind (copies n (nest c.in-Some.behind.now (c.args.depth + 1))) tail) c.entries_of-entries.ensures in
    let f = next_field_found c.in-Some.field-0-0.now.kind _ _ _ c.in-Some.ensures.next c.args.items.now c.args.at c.in_ok-end.end c.args.field c.args.path.now c.in-Some-get.first.now get.3.0 get.1 c.in_ok-end.ensures.within skipped c.if-field-gt0.true value more there in
    subst (λ (p : Option ℕ). IfOk c.find.result (λ place. place ≡ p)) f.2 (c.find.ensures f.0 more f.1)

pub returns-then-entry-entries : goal.returns-then-entry-entries
returns-then-entry-entries t c = λ value more there.
    let get = c.in-Some-get.ensures.lookup in
    let i = c.in-Some-split_first.entry.now in
    let fld = c.in-Some-split_first-2.field.now in
    let path = c.in-Some-split_first-2.path.now in
    let whole : c.args.path.now ≡ c.in-Some-split_first.entry.now ∷ (c.in-Some-split_first-2.field.now ∷ c.in-Some-split_first-2.path.now) = c.in-Some-split_first.ensures.cases.0 ∙ ap (λ z. c.in-Some-split_first.entry.now ∷ z) c.in-Some-split_first-2.ensures.cases.0 in
    let first : c.args.field ≡ 0 = omega arith in
    let over : entries_of c.in-Some-get.first.now ≤ c.in-Some-split_first.entry.now = omega (arith, c.entries_of-entries.ensures, c.if-entry-entries.true) in
    entry_missing c.in-Some.field-0-0.now.kind _ _ _ c.in-Some.ensures.next c.args.items.now c.args.at i fld path c.in-Some-get.first.now get.3.0 get.1 over value more there ∙ sym (ap (λ z. further c.args.at (field_place (nest c.args.fields.now c.args.depth) value c.args.field z)) whole ∙ ap (λ n. further c.args.at (field_place (nest c.args.fields.now c.args.depth) value n (i ∷ (fld ∷ path)))) first)

pub returns : goal.returns
returns t c = λ value more there.
    let get = c.in-Some-get.ensures.lookup in
    let i = c.in-Some-split_first.entry.now in
    let fld = c.in-Some-split_first-2.field.now in
    let path = c.in-Some-split_first-2.path.now in
    let whole : c.args.path.now ≡ c.in-Some-split_first.entry.now ∷ (c.in-Some-split_first-2.field.now ∷ c.in-Some-split_first-2.path.now) = c.in-Some-split_first.ensures.cases.0 ∙ ap (λ z. c.in-Some-split_first.entry.now ∷ z) c.in-Some-split_first-2.ensures.cases.0 in
    let first : c.args.field ≡ 0 = omega arith in
    let few : c.in-Some-split_first.entry.now < entries_of c.in-Some-get.first.now = omega (arith, c.entries_of-entries.ensures, c.if-entry-entries.false) in
    let deeper : nest c.args.fields.now c.args.depth ≡ field_shape c.in-Some.field-0-0.now.kind (nest c.in-Some.behind.now c.in-Some-checked_add.deeper) (nest c.in-Some.behind.now c.args.depth) = c.in-Some.ensures.next ∙ ap (λ d. field_shape c.in-Some.field-0-0.now.kind (nest c.in-Some.behind.now d) (nest c.in-Some.behind.now c.args.depth)) (sym c.in-Some-checked_add.ensures.1) in
    let f = entry_found c.in-Some.field-0-0.now.kind _ _ _ deeper c.args.items.now c.args.at c.in_ok-begin.begin i fld path c.in-Some-get.first.now get.3.0 get.1 c.in_ok-begin.ensures.within c.in_ok-begin.ensures.rest few value more there in
    let named = f.3 ∙ sym (ap (λ z. further c.args.at (field_place (nest c.args.fields.now c.args.depth) value c.args.field z)) whole ∙ ap (λ n. further c.args.at (field_place (nest c.args.fields.now c.args.depth) value n (i ∷ (fld ∷ path)))) first) in
    subst (λ (p : Option ℕ). IfOk c.find-2.result (λ place. place ≡ p)) named (c.find-2.ensures f.0 f.1 f.2)
