use Rattle.std.proofs.Common.{◌≡◌, ◌+◌, ◌<◌, ◌≤◌, [], ◌∷◌, ◌++◌, sym, ◌∙◌, subst, arith}
use Rattle.std.proofs.lemmas.Result.{err_from_is_err_and}
use Rattle.wire_types.specs.Reading.{unread}
use Rattle.tree_spelling.specs.Primitives.{total_entries, entries_of}
use Rattle.tree_spelling.specs.Spelling.{IsBadAt, max_entries}
use Rattle.tree_spelling.specs.Agenda.{ItemsReadSoFar}
use Rattle.tree_codec.specs.Found.{primitive_of}
use Rattle.tree_codec.specs.Levels.{todo_of}
use Rattle.tree_codec.proofs.Progress.{unreadable, passes_limit, item_read, place_after, entries_after, read_whole}
use Rattle.tree_spelling.proofs.Endings.{byte_too_many}
use Rattle.tree_codec.proofs.item_reader.ItemReader.next.Goals.{in_default-checked_add-via-in-Some-checked_add+else-entries-le-MAX_ENTRIES, in_default-checked_add-via-in_default-checked_add}
use Rattle.tree_codec.proofs.item_reader.ItemReader.next.Goals as goal

pub returns-in-0-clause-ok : goal.returns-in-0-clause-ok
returns-in-0-clause-ok c = λ shape bytes items r.
    read_whole shape bytes items (todo_of c.args.self.now.agenda) (unread c.args.self.now.reader) r.read (sym c.in_default.ensures) (omega (arith, c.left.ensures))

pub returns-in_default-left-clause-err : goal.returns-in_default-left-clause-err
returns-in_default-left-clause-err c = λ shape bytes items r.
    byte_too_many shape bytes items (todo_of c.args.self.now.agenda) (unread c.args.self.now.reader) c.at-at.result r.read (c.at-at.ensures.at ∙ r.place) (sym c.in_default.ensures) (omega (arith, c.left.ensures))

pub returns-in_err-found-clause-err : goal.returns-in_err-found-clause-err
returns-in_err-found-clause-err c = λ shape bytes items r.
    let p = err_from_is_err_and c.from_residual.result c.from_residual.ensures.1 in
    let bad = unreadable shape bytes items (todo_of c.args.self.now.agenda) (unread c.args.self.now.reader) c.in-Some.kind r.read (sym c.in-Some.ensures) c.in_err-found.ensures.none in
    rw (p.1, p.2) (subst (IsBadAt shape bytes) (sym (c.in_err-found.ensures.place ∙ r.place)) bad)

pub returns-in_default-checked_add-clause-err : goal.returns-in_default-checked_add-clause-err
returns-in_default-checked_add-clause-err c = λ shape bytes items r.
    let h = c.in_ok-found.ensures in
    let over : max_entries < c.args.self.now.entries + entries_of (primitive_of c.in_ok-found.found) = elim c.in_default-checked_add.branch [
      | in_default-checked_add-via-in-Some-checked_add+else-entries-le-MAX_ENTRIES w ↦ omega (arith, c.entries.ensures, w.in-Some-checked_add.ensures.1, w.if-entries-le-MAX_ENTRIES.false)
      | in_default-checked_add-via-in_default-checked_add w ↦ omega (arith, c.entries.ensures, w.in_default-checked_add.ensures)
    ] in
    let bad = passes_limit shape bytes items (todo_of c.args.self.now.agenda) c.args.self.now.reader c.read_item.new.reader c.in-Some.kind (primitive_of c.in_ok-found.found) c.args.self.now.entries r.read r.place (sym c.in-Some.ensures) h.kind h.fits h.ok r.entries over in
    rw c.at-at.ensures.at bad

pub returns-clause-ok : goal.returns-clause-ok
returns-clause-ok c = λ shape bytes items r.
    let h = c.in_ok-found.ensures in
    let item = primitive_of c.in_ok-found.found in
    let sum : c.in-Some-checked_add.entries ≡ c.args.self.now.entries + c.entries.result = c.in-Some-checked_add.ensures.1 in
    let few : total_entries items + entries_of (primitive_of c.in_ok-found.found) ≤ max_entries = omega (arith, c.entries.ensures, r.entries) in
    let more = item_read shape bytes items (todo_of c.args.self.now.agenda) c.args.self.now.reader c.read_item.new.reader c.in-Some.kind item r.read (sym c.in-Some.ensures) h.kind h.fits h.ok few in
    let passed = c.in_ok-pass.ensures.ok item more.0 c.entries-2.ensures more.1 in
    record {
      read = subst (λ t. ItemsReadSoFar shape bytes (items ++ item ∷ []) t (unread c.read_item.new.reader)) (sym passed) more.2;
      frame = h.ok.same ∙ r.frame;
      place = place_after items c.args.self.now.reader c.read_item.new.reader item r.place h.ok;
      entries = sum ∙ entries_after items item c.args.self.now.entries c.entries.result r.entries c.entries.ensures;
    }
