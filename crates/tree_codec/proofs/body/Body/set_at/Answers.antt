use Rattle.std.proofs.Common.{◌≡◌, ◌<◌, ◌+◌, ◌-◌, length, get_or, ap, ◌∙◌, arith}
use Rattle.std.specs.Prelude.{slice_set}
use Rattle.tree_spelling.specs.Primitives.{spelled}
use Rattle.tree_spelling.specs.Body.{Contents}
use Rattle.tree_codec.proofs.Edits.{old_fits, set_whole, set_is}
use Rattle.tree_codec.proofs.body.Body.set_at.Goals as goal

pub overflow_sub-self-inside : goal.overflow_sub-self-inside
overflow_sub-self-inside c =
    let m = c.self.inside.message in
    let g = c.in-Some.ensures.lookup in
    let d = c.deref.ensures.value in
    let there : c.in-Some.old.now ≡ get_or c.self.inside.items.items c.args.place c.in-Some.old.now = g.1 ∙ ap (λ xs. get_or xs c.args.place c.in-Some.old.now) d in
    let short : c.args.place < length c.self.inside.items.items = omega (arith, g.3.0, ap length d) in
    let fits = old_fits m.key m.version m.dir c.self.inside.items.items c.self.inside.size c.args.place c.in-Some.old.now c.self.invariant short there in
    omega (arith, fits, c.spelled_len-before.ensures)

pub invariant_of-self : goal.invariant_of-self
invariant_of-self c =
    let m = c.self.inside.message in
    let g = c.in-Some.ensures.lookup in
    let d = c.deref.ensures.value in
    let there : c.in-Some.old.now ≡ get_or c.self.inside.items.items c.args.place c.in-Some.old.now = g.1 ∙ ap (λ xs. get_or xs c.args.place c.in-Some.old.now) d in
    let short : c.args.place < length c.self.inside.items.items = omega (arith, g.3.0, ap length d) in
    let grown : c.in-Some-checked_add.size ≡ (c.self.inside.size - length (spelled c.in-Some.old.now)) + length (spelled c.in_ok-new.new) = c.in-Some-checked_add.ensures.1 ∙ ap (λ n. (c.self.inside.size - n) + c.spelled_len.result) c.spelled_len-before.ensures ∙ ap (λ n. (c.self.inside.size - length (spelled c.in-Some.old.now)) + n) c.spelled_len.ensures in
    set_whole m.key m.version m.dir c.self.inside.items.items c.self.inside.size c.in-Some-checked_add.size c.args.place c.in-Some.old.now c.in_ok-new.new c.self.invariant short there c.in_ok-new.ensures.same c.in_ok-new.ensures.fits grown

pub returns-clause-ok : goal.returns-clause-ok
returns-clause-ok c =
    let g = c.in-Some.ensures.lookup in
    let d : c.deref.result.now ≡ c.args.self.now.items = c.deref.ensures.value ∙ ap (λ (b : Contents). b.items) c.self.view_is in
    let there : c.in-Some.old.now ≡ get_or c.args.self.now.items c.args.place c.in-Some.old.now = g.1 ∙ ap (λ xs. get_or xs c.args.place c.in-Some.old.now) d in
    let short : c.args.place < length c.args.self.now.items = omega (arith, g.3.0, ap length d) in
    rw (set_is c.args.self.now.items c.args.place c.in-Some.old.now c.in_ok-new.new c.args.item short there c.in_ok-new.ensures.value) (ap (λ (b : Contents). record b { items = slice_set b.items c.args.place c.in_ok-new.new }) c.self.view_is)
