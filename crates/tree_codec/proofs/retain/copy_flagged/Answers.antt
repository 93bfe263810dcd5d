use Rattle.std.proofs.Common.{◌∙◌, sym, ◌<◌, length, arith}
use Rattle.tree_spelling.specs.Shape.{nest}
use Rattle.tree_codec.proofs.Retaining.{next_entry_is, one_copied, one_left_out}
use Rattle.tree_codec.proofs.retain.copy_flagged.Goals as goal
use Rattle.tree_codec.proofs.retain.copy_flagged.Goals.{then-has_flag+in_ok-left, else-has_flag}

pub loop-place-preserved : goal.loop-place-preserved
loop-place-preserved c = λ entries more long there.
    let e = nest c.args.fields.now c.args.depth in
    let so_far = c.loop-place.invariant entries more long there in
    let lt : c.loop-place.place < length entries = omega (arith, long, c.loop-place-test.true) in
    let next = next_entry_is e entries c.args.keep.now more c.loop-place.place c.in_ok-end.end c.args.out.now c.loop-place.out c.loop-place.left.now lt so_far c.in_ok-end.ensures.rest c.in_ok-end.ensures.within in
    elim c.if-has_flag.branch [
      | then-has_flag+in_ok-left w ↦
          rw (w.out-is, w.left-is, w.in_ok-left.ensures.ok.0) (one_copied e entries c.args.keep.now more c.loop-place.place c.in_ok-end.end c.args.out.now c.loop-place.out w.copy.new.out c.loop-place.left.now so_far next (sym c.has_flag.ensures ∙ w.if-has_flag.true) w.in_ok-left.ensures.ok.1)
      | else-has_flag w ↦
          rw (w.out-is, w.left-is, w.split_at.ensures.back) (one_left_out e entries c.args.keep.now more c.loop-place.place c.in_ok-end.end c.args.out.now c.loop-place.out c.loop-place.left.now so_far next (sym c.has_flag.ensures ∙ w.if-has_flag.false))
    ]
