use Rattle.std.proofs.Common.{◌∙◌, ap, sym, arith, map}
use Rattle.std.proofs.lemmas.Grind.{common_steps}
use Rattle.views.specs.Reading.{items_before, entries_before}
use Rattle.views.specs.Fitting.{FitVersion}
use Rattle.views.proofs.Arrays.{entries_before_last, all_map_last}
use Rattle.views.proofs.cursor.Cursor.entries.Goals as goal

pub loop-preserved : goal.loop-preserved
loop-preserved g c = record {
  read = rw c.in_ok-push.ensures.items (c.loop.invariant.read ∙ (ap (entries_before (items_before g.E.Entry.format) (map g.E.Entry.fields c.loop.entries.items)) c.in_ok-read.ensures.items ∙ sym (entries_before_last g.E.Entry.fields (items_before g.E.Entry.format) c.loop.entries.items c.in_ok-read.field-0 c.read.new.cursor)));
  fit = rw c.in_ok-push.ensures.items (all_map_last g.E.Entry.fields (FitVersion g.E.Entry.format _) c.loop.entries.items c.in_ok-read.field-0 c.loop.invariant.fit c.in_ok-read.ensures.fit);
  counted = grind (arith, common_steps, c.in_ok-push.ensures.items, c.loop.invariant.counted);
}
