use Rattle.views.proofs.Arrays.{put_entries_step, put_entries_end}
use Rattle.views.proofs.writer.Writer.entries.Goals as goal

pub loop-entry-preserved : goal.loop-entry-preserved
loop-entry-preserved g c =
    put_entries_step g.E.Entry.fields _ c.args.entries.now c.loop-entry.entry-index c.entry-item.result c.args.self.now c.loop-entry.self c.write.new.writer c.loop-entry-test.true c.entry-item.is c.loop-entry.invariant c.in_ok-write.ensures

pub returns : goal.returns
returns g c =
    put_entries_end g.E.Entry.fields _ c.args.entries.now c.loop-entry.entry-index c.args.self.now c.loop-entry.self c.loop-entry-test.false c.loop-entry.invariant
