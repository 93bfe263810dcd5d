use Rattle.std.proofs.Common.{◌≡◌, map, take}
use Rattle.views.specs.Writing.{put_entries, put_fields}
use Rattle.views.proofs.writer.Writer.entries.Given as goal

abbrev pub invariant-loop-entry : goal.invariant-loop-entry
invariant-loop-entry g l =
    l.self ≡ put_entries (put_fields g.E.Entry.format l.version) (map g.E.Entry.fields (take l.entry-index l.entries)) l.initial.self
