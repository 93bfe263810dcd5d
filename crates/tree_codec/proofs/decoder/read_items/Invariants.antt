use Rattle.std.proofs.Common.{length}
use Rattle.wire_types.specs.Reading.{unread}
use Rattle.tree_spelling.specs.Shape.{nest}
use Rattle.tree_codec.specs.Decoding.{IsReaderOf}
use Rattle.tree_codec.proofs.decoder.read_items.Given as goal

abbrev pub invariant-loop-items : goal.invariant-loop-items
invariant-loop-items l = IsReaderOf (nest l.fields 0) l.bytes l.items.items l.reader

abbrev pub decreases-loop-items : goal.decreases-loop-items
decreases-loop-items l = length (unread l.reader.reader)
