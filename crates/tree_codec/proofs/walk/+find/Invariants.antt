use Rattle.std.proofs.Common.{length}
use Rattle.tree_codec.proofs.walk.+find.Given as goal

abbrev pub decreases-find : goal.decreases-find
decreases-find l = length l.fields.now
