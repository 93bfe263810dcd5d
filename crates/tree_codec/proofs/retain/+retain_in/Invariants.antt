use Rattle.std.proofs.Common.{length}
use Rattle.tree_codec.proofs.retain.+retain_in.Given as goal

abbrev pub decreases-retain_in : goal.decreases-retain_in
decreases-retain_in l = length l.fields.now
