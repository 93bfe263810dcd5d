use Rattle.std.proofs.Common.{◌≡◌, ◌≤◌}
use Rattle.tree_codec.specs.Copying.{flag_count}
use Rattle.tree_codec.proofs.retain.flag_count.Given as goal

abbrev pub invariant-loop-place : goal.invariant-loop-place
invariant-loop-place l = (l.kept ≡ flag_count l.keep l.place) × (l.kept ≤ l.place)
