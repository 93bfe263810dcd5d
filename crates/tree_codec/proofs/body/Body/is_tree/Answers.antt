use Rattle.std.proofs.Common.{rules}
use Rattle.tree_codec.proofs.body.Body.is_tree.Goals as goal

pub returns : goal.returns
returns c = search rules
