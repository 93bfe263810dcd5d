use Rattle.tree_spelling.proofs.Decoding.{decoded_is_spelled}
use Rattle.tree_spelling.proofs.laws.decoding_law.Goals as goal

pub returns : goal.returns
returns c = decoded_is_spelled
