use Rattle.std.proofs.Common.{[]}
use Rattle.views.proofs.OneView.{fields_one}
use Rattle.views.proofs.laws.view_laws.Goals as goal

pub returns : goal.returns
returns c = λ format version x y p q e. (fields_one format version x y [] [] p q e).0
