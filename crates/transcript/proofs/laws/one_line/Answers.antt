use Rattle.transcript.proofs.Grammar.{line_again}
use Rattle.transcript.proofs.laws.one_line.Goals as goal

pub returns : goal.returns
returns c = λ text a b spells_a spells_b. cc (line_again a text spells_a, line_again b text spells_b)
