use Rattle.transcript.proofs.Grammar.{read_found, read_spelled, read_bad}
use Rattle.transcript.proofs.reading.read_line.Goals as goal

pub returns-clause-read : goal.returns-clause-read
returns-clause-read c = read_found c.read_text.result c.args.line.now c.read_text.ensures

pub returns-clause-spelled_is_read : goal.returns-clause-spelled_is_read
returns-clause-spelled_is_read c = read_spelled c.read_text.result c.args.line.now c.read_text.ensures

pub returns-clause-bad : goal.returns-clause-bad
returns-clause-bad c = read_bad c.read_text.result c.args.line.now c.read_text.ensures
