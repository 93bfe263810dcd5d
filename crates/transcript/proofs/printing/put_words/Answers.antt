use Rattle.transcript.proofs.Printed.{words_put}
use Rattle.transcript.proofs.printing.put_words.Goals as goal

pub returns-clause-ok : goal.returns-clause-ok
returns-clause-ok g c =
    words_put c.write.result c.is_err.result c.put.result (g.D.Display.output c.args.words) c.new-text.result c.write.new.self c.as_slice.result.now c.args.out.now c.put.new.out
    c.is_err.ensures.value c.if-is_err.false c.new-text.ensures c.as_slice.ensures c.write.ensures.writes c.put.ensures.ok
