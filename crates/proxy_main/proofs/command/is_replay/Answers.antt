use Rattle.proxy_main.proofs.Word.{lone_word}
use Rattle.proxy_main.proofs.command.is_replay.Goals as goal

pub returns-then-words-eq1 : goal.returns-then-words-eq1
returns-then-words-eq1 c = lone_word c.args.words.now c.index-words-0.result c.as_str.result.now c.eq.result c.if-words-eq1.true c.index-words-0.is c.as_str.ensures.value c.eq.ensures
