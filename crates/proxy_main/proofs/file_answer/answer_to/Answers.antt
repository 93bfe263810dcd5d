use Rattle.proxy_main.proofs.FileAnswering.{answer_to_whole}
use Rattle.proxy_main.proofs.file_answer.answer_to.Goals as goal

pub returns-clause-answers : goal.returns-clause-answers
returns-clause-answers g c = answer_to_whole c.args.asked _ c.in_ok-bytes.bytes c.as_slice.result.now _ c.front_law.ensures.answer c.in_ok-bytes.ensures.bytes c.as_slice.ensures c.in_ok-config_answer.ensures
