use Rattle.conn_core.proofs.chain.ChainService.read.Goals as goal

pub returns : goal.returns
returns g c = c.read_answer.ensures
