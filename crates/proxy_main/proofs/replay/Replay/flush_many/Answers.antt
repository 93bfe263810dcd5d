use Rattle.proxy_main.proofs.Lists.{on_ok_map}
use Rattle.proxy_main.proofs.Going.{flush_goes}
use Rattle.proxy_main.proofs.replay.Replay.flush_many.Goals as goal

pub returns-clause-ok : goal.returns-clause-ok
returns-clause-ok g c = on_ok_map c.flush.result _ _ (flush_goes g.C.Connection.meaning g.C.Connection.stands _ _ _ _) c.flush.ensures.ok
