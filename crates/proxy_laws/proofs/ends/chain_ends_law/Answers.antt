use Rattle.conn_core.specs.Chained.{chained}
use Rattle.proxy_laws.proofs.ChainEnds.{own_way_origin}
use Rattle.proxy_laws.proofs.ends.chain_ends_law.Goals as goal

pub returns : goal.returns
returns c = λ chain limit hs s k why run cut. own_way_origin chain limit hs s k why (c.causes_law.ensures.cut (chained chain limit) hs s k why run cut)
