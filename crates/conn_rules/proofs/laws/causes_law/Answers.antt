use Rattle.conn_rules.proofs.Origins.{halt_origin, cut_origin, death_origin, told_origin}
use Rattle.conn_rules.proofs.laws.causes_law.Goals as goal

pub returns-clause-halt : goal.returns-clause-halt
returns-clause-halt c = λ M hs s why run. halt_origin M hs s why run

pub returns-clause-cut : goal.returns-clause-cut
returns-clause-cut c = λ M hs s k why run. cut_origin M hs s why run k

pub returns-clause-death : goal.returns-clause-death
returns-clause-death c = λ M hs s why run. death_origin M hs s why run

pub returns-clause-told : goal.returns-clause-told
returns-clause-told c = λ M hs s why run. told_origin M hs s why run
