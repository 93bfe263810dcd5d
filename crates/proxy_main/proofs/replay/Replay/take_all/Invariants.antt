use Rattle.std.proofs.Common.{◌≡◌, ℕ, List, ◌++◌, length, Option}
use Rattle.proxy_main.specs.Written.{TakesAll}
use Rattle.proxy_main.specs.declared.replay.Replay.{Replay}
use Rattle.proxy_main.proofs.replay.Replay.take_all.Given as goal
use Rattle.conn_rules.specs.Meaning.{Meaning}
use Rattle.conn_rules.specs.State.{State}

-- a front of the bytes was taken, and no write failed
pub record Taking {C L : Type 0} (meaning : C → Meaning) (stands : C → State → Type 0) (old new : Replay C L) (before after : Option (List ℕ)) (bytes rest : List ℕ) (first last : ℕ) : Type 0 where
  pub front : List ℕ
  pub parts : bytes ≡ front ++ rest
  pub takes : TakesAll meaning stands old before front new after
  pub same : last ≡ first

abbrev pub invariant-loop-rest : goal.invariant-loop-rest
invariant-loop-rest g l = Taking g.C.Connection.meaning g.C.Connection.stands l.fn.self l.self (g.O.Sink.taken l.fn.out) (g.O.Sink.taken l.out) l.bytes l.rest (g.O.Sink.faults l.fn.out) (g.O.Sink.faults l.out)

abbrev pub decreases-loop-rest : goal.decreases-loop-rest
decreases-loop-rest g l = length l.rest
