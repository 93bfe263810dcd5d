use Rattle.std.proofs.Common.{◌≡◌, ℕ, List, ◌++◌, length, Option}
use Rattle.proxy_main.specs.Output.{Appends}
use Rattle.proxy_main.proofs.output.write_all.Given as goal

-- a front of the bytes was taken, the rest is to come, and no write failed
pub record Taking (before after : Option (List ℕ)) (bytes rest : List ℕ) (old new : ℕ) : Type 0 where
  pub front : List ℕ
  pub parts : bytes ≡ front ++ rest
  pub appends : Appends before front after
  pub same : new ≡ old

abbrev pub invariant-loop-rest : goal.invariant-loop-rest
invariant-loop-rest g l = Taking (g.O.Sink.taken l.fn.out) (g.O.Sink.taken l.out) l.bytes l.rest (g.O.Sink.faults l.fn.out) (g.O.Sink.faults l.out)

abbrev pub decreases-loop-rest : goal.decreases-loop-rest
decreases-loop-rest g l = length l.rest
