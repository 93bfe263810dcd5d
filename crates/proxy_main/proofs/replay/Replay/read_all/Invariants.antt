use Rattle.std.proofs.Common.{◌≡◌, ℕ, List, [], Option, Some}
use Rattle.proxy_main.specs.Written.{HasWritten, Coming}
use Rattle.proxy_main.specs.declared.replay.Replay.{Replay}
use Rattle.proxy_main.proofs.SoFar.{Consumed}
use Rattle.proxy_main.proofs.replay.Replay.read_all.Given as goal
use Rattle.conn_rules.specs.Meaning.{Meaning}
use Rattle.conn_rules.specs.State.{State}

-- the script is coming, and the counts of faults stayed
pub record Reads {C L : Type 0} (meaning : C → Meaning) (stands : C → State → Type 0) (old new : Replay C L) (coming left before after : Option (List ℕ)) (allowed first last start end : ℕ) : Type 0 where
  pub reads : (M : Meaning) (begun : ℕ) (script : List ℕ) → coming ≡ Some script → HasWritten meaning stands M begun old before before [] → Coming meaning stands M begun new script left before after allowed
  pub so_far : (script : List ℕ) → coming ≡ Some script → Consumed script left allowed
  pub input : last ≡ first
  pub output : end ≡ start

abbrev pub invariant-loop-self : goal.invariant-loop-self
invariant-loop-self g l = Reads g.C.Connection.meaning g.C.Connection.stands l.fn.self l.self (g.I.Source.coming l.fn.input) (g.I.Source.coming l.input) (g.O.Sink.taken l.fn.out) (g.O.Sink.taken l.out) l.left (g.I.Source.faults l.fn.input) (g.I.Source.faults l.input) (g.O.Sink.faults l.fn.out) (g.O.Sink.faults l.out)

abbrev pub decreases-loop-self : goal.decreases-loop-self
decreases-loop-self g l = l.left
