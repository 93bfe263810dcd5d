use Rattle.std.proofs.Common.{ℕ}
use Rattle.conn_rules.specs.Room.{limited}
use Rattle.serving.specs.Listing.{SameOutside, SettlesUpTo}
use Rattle.serving.proofs.listing.settle.Given as goal

abbrev pub invariant-loop-place : goal.invariant-loop-place
invariant-loop-place g l = SameOutside l.initial.flight l.flight × ((limit : ℕ) → SettlesUpTo (limited limit (g.S.Service.meaning l.service)) (g.S.Service.stands l.service) l.from l.initial.free l.place l.free l.initial.flight l.flight l.initial.steps l.steps)
