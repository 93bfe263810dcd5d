use Rattle.std.proofs.Common.{ℕ}
use Rattle.conn_rules.specs.Room.{limited}
use Rattle.correlation.specs.WindowOf.{window_of}
use Rattle.serving.specs.Slots.{slot_remaining}
use Rattle.serving.specs.Listing.{Advances}
use Rattle.serving.proofs.listing.list_all.Given as goal

abbrev pub invariant-asks : goal.invariant-asks
invariant-asks g l = (limit : ℕ) → Advances (limited limit (g.S.Service.meaning l.service)) (g.S.Service.stands l.service) l.request l.free l.initial.slot (window_of l.initial.sends) l.slot (window_of l.sends) l.initial.steps l.steps

abbrev pub decreases-asks : goal.decreases-asks
decreases-asks g l = slot_remaining (g.S.Service.remaining l.service) l.slot
