use Rattle.std.proofs.Common.{length}
use Rattle.session.specs.Sides.{stream_of}
use Rattle.session.proofs.Handing.{Handing}
use Rattle.session.proofs.side.Side.push.Given as goal

abbrev pub invariant-loop-frame : goal.invariant-loop-frame
invariant-loop-frame g l = Handing g.C.Connection.meaning g.C.Connection.stands l.fn.connection (stream_of l.fn.self) l.refused l.connection (stream_of l.self) l.fn.steps l.steps

abbrev pub decreases-loop-frame : goal.decreases-loop-frame
decreases-loop-frame g l = length (stream_of l.self).rest
