use Rattle.std.proofs.Common.{refl, Ok, Err}
use Rattle.session.proofs.station.Station.done.Goals as goal

pub returns-in-Ok-clause-done : goal.returns-in-Ok-clause-done
returns-in-Ok-clause-done g c = rw (← c.self.view_is) (Ok tt, c.in-Ok.ensures.follows, c.in-Ok.ensures.counted, refl)

pub returns-in-Err-NotWaiting-clause-done : goal.returns-in-Err-NotWaiting-clause-done
returns-in-Err-NotWaiting-clause-done g c = rw (← c.self.view_is) (Err c.in-Err-NotWaiting.field-0, c.in-Err-NotWaiting.ensures.follows, c.in-Err-NotWaiting.ensures.counted, rw (c.in-Err-NotWaiting.field-0-is) refl)
