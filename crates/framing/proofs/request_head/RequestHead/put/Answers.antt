use Rattle.std.proofs.Common.{refl}
use Rattle.framing.proofs.request_head.RequestHead.put.Goals as goal

pub returns-in-Some-clause-too_long : goal.returns-in-Some-clause-too_long
returns-in-Some-clause-too_long c = λ length e. rw (c.in-Some.is, ← c.as_slice.ensures) ((c.put_string.ensures.too_long length).0 e)

pub returns-in-Some-clause-never_too_long : goal.returns-in-Some-clause-never_too_long
returns-in-Some-clause-never_too_long c =
    λ length long.
    let here = rw (c.in-Some.is, ← c.as_slice.ensures) at long in
    rw ((c.put_string.ensures.too_long length).1 here) refl

pub returns-in-None-clause-too_long : goal.returns-in-None-clause-too_long
returns-in-None-clause-too_long c = λ length e. absurd ((c.put_string-in-None.ensures.too_long length).0 e)
