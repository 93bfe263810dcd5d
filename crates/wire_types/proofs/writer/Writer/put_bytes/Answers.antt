use Rattle.wire_types.proofs.writer.Writer.put_bytes.Goals as goal

pub returns-in-Some-clause-too_long : goal.returns-in-Some-clause-too_long
returns-in-Some-clause-too_long c = λ length. rw c.in-Some.is (c.put_long.ensures.too_long length)
