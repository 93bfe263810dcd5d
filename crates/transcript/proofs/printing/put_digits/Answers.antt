use Rattle.std.proofs.Common.{subst, sym}
use Rattle.hex.specs.Hex.{encode_lower}
use Rattle.transcript.specs.Answers.{HasFrontAppended}
use Rattle.transcript.proofs.Printed.{on_err, put_front}
use Rattle.transcript.proofs.printing.put_digits.Goals as goal

pub returns-in_err-put_chunk-clause-err : goal.returns-in_err-put_chunk-clause-err
returns-in_err-put_chunk-clause-err c =
    on_err c.from_residual.result (subst (λ out. HasFrontAppended c.args.out.now out (encode_lower c.args.bytes.now)) (sym c.in_err-put_chunk.ensures.err)
    (put_front c.args.bytes.now c.loop-rest.rest.now c.args.out.now c.loop-rest.out c.loop-rest.invariant))
