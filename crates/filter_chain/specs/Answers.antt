-- What comes from outside, and what it is to those who wait for it.
use Rattle.filter_core.specs.declared.input.Input.{Input}
use Rattle.filter_core.specs.declared.input.Input.TheVariants as input
use Rattle.filter_chain.specs.declared.outside.Outside.{Outside}
use Rattle.filter_chain.specs.declared.outside.Outside.TheVariants as outside

-- to who waits for a broker's answer. A verdict is none.
abbrev pub as_answer : Outside → Input
as_answer (outside.Answer response) = input.Response response
as_answer outside.NoResponse = input.NoResponse
as_answer (outside.Verdict verdict) = input.NoResponse

-- to who waits for a verdict. An answer is none.
abbrev pub as_verdict : Outside → Input
as_verdict (outside.Answer response) = input.NoResponse
as_verdict outside.NoResponse = input.NoResponse
as_verdict (outside.Verdict verdict) = input.Verdict verdict
