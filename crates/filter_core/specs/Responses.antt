-- What a filter was given, and returned, as the response to its request.
use Rattle.std.specs.Prelude.{Option, Some, None}
use Rattle.tree_spelling.specs.Body.{Contents}
use Rattle.filter_core.specs.declared.input.Input.{Input}
use Rattle.filter_core.specs.declared.input.Input.TheVariants.{Response, NoResponse, Verdict}

abbrev pub response_given : Input → Option Contents
response_given (Response response) = Some response
response_given NoResponse = None
response_given (Verdict verdict) = None

abbrev pub input_with : Option Contents → Input
input_with (Some response) = Response response
input_with None = NoResponse
