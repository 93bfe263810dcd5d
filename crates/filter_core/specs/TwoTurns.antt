-- Filters that have one turn on a request and one on what comes back for it.
use Rattle.std.specs.Prelude.{[], ◌∷◌}
use Rattle.tree_spelling.specs.Body.{Contents}
use Rattle.filter_core.specs.declared.input.Input.{Input}
use Rattle.filter_core.specs.Decision.{Decision, Return, Turn}
use Rattle.filter_core.specs.Responses.{response_given}

abbrev pub two_turns : (Contents → Decision) → (Input → Decision) → Turn
two_turns on_request on_input request [] = on_request request
two_turns on_request on_input request (input ∷ inputs) = on_input input

-- a response goes back as it came
abbrev pub handed_back : Input → Decision
handed_back input = Return (response_given input)
