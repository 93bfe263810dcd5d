-- What may come from outside for a request under a chain: of the kind that it asked for.
use Rattle.std.specs.Prelude.{◌≡◌, true, List, [], ◌∷◌, ◌++◌}
use Rattle.tree_spelling.specs.Body.{Contents}
use Rattle.filter_core.specs.Acks.{has_acks_zero}
use Rattle.filter_core.specs.Decision.{Turn}
use Rattle.filter_core.specs.Inputs.{IsResponseTo}
use Rattle.side_requests.specs.declared.ask.Ask.{Ask}
use Rattle.side_requests.specs.declared.ask.Ask.TheVariants as ask
use Rattle.filter_chain.specs.declared.outside.Outside.{Outside}
use Rattle.filter_chain.specs.declared.outside.Outside.TheVariants as outside
use Rattle.filter_chain.specs.Outcomes.{Outcome, Needs, Completed, Shuts, NeverEnds, run}

-- for a message a response to it, or none, and none only to a Produce with acks 0; for a hold a verdict
abbrev pub MayAnswer : Ask → Outside → Type 0
MayAnswer (ask.Broker message main) (outside.Answer response) = IsResponseTo message response
MayAnswer (ask.Broker message main) outside.NoResponse = has_acks_zero message ≡ true
MayAnswer (ask.Broker message main) (outside.Verdict verdict) = ⊥
MayAnswer (ask.Hold filter key) (outside.Verdict verdict) = Unit {0}
MayAnswer (ask.Hold filter key) outside.NoResponse = ⊥
MayAnswer (ask.Hold filter key) (outside.Answer response) = ⊥

-- only a request that needs something is given something
abbrev pub MayBeGiven : Outcome → Outside → Type 0
MayBeGiven (Needs question) x = MayAnswer question x
MayBeGiven (Completed response) x = ⊥
MayBeGiven (Shuts cause) x = ⊥
MayBeGiven (NeverEnds filter) x = ⊥

-- each of these, which came behind `before`, is what the request needed with those before it
abbrev pub MayHaveComeBehind : List Turn → Contents → List Outside → List Outside → Type 0
MayHaveComeBehind chain request before [] = Unit {0}
MayHaveComeBehind chain request before (x ∷ xs) = MayBeGiven (run chain request before) x × MayHaveComeBehind chain request (before ++ x ∷ []) xs

-- what a request may have been given from outside
abbrev pub MayHaveCome : List Turn → Contents → List Outside → Type 0
MayHaveCome chain request given = MayHaveComeBehind chain request [] given
