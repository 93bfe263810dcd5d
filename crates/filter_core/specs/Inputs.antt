-- What a filter may be given: an answer of the kind that its last decision asked for.
use Rattle.std.specs.Prelude.{◌≡◌, true, List, [], ◌∷◌, ◌++◌}
use Rattle.kp_schema.specs.declared.dir.Dir.TheVariants as dir
use Rattle.tree_spelling.specs.Body.{Contents, IsTree, IsOf}
use Rattle.filter_core.specs.declared.input.Input.{Input}
use Rattle.filter_core.specs.declared.input.Input.TheVariants.{Response, NoResponse, Verdict}
use Rattle.filter_core.specs.Acks.{has_acks_zero}
use Rattle.filter_core.specs.Decision.{Decision, Turn, Forward, Side, HoldFor, Return, Shut}

-- a request's body, with the fields of its version
pub record IsWholeRequest (message : Contents) : Type 0 where
  pub tree : IsTree message
  pub dir_is : message.dir ≡ dir.Request

-- the body of a response to a request: of its key and version, with the fields of that version
pub record IsResponseTo (request response : Contents) : Type 0 where
  pub tree : IsTree response
  pub of : IsOf request.key request.version dir.Response response

-- what may come for a message: a response to it, or none, and none only to a Produce with acks 0
abbrev pub MayComeFor : Contents → Input → Type 0
MayComeFor message (Response response) = IsResponseTo message response
MayComeFor message NoResponse = has_acks_zero message ≡ true
MayComeFor message (Verdict verdict) = ⊥

abbrev pub IsVerdict : Input → Type 0
IsVerdict (Verdict verdict) = Unit {0}
IsVerdict _ = ⊥

-- what may be given to a filter that decided so
abbrev pub MayFollow : Decision → Input → Type 0
MayFollow (Forward message) input = MayComeFor message input
MayFollow (Side message) input = MayComeFor message input
MayFollow (HoldFor key) input = IsVerdict input
MayFollow (Return response) input = ⊥
MayFollow (Shut reason) input = ⊥

-- behind `before`, each of these inputs is what the decision before it asked for
abbrev pub FollowFrom : Turn → Contents → List Input → List Input → Type 0
FollowFrom turn request before [] = Unit {0}
FollowFrom turn request before (input ∷ inputs) =
    MayFollow (turn request before) input × FollowFrom turn request (before ++ input ∷ []) inputs

-- what a filter may have been given since it started on a request
abbrev pub AreInputs : Turn → Contents → List Input → Type 0
AreInputs turn request inputs = FollowFrom turn request [] inputs
