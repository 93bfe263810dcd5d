-- `api-block`: a request for a listed API shuts the connection, with the API's key as the code.
use Rattle.std.specs.Prelude.{◌≡◌, ℤ, pos, negsuc, Bool, true, false, if◌then◌else◌, List, Option}
use Rattle.std.specs.List.{list_any}
use Rattle.std.specs.Ordering.{int_eq}
use Rattle.std.proofs.Common.{subst, refl}
use Rattle.tree_spelling.specs.Body.{Contents}
use Rattle.filter_core.specs.declared.reason.Reason.TheVariants.{Code}
use Rattle.filter_core.specs.Decision.{Decision, Forward, Return, Shut, Turn}
use Rattle.filter_core.specs.Laws.{IsSentOnAs}
use Rattle.filter_core.specs.TwoTurns.{two_turns, handed_back}
use Rattle.filter_core.specs.Lawful.{IsNoQuestion, KeepsLaws, handing_back, sent_on_itself}

abbrev pub is_blocked : List ℤ → ℤ → Bool
is_blocked keys key = list_any (λ listed. int_eq listed key) keys

-- no API has a key below 0
abbrev pub shut_by : ℤ → Contents → Decision
shut_by (pos key) request = Shut (Code key)
shut_by (negsuc n) request = Forward request

abbrev pub block : List ℤ → Contents → Decision
block keys request = if is_blocked keys request.key then shut_by request.key request else Forward request

abbrev pub api_block : List ℤ → Turn
api_block keys = two_turns (block keys) handed_back

-- ---- why it keeps the laws

no_question_by : (key : ℤ) (b : Bool) (request : Contents) → IsNoQuestion (if b then shut_by key request else Forward request)
no_question_by (pos key) true request = tt
no_question_by (negsuc n) true request = tt
no_question_by (pos key) false request = tt
no_question_by (negsuc n) false request = tt

forwards_by : (key : ℤ) (b : Bool) (request message : Contents) → (if b then shut_by key request else Forward request) ≡ Forward message → request ≡ message
forwards_by (pos key) true request message e = absurd (let z : Shut (Code key) ≡ Forward message = e in cc)
forwards_by (negsuc n) true request message e = let z : Forward request ≡ Forward message = e in cc
forwards_by (pos key) false request message e = let z : Forward request ≡ Forward message = e in cc
forwards_by (negsuc n) false request message e = let z : Forward request ≡ Forward message = e in cc

returns_by : (key : ℤ) (b : Bool) (request : Contents) (response : Option Contents) → (if b then shut_by key request else Forward request) ≡ Return response → ⊥
returns_by (pos key) true request response e = let z : Shut (Code key) ≡ Return response = e in cc
returns_by (negsuc n) true request response e = let z : Forward request ≡ Return response = e in cc
returns_by (pos key) false request response e = let z : Forward request ≡ Return response = e in cc
returns_by (negsuc n) false request response e = let z : Forward request ≡ Return response = e in cc

pub api_block_keeps : (keys : List ℤ) → KeepsLaws (block keys) handed_back
api_block_keeps keys =
    record {
      no_question = λ request. no_question_by request.key (is_blocked keys request.key) request;
      forwards = λ request message is_request e. subst (IsSentOnAs request) (forwards_by request.key (is_blocked keys request.key) request message e) (sent_on_itself request is_request);
      answers = λ request response is_request e. absurd (returns_by request.key (is_blocked keys request.key) request response e);
      returns = λ input. (_, refl);
      returned_back = handing_back;
    }
