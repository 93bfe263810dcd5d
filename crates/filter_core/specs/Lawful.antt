-- Why a filter with two turns keeps the laws. It stands here, and not among the proofs, since the filters cite it as
-- they are declared.
use Rattle.std.specs.Prelude.{◌≡◌, [], ◌∷◌, Option, Some, None}
use Rattle.std.proofs.Common.{◌∙◌, sym, subst, refl, arith}
use Rattle.tree_spelling.specs.Body.{Contents}
use Rattle.filter_core.specs.declared.input.Input.{Input}
use Rattle.filter_core.specs.declared.input.Input.TheVariants.{Response, NoResponse, Verdict}
use Rattle.filter_core.specs.Decision.{Decision, Forward, Side, HoldFor, Return, Shut}
use Rattle.filter_core.specs.Inputs.{IsWholeRequest, IsResponseTo, MayComeFor, MayFollow}
use Rattle.filter_core.specs.Laws.{IsForward, IsLast, IsSentOnAs, AnswersRequest, ForwardsOnce, EndsAfterSix, ForwardsTheSame, QuestionsAreAnswered, ReturnsAnAnswer}
use Rattle.filter_core.specs.TwoTurns.{two_turns, handed_back}

-- it asks nothing aside and holds nothing
abbrev pub IsNoQuestion : Decision → Type 0
IsNoQuestion (Forward message) = Unit {0}
IsNoQuestion (Side message) = ⊥
IsNoQuestion (HoldFor key) = ⊥
IsNoQuestion (Return response) = Unit {0}
IsNoQuestion (Shut reason) = Unit {0}

-- What a filter with two turns owes.
pub record KeepsLaws (on_request : Contents → Decision) (on_input : Input → Decision) : Type 0 where
  pub no_question : (request : Contents) → IsNoQuestion (on_request request)
  pub forwards : (request message : Contents) → IsWholeRequest request → on_request request ≡ Forward message → IsSentOnAs request message
  pub answers : (request : Contents) (response : Option Contents) → IsWholeRequest request → on_request request ≡ Return response → AnswersRequest request response
  pub returns : (input : Input) → (response : Option Contents) × (on_input input ≡ Return response)
  pub returned_back : (request message : Contents) (input : Input) (response : Option Contents)
      → IsSentOnAs request message → MayComeFor message input → on_input input ≡ Return response → AnswersRequest request response

module _ (on_request : Contents → Decision) (on_input : Input → Decision) (k : KeepsLaws on_request on_input) where
  never_forward : (input : Input) → IsForward (on_input input) → ⊥
  never_forward input h = subst IsForward (k.returns input).1 h

  pub forwards_once : ForwardsOnce (two_turns on_request on_input)
  forwards_once request [] next more is_request inputs first again = never_forward next again
  forwards_once request (x ∷ xs) next more is_request inputs first again = never_forward x again

  pub ends_after_six : EndsAfterSix (two_turns on_request on_input)
  ends_after_six request [] is_request inputs six = absurd (omega arith)
  ends_after_six request (x ∷ xs) is_request inputs six = subst IsLast (sym (k.returns x).1) tt

  pub forwards_the_same : ForwardsTheSame (two_turns on_request on_input)
  forwards_the_same request [] message is_request inputs is = k.forwards request message is_request is
  forwards_the_same request (x ∷ xs) message is_request inputs is = absurd (let e : Forward message ≡ Return (k.returns x).0 = sym is ∙ (k.returns x).1 in cc)

  pub questions_are_answered : QuestionsAreAnswered (two_turns on_request on_input)
  questions_are_answered request [] message is_request inputs is = absurd (subst IsNoQuestion is (k.no_question request))
  questions_are_answered request (x ∷ xs) message is_request inputs is = absurd (let e : Side message ≡ Return (k.returns x).0 = sym is ∙ (k.returns x).1 in cc)

  answers_by : (request : Contents) (input : Input) (response : Option Contents) → IsWholeRequest request
      → (D : Decision) → on_request request ≡ D → MayFollow D input → on_input input ≡ Return response → AnswersRequest request response
  answers_by request input response is_request (Forward message) is may back = k.returned_back request message input response (k.forwards request message is_request is) may back
  answers_by request input response is_request (Side message) is may back = absurd (subst IsNoQuestion is (k.no_question request))
  answers_by request input response is_request (HoldFor key) is may back = absurd (subst IsNoQuestion is (k.no_question request))
  answers_by request input response is_request (Return other) is may back = absurd may
  answers_by request input response is_request (Shut reason) is may back = absurd may

  pub returns_an_answer : ReturnsAnAnswer (two_turns on_request on_input)
  returns_an_answer request [] response is_request inputs is = k.answers request response is_request is
  returns_an_answer request (x ∷ xs) response is_request inputs is = answers_by request x response is_request (on_request request) refl inputs.0 is

-- a response to what was forwarded is one to the request
pub answers_both : (request message response : Contents) → IsSentOnAs request message → IsResponseTo message response → IsResponseTo request response
answers_both request message response same h =
    record { tree = h.tree; of = record { key_is = h.of.key_is ∙ same.same_key; version_is = h.of.version_is ∙ same.same_version; dir_is = h.of.dir_is } }

-- handing a response back as it came answers the request
pub handing_back : (request message : Contents) (input : Input) (response : Option Contents)
    → IsSentOnAs request message → MayComeFor message input → handed_back input ≡ Return response → AnswersRequest request response
handing_back request message (Response came) response same may is =
    let z : Return (Some came) ≡ Return response = is in
    let e : Some came ≡ response = cc in
    subst (AnswersRequest request) e (answers_both request message came same may)
handing_back request message NoResponse response same may is =
    let z : Return None ≡ Return response = is in
    let e : None ≡ response = cc in
    subst (AnswersRequest request) e (sym same.same_acks ∙ may)
handing_back request message (Verdict verdict) response same may is = absurd may

-- a request goes on as it came
pub sent_on_itself : (request : Contents) → IsWholeRequest request → IsSentOnAs request request
sent_on_itself request h = record { is_request = h; same_key = refl; same_version = refl; same_acks = refl }
