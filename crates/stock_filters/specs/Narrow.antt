-- `narrow`: of a broker's response to ApiVersions pass the versions that both know.
use Rattle.std.specs.Prelude.{◌≡◌, Bool, true, false, if◌then◌else◌, Option, Some, None}
use Rattle.std.specs.Option.{option_map}
use Rattle.std.specs.Ordering.{int_eq}
use Rattle.std.proofs.Common.{sym, ◌∙◌, subst, refl}
use Rattle.std.proofs.lemmas.Bool.Decides.{Decides-int_eq}
use Rattle.tree_spelling.specs.Body.{Contents}
use Rattle.api_versions.specs.Refusal.{api_versions_key}
use Rattle.api_versions.specs.Narrowing.{narrowed_body}
use Rattle.api_versions.proofs.NarrowedTree.{narrowed_tree}
use Rattle.filter_core.specs.declared.input.Input.{Input}
use Rattle.filter_core.specs.declared.input.Input.TheVariants.{Response, NoResponse, Verdict}
use Rattle.filter_core.specs.Decision.{Decision, Forward, Return, Turn}
use Rattle.filter_core.specs.Inputs.{IsResponseTo, MayComeFor}
use Rattle.filter_core.specs.Laws.{IsSentOnAs, AnswersRequest}
use Rattle.filter_core.specs.Responses.{response_given}
use Rattle.filter_core.specs.TwoTurns.{two_turns}
use Rattle.filter_core.specs.Lawful.{KeepsLaws, answers_both, sent_on_itself}

-- a response to ApiVersions with the versions that both know, and any other as it came
abbrev pub narrowed_response : Contents → Contents
narrowed_response response = if int_eq response.key api_versions_key then narrowed_body response else response

abbrev pub narrowed_back : Input → Decision
narrowed_back input = Return (option_map narrowed_response (response_given input))

-- each request goes on as it came
abbrev pub narrow : Turn
narrow = two_turns Forward narrowed_back

-- ---- why it keeps the laws

narrowed_answers : (b : Bool) (message response : Contents) → int_eq response.key api_versions_key ≡ b
    → IsResponseTo message response → IsResponseTo message (if b then narrowed_body response else response)
narrowed_answers true message response is h =
    record { tree = narrowed_tree response ((Decides-int_eq response.key api_versions_key).0 is) h.of.dir_is h.tree; of = record { key_is = h.of.key_is; version_is = h.of.version_is; dir_is = h.of.dir_is } }
narrowed_answers false message response is h = h

giving_back : (request message : Contents) (input : Input) (response : Option Contents)
    → IsSentOnAs request message → MayComeFor message input → narrowed_back input ≡ Return response → AnswersRequest request response
giving_back request message (Response came) response same may is =
    let z : Return (Some (narrowed_response came)) ≡ Return response = is in
    let e : Some (narrowed_response came) ≡ response = cc in
    subst (AnswersRequest request) e (answers_both request message (narrowed_response came) same (narrowed_answers (int_eq came.key api_versions_key) message came refl may))
giving_back request message NoResponse response same may is =
    let z : Return None ≡ Return response = is in
    let e : None ≡ response = cc in
    subst (AnswersRequest request) e (sym same.same_acks ∙ may)
giving_back request message (Verdict verdict) response same may is = absurd may

pub narrow_keeps : KeepsLaws Forward narrowed_back
narrow_keeps =
    record {
      no_question = λ request. tt;
      forwards = λ request message is_request e. subst (IsSentOnAs request) (let z : Forward request ≡ Forward message = e in cc) (sent_on_itself request is_request);
      answers = λ request response is_request e. absurd (let z : Forward request ≡ Return response = e in cc);
      returns = λ input. (_, refl);
      returned_back = giving_back;
    }
