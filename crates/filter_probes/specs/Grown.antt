-- A filter whose SyncGroup requests of version 0 grow, or whose responses to them do ("The Messages: SyncGroup API").
use Rattle.std.specs.Prelude.{◌≡◌, ◌≤◌, ℕ, pos, Bool, true, false, ◌&&◌, if◌then◌else◌, List, [], ◌∷◌, length, Option, Some}
use Rattle.std.specs.Ordering.{int_eq}
use Rattle.std.proofs.Common.{ap, sym, subst, refl, rules}
use Rattle.kp_schema.specs.declared.dir.Dir.TheVariants as dir
use Rattle.kp_schema.specs.Messages.{fields_of, messages}
use Rattle.kp_schema.specs.SyncGroup as SyncGroup
use Rattle.tree_spelling.specs.declared.primitive.Primitive.TheVariants.{Int16, Int32, Text, Binary, Count}
use Rattle.tree_spelling.specs.Body.{Contents, IsTree}
use Rattle.filter_core.specs.Acks.{has_acks_zero, acks_in, is_zero}
use Rattle.filter_core.specs.Decision.{Decision, Forward, Return, Turn}
use Rattle.filter_core.specs.Inputs.{IsResponseTo}
use Rattle.filter_core.specs.Laws.{IsSentOnAs, AnswersRequest}
use Rattle.filter_core.specs.TwoTurns.{two_turns, handed_back}
use Rattle.filter_core.specs.Lawful.{IsNoQuestion, KeepsLaws, sent_on_itself, handing_back}
use Rattle.filter_probes.specs.declared.growth.Growth.{Growth}
use Rattle.filter_probes.specs.declared.growth.Growth.TheVariants.{Sends, Responses}
use Rattle.filter_probes.specs.Probes.{is_message, message_is}

-- group_id, generation_id, member_id, and one assignment: its member_id, and the payload
abbrev pub grown_request : List ℕ → Contents
grown_request payload = record { key = pos 14; version = pos 0; dir = dir.Request; items = Text (Some (103 ∷ [])) ∷ (Int32 (pos 1) ∷ (Text (Some (109 ∷ [])) ∷ (Count (Some 1) ∷ (Text (Some []) ∷ (Binary (Some payload) ∷ []))))) }

-- error_code, and the payload as the assignment
abbrev pub grown_response : List ℕ → Contents
grown_response payload = record { key = pos 14; version = pos 0; dir = dir.Response; items = Int16 (pos 0) ∷ (Binary (Some payload) ∷ []) }

-- the send grows, or the response does
abbrev pub grown : Growth → List ℕ → Decision
grown Sends payload = Forward (grown_request payload)
grown Responses payload = Return (Some (grown_response payload))

abbrev pub grown_or_itself : Growth → List ℕ → Contents → Decision
grown_or_itself growth payload request = if is_message (pos 14) (pos 0) request then grown growth payload else Forward request

abbrev pub growing : Growth → List ℕ → Turn
growing growth payload = two_turns (grown_or_itself growth payload) handed_back

-- ---- why it keeps the laws

request_tree : (payload : List ℕ) → length payload ≤ 2147483647 → IsTree (grown_request payload)
unfolding fields_of messages SyncGroup.request
request_tree payload fits = record { value = (Some (103 ∷ []), (pos 1, (Some (109 ∷ []), (Some ((Some [], (Some payload, tt)) ∷ []), tt)))); is = refl; in_range = search (rules, fits) }

response_tree : (payload : List ℕ) → length payload ≤ 2147483647 → IsTree (grown_response payload)
unfolding fields_of messages SyncGroup.response
response_tree payload fits = record { value = (pos 0, (Some payload, tt)); is = refl; in_range = search (rules, fits) }

no_question_by : (growth : Growth) (b : Bool) (payload : List ℕ) (request : Contents) → IsNoQuestion (if b then grown growth payload else Forward request)
no_question_by Sends true payload request = tt
no_question_by Responses true payload request = tt
no_question_by growth false payload request = tt

no_acks : (request : Contents) → request.key ≡ pos 14 → has_acks_zero request ≡ false
no_acks request e = ap (λ key. int_eq key (pos 0) && is_zero (acks_in request.items)) e

sent_as_grown : (payload : List ℕ) (request : Contents) → length payload ≤ 2147483647 → is_message (pos 14) (pos 0) request ≡ true → IsSentOnAs request (grown_request payload)
sent_as_grown payload request fits e =
    let h = message_is (pos 14) (pos 0) request e in
    record { is_request = record { tree = request_tree payload fits; dir_is = refl }; same_key = sym h.0; same_version = sym h.1; same_acks = sym (no_acks request h.0) }

forwards_by : (growth : Growth) (b : Bool) (payload : List ℕ) (request message : Contents) → IsSentOnAs request request
    → (b ≡ true → IsSentOnAs request (grown_request payload))
    → (if b then grown growth payload else Forward request) ≡ Forward message → IsSentOnAs request message
forwards_by Sends true payload request message itself h e =
    let z : Forward (grown_request payload) ≡ Forward message = e in
    let y : grown_request payload ≡ message = cc in
    subst (IsSentOnAs request) y (h refl)
forwards_by Responses true payload request message itself h e = absurd (let z : Return (Some (grown_response payload)) ≡ Forward message = e in cc)
forwards_by growth false payload request message itself h e =
    let z : Forward request ≡ Forward message = e in
    let y : request ≡ message = cc in
    subst (IsSentOnAs request) y itself

grown_answers : (payload : List ℕ) (request : Contents) → length payload ≤ 2147483647 → is_message (pos 14) (pos 0) request ≡ true → IsResponseTo request (grown_response payload)
grown_answers payload request fits e =
    let h = message_is (pos 14) (pos 0) request e in
    record { tree = response_tree payload fits; of = record { key_is = sym h.0; version_is = sym h.1; dir_is = refl } }

answers_by : (growth : Growth) (b : Bool) (payload : List ℕ) (request : Contents) (response : Option Contents)
    → (b ≡ true → IsResponseTo request (grown_response payload))
    → (if b then grown growth payload else Forward request) ≡ Return response → AnswersRequest request response
answers_by Sends true payload request response h e = absurd (let z : Forward (grown_request payload) ≡ Return response = e in cc)
answers_by Responses true payload request response h e =
    let z : Return (Some (grown_response payload)) ≡ Return response = e in
    let y : Some (grown_response payload) ≡ response = cc in
    subst (AnswersRequest request) y (h refl)
answers_by growth false payload request response h e = absurd (let z : Forward request ≡ Return response = e in cc)

pub growing_keeps : (growth : Growth) (payload : List ℕ) → length payload ≤ 2147483647 → KeepsLaws (grown_or_itself growth payload) handed_back
growing_keeps growth payload fits =
    record {
      no_question = λ request. no_question_by growth (is_message (pos 14) (pos 0) request) payload request;
      forwards = λ request message r e. forwards_by growth (is_message (pos 14) (pos 0) request) payload request message (sent_on_itself request r) (sent_as_grown payload request fits) e;
      answers = λ request response r e. answers_by growth (is_message (pos 14) (pos 0) request) payload request response (grown_answers payload request fits) e;
      returns = λ input. (_, refl);
      returned_back = handing_back;
    }
