-- Probes that ask, and probes that have two turns. They know a Heartbeat of version 0 and a Metadata request of version 4.
use Rattle.std.specs.Prelude.{◌≡◌, ◌≤◌, ◌<◌, nat_lt, ℕ, zero, suc, ℤ, pos, Bool, true, false, ◌&&◌, if◌then◌else◌, List, [], ◌∷◌, ◌++◌, length, Option, Some, None}
use Rattle.std.specs.Ordering.{int_eq}
use Rattle.std.proofs.Common.{◌∙◌, sym, subst, refl, arith, rules}
use Rattle.std.proofs.lemmas.Bool.Decides.{nat_tests, Decides-int_eq}
use Rattle.kp_schema.specs.declared.dir.Dir.TheVariants as dir
use Rattle.kp_schema.specs.Messages.{fields_of, messages, is_supported, supported_versions}
use Rattle.kp_schema.specs.Heartbeat as Heartbeat
use Rattle.kp_schema.specs.Metadata as Metadata
use Rattle.std.specs.Prelude.{FitsSigned}
use Rattle.std.specs.Int.{w16}
use Rattle.tree_spelling.specs.declared.primitive.Primitive.TheVariants.{Int16, Int32, Boolean, Text, Count}
use Rattle.tree_spelling.specs.Body.{Contents, IsTree}
use Rattle.filter_core.specs.declared.input.Input.{Input}
use Rattle.filter_core.specs.declared.reason.Reason.TheVariants.{Code}
use Rattle.filter_core.specs.Decision.{Decision, Forward, Side, HoldFor, Return, Shut, Turn}
use Rattle.filter_core.specs.declared.input.Input.TheVariants.{Response, NoResponse, Verdict}
use Rattle.filter_core.specs.Inputs.{IsResponseTo, MayComeFor, FollowFrom}
use Rattle.filter_core.specs.Laws.{IsForward, IsLast, IsSentOnAs, WillBeAnswered, AnswersRequest, ForwardsOnce, EndsAfterSix, ForwardsTheSame, QuestionsAreAnswered, ReturnsAnAnswer}
use Rattle.filter_core.specs.Responses.{response_given}
use Rattle.filter_core.specs.TwoTurns.{handed_back}
use Rattle.filter_core.specs.Lawful.{IsNoQuestion, KeepsLaws, sent_on_itself, answers_both, handing_back}

-- group_id, generation_id, member_id
abbrev pub probe_heartbeat : Contents
probe_heartbeat = record { key = pos 12; version = pos 0; dir = dir.Request; items = Text (Some (103 ∷ [])) ∷ (Int32 (pos 1) ∷ (Text (Some (109 ∷ [])) ∷ [])) }

-- all topics, and none is made
abbrev pub metadata : Contents
metadata = record { key = pos 3; version = pos 4; dir = dir.Request; items = Count None ∷ (Boolean 0 ∷ []) }

-- 0 asks a Heartbeat aside, 1 Metadata, and any other number holds
abbrev pub probe_question : ℕ → Decision
probe_question zero = Side probe_heartbeat
probe_question (suc zero) = Side metadata
probe_question (suc (suc n)) = HoldFor (107 ∷ [])

-- three times at most
abbrev pub how_often : ℕ → ℕ
how_often times = if nat_lt times 4 then times else 3

-- it asks so often, forwards the request, and hands back what comes
abbrev pub probe_asking : ℕ → ℕ → Turn
probe_asking w zero request [] = Forward request
probe_asking w zero request (x ∷ xs) = Return (response_given x)
probe_asking w (suc n) request [] = probe_question w
probe_asking w (suc n) request (x ∷ xs) = probe_asking w n request xs

heartbeat_tree : IsTree probe_heartbeat
unfolding fields_of messages Heartbeat.request
heartbeat_tree = record { value = (Some (103 ∷ []), (pos 1, (Some (109 ∷ []), tt))); is = refl; in_range = search rules }

metadata_tree : IsTree metadata
unfolding fields_of messages Metadata.request
metadata_tree = record { value = (None, (0, tt)); is = refl; in_range = search rules }

heartbeat_answered : WillBeAnswered probe_heartbeat
unfolding is_supported supported_versions messages
heartbeat_answered = record { is_request = record { tree = heartbeat_tree; dir_is = refl }; supported = refl; response_comes = refl }

metadata_answered : WillBeAnswered metadata
unfolding is_supported supported_versions messages
metadata_answered = record { is_request = record { tree = metadata_tree; dir_is = refl }; supported = refl; response_comes = refl }

what_is_answered : (w : ℕ) (m : Contents) → probe_question w ≡ Side m → WillBeAnswered m
what_is_answered zero m e = subst WillBeAnswered (let z : Side probe_heartbeat ≡ Side m = e in let y : probe_heartbeat ≡ m = cc in y) heartbeat_answered
what_is_answered (suc zero) m e = subst WillBeAnswered (let z : Side metadata ≡ Side m = e in let y : metadata ≡ m = cc in y) metadata_answered
what_is_answered (suc (suc n)) m e = absurd (let z : HoldFor (107 ∷ []) ≡ Side m = e in cc)

never_forward : (w : ℕ) → IsForward (probe_question w) → ⊥
never_forward zero h = h
never_forward (suc zero) h = h
never_forward (suc (suc n)) h = h

no_forward : (w : ℕ) (m : Contents) → probe_question w ≡ Forward m → ⊥
no_forward zero m e = let z : Side probe_heartbeat ≡ Forward m = e in cc
no_forward (suc zero) m e = let z : Side metadata ≡ Forward m = e in cc
no_forward (suc (suc n)) m e = let z : HoldFor (107 ∷ []) ≡ Forward m = e in cc

no_return : (w : ℕ) (r : Option Contents) → probe_question w ≡ Return r → ⊥
no_return zero r e = let z : Side probe_heartbeat ≡ Return r = e in cc
no_return (suc zero) r e = let z : Side metadata ≡ Return r = e in cc
no_return (suc (suc n)) r e = let z : HoldFor (107 ∷ []) ≡ Return r = e in cc

at_most_three : (times : ℕ) → how_often times ≤ 3
at_most_three times = grind (arith, nat_tests)

handing_itself : (request : Contents) (x : Input) (r : Option Contents) → MayComeFor request x → Return (response_given x) ≡ Return r → AnswersRequest request r
handing_itself request (Response came) r may e =
    let z : Return (Some came) ≡ Return r = e in
    let y : Some came ≡ r = cc in
    subst (AnswersRequest request) y may
handing_itself request NoResponse r may e =
    let z : Return None ≡ Return r = e in
    let y : None ≡ r = cc in
    subst (AnswersRequest request) y may
handing_itself request (Verdict verdict) r may e = absurd may

module _ (w : ℕ) where
  once : (n : ℕ) (request : Contents) (inputs : List Input) (next : Input) (more : List Input)
      → IsForward (probe_asking w n request inputs) → IsForward (probe_asking w n request (inputs ++ next ∷ more)) → ⊥
  once zero request [] next more first again = again
  once zero request (x ∷ xs) next more first again = first
  once (suc n) request [] next more first again = never_forward w first
  once (suc n) request (x ∷ xs) next more first again = once n request xs next more first again

  pub asking_forwards_once : (n : ℕ) → ForwardsOnce (probe_asking w n)
  asking_forwards_once n request inputs next more r i first again = once n request inputs next more first again

  last_after : (n : ℕ) (request : Contents) (inputs : List Input) → n < length inputs → IsLast (probe_asking w n request inputs)
  last_after zero request [] h = absurd (omega arith)
  last_after zero request (x ∷ xs) h = tt
  last_after (suc n) request [] h = absurd (omega arith)
  last_after (suc n) request (x ∷ xs) h = last_after n request xs (omega arith)

  pub asking_ends : (times : ℕ) → EndsAfterSix (probe_asking w (how_often times))
  asking_ends times request inputs r i h = last_after (how_often times) request inputs (let few = at_most_three times in omega arith)

  forwards_itself : (n : ℕ) (request : Contents) (inputs : List Input) (m : Contents) → probe_asking w n request inputs ≡ Forward m → request ≡ m
  forwards_itself zero request [] m e = let z : Forward request ≡ Forward m = e in cc
  forwards_itself zero request (x ∷ xs) m e = absurd (let z : Return (response_given x) ≡ Forward m = e in cc)
  forwards_itself (suc n) request [] m e = absurd (no_forward w m e)
  forwards_itself (suc n) request (x ∷ xs) m e = forwards_itself n request xs m e

  pub asking_forwards_same : (n : ℕ) → ForwardsTheSame (probe_asking w n)
  asking_forwards_same n request inputs m r i e = subst (IsSentOnAs request) (forwards_itself n request inputs m e) (sent_on_itself request r)

  asked_aside : (n : ℕ) (request : Contents) (inputs : List Input) (m : Contents) → probe_asking w n request inputs ≡ Side m → WillBeAnswered m
  asked_aside zero request [] m e = absurd (let z : Forward request ≡ Side m = e in cc)
  asked_aside zero request (x ∷ xs) m e = absurd (let z : Return (response_given x) ≡ Side m = e in cc)
  asked_aside (suc n) request [] m e = what_is_answered w m e
  asked_aside (suc n) request (x ∷ xs) m e = asked_aside n request xs m e

  pub asking_answered : (n : ℕ) → QuestionsAreAnswered (probe_asking w n)
  asking_answered n request inputs m r i e = asked_aside n request inputs m e

  -- one ask behind is one ask fewer
  one_behind : (n : ℕ) (request : Contents) (y : Input) (before inputs : List Input)
      → FollowFrom (probe_asking w (suc n)) request (y ∷ before) inputs → FollowFrom (probe_asking w n) request before inputs
  one_behind n request y before [] h = tt
  one_behind n request y before (x ∷ xs) h = (h.0, one_behind n request y (before ++ x ∷ []) xs h.1)

  comes_back : (n : ℕ) (request : Contents) (inputs : List Input) (r : Option Contents) → FollowFrom (probe_asking w n) request [] inputs
      → probe_asking w n request inputs ≡ Return r → AnswersRequest request r
  comes_back zero request [] r h e = absurd (let z : Forward request ≡ Return r = e in cc)
  comes_back zero request (x ∷ xs) r h e = handing_itself request x r h.0 e
  comes_back (suc n) request [] r h e = absurd (no_return w r e)
  comes_back (suc n) request (x ∷ xs) r h e = comes_back n request xs r (one_behind n request x [] xs h.1) e

  pub asking_returns : (n : ℕ) → ReturnsAnAnswer (probe_asking w n)
  asking_returns n request inputs r is_request h e = comes_back n request inputs r h e

-- ---- filters with two turns

-- The response to a Heartbeat of version 0, with this error.
abbrev pub heartbeat_error : ℤ → Contents
heartbeat_error error = record { key = pos 12; version = pos 0; dir = dir.Response; items = Int16 error ∷ [] }

abbrev pub is_message : ℤ → ℤ → Contents → Bool
is_message key version body = int_eq body.key key && int_eq body.version version

-- 0: another response to a Heartbeat than came. 1: a Heartbeat is answered at once. 2: shuts. Any other number: shuts a
-- Metadata request.
abbrev pub on_request_of : ℕ → Contents → Decision
on_request_of zero request = Forward request
on_request_of (suc zero) request = if is_message (pos 12) (pos 0) request then Return (Some (heartbeat_error (pos 55))) else Forward request
on_request_of (suc (suc zero)) request = Shut (Code 7)
on_request_of (suc (suc (suc n))) request = if is_message (pos 3) (pos 4) request then Shut (Code 3) else Forward request

abbrev pub altered : Contents → Contents
altered response = if is_message (pos 12) (pos 0) response then heartbeat_error (pos 77) else response

abbrev pub altered_input : Input → Decision
altered_input (Response response) = Return (Some (altered response))
altered_input NoResponse = Return None
altered_input (Verdict verdict) = Return None

abbrev pub on_input_of : ℕ → Input → Decision
on_input_of zero input = altered_input input
on_input_of (suc n) input = handed_back input

both : (a b : Bool) → (a && b) ≡ true → (a ≡ true) × (b ≡ true)
both true true e = (refl, refl)
both true false e = (refl, e)
both false true e = (e, refl)
both false false e = (e, e)

pub message_is : (key version : ℤ) (body : Contents) → is_message key version body ≡ true → (body.key ≡ key) × (body.version ≡ version)
message_is key version body e =
    let h = both (int_eq body.key key) (int_eq body.version version) e in
    ((Decides-int_eq body.key key).0 h.0, (Decides-int_eq body.version version).0 h.1)

error_tree : (error : ℤ) → FitsSigned w16 error → IsTree (heartbeat_error error)
unfolding fields_of messages Heartbeat.response
error_tree error fits = record { value = (error, tt); is = refl; in_range = (fits, tt) }

pub error_answers : (request : Contents) (error : ℤ) → FitsSigned w16 error → is_message (pos 12) (pos 0) request ≡ true → IsResponseTo request (heartbeat_error error)
error_answers request error fits e =
    let h = message_is (pos 12) (pos 0) request e in
    record { tree = error_tree error fits; of = record { key_is = sym h.0; version_is = sym h.1; dir_is = refl } }

one_of : (b : Bool) (D : Decision) (request : Contents) → IsNoQuestion D → IsNoQuestion (if b then D else Forward request)
one_of true D request h = h
one_of false D request h = tt

returned_or : (b : Bool) (r : Option Contents) (request message : Contents) → (if b then Return r else Forward request) ≡ Forward message → request ≡ message
returned_or true r request message e = absurd (let z : Return r ≡ Forward message = e in cc)
returned_or false r request message e = let z : Forward request ≡ Forward message = e in cc

shut_or : (b : Bool) (code : ℕ) (request message : Contents) → (if b then Shut (Code code) else Forward request) ≡ Forward message → request ≡ message
shut_or true code request message e = absurd (let z : Shut (Code code) ≡ Forward message = e in cc)
shut_or false code request message e = let z : Forward request ≡ Forward message = e in cc

no_return_or : (b : Bool) (code : ℕ) (request : Contents) (r : Option Contents) → (if b then Shut (Code code) else Forward request) ≡ Return r → ⊥
no_return_or true code request r e = let z : Shut (Code code) ≡ Return r = e in cc
no_return_or false code request r e = let z : Forward request ≡ Return r = e in cc

answered_or : (b : Bool) (request : Contents) (response : Option Contents) → (b ≡ true → IsResponseTo request (heartbeat_error (pos 55)))
    → (if b then Return (Some (heartbeat_error (pos 55))) else Forward request) ≡ Return response → AnswersRequest request response
answered_or true request response h e =
    let z : Return (Some (heartbeat_error (pos 55))) ≡ Return response = e in
    let y : Some (heartbeat_error (pos 55)) ≡ response = cc in
    subst (AnswersRequest request) y (h refl)
answered_or false request response h e = absurd (let z : Forward request ≡ Return response = e in cc)

asking_none : (kind : ℕ) (request : Contents) → IsNoQuestion (on_request_of kind request)
asking_none zero request = tt
asking_none (suc zero) request = one_of (is_message (pos 12) (pos 0) request) (Return (Some (heartbeat_error (pos 55)))) request tt
asking_none (suc (suc zero)) request = tt
asking_none (suc (suc (suc n))) request = one_of (is_message (pos 3) (pos 4) request) (Shut (Code 3)) request tt

sends_on : (kind : ℕ) (request message : Contents) → on_request_of kind request ≡ Forward message → request ≡ message
sends_on zero request message e = let z : Forward request ≡ Forward message = e in cc
sends_on (suc zero) request message e = returned_or (is_message (pos 12) (pos 0) request) (Some (heartbeat_error (pos 55))) request message e
sends_on (suc (suc zero)) request message e = absurd (let z : Shut (Code 7) ≡ Forward message = e in cc)
sends_on (suc (suc (suc n))) request message e = shut_or (is_message (pos 3) (pos 4) request) 3 request message e

answers_at_once : (kind : ℕ) (request : Contents) (response : Option Contents) → on_request_of kind request ≡ Return response → AnswersRequest request response
answers_at_once zero request response e = absurd (let z : Forward request ≡ Return response = e in cc)
answers_at_once (suc zero) request response e = answered_or (is_message (pos 12) (pos 0) request) request response (λ t. error_answers request (pos 55) (search rules) t) e
answers_at_once (suc (suc zero)) request response e = absurd (let z : Shut (Code 7) ≡ Return response = e in cc)
answers_at_once (suc (suc (suc n))) request response e = absurd (no_return_or (is_message (pos 3) (pos 4) request) 3 request response e)

gives_back : (kind : ℕ) (input : Input) → (response : Option Contents) × (on_input_of kind input ≡ Return response)
gives_back zero (Response came) = (_, refl)
gives_back zero NoResponse = (_, refl)
gives_back zero (Verdict verdict) = (_, refl)
gives_back (suc n) input = (_, refl)

altered_or : (b : Bool) (request message came : Contents) → IsSentOnAs request message → IsResponseTo message came
    → (b ≡ true → IsResponseTo came (heartbeat_error (pos 77))) → IsResponseTo request (if b then heartbeat_error (pos 77) else came)
altered_or true request message came same may h =
    let a = answers_both request message came same may in
    let e = h refl in
    record { tree = e.tree; of = record { key_is = e.of.key_is ∙ a.of.key_is; version_is = e.of.version_is ∙ a.of.version_is; dir_is = refl } }
altered_or false request message came same may h = answers_both request message came same may

returned_back_any : (kind : ℕ) (request message : Contents) (input : Input) (response : Option Contents)
    → IsSentOnAs request message → MayComeFor message input → on_input_of kind input ≡ Return response → AnswersRequest request response
returned_back_any zero request message (Response came) response same may e =
    let z : Return (Some (altered came)) ≡ Return response = e in
    let y : Some (altered came) ≡ response = cc in
    subst (AnswersRequest request) y (altered_or (is_message (pos 12) (pos 0) came) request message came same may (λ t. error_answers came (pos 77) (search rules) t))
returned_back_any zero request message NoResponse response same may e = handing_back request message NoResponse response same may e
returned_back_any zero request message (Verdict verdict) response same may e = absurd may
returned_back_any (suc n) request message input response same may e = handing_back request message input response same may e

pub two_turns_keep : (kind : ℕ) → KeepsLaws (on_request_of kind) (on_input_of kind)
two_turns_keep kind =
    record {
      no_question = asking_none kind;
      forwards = λ request message r e. subst (IsSentOnAs request) (sends_on kind request message e) (sent_on_itself request r);
      answers = λ request response r e. answers_at_once kind request response e;
      returns = gives_back kind;
      returned_back = returned_back_any kind;
    }
