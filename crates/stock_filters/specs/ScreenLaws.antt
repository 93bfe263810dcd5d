-- Why filters of CreateTopics requests keep the laws.
use Rattle.std.specs.Prelude.{◌≡◌, ◌≤◌, ℕ, ℤ, pos, Bool, true, false, ◌&&◌, if◌then◌else◌, List, [], ◌∷◌, length, Option, Some, None, FitsSigned}
use Rattle.std.specs.Int.{w16}
use Rattle.std.specs.List.{list_all, list_any}
use Rattle.std.specs.Option.{option_map}
use Rattle.std.specs.Ordering.{int_eq}
use Rattle.std.proofs.Common.{◌⊎◌, inl, inr, sym, ap, ◌∙◌, subst, refl, arith}
use Rattle.std.proofs.lemmas.Bool.Decides.{Decides-int_eq, nat_tests}
use Rattle.kp_schema.specs.Field.{is_between}
use Rattle.tree_spelling.specs.declared.primitive.Primitive.{Primitive}
use Rattle.tree_spelling.specs.Shape.{Shape, End}
use Rattle.tree_spelling.specs.Body.{Contents, body_shape}
use Rattle.filter_core.specs.declared.input.Input.{Input}
use Rattle.filter_core.specs.declared.input.Input.TheVariants.{Response, NoResponse, Verdict}
use Rattle.filter_core.specs.Acks.{acks_in, is_zero}
use Rattle.filter_core.specs.Decision.{Decision, Forward, Side, HoldFor, Return, Shut}
use Rattle.filter_core.specs.Inputs.{IsWholeRequest, IsResponseTo, MayComeFor, MayFollow}
use Rattle.filter_core.specs.Laws.{IsForward, IsLawful, IsSentOnAs, WillBeAnswered, AnswersRequest, ForwardsOnce, EndsAfterSix, ForwardsTheSame, QuestionsAreAnswered, ReturnsAnAnswer}
use Rattle.filter_core.specs.Responses.{response_given}
use Rattle.filter_core.specs.TwoTurns.{handed_back}
use Rattle.filter_core.specs.Lawful.{handing_back, sent_on_itself, answers_both}
use Rattle.stock_filters.specs.ProduceAll.{both_true, ItemsOf}
use Rattle.stock_filters.specs.CreateTopics.{names_behind, topic_names, max_count, is_some_names, creates_topics, with_topics, refusal, with_refused, is_flagged, refused_names, go_on, come_back, screening}
use Rattle.stock_filters.specs.CreateTopicsTrees.{with_topics_tree, with_topics_same, AreNames, topic_names_fit, refused_names_fit, request_shape, refusal_tree, with_refused_tree}

-- it is a question to an authority, or one that the broker answers
abbrev pub IsKnownQuestion : Decision → Type 0
IsKnownQuestion (Side message) = WillBeAnswered message
IsKnownQuestion (HoldFor key) = Unit {0}
IsKnownQuestion _ = ⊥

-- what a filter of CreateTopics requests owes
pub record IsScreen (acts : Contents → Bool) (question : Contents → Decision) (error : ℤ) : Type 0 where
  pub creates : (request : Contents) → acts request ≡ true → creates_topics request ≡ true
  pub known : (request : Contents) → IsWholeRequest request → acts request ≡ true → IsKnownQuestion (question request)
  pub fits : FitsSigned w16 error

-- ---- what is known of a request with topics

pub record HasTopics (request : Contents) : Type 0 where
  pub key_is : request.key ≡ pos 19
  pub known : is_between (pos 0) (pos 4) request.version ≡ true
  pub names : AreNames (topic_names request)
  pub few : length (topic_names request) ≤ max_count

known_by : (version : ℤ) (items : List Primitive) (shape : Shape) → (is_between (pos 0) (pos 4) version ≡ true) ⊎ (shape ≡ End) → ItemsOf shape items → is_some_names (names_behind None items) ≡ true → is_between (pos 0) (pos 4) version ≡ true
known_by version items shape (inl known) of some = known
known_by version items shape (inr unknown) of some =
    let there : ItemsOf End items = subst (λ (s : Shape). ItemsOf s items) unknown of in
    let none : is_some_names (names_behind None items) ≡ false = ap (λ xs. is_some_names (names_behind None xs)) there.1 in
    absurd (let e : true ≡ false = sym some ∙ none in cc)

few_names : (names : List (Option (List ℕ))) → is_some_names names ≡ true → length names ≤ max_count
few_names [] h = omega arith
few_names (name ∷ names) h = grind (arith, nat_tests)

pub has_topics : (request : Contents) → IsWholeRequest request → creates_topics request ≡ true → HasTopics request
has_topics request whole is =
    let p = both_true (int_eq request.key (pos 19)) (is_some_names (topic_names request)) is in
    let key : request.key ≡ pos 19 = (Decides-int_eq request.key (pos 19)).0 p.0 in
    let shape : (is_between (pos 0) (pos 4) request.version ≡ true) ⊎ (body_shape request ≡ End) = rw (key, whole.dir_is) (request_shape request.version) in
    record {
      key_is = key;
      known = known_by request.version request.items (body_shape request) shape (whole.tree.value, whole.tree.is) p.1;
      names = topic_names_fit request.items whole.tree.in_range;
      few = few_names (topic_names request) p.1;
    }

no_acks : (key : ℤ) (items : List Primitive) → key ≡ pos 19 → (int_eq key (pos 0) && is_zero (acks_in items)) ≡ false
no_acks key items is = ap (λ k. int_eq k (pos 0) && is_zero (acks_in items)) is

pub sent_with_topics : (request : Contents) (flags : List Bool) → IsWholeRequest request → request.key ≡ pos 19 → IsSentOnAs request (with_topics flags request)
sent_with_topics request flags whole key =
    let same = with_topics_same request flags in
    record {
      is_request = record { tree = with_topics_tree request flags whole.tree; dir_is = same.dir_is ∙ whole.dir_is };
      same_key = same.key_is;
      same_version = same.version_is;
      same_acks = no_acks (with_topics flags request).key (with_topics flags request).items (same.key_is ∙ key) ∙ sym (no_acks request.key request.items key);
    }

-- ---- what it decides once it has its answer

abbrev going : Bool → Bool → ℤ → Contents → List Bool → Decision
going all any error request flags =
    if all then Forward request else if any then Forward (with_topics flags request) else Return (Some (refusal error request.version (topic_names request)))

going_same : (all any : Bool) (error : ℤ) (request message : Contents) (flags : List Bool) → IsWholeRequest request → request.key ≡ pos 19 → going all any error request flags ≡ Forward message → IsSentOnAs request message
going_same true any error request message flags whole key e =
    subst (IsSentOnAs request) (let z : Forward request ≡ Forward message = e in cc) (sent_on_itself request whole)
going_same false true error request message flags whole key e =
    subst (IsSentOnAs request) (let z : Forward (with_topics flags request) ≡ Forward message = e in cc) (sent_with_topics request flags whole key)
going_same false false error request message flags whole key e =
    absurd (let z : Return (Some (refusal error request.version (topic_names request))) ≡ Forward message = e in cc)

never_side : (all any : Bool) (error : ℤ) (request message : Contents) (flags : List Bool) → going all any error request flags ≡ Side message → ⊥
never_side true any error request message flags e = let z : Forward request ≡ Side message = e in cc
never_side false true error request message flags e = let z : Forward (with_topics flags request) ≡ Side message = e in cc
never_side false false error request message flags e = let z : Return (Some (refusal error request.version (topic_names request))) ≡ Side message = e in cc

refusal_answers : (error : ℤ) (request : Contents) → HasTopics request → FitsSigned w16 error → IsResponseTo request (refusal error request.version (topic_names request))
refusal_answers error request has fits =
    record { tree = refusal_tree error request.version (topic_names request) has.known fits has.names has.few; of = record { key_is = sym has.key_is; version_is = refl; dir_is = refl } }

going_answers : (all any : Bool) (error : ℤ) (request : Contents) (response : Option Contents) (flags : List Bool) → HasTopics request → FitsSigned w16 error → going all any error request flags ≡ Return response → AnswersRequest request response
going_answers true any error request response flags has fits e = absurd (let z : Forward request ≡ Return response = e in cc)
going_answers false true error request response flags has fits e = absurd (let z : Forward (with_topics flags request) ≡ Return response = e in cc)
going_answers false false error request response flags has fits e =
    let z : Return (Some (refusal error request.version (topic_names request))) ≡ Return response = e in
    let same : Some (refusal error request.version (topic_names request)) ≡ response = cc in
    subst (AnswersRequest request) same (refusal_answers error request has fits)

-- ---- what it makes of the broker's answer

abbrev coming : Bool → ℤ → Contents → List Bool → Input → Option Contents
coming all error request flags input =
    if all then response_given input else option_map (with_refused error (refused_names flags (topic_names request))) (response_given input)

refused_answers : (error : ℤ) (request came : Contents) (flags : List Bool) → IsWholeRequest request → HasTopics request → FitsSigned w16 error → IsResponseTo (with_topics flags request) came
    → IsResponseTo request (with_refused error (refused_names flags (topic_names request)) came)
refused_answers error request came flags whole has fits may =
    let h = answers_both request (with_topics flags request) came (sent_with_topics request flags whole has.key_is) may in
    let known : is_between (pos 0) (pos 4) came.version ≡ true = ap (is_between (pos 0) (pos 4)) h.of.version_is ∙ has.known in
    record {
      tree = with_refused_tree error (refused_names flags (topic_names request)) came (h.of.key_is ∙ has.key_is) h.of.dir_is known fits (refused_names_fit flags (topic_names request) has.names) h.tree;
      of = record { key_is = h.of.key_is; version_is = h.of.version_is; dir_is = h.of.dir_is };
    }

some_coming : (error : ℤ) (request : Contents) (flags : List Bool) (input : Input) (response : Option Contents) → IsWholeRequest request → HasTopics request → FitsSigned w16 error
    → MayComeFor (with_topics flags request) input → coming false error request flags input ≡ response → AnswersRequest request response
some_coming error request flags (Response came) response whole has fits may e =
    subst (AnswersRequest request) e (refused_answers error request came flags whole has fits may)
some_coming error request flags NoResponse response whole has fits may e =
    let none = no_acks (with_topics flags request).key (with_topics flags request).items ((with_topics_same request flags).key_is ∙ has.key_is) in
    absurd (let z : true ≡ false = sym may ∙ none in cc)
some_coming error request flags (Verdict verdict) response whole has fits may e = absurd may

coming_answers : (all any : Bool) (error : ℤ) (request : Contents) (flags : List Bool) (input : Input) (response : Option Contents) → IsWholeRequest request → HasTopics request → FitsSigned w16 error
    → MayFollow (going all any error request flags) input → coming all error request flags input ≡ response → AnswersRequest request response
coming_answers true any error request flags input response whole has fits may e =
    handing_back request request input response (sent_on_itself request whole) may (ap Return e)
coming_answers false true error request flags input response whole has fits may e = some_coming error request flags input response whole has fits may e
coming_answers false false error request flags input response whole has fits may e = absurd may

-- ---- the laws

module _ (acts : Contents → Bool) (question : Contents → Decision) (flags : Contents → Input → List Bool) (error : ℤ) (k : IsScreen acts question error) where
  abbrev first : Bool → Contents → Decision
  first b request = if b then question request else Forward request

  abbrev second : Bool → Contents → Input → Decision
  second b request answer = if b then go_on error request (flags request answer) else handed_back answer

  whole_topics : (request : Contents) → IsWholeRequest request → acts request ≡ true → HasTopics request
  whole_topics request whole is = has_topics request whole (k.creates request is)

  question_never_forward : (D : Decision) → IsKnownQuestion D → IsForward D → ⊥
  question_never_forward (Forward message) h f = h
  question_never_forward (Side message) h f = f
  question_never_forward (HoldFor key) h f = f
  question_never_forward (Return response) h f = f
  question_never_forward (Shut reason) h f = f

  -- one that it doesn't act on has two turns, and one that it acts on three
  once_by : (b : Bool) (request : Contents) (next : Input) → acts request ≡ b → IsWholeRequest request → IsForward (first b request) → IsForward (second b request next) → ⊥
  once_by true request next is whole f g = question_never_forward (question request) (k.known request whole is) f
  once_by false request next is whole f g = g

  forwarded_once : ForwardsOnce (screening acts question flags error)
  forwarded_once request [] next [] whole i f g = once_by (acts request) request next refl whole f g
  forwarded_once request [] next (x ∷ xs) whole i f g = g
  forwarded_once request (x ∷ []) next more whole i f g = g
  forwarded_once request (x ∷ (y ∷ ys)) next more whole i f g = f

  ended_soon : EndsAfterSix (screening acts question flags error)
  ended_soon request [] whole i six = absurd (omega arith)
  ended_soon request (x ∷ []) whole i six = absurd (omega arith)
  ended_soon request (x ∷ (y ∷ ys)) whole i six = tt

  question_no_message : (D : Decision) (message : Contents) → IsKnownQuestion D → D ≡ Forward message → ⊥
  question_no_message D message h e = question_never_forward D h (subst IsForward (sym e) tt)

  first_same : (b : Bool) (request message : Contents) → acts request ≡ b → IsWholeRequest request → first b request ≡ Forward message → IsSentOnAs request message
  first_same true request message is whole e = absurd (question_no_message (question request) message (k.known request whole is) e)
  first_same false request message is whole e = subst (IsSentOnAs request) (let z : Forward request ≡ Forward message = e in cc) (sent_on_itself request whole)

  second_same : (b : Bool) (request message : Contents) (x : Input) → acts request ≡ b → IsWholeRequest request → second b request x ≡ Forward message → IsSentOnAs request message
  second_same true request message x is whole e =
      going_same (list_all is_flagged (flags request x)) (list_any is_flagged (flags request x)) error request message (flags request x) whole (whole_topics request whole is).key_is e
  second_same false request message x is whole e = absurd (let z : Return (response_given x) ≡ Forward message = e in cc)

  forwarded_same : ForwardsTheSame (screening acts question flags error)
  forwarded_same request [] message whole i e = first_same (acts request) request message refl whole e
  forwarded_same request (x ∷ []) message whole i e = second_same (acts request) request message x refl whole e
  forwarded_same request (x ∷ (y ∷ ys)) message whole i e =
      absurd (let z : Return (come_back error request (flags request x) y) ≡ Forward message = e in cc)

  first_answered : (b : Bool) (request message : Contents) → acts request ≡ b → IsWholeRequest request → first b request ≡ Side message → WillBeAnswered message
  first_answered true request message is whole e = subst IsKnownQuestion e (k.known request whole is)
  first_answered false request message is whole e = absurd (let z : Forward request ≡ Side message = e in cc)

  second_no_side : (b : Bool) (request message : Contents) (x : Input) → second b request x ≡ Side message → ⊥
  second_no_side true request message x e = never_side (list_all is_flagged (flags request x)) (list_any is_flagged (flags request x)) error request message (flags request x) e
  second_no_side false request message x e = let z : Return (response_given x) ≡ Side message = e in cc

  asked_known : QuestionsAreAnswered (screening acts question flags error)
  asked_known request [] message whole i e = first_answered (acts request) request message refl whole e
  asked_known request (x ∷ []) message whole i e = absurd (second_no_side (acts request) request message x e)
  asked_known request (x ∷ (y ∷ ys)) message whole i e =
      absurd (let z : Return (come_back error request (flags request x) y) ≡ Side message = e in cc)

  first_no_return : (b : Bool) (request : Contents) (response : Option Contents) → acts request ≡ b → IsWholeRequest request → first b request ≡ Return response → ⊥
  first_no_return true request response is whole e = subst IsKnownQuestion e (k.known request whole is)
  first_no_return false request response is whole e = let z : Forward request ≡ Return response = e in cc

  second_returned : (b : Bool) (request : Contents) (x : Input) (response : Option Contents) → acts request ≡ b → IsWholeRequest request → MayFollow (first b request) x → second b request x ≡ Return response → AnswersRequest request response
  second_returned true request x response is whole may e =
      going_answers (list_all is_flagged (flags request x)) (list_any is_flagged (flags request x)) error request response (flags request x) (whole_topics request whole is) k.fits e
  second_returned false request x response is whole may e = handing_back request request x response (sent_on_itself request whole) may e

  third_returned : (b : Bool) (request : Contents) (x y : Input) (response : Option Contents) → acts request ≡ b → IsWholeRequest request → MayFollow (second b request x) y → come_back error request (flags request x) y ≡ response → AnswersRequest request response
  third_returned true request x y response is whole may e =
      coming_answers (list_all is_flagged (flags request x)) (list_any is_flagged (flags request x)) error request (flags request x) y response whole (whole_topics request whole is) k.fits may e
  third_returned false request x y response is whole may e = absurd may

  given_back : ReturnsAnAnswer (screening acts question flags error)
  given_back request [] response whole i e = absurd (first_no_return (acts request) request response refl whole e)
  given_back request (x ∷ []) response whole i e = second_returned (acts request) request x response refl whole i.0 e
  given_back request (x ∷ (y ∷ ys)) response whole i e =
      let z : Return (come_back error request (flags request x) y) ≡ Return response = e in
      let same : come_back error request (flags request x) y ≡ response = cc in
      third_returned (acts request) request x y response refl whole i.1.0 same

  pub screening_lawful : IsLawful (screening acts question flags error)
  screening_lawful =
      record {
        forwards_once = forwarded_once;
        ends_after_six = ended_soon;
        forwards_the_same = forwarded_same;
        questions_are_answered = asked_known;
        returns_an_answer = given_back;
      }
