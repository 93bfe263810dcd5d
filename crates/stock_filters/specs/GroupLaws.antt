-- Why `group-live` keeps the laws.
use Rattle.std.specs.Prelude.{◌≡◌, ℕ, Bool, true, false, if◌then◌else◌, List, [], ◌∷◌, Option, Some, None}
use Rattle.std.specs.Option.{option_map}
use Rattle.std.proofs.Common.{sym, subst, refl, arith}
use Rattle.tree_spelling.specs.Body.{Contents, body_shape}
use Rattle.filter_core.specs.declared.input.Input.{Input}
use Rattle.filter_core.specs.declared.input.Input.TheVariants.{Response, NoResponse, Verdict}
use Rattle.filter_core.specs.Decision.{Decision, Forward, Side, Return}
use Rattle.filter_core.specs.Inputs.{IsWholeRequest, IsResponseTo, MayComeFor, MayFollow}
use Rattle.filter_core.specs.Laws.{IsForward, IsLawful, IsSentOnAs, WillBeAnswered, AnswersRequest, ForwardsOnce, EndsAfterSix, ForwardsTheSame, QuestionsAreAnswered, ReturnsAnAnswer}
use Rattle.filter_core.specs.Responses.{response_given}
use Rattle.filter_core.specs.TwoTurns.{handed_back}
use Rattle.filter_core.specs.Lawful.{handing_back, sent_on_itself}
use Rattle.stock_filters.specs.GroupLive.{lists_groups, listed_ids, group_question, live_response, asked_about, on_listing, described_by, group_live}
use Rattle.stock_filters.specs.GroupTrees.{is_listing, live_answers, IsQuestion, ids_in, question_answered}

abbrev on_first : Bool → Input → Decision
on_first lists listing = if lists then on_listing listing else handed_back listing

about_never_forward : (response : Contents) (ids : List (List ℕ)) → IsForward (asked_about response ids) → ⊥
about_never_forward response [] h = h
about_never_forward response (id ∷ ids) h = h

first_never_forward : (lists : Bool) (input : Input) → IsForward (on_first lists input) → ⊥
first_never_forward true (Response response) h = about_never_forward response (listed_ids response) h
first_never_forward true NoResponse h = h
first_never_forward true (Verdict verdict) h = h
first_never_forward false input h = h

later_never_forward : (request : Contents) (next : Input) (more : List Input) → IsForward (group_live request (next ∷ more)) → ⊥
later_never_forward request next [] h = first_never_forward (lists_groups request) next h
later_never_forward request next (x ∷ xs) h = h

forwarded_once : ForwardsOnce group_live
forwarded_once request [] next more r i first again = later_never_forward request next more again
forwarded_once request (x ∷ xs) next more r i first again = later_never_forward request x xs first

ended_soon : EndsAfterSix group_live
ended_soon request [] r i six = absurd (omega arith)
ended_soon request (x ∷ []) r i six = absurd (omega arith)
ended_soon request (x ∷ (y ∷ ys)) r i six = tt

forwarded_same : ForwardsTheSame group_live
forwarded_same request [] message r i e = subst (IsSentOnAs request) (let z : Forward request ≡ Forward message = e in cc) (sent_on_itself request r)
forwarded_same request (x ∷ xs) message r i e = absurd (later_never_forward request x xs (subst IsForward (sym e) tt))

asked_by : (response message : Contents) (ids : List (List ℕ)) → IsQuestion ids → asked_about response ids ≡ Side message → WillBeAnswered message
asked_by response message [] fits e = absurd (let z : Return (Some response) ≡ Side message = e in cc)
asked_by response message (id ∷ ids) fits e =
    let z : Side (group_question (id ∷ ids)) ≡ Side message = e in
    let same : group_question (id ∷ ids) ≡ message = cc in
    subst WillBeAnswered same (question_answered (id ∷ ids) fits)

first_asked : (lists : Bool) (request message : Contents) (input : Input) → lists_groups request ≡ lists → MayComeFor request input → on_first lists input ≡ Side message → WillBeAnswered message
first_asked true request message (Response response) is may e =
    asked_by response message (listed_ids response) (ids_in (body_shape response) response.items (is_listing request response is may) (may.tree.value, may.tree.is) may.tree.in_range) e
first_asked true request message NoResponse is may e = absurd (let z : Return None ≡ Side message = e in cc)
first_asked true request message (Verdict verdict) is may e = absurd may
first_asked false request message input is may e = absurd (let z : Return (response_given input) ≡ Side message = e in cc)

asked_known : QuestionsAreAnswered group_live
asked_known request [] message r i e = absurd (let z : Forward request ≡ Side message = e in cc)
asked_known request (x ∷ []) message r i e = first_asked (lists_groups request) request message x refl i.0 e
asked_known request (x ∷ (y ∷ ys)) message r i e =
    absurd (let z : Return (option_map (live_response (described_by y)) (response_given x)) ≡ Side message = e in cc)

about_returns : (request came : Contents) (response : Option Contents) (ids : List (List ℕ)) → IsResponseTo request came → asked_about came ids ≡ Return response → AnswersRequest request response
about_returns request came response [] may e =
    let z : Return (Some came) ≡ Return response = e in
    let same : Some came ≡ response = cc in
    subst (AnswersRequest request) same may
about_returns request came response (id ∷ ids) may e = absurd (let z : Side (group_question (id ∷ ids)) ≡ Return response = e in cc)

first_returns : (lists : Bool) (request : Contents) (input : Input) (response : Option Contents) → IsWholeRequest request → MayComeFor request input → on_first lists input ≡ Return response → AnswersRequest request response
first_returns true request (Response came) response r may e = about_returns request came response (listed_ids came) may e
first_returns true request NoResponse response r may e = handing_back request request NoResponse response (sent_on_itself request r) may e
first_returns true request (Verdict verdict) response r may e = absurd may
first_returns false request input response r may e = handing_back request request input response (sent_on_itself request r) may e

second_returns : (lists : Bool) (request : Contents) (x y : Input) (response : Option Contents) → lists_groups request ≡ lists → MayComeFor request x → MayFollow (on_first lists x) y
    → Return (option_map (live_response (described_by y)) (response_given x)) ≡ Return response → AnswersRequest request response
second_returns true request (Response came) y response is may next e =
    let z : Return (Some (live_response (described_by y) came)) ≡ Return response = e in
    let same : Some (live_response (described_by y) came) ≡ response = cc in
    subst (AnswersRequest request) same (live_answers (described_by y) request came is may)
second_returns true request NoResponse y response is may next e = absurd next
second_returns true request (Verdict verdict) y response is may next e = absurd may
second_returns false request x y response is may next e = absurd next

given_back : ReturnsAnAnswer group_live
given_back request [] response r i e = absurd (let z : Forward request ≡ Return response = e in cc)
given_back request (x ∷ []) response r i e = first_returns (lists_groups request) request x response r i.0 e
given_back request (x ∷ (y ∷ ys)) response r i e = second_returns (lists_groups request) request x y response refl i.0 i.1.0 e

pub group_live_lawful : IsLawful group_live
group_live_lawful =
    record {
      forwards_once = forwarded_once;
      ends_after_six = ended_soon;
      forwards_the_same = forwarded_same;
      questions_are_answered = asked_known;
      returns_an_answer = given_back;
    }
