-- A probe that holds each Heartbeat of version 0 and goes by the verdict. What else comes passes as it came.
use Rattle.std.specs.Prelude.{◌≡◌, ◌≤◌, ℕ, min, pos, Bool, true, false, List, [], ◌∷◌, ◌++◌, length, Option, Some, None, FitsSigned}
use Rattle.std.specs.Int.{w16}
use Rattle.std.proofs.Common.{◌∙◌, ap, subst, refl, arith, append_assoc}
use Rattle.tree_spelling.specs.Body.{Contents}
use Rattle.filter_core.specs.declared.input.Input.{Input}
use Rattle.filter_core.specs.declared.input.Input.TheVariants.{Response, NoResponse, Verdict}
use Rattle.filter_core.specs.Decision.{Forward, Side, HoldFor, Return, Turn}
use Rattle.filter_core.specs.Inputs.{IsWholeRequest, MayComeFor, MayFollow}
use Rattle.filter_core.specs.Laws.{IsForward, IsLast, IsSentOnAs, AnswersRequest, ForwardsOnce, EndsAfterSix, ForwardsTheSame, QuestionsAreAnswered, ReturnsAnAnswer}
use Rattle.filter_core.specs.TwoTurns.{two_turns, handed_back}
use Rattle.filter_core.specs.Lawful.{sent_on_itself, handing_back}
use Rattle.filter_probes.specs.Probes.{heartbeat_error, is_message, error_answers}

-- The first byte of a verdict, if it has one. What comes in place of a verdict has none. A byte is 255 at most.
abbrev pub first_byte : Input → Option ℕ
first_byte (Verdict (byte ∷ bytes)) = Some (min byte 255)
first_byte (Verdict []) = None
first_byte (Response response) = None
first_byte NoResponse = None

-- the request is forwarded, and what comes for it goes back
abbrev pub passing : Turn
passing request inputs = two_turns Forward handed_back request inputs

-- after a verdict with this first byte, or without one: the byte is the error of a Heartbeat
abbrev pub by_verdict : Option ℕ → Turn
by_verdict (Some byte) request inputs = Return (Some (heartbeat_error (pos byte)))
by_verdict None request inputs = passing request inputs

abbrev pub held_heartbeat : Turn
held_heartbeat request [] = HoldFor (107 ∷ [])
held_heartbeat request (x ∷ xs) = by_verdict (first_byte x) request xs

abbrev pub held_or_passing : Bool → Turn
held_or_passing true request inputs = held_heartbeat request inputs
held_or_passing false request inputs = passing request inputs

abbrev pub probe_heeding : Turn
probe_heeding request inputs = held_or_passing (is_message (pos 12) (pos 0) request) request inputs

-- ---- why it keeps the laws

once_passing : (request : Contents) (inputs : List Input) (next : Input) (more : List Input)
    → IsForward (passing request inputs) → IsForward (passing request (inputs ++ next ∷ more)) → ⊥
once_passing request [] next more first again = again
once_passing request (x ∷ xs) next more first again = first

once_by : (byte : Option ℕ) (request : Contents) (inputs : List Input) (next : Input) (more : List Input)
    → IsForward (by_verdict byte request inputs) → IsForward (by_verdict byte request (inputs ++ next ∷ more)) → ⊥
once_by (Some byte) request inputs next more first again = first
once_by None request inputs next more first again = once_passing request inputs next more first again

once_held : (request : Contents) (inputs : List Input) (next : Input) (more : List Input)
    → IsForward (held_heartbeat request inputs) → IsForward (held_heartbeat request (inputs ++ next ∷ more)) → ⊥
once_held request [] next more first again = first
once_held request (x ∷ xs) next more first again = once_by (first_byte x) request xs next more first again

once_if : (b : Bool) (request : Contents) (inputs : List Input) (next : Input) (more : List Input)
    → IsForward (held_or_passing b request inputs) → IsForward (held_or_passing b request (inputs ++ next ∷ more)) → ⊥
once_if true request inputs next more first again = once_held request inputs next more first again
once_if false request inputs next more first again = once_passing request inputs next more first again

pub heeding_forwards_once : ForwardsOnce probe_heeding
heeding_forwards_once request inputs next more r i first again = once_if (is_message (pos 12) (pos 0) request) request inputs next more first again

last_passing : (request : Contents) (inputs : List Input) → 1 ≤ length inputs → IsLast (passing request inputs)
last_passing request [] h = absurd (omega arith)
last_passing request (x ∷ xs) h = tt

last_by : (byte : Option ℕ) (request : Contents) (inputs : List Input) → 1 ≤ length inputs → IsLast (by_verdict byte request inputs)
last_by (Some byte) request inputs h = tt
last_by None request inputs h = last_passing request inputs h

last_held : (request : Contents) (inputs : List Input) → 2 ≤ length inputs → IsLast (held_heartbeat request inputs)
last_held request [] h = absurd (omega arith)
last_held request (x ∷ xs) h = last_by (first_byte x) request xs (omega arith)

last_if : (b : Bool) (request : Contents) (inputs : List Input) → 2 ≤ length inputs → IsLast (held_or_passing b request inputs)
last_if true request inputs h = last_held request inputs h
last_if false request inputs h = last_passing request inputs (omega arith)

pub heeding_ends : EndsAfterSix probe_heeding
heeding_ends request inputs r i h = last_if (is_message (pos 12) (pos 0) request) request inputs (omega arith)

-- It forwards the request itself.
itself_passing : (request : Contents) (inputs : List Input) (m : Contents) → passing request inputs ≡ Forward m → request ≡ m
itself_passing request [] m e = let z : Forward request ≡ Forward m = e in cc
itself_passing request (x ∷ xs) m e = absurd (let z : handed_back x ≡ Forward m = e in cc)

itself_by : (byte : Option ℕ) (request : Contents) (inputs : List Input) (m : Contents) → by_verdict byte request inputs ≡ Forward m → request ≡ m
itself_by (Some byte) request inputs m e = absurd (let z : Return (Some (heartbeat_error (pos byte))) ≡ Forward m = e in cc)
itself_by None request inputs m e = itself_passing request inputs m e

itself_held : (request : Contents) (inputs : List Input) (m : Contents) → held_heartbeat request inputs ≡ Forward m → request ≡ m
itself_held request [] m e = absurd (let z : HoldFor (107 ∷ []) ≡ Forward m = e in cc)
itself_held request (x ∷ xs) m e = itself_by (first_byte x) request xs m e

itself_if : (b : Bool) (request : Contents) (inputs : List Input) (m : Contents) → held_or_passing b request inputs ≡ Forward m → request ≡ m
itself_if true request inputs m e = itself_held request inputs m e
itself_if false request inputs m e = itself_passing request inputs m e

pub heeding_forwards_same : ForwardsTheSame probe_heeding
heeding_forwards_same request inputs m r i e = subst (IsSentOnAs request) (itself_if (is_message (pos 12) (pos 0) request) request inputs m e) (sent_on_itself request r)

-- It asks nothing aside.
aside_passing : (request : Contents) (inputs : List Input) (m : Contents) → passing request inputs ≡ Side m → ⊥
aside_passing request [] m e = let z : Forward request ≡ Side m = e in cc
aside_passing request (x ∷ xs) m e = let z : handed_back x ≡ Side m = e in cc

aside_by : (byte : Option ℕ) (request : Contents) (inputs : List Input) (m : Contents) → by_verdict byte request inputs ≡ Side m → ⊥
aside_by (Some byte) request inputs m e = let z : Return (Some (heartbeat_error (pos byte))) ≡ Side m = e in cc
aside_by None request inputs m e = aside_passing request inputs m e

aside_held : (request : Contents) (inputs : List Input) (m : Contents) → held_heartbeat request inputs ≡ Side m → ⊥
aside_held request [] m e = let z : HoldFor (107 ∷ []) ≡ Side m = e in cc
aside_held request (x ∷ xs) m e = aside_by (first_byte x) request xs m e

aside_if : (b : Bool) (request : Contents) (inputs : List Input) (m : Contents) → held_or_passing b request inputs ≡ Side m → ⊥
aside_if true request inputs m e = aside_held request inputs m e
aside_if false request inputs m e = aside_passing request inputs m e

pub heeding_answered : QuestionsAreAnswered probe_heeding
heeding_answered request inputs m r i e = absurd (aside_if (is_message (pos 12) (pos 0) request) request inputs m e)

byte_fits : (byte : ℕ) → FitsSigned w16 (pos (min byte 255))
byte_fits byte = omega arith

said_fits : (x : Input) (byte : ℕ) → first_byte x ≡ Some byte → FitsSigned w16 (pos byte)
said_fits (Verdict (b ∷ bs)) byte e = subst (λ n. FitsSigned w16 (pos n)) (let z : Some (min b 255) ≡ Some byte = e in let y : min b 255 ≡ byte = cc in y) (byte_fits b)
said_fits (Verdict []) byte e = absurd (let z : None ≡ Some byte = e in cc)
said_fits (Response response) byte e = absurd (let z : None ≡ Some byte = e in cc)
said_fits NoResponse byte e = absurd (let z : None ≡ Some byte = e in cc)

-- An answer of its own is a Heartbeat's, to a Heartbeat.
answers_with : (request : Contents) (byte : ℕ) (r : Option Contents) → is_message (pos 12) (pos 0) request ≡ true → FitsSigned w16 (pos byte)
    → Return (Some (heartbeat_error (pos byte))) ≡ Return r → AnswersRequest request r
answers_with request byte r is fits e =
    let z : Return (Some (heartbeat_error (pos byte))) ≡ Return r = e in
    let y : Some (heartbeat_error (pos byte)) ≡ r = cc in
    subst (AnswersRequest request) y (error_answers request (pos byte) fits is)

back_itself : (request : Contents) (x : Input) (r : Option Contents) → IsWholeRequest request → MayComeFor request x → handed_back x ≡ Return r → AnswersRequest request r
back_itself request x r is_request may e = handing_back request request x r (sent_on_itself request is_request) may e

after_verdict : (said : Option ℕ) (request : Contents) (x : Input) (r : Option Contents) → is_message (pos 12) (pos 0) request ≡ true → first_byte x ≡ said
    → by_verdict said request [] ≡ Return r → AnswersRequest request r
after_verdict (Some byte) request x r is h e = answers_with request byte r is (said_fits x byte h) e
after_verdict None request x r is h e = absurd (let z : Forward request ≡ Return r = e in cc)

after_one : (b : Bool) (request : Contents) (x : Input) (r : Option Contents) → IsWholeRequest request → is_message (pos 12) (pos 0) request ≡ b
    → MayFollow (held_or_passing b request []) x → held_or_passing b request (x ∷ []) ≡ Return r → AnswersRequest request r
after_one true request x r is_request is may e = after_verdict (first_byte x) request x r is refl e
after_one false request x r is_request is may e = back_itself request x r is_request may e

after_two_by : (said : Option ℕ) (request : Contents) (y : Input) (ys : List Input) (r : Option Contents) → IsWholeRequest request
    → MayFollow (by_verdict said request []) y → by_verdict said request (y ∷ ys) ≡ Return r → AnswersRequest request r
after_two_by (Some byte) request y ys r is_request may e = absurd may
after_two_by None request y ys r is_request may e = back_itself request y r is_request may e

after_two : (b : Bool) (request : Contents) (x y : Input) (ys : List Input) (r : Option Contents) → IsWholeRequest request
    → MayFollow (held_or_passing b request (x ∷ [])) y → held_or_passing b request (x ∷ (y ∷ ys)) ≡ Return r → AnswersRequest request r
after_two true request x y ys r is_request may e = after_two_by (first_byte x) request y ys r is_request may e
after_two false request x y ys r is_request may e = absurd may

at_once : (b : Bool) (request : Contents) (r : Option Contents) → held_or_passing b request [] ≡ Return r → ⊥
at_once true request r e = let z : HoldFor (107 ∷ []) ≡ Return r = e in cc
at_once false request r e = let z : Forward request ≡ Return r = e in cc

pub heeding_returns : ReturnsAnAnswer probe_heeding
heeding_returns request [] r is_request h e = absurd (at_once (is_message (pos 12) (pos 0) request) request r e)
heeding_returns request (x ∷ []) r is_request h e = after_one (is_message (pos 12) (pos 0) request) request x r is_request refl h.0 e
heeding_returns request (x ∷ (y ∷ ys)) r is_request h e = after_two (is_message (pos 12) (pos 0) request) request x y ys r is_request h.1.0 e

-- ---- what it keeps

-- It waits for the verdict with the request, or it has forwarded it.
abbrev pub HeedingIsWaiting : Option Contents → Contents → List Input → Type 0
HeedingIsWaiting None request inputs = (x : Input) (xs : List Input) → probe_heeding request (inputs ++ x ∷ xs) ≡ handed_back x
HeedingIsWaiting (Some later) request inputs = (later ≡ request) × ((x : Input) (xs : List Input) → probe_heeding request (inputs ++ x ∷ xs) ≡ by_verdict (first_byte x) request xs)
