-- The law of order. At every moment the requests that emit steps passed are done, and what was passed is their
-- responses, one after another.
use Rattle.std.proofs.Common.{MatchBool, ◌≤◌, arith, ◌≡◌, ◌∙◌, ap, ℕ, zero, suc, ◌+◌, Bool, true, false, ◌&&◌, is_some, if◌then◌else◌, List, [], ◌∷◌, ◌++◌, refl, sym, take, drop, length, append_assoc, Option, Some, None, Ok, slice_get, inl, inr, zero-add, add-one, suc-add}
use Rattle.std.proofs.lemmas.List.{append-nil}
use Rattle.std.specs.List.{AllByRecursion}
use Rattle.std.proofs.lemmas.List.Elements.{All-from_recursion}
use Rattle.std.specs.List.{flat_map}
use Rattle.kp_edge.specs.declared.end.End.{End}
use Rattle.kp_edge.specs.declared.end.End.TheVariants as end
use Rattle.conn_rules.specs.declared.event.Event.{Event}
use Rattle.conn_rules.specs.declared.event.Event.TheVariants as event
use Rattle.conn_rules.specs.declared.event.Reply.{Reply}
use Rattle.conn_rules.specs.declared.event.Reply.TheVariants as reply
use Rattle.conn_rules.specs.declared.event.Emit.TheVariants as emit
use Rattle.conn_rules.specs.Meaning.{Meaning, Lasting, CarriesId, Status, Waits, Done, Fails}
use Rattle.conn_rules.specs.State.{Request, State, opening, halted, in_flight, held}
use Rattle.conn_rules.specs.Causes.{below, are_ending}
use Rattle.conn_rules.specs.Settling.{Settles}
use Rattle.conn_rules.specs.Steps.{joined, response_of, response_in, silent_run, silent_passed, over_or, respond_or, told_again, emit_step, answer_to, StepOrNoMemory}
use Rattle.conn_rules.specs.History.{Entry, LeadsTo, IsHistory, to_client, out, response_bytes, responses, IsAnswered, IsInOrder}
use Rattle.conn_rules.proofs.Grows.{Later, Grows}
use Rattle.conn_rules.proofs.Keeps.{Keeps, keeps_same, keeps_joined, keeps_cut, keeps_halted, keeps_settling}
use Rattle.conn_rules.proofs.Quiet.{Quiet, IsQuiet, quiet_event, memory_gives}

-- the request has its response
abbrev pub IsDone : Meaning → Request → List ℕ → Type 0
IsDone M r response = M.status r.frame r.given ≡ Done response

-- the first n requests are there, and each has its response
abbrev pub AllDone : Meaning → ℕ → List Request → Type 0
AllDone M zero rs = Unit {0}
AllDone M (suc n) [] = ⊥
AllDone M (suc n) (r ∷ rs) = ((response : List ℕ) × IsDone M r response) × AllDone M n rs

-- the responses of the first n requests
abbrev pub first_responses : Meaning → ℕ → List Request → List ℕ
first_responses M n rs = flat_map (λ r. response_bytes (M.status r.frame r.given)) (take n rs)

-- done stays done, with the same response
done_later : (M : Meaning) → Lasting M → (r t : Request) → Later r t → (response : List ℕ) → IsDone M r response → IsDone M t response
done_later M lasting r t h response is =
    ap (λ f. M.status f t.given) h.frame ∙ (ap (λ g. M.status r.frame g) h.given ∙ lasting.stays r.frame r.given h.more response is)

all_later : (M : Meaning) → Lasting M → (n : ℕ) (rs ts : List Request) → Grows rs ts → AllDone M n rs → AllDone M n ts
all_later M lasting zero rs ts h k = tt
all_later M lasting (suc n) [] ts h k = absurd k
all_later M lasting (suc n) (r ∷ rs) [] h k = absurd h
all_later M lasting (suc n) (r ∷ rs) (t ∷ ts) h k =
    ((k.0.0, done_later M lasting r t h.0 k.0.0 k.0.1), all_later M lasting n rs ts h.1 k.1)

responses_later : (M : Meaning) → Lasting M → (n : ℕ) (rs ts : List Request) → Grows rs ts → AllDone M n rs → first_responses M n ts ≡ first_responses M n rs
responses_later M lasting zero rs ts h k = refl
responses_later M lasting (suc n) [] ts h k = absurd k
responses_later M lasting (suc n) (r ∷ rs) [] h k = absurd h
responses_later M lasting (suc n) (r ∷ rs) (t ∷ ts) h k =
    let here : M.status t.frame t.given ≡ M.status r.frame r.given = done_later M lasting r t h.0 k.0.0 k.0.1 ∙ sym k.0.1 in
    let behind : first_responses M n ts ≡ first_responses M n rs = responses_later M lasting n rs ts h.1 k.1 in
    rw (here, behind)

-- n requests, and j behind them
all_more : (M : Meaning) (n j : ℕ) (rs : List Request) → AllDone M n rs → AllDone M j (drop n rs) → AllDone M (n + j) rs
all_more M zero j rs h k = rw zero-add k
all_more M (suc n) j [] h k = absurd h
all_more M (suc n) j (r ∷ rs) h k = rw suc-add (h.0, all_more M n j rs h.1 k)

responses_more : (M : Meaning) (n j : ℕ) (rs : List Request) → AllDone M n rs → first_responses M (n + j) rs ≡ first_responses M n rs ++ first_responses M j (drop n rs)
responses_more M zero j rs h = rw zero-add
responses_more M (suc n) j [] h = absurd h
responses_more M (suc n) j (r ∷ rs) h = rw (suc-add, responses_more M n j rs h.1) (sym (append_assoc (response_bytes (M.status r.frame r.given)) _ _))

-- a request that an emit step passes in silence is done, and has no bytes
silent_one : (M : Meaning) (r : Request) (rs : List Request) (low silent : Bool) (status : Status) (n : ℕ) → M.status r.frame r.given ≡ status → AllDone M n rs → AllDone M (if low && silent && is_some (response_of status) then suc n else 0) (r ∷ rs)
silent_one M r rs false silent status n is h = tt
silent_one M r rs true false status n is h = tt
silent_one M r rs true true (Waits ask) n is h = tt
silent_one M r rs true true (Fails why) n is h = tt
silent_one M r rs true true (Done response) n is h = ((response, is), h)

silent_done : (M : Meaning) (cut : Option (ℕ × End)) (k : ℕ) (rs : List Request) → AllDone M (silent_run M cut k rs) rs
silent_done M cut k [] = tt
silent_done M cut k (r ∷ rs) = silent_one M r rs (below cut k) (M.silent r.frame) (M.status r.frame r.given) _ refl (silent_done M cut (suc k) rs)

no_bytes_one : (M : Meaning) → Lasting M → (r : Request) (rs : List Request) (low silent : Bool) (status : Status) (n : ℕ) → M.silent r.frame ≡ silent → M.status r.frame r.given ≡ status → first_responses M n rs ≡ [] → first_responses M (if low && silent && is_some (response_of status) then suc n else 0) (r ∷ rs) ≡ []
no_bytes_one M lasting r rs false silent status n still is h = refl
no_bytes_one M lasting r rs true false status n still is h = refl
no_bytes_one M lasting r rs true true (Waits ask) n still is h = refl
no_bytes_one M lasting r rs true true (Fails why) n still is h = refl
no_bytes_one M lasting r rs true true (Done response) n still is h =
    rw (is, lasting.silence r.frame r.given response still is) h

no_bytes : (M : Meaning) → Lasting M → (cut : Option (ℕ × End)) (k : ℕ) (rs : List Request) → first_responses M (silent_run M cut k rs) rs ≡ []
no_bytes M lasting cut k [] = refl
no_bytes M lasting cut k (r ∷ rs) = no_bytes_one M lasting r rs (below cut k) (M.silent r.frame) (M.status r.frame r.given) _ refl refl (no_bytes M lasting cut (suc k) rs)

-- the request whose turn it is, with its response
done_of : (status : Status) (response : List ℕ) → response_of status ≡ Some response → status ≡ Done response
done_of (Waits ask) response h = cc
done_of (Fails why) response h = cc
done_of (Done other) response h = cc

all_next : (M : Meaning) (n : ℕ) (rs : List Request) (response : List ℕ) → AllDone M n rs → response_in M (slice_get rs n) ≡ Some response → AllDone M (suc n) rs
all_next M zero [] response h k = cc
all_next M (suc n) [] response h k = absurd h
all_next M zero (r ∷ rs) response h k = ((response, done_of _ response k), tt)
all_next M (suc n) (r ∷ rs) response h k = (h.0, all_next M n rs response h.1 k)

responses_next : (M : Meaning) (n : ℕ) (rs : List Request) (response : List ℕ) → AllDone M n rs → response_in M (slice_get rs n) ≡ Some response → first_responses M (suc n) rs ≡ first_responses M n rs ++ response
responses_next M zero [] response h k = cc
responses_next M (suc n) [] response h k = absurd h
responses_next M zero (r ∷ rs) response h k = rw (done_of (M.status r.frame r.given) response k) (append-nil response)
responses_next M (suc n) (r ∷ rs) response h k = rw (responses_next M n rs response h.1 k) (sym (append_assoc (response_bytes (M.status r.frame r.given)) _ _))

-- After an answer the passed requests are done, and their responses are those from before and what the answer gave.
pub record Passes (M : Meaning) (s : State) (answer : Reply × State) : Type 0 where
  pub done : AllDone M answer.1.passed answer.1.requests
  pub responses : responses M answer.1 ≡ responses M s ++ to_client answer.0

passes_either : (M : Meaning) (s : State) (b : Bool) (x y : Reply × State) → Passes M s x → Passes M s y → Passes M s (if b then x else y)
passes_either M s true x y h k = h
passes_either M s false x y h k = k

-- an answer that gives nothing and passes no request
passes_quiet : (M : Meaning) → Lasting M → (s : State) (joined : List (List ℕ)) (answer : Reply × State) → AllDone M s.passed s.requests → Keeps s joined answer.1 → to_client answer.0 ≡ [] → Passes M s answer
passes_quiet M lasting s joined answer done keeps none =
    let later : AllDone M s.passed answer.1.requests = all_later M lasting s.passed s.requests answer.1.requests keeps.requests done in
    let same : first_responses M s.passed answer.1.requests ≡ first_responses M s.passed s.requests = responses_later M lasting s.passed s.requests answer.1.requests keeps.requests done in
    record { done = rw keeps.passed later; responses = rw (keeps.passed, same, none) (sym (append-nil (responses M s))) }

-- the emit step
module _ (M : Meaning) (s : State) where
  passes_over_or : (why : Option End) (t : State) (later : Reply × State) → Passes M s (reply.Noted, t) → Passes M s later → Passes M s (over_or why t later)
  passes_over_or None t later h k = k
  passes_over_or (Some why) t later h k = record { done = h.done; responses = h.responses }

  passes_respond_or : (found : Option (List ℕ)) (t : State) (later : Reply × State) → response_in M (slice_get t.requests t.passed) ≡ found → Passes M s (reply.Noted, t) → Passes M s later → Passes M s (respond_or found t later)
  passes_respond_or None t later is h k = k
  passes_respond_or (Some response) t later is h k =
      let e : responses M t ≡ responses M s = h.responses ∙ append-nil (responses M s) in
      record {
        done = rw add-one (all_next M t.passed t.requests response h.done is);
        responses = rw add-one (responses_next M t.passed t.requests response h.done is ∙ ap (λ x. x ++ response) e);
      }

  passes_told : (why : Option End) (later : Reply × State) → AllDone M s.passed s.requests → Passes M s later → Passes M s (told_again why s later)
  passes_told None later done h = h
  passes_told (Some why) later done h = record { done = done; responses = sym (append-nil (responses M s)) }

  passes_silent : Lasting M → AllDone M s.passed s.requests → Passes M s (reply.Noted, silent_passed M s)
  passes_silent lasting done =
      let j : ℕ = silent_run M s.causes.cut s.passed (drop s.passed s.requests) in
      record {
        done = all_more M s.passed j s.requests done (silent_done M s.causes.cut s.passed (drop s.passed s.requests));
        responses = responses_more M s.passed j s.requests done ∙ ap (λ x. responses M s ++ x) (no_bytes M lasting s.causes.cut s.passed (drop s.passed s.requests));
      }

  passes_emit : Lasting M → AllDone M s.passed s.requests → Passes M s (emit_step M s)
  passes_emit lasting done =
      let t : State = silent_passed M s in
      let silent : Passes M s (reply.Noted, t) = passes_silent lasting done in
      let here : Passes M s (reply.Noted, s) = passes_quiet M lasting s [] (reply.Noted, s) done (keeps_same s) refl in
      let later : Passes M s (reply.Emit emit.Later, t) = record { done = silent.done; responses = silent.responses } in
      passes_told s.causes.over _ done
      (passes_over_or s.causes.halt s _ here
      (passes_over_or _ t _ silent
      (passes_respond_or _ t _ refl silent (passes_over_or s.causes.death t _ silent later))))

-- every event
module _ (M : Meaning) (lasting : Lasting M) (s : State) (done : AllDone M s.passed s.requests) where
  passes_same : (r : Reply) → to_client r ≡ [] → Passes M s (r, s)
  passes_same r none = passes_quiet M lasting s [] (r, s) done (keeps_same s) none

  passes_refusal : (why : Option (ℕ → End)) (frame : List ℕ) → Passes M s (reply.Take (Ok tt), joined why frame s)
  passes_refusal None frame = passes_quiet M lasting s (frame ∷ []) _ done (keeps_joined frame s) refl
  passes_refusal (Some why) frame = passes_quiet M lasting s [] _ done (keeps_cut (length s.requests) (why (length s.requests)) s) refl

  passes_take : (frame : List ℕ) → Passes M s (answer_to M s (event.Take frame))
  passes_take frame =
      passes_either M s (are_ending s.causes) _ _ (passes_same _ refl)
      (passes_either M s (M.room (in_flight s) (held s) (length frame)) _ _ (passes_refusal (M.no_request frame) frame) (passes_same _ refl))

  passes_silently : (e : Event) → IsQuiet e → Passes M s (answer_to M s e)
  passes_silently e is =
      let quiet : Quiet s (answer_to M s e) = quiet_event M s e is in
      passes_quiet M lasting s [] (answer_to M s e) done quiet.keeps quiet.silent

  passes_answered : (e : Event) → Passes M s (answer_to M s e)
  passes_answered (event.Take frame) = passes_take frame
  passes_answered (event.Answer frame) = passes_silently (event.Answer frame) tt
  passes_answered (event.Complete k i verdict) = passes_silently (event.Complete k i verdict) tt
  passes_answered (event.ClientEnd rest) = passes_silently (event.ClientEnd rest) tt
  passes_answered (event.BrokerEnd rest) = passes_silently (event.BrokerEnd rest) tt
  passes_answered (event.Fault x) = passes_silently (event.Fault x) tt
  passes_answered event.Send = passes_silently event.Send tt
  passes_answered event.Emit = passes_emit M s lasting done
  passes_answered event.Pick = passes_silently event.Pick tt
  passes_answered event.Look = passes_silently event.Look tt

  -- settling passes none
  passes_settled : (answer : Reply × State) (t : State) → Passes M s answer → Settles M answer.1 t → Passes M s (answer.0, t)
  passes_settled answer t h settles =
      let keeps : Keeps answer.1 [] t = keeps_settling M answer.1 t settles in
      let next : Passes M answer.1 (reply.Noted, t) = passes_quiet M lasting answer.1 [] (reply.Noted, t) h.done keeps refl in
      record { done = next.done; responses = next.responses ∙ (append-nil (responses M answer.1) ∙ h.responses) }

  passes_event : (e : Event) (r : Reply) (t : State) → StepOrNoMemory M s e r t → Passes M s (r, t)
  passes_event e r t (inl h) = rw h.reply (passes_settled (answer_to M s e) t (passes_answered e) h.settles)
  passes_event e r t (inr h) =
      rw h.halts (passes_quiet M lasting s [] (r, halted end.NoMemory s) done (keeps_halted end.NoMemory s) (memory_gives r (answer_to M s e).0 h.reply))

-- over entries from any state whose passed requests are done
pub record OrderFrom (M : Meaning) (s t : State) (hs : List Entry) : Type 0 where
  pub done : AllDone M t.passed t.requests
  pub responses : responses M t ≡ responses M s ++ out hs

order_from : (M : Meaning) → Lasting M → (s t : State) (hs : List Entry) → AllDone M s.passed s.requests → LeadsTo M s hs t → OrderFrom M s t hs
order_from M lasting s t [] done run = rw run (record { done = done; responses = sym (append-nil (responses M s)) })
order_from M lasting s t (h ∷ hs) done run =
    let here : Passes M s (h.reply, run.0) = passes_event M lasting s done h.event h.reply run.0 run.1 in
    let next : OrderFrom M run.0 t hs = order_from M lasting run.0 t hs here.done run.2 in
    record {
      done = next.done;
      responses = next.responses ∙ (ap (λ x. x ++ out hs) here.responses ∙ append_assoc (responses M s) (to_client h.reply) (out hs));
    }

-- a request that is done is answered
either_bytes : (M : Meaning) → Lasting M → (r : Request) (response : List ℕ) (silent : Bool) → M.silent r.frame ≡ silent → IsDone M r response → MatchBool silent (response ≡ []) (CarriesId r.frame response)
either_bytes M lasting r response true is done = lasting.silence r.frame r.given response is done
either_bytes M lasting r response false is done = lasting.own_id r.frame r.given response is done

answered_one : (M : Meaning) → Lasting M → (r : Request) (response : List ℕ) → IsDone M r response → IsAnswered M r
answered_one M lasting r response done = record { response = response; done = done; own_id = either_bytes M lasting r response (M.silent r.frame) refl done }

there : (M : Meaning) (n : ℕ) (rs : List Request) → AllDone M n rs → n ≤ length rs
there M zero rs h = omega arith
there M (suc n) [] h = absurd h
there M (suc n) (r ∷ rs) h = let behind : n ≤ length rs = there M n rs h.1 in omega arith

answered_all : (M : Meaning) → Lasting M → (n : ℕ) (rs : List Request) → AllDone M n rs → AllByRecursion (IsAnswered M) (take n rs)
answered_all M lasting zero rs h = tt
answered_all M lasting (suc n) [] h = absurd h
answered_all M lasting (suc n) (r ∷ rs) h = (answered_one M lasting r h.0.0 h.0.1, answered_all M lasting n rs h.1)

-- and so over a history
pub order : (M : Meaning) (hs : List Entry) (s : State) → Lasting M → IsHistory M hs s → IsInOrder M hs s
order M hs s lasting run =
    let all : OrderFrom M opening s hs = order_from M lasting opening s hs tt run in
    record {
      sent_is = sym all.responses;
      passed_there = there M s.passed s.requests all.done;
      answered = All-from_recursion (IsAnswered M) (take s.passed s.requests) (answered_all M lasting s.passed s.requests all.done);
    }
