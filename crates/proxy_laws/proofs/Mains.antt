-- In every history each main send is of a later request than those before it, or of a request that had one already.
use Rattle.std.proofs.Common.{◌≡◌, ◌∙◌, ap, refl, sym, subst, ℕ, zero, suc, ◌+◌, ◌<◌, ◌≤◌, ◌==◌, Bool, true, false, ◌&&◌, ◌||◌, not, is_some, if◌then◌else◌, List, [], ◌∷◌, ◌++◌, length, drop, Option, Some, None, slice_get, ◌⊎◌, inl, inr, pos, arith, eqb-true}
use Rattle.std.specs.List.{list_any}
use Rattle.std.specs.Ordering.{int_eq}
use Rattle.std.proofs.lemmas.List.{length_push}
use Rattle.kp_edge.specs.declared.end.End.{End}
use Rattle.framing.specs.CorrelationIds.{response_id}
use Rattle.conn_rules.specs.declared.event.Event.{Event}
use Rattle.conn_rules.specs.declared.event.Event.TheVariants as event
use Rattle.conn_rules.specs.declared.event.Reply.{Reply}
use Rattle.conn_rules.specs.declared.event.Fault.{Fault}
use Rattle.conn_rules.specs.declared.event.Fault.TheVariants as fault
use Rattle.conn_rules.specs.Meaning.{Meaning, Lasting, ToBroker, Hold, Status, Waits, Done, Fails}
use Rattle.conn_rules.specs.State.{Body, NoResponse, Verdict, Request, ListedSend, State, opening, in_flight, held, give, upstream_id, due_send}
use Rattle.conn_rules.specs.Causes.{below, cut_cause, are_ending, are_dead, are_still}
use Rattle.conn_rules.specs.Settling.{Act, CutAt, Lists, is_listed, lets_later_go, act_of, act_from, next_act, acted, after_acts}
use Rattle.conn_rules.specs.Steps.{joined, read_body, matched, attributed, open_hold, is_hold, faulted, noted, sent_next, first_hold, picked_next, response_in, silent_passed, over_or, respond_or, told_again, emit_step, answer_to, StepOrNoMemory}
use Rattle.conn_rules.specs.History.{Entry, LeadsTo, IsHistory}
use Rattle.conn_rules.proofs.Grows.{Later, Grows, grows_same, grows_behind, grows_given}
use Rattle.proxy_laws.proofs.Histories.{either_act, only_below, listing_of, listing}
use Rattle.proxy_laws.proofs.Lists.{still_there, there_or_new, same_element, inside, less_or_not}

and_first : (a b : Bool) → (a && b) ≡ true → a ≡ true
and_first true b e = refl
and_first false b e = absurd cc

and_second : (a b : Bool) → (a && b) ≡ true → b ≡ true
and_second true b e = e
and_second false b e = absurd cc

-- request j has a main send among the first n
pub record HasMain (sends : List ListedSend) (n j : ℕ) : Type 0 where
  pub place : ℕ
  pub before : place < n
  pub send : ListedSend
  pub there : slice_get sends place ≡ Some send
  pub of_it : send.request ≡ j
  pub main : send.main ≡ true

main_more : (sends : List ListedSend) (d : ListedSend) (n m j : ℕ) → n ≤ m → HasMain sends n j → HasMain (sends ++ d ∷ []) m j
main_more sends d n m j le h =
    record { place = h.place; before = omega (arith, le, h.before); send = h.send; there = still_there sends d h.place h.send h.there; of_it = h.of_it; main = h.main }

main_behind : (x : ListedSend) (sends : List ListedSend) (j : ℕ) → HasMain sends (length sends) j → HasMain (x ∷ sends) (length (x ∷ sends)) j
main_behind x sends j h = record { place = suc h.place; before = omega (arith, h.before); send = h.send; there = h.there; of_it = h.of_it; main = h.main }

main_either : (x : ListedSend) (sends : List ListedSend) (j : ℕ) (b : Bool) → ((x.request == j) && x.main) ≡ b → (b || list_any (λ d. (d.request == j) && d.main) sends) ≡ true
    → (list_any (λ d. (d.request == j) && d.main) sends ≡ true → HasMain sends (length sends) j) → HasMain (x ∷ sends) (length (x ∷ sends)) j
main_either x sends j true is e rest =
    record { place = 0; before = omega arith; send = x; there = refl; of_it = eqb-true x.request j (and_first (x.request == j) x.main is); main = and_second (x.request == j) x.main is }
main_either x sends j false is e rest = main_behind x sends j (rest e)

main_listed : (sends : List ListedSend) (j : ℕ) → list_any (λ d. (d.request == j) && d.main) sends ≡ true → HasMain sends (length sends) j
main_listed [] j e = absurd (let z : false ≡ true = e in cc)
main_listed (x ∷ sends) j e = main_either x sends j ((x.request == j) && x.main) refl e (main_listed sends j)

-- a request, later
later_at : (rs ts : List Request) (j : ℕ) (r : Request) → Grows rs ts → slice_get rs j ≡ Some r → (t : Request) × (slice_get ts j ≡ Some t) × Later r t
later_at [] ts zero r grows there = absurd (let z : None ≡ Some r = there in cc)
later_at [] ts (suc j) r grows there = absurd (let z : None ≡ Some r = there in cc)
later_at (x ∷ rs) [] j r grows there = absurd grows
later_at (x ∷ rs) (t ∷ ts) zero r grows there =
    let same : x ≡ r = (let z : Some x ≡ Some r = there in cc) in
    (t, refl, subst (λ y. Later y t) same grows.0)
later_at (x ∷ rs) (t ∷ ts) (suc j) r grows there = later_at rs ts j r grows.1 there

-- ---- a main send is listed where the requests before its own let it go

free_if : (k i : ℕ) (before behind : List ℕ) (main responds listed free : Bool) (d : ListedSend)
    → (if not listed && (free || not main) then Some (Lists (record { request = k; ask = i; before = before; behind = behind; main = main; responds = responds })) else None) ≡ Some (Lists d) → d.main ≡ true → free ≡ true
free_if k i before behind main responds true free d e is = absurd (let z : None ≡ Some (Lists d) = e in cc)
free_if k i before behind main responds false true d e is = refl
free_if k i before behind true responds false false d e is = absurd (let z : None ≡ Some (Lists d) = e in cc)
free_if k i before behind false responds false false d e is =
    let new : ListedSend = record { request = k; ask = i; before = before; behind = behind; main = false; responds = responds } in
    let same : new ≡ d = (let z : Some (Lists new) ≡ Some (Lists d) = e in cc) in
    ap (λ (x : ListedSend). x.main) same ∙ is

free_of : (sends : List ListedSend) (k i : ℕ) (free : Bool) (d : ListedSend) (status : Status) → act_of sends k i free status ≡ Some (Lists d) → d.main ≡ true → free ≡ true
free_of sends k i free d (Fails why) e is = absurd (let z : Some (CutAt k (why k)) ≡ Some (Lists d) = e in cc)
free_of sends k i free d (Done response) e is = absurd (let z : None ≡ Some (Lists d) = e in cc)
free_of sends k i free d (Waits (Hold key)) e is = absurd (let z : None ≡ Some (Lists d) = e in cc)
free_of sends k i free d (Waits (ToBroker before behind main responds)) e is = free_if k i before behind main responds (is_listed sends k i) free d e is

module _ (M : Meaning) (sends : List ListedSend) (cut : Option (ℕ × End)) (d : ListedSend) (main : d.main ≡ true) where
  -- the request at this place, which is number k + i, holds back no later one
  abbrev LetsGoAt : (k i : ℕ) → List Request → Type 0
  LetsGoAt k i rs = (r : Request) × (slice_get rs i ≡ Some r) × (lets_later_go sends (k + i) (M.status r.frame r.given) ≡ true)

  -- of requests from number k on
  record IsLetGo (k : ℕ) (free : Bool) (rs : List Request) : Type 0 where
    by_those_before : free ≡ true
    by_these : (i : ℕ) → k + i < d.request → LetsGoAt k i rs

  by_later : (k : ℕ) (free : Bool) (r : Request) (rs : List Request) → IsLetGo (suc k) (free && lets_later_go sends k (M.status r.frame r.given)) rs → (i : ℕ) → k + i < d.request → LetsGoAt k i (r ∷ rs)
  by_later k free r rs h zero lt =
      let here : k ≡ k + 0 = omega arith in
      (r, refl, subst (λ j. lets_later_go sends j (M.status r.frame r.given) ≡ true) here (and_second free _ h.by_those_before))
  by_later k free r rs h (suc i) lt =
      let here : suc k + i ≡ k + suc i = omega arith in
      let x = h.by_these i (omega (arith, lt)) in
      (x.0, x.1, subst (λ j. lets_later_go sends j (M.status x.0.frame x.0.given) ≡ true) here x.2)

  let_go_from : (k : ℕ) (free : Bool) (rs : List Request) → act_from M sends cut k free rs ≡ Some (Lists d) → IsLetGo k free rs
  let_go_from k free [] e = absurd (let z : None ≡ Some (Lists d) = e in cc)
  let_go_from k free (r ∷ rs) e =
      let h = only_below (below cut k) _ (Lists d) e in
      elim (either_act (act_of sends k (length r.given) free (M.status r.frame r.given)) (act_from M sends cut (suc k) (free && lets_later_go sends k (M.status r.frame r.given)) rs) (Lists d) h.1) [
        | inl own ↦
            let send = listing_of M sends k free r d (M.status r.frame r.given) refl own in
            record { by_those_before = free_of sends k (length r.given) free d (M.status r.frame r.given) own main; by_these = λ i lt. absurd (omega (arith, lt, send.0)) }
        | inr behind ↦
            let later = let_go_from (suc k) (free && lets_later_go sends k (M.status r.frame r.given)) rs behind in
            record { by_those_before = and_first free _ later.by_those_before; by_these = by_later k free r rs later }
      ]

-- ---- what every event keeps

-- the sends stay, and the requests grow at most
record IsAhead (s t : State) : Type 0 where
  sends : t.sends ≡ s.sends
  requests : Grows s.requests t.requests

ahead_as : (s t : State) → t.sends ≡ s.sends → t.requests ≡ s.requests → IsAhead s t
ahead_as s t same stay = record { sends = same; requests = subst (λ rs. Grows s.requests rs) (sym stay) (grows_same s.requests) }

module _ (M : Meaning) (s : State) where
  itself : IsAhead s s
  itself = ahead_as s s refl refl

  ahead_either : (b : Bool) (t u : State) → IsAhead s t → IsAhead s u → IsAhead s (if b then t else u)
  ahead_either true t u h k = h
  ahead_either false t u h k = k

  answer_either : (b : Bool) (x y : Reply × State) → IsAhead s x.1 → IsAhead s y.1 → IsAhead s (if b then x else y).1
  answer_either true x y h k = h
  answer_either false x y h k = k

  ahead_joined : (frame : List ℕ) (why : Option (ℕ → End)) → IsAhead s (joined why frame s)
  ahead_joined frame None = record { sends = refl; requests = grows_behind s.requests (record { frame = frame; given = [] } ∷ []) }
  ahead_joined frame (Some why) = ahead_as s _ refl refl

  ahead_body : (why : Option (ℕ → End)) (k : ℕ) (body : List ℕ) → IsAhead s (read_body why k body (record s { answered = s.answered + 1 }))
  ahead_body None k body = record { sends = refl; requests = grows_given (Body body) s.requests k }
  ahead_body (Some why) k body = ahead_as s _ refl refl

  ahead_matched : (d : ListedSend) (body : List ℕ) → IsAhead s (matched M s d body)
  ahead_matched d body = ahead_either (below s.causes.cut d.request) _ _ (ahead_body (M.unreadable d.before body) d.request body) (ahead_as s _ refl refl)

  ahead_attributed : (frame : List ℕ) (due : Option (ℕ × ListedSend)) → IsAhead s (attributed M s frame due)
  ahead_attributed frame None = ahead_as s _ refl refl
  ahead_attributed frame (Some due) = ahead_either (int_eq (response_id frame) (pos (upstream_id due.0))) _ _ (ahead_matched due.1 (drop 4 frame)) (ahead_as s _ refl refl)

  ahead_noted : (t : State) → IsAhead s t → IsAhead s (noted s t).1
  ahead_noted t h = ahead_either (is_some s.causes.over) s t itself h

  ahead_fault : (x : Fault) → IsAhead s (faulted M s x)
  ahead_fault fault.ClientRead = ahead_as s _ refl refl
  ahead_fault fault.ClientWrite = ahead_as s _ refl refl
  ahead_fault fault.BrokerRead = ahead_as s _ refl refl
  ahead_fault fault.BrokerWrite = ahead_as s _ refl refl
  ahead_fault (fault.ClientBadSize at size) = ahead_as s _ refl refl
  ahead_fault (fault.BrokerBadSize at size) = ahead_as s _ refl refl
  ahead_fault (fault.Authority k) = ahead_either (is_some (open_hold M s k)) _ s (ahead_as s _ refl refl) itself
  ahead_fault fault.Thread = ahead_as s _ refl refl
  ahead_fault fault.NoMemory = ahead_as s _ refl refl

  ahead_sent : (next : Option ListedSend) → IsAhead s (sent_next s next).1
  ahead_sent None = itself
  ahead_sent (Some d) = ahead_as s _ refl refl

  ahead_picked : (hold : Option (ℕ × ℕ × List ℕ)) → IsAhead s (picked_next s hold).1
  ahead_picked None = itself
  ahead_picked (Some hold) = ahead_as s _ refl refl

  ahead_over_or : (why : Option End) (t : State) (later : Reply × State) → IsAhead s t → IsAhead s later.1 → IsAhead s (over_or why t later).1
  ahead_over_or None t later h k = k
  ahead_over_or (Some why) t later h k = record { sends = h.sends; requests = h.requests }

  ahead_respond_or : (response : Option (List ℕ)) (t : State) (later : Reply × State) → IsAhead s t → IsAhead s later.1 → IsAhead s (respond_or response t later).1
  ahead_respond_or None t later h k = k
  ahead_respond_or (Some response) t later h k = record { sends = h.sends; requests = h.requests }

  ahead_told : (why : Option End) (later : Reply × State) → IsAhead s later.1 → IsAhead s (told_again why s later).1
  ahead_told None later h = h
  ahead_told (Some why) later h = itself

  ahead_emit : IsAhead s (emit_step M s).1
  ahead_emit =
      let t : State = silent_passed M s in
      let there : IsAhead s t = ahead_as s t refl refl in
      ahead_told s.causes.over _
      (ahead_over_or s.causes.halt s _ itself
      (ahead_over_or (cut_cause t.causes.cut t.passed) t _ there
      (ahead_respond_or (response_in M (slice_get t.requests t.passed)) t _ there (ahead_over_or s.causes.death t _ there there))))

  ahead_answered : (e : Event) → IsAhead s (answer_to M s e).1
  ahead_answered (event.Take frame) = answer_either (are_ending s.causes) _ _ itself (answer_either (M.room (in_flight s) (held s) (length frame)) _ _ (ahead_joined frame (M.no_request frame)) itself)
  ahead_answered (event.Answer frame) = answer_either (are_dead s.causes) _ _ itself (ahead_attributed frame (due_send s))
  ahead_answered (event.Complete k i verdict) =
      answer_either (not (are_still s.causes) && is_hold i (open_hold M s k)) _ _ (record { sends = refl; requests = grows_given (Verdict verdict) s.requests k }) itself
  ahead_answered (event.ClientEnd rest) = ahead_noted _ (ahead_as s _ refl refl)
  ahead_answered (event.BrokerEnd rest) = ahead_noted _ (ahead_as s _ refl refl)
  ahead_answered (event.Fault x) = ahead_noted _ (ahead_fault x)
  ahead_answered event.Send = answer_either (is_some s.causes.death || is_some s.causes.halt) _ _ itself (ahead_sent (slice_get s.sends s.taken))
  ahead_answered event.Emit = ahead_emit
  ahead_answered event.Pick = answer_either (are_still s.causes) _ _ itself (ahead_picked (first_hold M s.causes.cut s.picked 0 s.requests))
  ahead_answered event.Look = itself

module _ (M : Meaning) (lasting : Lasting M) where
  record IsDoneAt (rs : List Request) (j : ℕ) : Type 0 where
    request : Request
    there : slice_get rs j ≡ Some request
    response : List ℕ
    done : M.status request.frame request.given ≡ Done response

  done_later : (rs ts : List Request) (j : ℕ) → Grows rs ts → IsDoneAt rs j → IsDoneAt ts j
  done_later rs ts j grows h =
      let x = later_at rs ts j h.request grows h.there in
      record {
        request = x.0;
        there = x.1;
        response = h.response;
        done = ap (λ f. M.status f x.0.given) x.2.frame ∙ (ap (λ g. M.status h.request.frame g) x.2.given ∙ lasting.stays h.request.frame h.request.given x.2.more h.response h.done);
      }

  -- request j holds back no later one, and never will
  abbrev LetsGo : List ListedSend → List Request → ℕ → Type 0
  LetsGo sends rs j = HasMain sends (length sends) j ⊎ IsDoneAt rs j

  lets_go : (sends : List ListedSend) (rs : List Request) (j : ℕ) (r : Request) (status : Status) → slice_get rs j ≡ Some r → M.status r.frame r.given ≡ status → lets_later_go sends j status ≡ true → LetsGo sends rs j
  lets_go sends rs j r (Done response) there is e = inr (record { request = r; there = there; response = response; done = is })
  lets_go sends rs j r (Waits ask) there is e = inl (main_listed sends j e)
  lets_go sends rs j r (Fails why) there is e = inl (main_listed sends j e)

  lets_later : (sends : List ListedSend) (rs ts : List Request) (j : ℕ) → Grows rs ts → LetsGo sends rs j → LetsGo sends ts j
  lets_later sends rs ts j grows (inl h) = inl h
  lets_later sends rs ts j grows (inr h) = inr (done_later rs ts j grows h)

  lets_more : (sends : List ListedSend) (d : ListedSend) (rs : List Request) (j : ℕ) → LetsGo sends rs j → LetsGo (sends ++ d ∷ []) rs j
  lets_more sends d rs j (inl h) = inl (main_more sends d (length sends) (length (sends ++ d ∷ [])) j (omega (arith, length_push sends d)) h)
  lets_more sends d rs j (inr h) = inr h

  -- at every moment
  record AreInTurn (sends : List ListedSend) (rs : List Request) : Type 0 where
    rising : (n m : ℕ) (d f : ListedSend) → n < m → slice_get sends n ≡ Some d → slice_get sends m ≡ Some f → d.main ≡ true → f.main ≡ true → (d.request < f.request) ⊎ HasMain sends m f.request
    let_go : (n j : ℕ) (d : ListedSend) → slice_get sends n ≡ Some d → d.main ≡ true → j < d.request → LetsGo sends rs j

  turn_later : (sends : List ListedSend) (rs ts : List Request) → Grows rs ts → AreInTurn sends rs → AreInTurn sends ts
  turn_later sends rs ts grows h = record { rising = h.rising; let_go = λ n j d there main lt. lets_later sends rs ts j grows (h.let_go n j d there main lt) }

  -- one more send
  module _ (s : State) (d : ListedSend) (is : next_act M s ≡ Some (Lists d)) (h : AreInTurn s.sends s.requests) where
    let_now : d.main ≡ true → (j : ℕ) → j < d.request → LetsGo s.sends s.requests j
    let_now main j lt =
        let here : 0 + j ≡ j = omega arith in
        let x = (let_go_from M s.sends s.causes.cut d main 0 true s.requests is).by_these j (omega (arith, lt)) in
        lets_go s.sends s.requests j x.0 (M.status x.0.frame x.0.given) x.1 refl (subst (λ i. lets_later_go s.sends i (M.status x.0.frame x.0.given) ≡ true) here x.2)

    not_done : IsDoneAt s.requests d.request → ⊥
    not_done x =
        let new = listing M s d is in
        let same : x.request ≡ new.request = same_element (slice_get s.requests d.request) x.request new.request x.there new.there in
        let z : Done x.response ≡ Waits (ToBroker d.before d.behind d.main d.responds) = sym x.done ∙ (ap (λ (r : Request). M.status r.frame r.given) same ∙ new.waits) in
        cc

    -- a main send of a later request is there: it was let go by this one's request
    had_main : LetsGo s.sends s.requests d.request → HasMain s.sends (length s.sends) d.request
    had_main (inl x) = x
    had_main (inr x) = absurd (not_done x)

    rises_or_had : (n : ℕ) (e : ListedSend) → slice_get s.sends n ≡ Some e → e.main ≡ true → (e.request < d.request) ⊎ HasMain s.sends (length s.sends) d.request
    rises_or_had n e there main =
        elim (less_or_not e.request d.request) [
          | inl less ↦ inl less
          | inr not_less ↦ inr (elim (less_or_not d.request e.request) [
            | inl more ↦ had_main (h.let_go n d.request e there main more)
            | inr not_more ↦ record { place = n; before = inside s.sends n e there; send = e; there = there; of_it = omega (arith, not_less, not_more); main = main }
          ])
        ]

    abbrev Rises : ℕ → ListedSend → ListedSend → Type 0
    Rises m e f = (e.request < f.request) ⊎ HasMain (s.sends ++ d ∷ []) m f.request

    rises_still : (n m : ℕ) (e f : ListedSend) → n ≤ m → (e.request < f.request) ⊎ HasMain s.sends n f.request → Rises m e f
    rises_still n m e f le (inl less) = inl less
    rises_still n m e f le (inr x) = inr (main_more s.sends d n m f.request le x)

    rising_more : (n m : ℕ) (e f : ListedSend) → n < m → (slice_get s.sends n ≡ Some e) ⊎ ((n ≡ length s.sends) × (d ≡ e)) → (slice_get s.sends m ≡ Some f) ⊎ ((m ≡ length s.sends) × (d ≡ f)) → e.main ≡ true → f.main ≡ true → Rises m e f
    rising_more n m e f lt (inl a) (inl b) main also = rises_still m m e f (omega arith) (h.rising n m e f lt a b main also)
    rising_more n m e f lt (inr a) (inl b) main also = absurd (omega (arith, lt, a.0, inside s.sends m f b))
    rising_more n m e f lt (inl a) (inr b) main also = subst (λ (x : ListedSend). Rises m e x) b.1 (rises_still (length s.sends) m e d (omega (arith, b.0)) (rises_or_had n e a main))
    rising_more n m e f lt (inr a) (inr b) main also = absurd (omega (arith, lt, a.0, b.0))

    let_more : (n j : ℕ) (e : ListedSend) → (slice_get s.sends n ≡ Some e) ⊎ ((n ≡ length s.sends) × (d ≡ e)) → e.main ≡ true → j < e.request → LetsGo s.sends s.requests j
    let_more n j e (inl a) main lt = h.let_go n j e a main lt
    let_more n j e (inr b) main lt = let_now (ap (λ (x : ListedSend). x.main) b.1 ∙ main) j (subst (λ (x : ListedSend). j < x.request) (sym b.1) lt)

    turn_more : AreInTurn (s.sends ++ d ∷ []) s.requests
    turn_more =
        record {
          rising = λ n m e f lt a b main also. rising_more n m e f lt (there_or_new s.sends d n e a) (there_or_new s.sends d m f b) main also;
          let_go = λ n j e there main lt. lets_more s.sends d s.requests j (let_more n j e (there_or_new s.sends d n e there) main lt);
        }

  abbrev IsInTurn : State → Type 0
  IsInTurn s = AreInTurn s.sends s.requests

  turn_either : (s : State) (d : ListedSend) (b : Bool) → AreInTurn (s.sends ++ d ∷ []) s.requests → IsInTurn (if b then record s { sends = s.sends ++ d ∷ [] } else give d.request NoResponse (record s { sends = s.sends ++ d ∷ [] }))
  turn_either s d true h = h
  turn_either s d false h = turn_later (s.sends ++ d ∷ []) s.requests _ (grows_given NoResponse s.requests d.request) h

  turn_acted : (s : State) (o : Option Act) → next_act M s ≡ o → IsInTurn s → IsInTurn (acted o s)
  turn_acted s None is h = h
  turn_acted s (Some (CutAt k why)) is h = h
  turn_acted s (Some (Lists d)) is h = turn_either s d d.responds (turn_more s d is h)

  turn_acts : (n : ℕ) (s : State) → IsInTurn s → IsInTurn (after_acts M n s)
  turn_acts zero s h = h
  turn_acts (suc n) s h = turn_acts n (acted (next_act M s) s) (turn_acted s (next_act M s) refl h)

  turn_ahead : (s t : State) → IsAhead s t → IsInTurn s → IsInTurn t
  turn_ahead s t ahead h = subst (λ sends. AreInTurn sends t.requests) (sym ahead.sends) (turn_later s.sends s.requests t.requests ahead.requests h)

  turn_event : (s t : State) (e : Event) (r : Reply) → StepOrNoMemory M s e r t → IsInTurn s → IsInTurn t
  turn_event s t e r (inl step) h = subst IsInTurn step.settles.after (turn_acts step.settles.acts (answer_to M s e).1 (turn_ahead s (answer_to M s e).1 (ahead_answered M s e) h))
  turn_event s t e r (inr gives) h = subst IsInTurn (sym gives.halts) h

  turn_from : (s t : State) (hs : List Entry) → LeadsTo M s hs t → IsInTurn s → IsInTurn t
  turn_from s t [] run h = subst IsInTurn (sym run) h
  turn_from s t (x ∷ hs) run h = turn_from run.0 t hs run.2 (turn_event s run.0 x.event x.reply run.1 h)

  turn_opening : IsInTurn opening
  turn_opening =
      record {
        rising = λ n m d f lt there also main again. absurd (let z : None ≡ Some d = there in cc);
        let_go = λ n j d there main lt. absurd (let z : None ≡ Some d = there in cc);
      }

  pub rising_or_again : (hs : List Entry) (s : State) → IsHistory M hs s → (n m : ℕ) (d f : ListedSend) → n < m → slice_get s.sends n ≡ Some d → slice_get s.sends m ≡ Some f → d.main ≡ true → f.main ≡ true
      → (d.request < f.request) ⊎ HasMain s.sends m f.request
  rising_or_again hs s run = (turn_from opening s hs run turn_opening).rising
