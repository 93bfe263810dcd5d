-- What a client is sent in a history: the own responses of its first requests.
use Rattle.std.proofs.Common.{◌≡◌, ◌∙◌, ap, refl, sym, subst, ℕ, zero, suc, ◌<◌, true, List, [], ◌∷◌, ◌++◌, length, map, take, drop, get_or, append_assoc, Some, slice_get, inl, inr, arith}
use Rattle.std.specs.List.{All, AllByRecursion}
use Rattle.std.proofs.lemmas.List.{take-append-drop, map-append}
use Rattle.std.proofs.lemmas.List.Elements.{All-tail, All-from_recursion}
use Rattle.filter_core.specs.Decision.{Turn}
use Rattle.filter_core.specs.Laws.{IsLawful}
use Rattle.conn_rules.specs.Meaning.{Meaning}
use Rattle.conn_rules.specs.State.{Outside, Request, ListedSend, State}
use Rattle.conn_rules.specs.History.{Entry, IsHistory, response_bytes, IsAnswered}
use Rattle.conn_rules.proofs.Order.{order}
use Rattle.conn_rules.proofs.Requests as rules
use Rattle.conn_core.specs.Chained.{chained}
use Rattle.conn_core.proofs.Lasting.{chain_lasts}
use Rattle.proxy_laws.specs.Awaited.{IsGivenAsAwaited, IsAwaitedSend, FramesAreBytes}
use Rattle.proxy_laws.specs.OwnResponses.{IsOwnResponse, HasOwnResponse, AreOwnResponses, AreMainSendsInOrder, AreMessageSends}
use Rattle.proxy_laws.proofs.Connections.{done_with_own_response, sends_whole_messages, no_second_main}
use Rattle.proxy_laws.proofs.Histories.{all_fair, all_own, all_apart, own_at}
use Rattle.proxy_laws.proofs.Lists.{less_or_not, same_element}
use Rattle.proxy_laws.proofs.Mains.{rising_or_again}
use Rattle.proxy_laws.proofs.Taken.{sent_in_order}

all_taken : {X : Type 0} (P : X → Type 0) (xs : List X) (n : ℕ) → All P xs → AllByRecursion P (take n xs)
all_taken P xs zero all = tt
all_taken P [] (suc n) all = tt
all_taken P (x ∷ xs) (suc n) all = (all 0 x (omega arith), all_taken P xs n (All-tail P x xs all))

all_each : {X : Type 0} (P : X → Type 0) (xs : List X) → All P xs → AllByRecursion P xs
all_each P [] all = tt
all_each P (x ∷ xs) all = (all 0 x (omega arith), all_each P xs (All-tail P x xs all))

module _ (chain : List Turn) (limit : ℕ) (lawful : All IsLawful chain) where
  abbrev M : Meaning
  M = chained chain limit

  own_one : (r : Request) → IsAnswered M r → IsGivenAsAwaited M r → IsOwnResponse r.frame (response_bytes (M.status r.frame r.given))
  own_one r answered fair = subst (λ status. IsOwnResponse r.frame (response_bytes status)) (sym answered.done) (done_with_own_response chain limit lawful r answered.response fair answered.done)

  own_passed : (rs : List Request) → AllByRecursion (IsAnswered M) rs → AllByRecursion (IsGivenAsAwaited M) rs → AllByRecursion (HasOwnResponse M) rs
  own_passed [] answered given = tt
  own_passed (r ∷ rs) answered given = (own_one r answered.0 given.0, own_passed rs answered.1 given.1)

  pub own_responses : (hs : List Entry) (s : State) → IsHistory M hs s → FramesAreBytes hs → AreOwnResponses M hs s
  own_responses hs s run bytes =
      let in_order = order M hs s (chain_lasts chain limit) run in
      let requests = rules.requests M hs s run in
      let rs : List Request = take s.passed s.requests in
      let frame : Request → List ℕ = λ r. r.frame in
      record {
        sent_is = in_order.sent_is;
        all_there = in_order.passed_there;
        first = (
          map frame (drop s.passed s.requests) ++ requests.other,
          requests.frames
              ∙ ap (λ l. l ++ requests.other) (ap (map frame) (sym (take-append-drop s.passed s.requests)) ∙ map-append frame rs (drop s.passed s.requests))
              ∙ append_assoc (map frame rs) (map frame (drop s.passed s.requests)) requests.other,
        );
        own = All-from_recursion (HasOwnResponse M) rs (own_passed rs (all_each (IsAnswered M) rs in_order.answered) (all_taken (IsGivenAsAwaited M) s.requests s.passed (all_fair M hs s run bytes)));
      }

  -- of two fronts of one list, of which one is longer
  fronts : (xs ys vs ws : List Outside) → xs ++ vs ≡ ys ++ ws → length xs < length ys → (x : Outside) × (more : List Outside) × (ys ≡ xs ++ x ∷ more)
  fronts [] [] vs ws e lt = absurd (omega (arith, lt))
  fronts [] (y ∷ ys) vs ws e lt = (y, ys, refl)
  fronts (x ∷ xs) [] vs ws e lt = absurd (omega (arith, lt))
  fronts (x ∷ xs) (y ∷ ys) vs ws e lt =
      let same : x ≡ y = cc in
      let rest : xs ++ vs ≡ ys ++ ws = cc in
      let r = fronts xs ys vs ws rest (omega (arith, lt)) in
      (r.0, r.1, ap (λ z. z ∷ ys) (sym same) ∙ ap (λ l. x ∷ l) r.2)

  longer_main : (frame : List ℕ) (xs ys vs ws : List Outside) (d f : ListedSend) → xs ++ vs ≡ ys ++ ws → length xs < length ys → IsAwaitedSend M frame xs d → IsAwaitedSend M frame ys f → d.main ≡ true → f.main ≡ true → ⊥
  longer_main frame xs ys vs ws d f e lt first second main again =
      let r = fronts xs ys vs ws e lt in
      no_second_main chain limit lawful frame xs r.0 r.1 d f first (subst (λ l. IsAwaitedSend M frame l f) r.2 second) main again

  main_apart : (frame : List ℕ) (xs ys vs ws : List Outside) (d f : ListedSend) → xs ++ vs ≡ ys ++ ws → (d.ask ≡ f.ask → ⊥) → IsAwaitedSend M frame xs d → IsAwaitedSend M frame ys f → d.main ≡ true → f.main ≡ true → ⊥
  main_apart frame xs ys vs ws d f e apart first second main again =
      elim (less_or_not (length xs) (length ys)) [
        | inl less ↦ longer_main frame xs ys vs ws d f e less first second main again
        | inr not_less ↦ elim (less_or_not (length ys) (length xs)) [
          | inl less ↦ longer_main frame ys xs ws vs f d (sym e) less second first again main
          | inr not_more ↦ apart (first.ask_is ∙ (let z : length xs ≡ length ys = omega (arith, not_less, not_more) in z) ∙ sym second.ask_is)
        ]
      ]

  -- a request has one main send at most
  main_sends_apart : (hs : List Entry) (s : State) → IsHistory M hs s → FramesAreBytes hs → (n m : ℕ) (d f : ListedSend) → n < m → slice_get s.sends n ≡ Some d → slice_get s.sends m ≡ Some f → d.request ≡ f.request → d.main ≡ true → f.main ≡ true → ⊥
  main_sends_apart hs s run bytes n m d f lt a b same main again =
      let p = own_at M hs s run bytes n d a in
      let q = own_at M hs s run bytes m f b in
      let r : p.request ≡ q.request = same_element (slice_get s.requests f.request) p.request q.request (subst (λ k. slice_get s.requests k ≡ Some p.request) same p.there) q.there in
      main_apart q.request.frame p.given q.given p.since q.since d f (sym p.front ∙ ap (λ (u : Request). u.given) r ∙ q.front) (all_apart M hs s run bytes n m d f lt a b same)
      (subst (λ (u : Request). IsAwaitedSend M u.frame p.given d) r p.send) q.send main again

  -- so none is of a request that had one already, and all are in the client's order
  main_sends_in_order : (hs : List Entry) (s : State) → IsHistory M hs s → FramesAreBytes hs → AreMainSendsInOrder s
  main_sends_in_order hs s run bytes n m d f lt a b main also =
      elim (rising_or_again M (chain_lasts chain limit) hs s run n m d f lt a b main also) [
        | inl less ↦ less
        | inr had ↦ absurd (main_sends_apart hs s run bytes had.place m had.send f had.before had.there b had.of_it had.main also)
      ]

  pub message_sends : (hs : List Entry) (s : State) → IsHistory M hs s → FramesAreBytes hs → AreMessageSends chain hs s
  message_sends hs s run bytes =
      record {
        sent_is = sent_in_order M hs s run;
        own = λ k d lt.
            let own = all_own M hs s run bytes k d lt in
            (own.request, own.there, sends_whole_messages chain limit lawful own.request.frame own.given (get_or s.sends k d) own.send);
        in_order = main_sends_in_order hs s run bytes;
      }
