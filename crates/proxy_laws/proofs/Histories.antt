-- In every history a request is given what it waits for, and nothing else.
use Rattle.std.proofs.Common.{◌≡◌, ◌∙◌, ap, refl, sym, subst, ℕ, zero, suc, ◌+◌, ◌<◌, ◌≤◌, Bool, true, false, ◌&&◌, ◌||◌, not, is_some, if◌then◌else◌, List, [], ◌∷◌, ◌++◌, length, drop, get_or, append_assoc, append-nil, Option, Some, None, Ok, Err, slice_get, slice_set, ◌⊎◌, inl, inr, pos, arith}
use Rattle.std.specs.List.{All}
use Rattle.std.specs.Ordering.{int_eq}
use Rattle.std.proofs.lemmas.Bool.Decides.{nat_tests}
use Rattle.std.proofs.lemmas.List.{get_or-drop, length_push}
use Rattle.std.proofs.lemmas.Option.{slice_get-get_or}
use Rattle.std.proofs.lemmas.List.Elements.{All-nil, All-cons, All-tail}
use Rattle.kp_edge.specs.declared.end.End.{End}
use Rattle.kp_edge.specs.declared.end.End.TheVariants as end
use Rattle.tree_spelling.specs.Laws.{AreBytes}
use Rattle.framing.specs.CorrelationIds.{response_id}
use Rattle.conn_rules.specs.declared.event.Event.{Event}
use Rattle.conn_rules.specs.declared.event.Event.TheVariants as event
use Rattle.conn_rules.specs.declared.event.Reply.{Reply}
use Rattle.conn_rules.specs.declared.event.Reply.TheVariants as reply
use Rattle.conn_rules.specs.declared.event.TakeFault.TheVariants as take_fault
use Rattle.conn_rules.specs.declared.event.Fault.{Fault}
use Rattle.conn_rules.specs.declared.event.Fault.TheVariants as fault
use Rattle.conn_rules.specs.declared.event.CompleteFault.TheVariants as complete_fault
use Rattle.conn_rules.specs.Meaning.{Meaning, ToBroker, Hold, Status, Waits, Done, Fails}
use Rattle.conn_rules.specs.State.{Outside, Body, NoResponse, Verdict, Request, ListedSend, State, opening, cut_at, dead, halted, in_flight, held, give, given_more, responding, upstream_id, due_send, waiting}
use Rattle.conn_rules.specs.Causes.{below, cut_cause, with_cut, client_ended, broker_ended, are_ending, are_dead, are_still}
use Rattle.conn_rules.specs.Settling.{Act, CutAt, Lists, is_listed, lets_later_go, act_of, or_else, act_from, next_act, listed, acted, after_acts}
use Rattle.conn_rules.specs.Steps.{joined, read_body, matched, attributed, answer_step, hold_of, hold_in, open_hold, is_hold, complete_step, client_end, faulted, noted, sent_next, first_hold, picked_next, response_in, silent_passed, over_or, respond_or, told_again, emit_step, answer_to, StepOrNoMemory}
use Rattle.conn_rules.specs.History.{Entry, LeadsTo, IsHistory, client_frame, broker_frame, client_frames, broker_frames}
use Rattle.proxy_laws.specs.Awaited.{IsAwaited, AwaitedBehind, IsGivenAsAwaited, IsAwaitedSend, IsOwnSend, AreAskedOnce, FramesAreBytes}
use Rattle.proxy_laws.proofs.Lists.{if_responding, still_there, there_or_new, set_there, set_elsewhere, same_element, inside, same_or_not, respond_taken, respond_more, respond_listed, present_listed}

all_left : {X : Type 0} (P : X → Type 0) (xs ys : List X) → All P (xs ++ ys) → All P xs
all_left P [] ys all = All-nil P
all_left P (x ∷ xs) ys all = All-cons P x xs (all 0 x (omega arith)) (all_left P xs ys (All-tail P x (xs ++ ys) all))

all_right : {X : Type 0} (P : X → Type 0) (xs ys : List X) → All P (xs ++ ys) → All P ys
all_right P [] ys all = all
all_right P (x ∷ xs) ys all = all_right P xs ys (All-tail P x (xs ++ ys) all)

-- ---- acts

pub either_act : (o later : Option Act) (act : Act) → or_else o later ≡ Some act → (o ≡ Some act) ⊎ (later ≡ Some act)
either_act None later act e = inr e
either_act (Some other) later act e = inl e

pub only_below : (b : Bool) (o : Option Act) (act : Act) → (if b then o else None) ≡ Some act → (b ≡ true) × (o ≡ Some act)
only_below true o act e = (refl, e)
only_below false o act e = absurd (let z : None ≡ Some act = e in cc)

module _ (M : Meaning) where
  -- a send whose answer has to come: its request waits for that, where it is below the cut
  record IsPending (s : State) (d : ListedSend) : Type 0 where
    request : Request
    there : slice_get s.requests d.request ≡ Some request
    ask : d.ask ≡ length request.given
    waits : M.status request.frame request.given ≡ Waits (ToBroker d.before d.behind d.main true)

  abbrev due : State → List (ℕ × ListedSend)
  due s = responding 0 s.sends

  -- at every moment
  record IsSound (s : State) : Type 0 where
    fair : (k : ℕ) (r : Request) → slice_get s.requests k ≡ Some r → IsGivenAsAwaited M r
    counted : s.answered ≤ length (due s)
    pending : (n : ℕ) (e : ℕ × ListedSend) → s.answered ≤ n → slice_get (due s) n ≡ Some e → below s.causes.cut e.1.request ≡ true → IsPending s e.1
    alone : (n m : ℕ) (e f : ℕ × ListedSend) → s.answered ≤ n → n < m → slice_get (due s) n ≡ Some e → slice_get (due s) m ≡ Some f → e.1.request ≡ f.1.request → ⊥
    own : (n : ℕ) (d : ListedSend) → slice_get s.sends n ≡ Some d → IsOwnSend M s d
    apart : AreAskedOnce s

  -- ---- what doesn't matter

  abbrev IsLower : State → State → Type 0
  IsLower s t = (j : ℕ) → below t.causes.cut j ≡ true → below s.causes.cut j ≡ true

  same_pending : (s t : State) (d : ListedSend) → t.requests ≡ s.requests → IsPending s d → IsPending t d
  same_pending s t d e p = record { request = p.request; there = ap (λ rs. slice_get rs d.request) e ∙ p.there; ask = p.ask; waits = p.waits }

  own_there : (s t : State) (d : ListedSend) (p : IsOwnSend M s d) → slice_get t.requests d.request ≡ Some p.request → IsOwnSend M t d
  own_there s t d p there = record { request = p.request; there = there; given = p.given; since = p.since; front = p.front; send = p.send }

  same_own : (s t : State) (d : ListedSend) → t.requests ≡ s.requests → IsOwnSend M s d → IsOwnSend M t d
  same_own s t d e p = own_there s t d p (ap (λ rs. slice_get rs d.request) e ∙ p.there)

  apart_same : (s t : State) → t.sends ≡ s.sends → AreAskedOnce s → AreAskedOnce t
  apart_same s t e h n m d f lt a b same ask = h n m d f lt (ap (λ ds. slice_get ds n) (sym e) ∙ a) (ap (λ ds. slice_get ds m) (sym e) ∙ b) same ask

  sound_same : (s t : State) → t.requests ≡ s.requests → t.sends ≡ s.sends → t.answered ≡ s.answered → IsLower s t → IsSound s → IsSound t
  sound_same s t er es ea lower h =
      record {
        fair = λ k r there. h.fair k r (ap (λ rs. slice_get rs k) (sym er) ∙ there);
        counted = subst (λ a. a ≤ length (due t)) (sym ea) (subst (λ ds. s.answered ≤ length (responding 0 ds)) (sym es) h.counted);
        pending = λ n e le there low.
            same_pending s t e.1 er (h.pending n e (subst (λ a. a ≤ n) ea le) (ap (λ ds. slice_get (responding 0 ds) n) (sym es) ∙ there) (lower e.1.request low));
        alone = λ n m e f le lt there also.
            h.alone n m e f (subst (λ a. a ≤ n) ea le) lt (ap (λ ds. slice_get (responding 0 ds) n) (sym es) ∙ there) (ap (λ ds. slice_get (responding 0 ds) m) (sym es) ∙ also);
        own = λ n d there. same_own s t d er (h.own n d (ap (λ ds. slice_get ds n) (sym es) ∙ there));
        apart = apart_same s t es h.apart;
      }

  -- a cut only goes down
  lower_cut : (cut : Option (ℕ × End)) (k : ℕ) (why : End) (b : Bool) → below cut k ≡ b → (j : ℕ) → below (if b then Some (k, why) else cut) j ≡ true → below cut j ≡ true
  lower_cut None k why b is j e = refl
  lower_cut (Some at) k why true is j e = grind (arith, nat_tests)
  lower_cut (Some at) k why false is j e = e

  sound_cut : (k : ℕ) (why : End) (s : State) → IsSound s → IsSound (cut_at k why s)
  sound_cut k why s h = sound_same s (cut_at k why s) refl refl refl (lower_cut s.causes.cut k why (below s.causes.cut k) refl) h

  sound_dead : (why : End) (s : State) → IsSound s → IsSound (dead why s)
  sound_dead why s h = sound_same s (dead why s) refl refl refl (λ j e. e) h

  sound_halted : (why : End) (s : State) → IsSound s → IsSound (halted why s)
  sound_halted why s h = sound_same s (halted why s) refl refl refl (λ j e. e) h

  sound_either : (b : Bool) (s t : State) → IsSound s → IsSound t → IsSound (if b then s else t)
  sound_either true s t h k = h
  sound_either false s t h k = k

  -- ---- a request is given what it waits for

  awaited_more : (frame : List ℕ) (before given : List Outside) (x : Outside) → AwaitedBehind M frame before given → IsAwaited M (M.status frame (before ++ given)) x → AwaitedBehind M frame before (given ++ x ∷ [])
  awaited_more frame before [] x h may = (subst (λ l. IsAwaited M (M.status frame l) x) (append-nil before) may, tt)
  awaited_more frame before (y ∷ given) x h may =
      (h.0, awaited_more frame (before ++ y ∷ []) given x h.1 (subst (λ l. IsAwaited M (M.status frame l) x) (sym (append_assoc before (y ∷ []) given)) may))

  fair_more : (r : Request) (x : Outside) → IsGivenAsAwaited M r → IsAwaited M (M.status r.frame r.given) x → IsGivenAsAwaited M (record r { given = r.given ++ x ∷ [] })
  fair_more r x h may = record { bytes = h.bytes; is_request = h.is_request; awaited = awaited_more r.frame [] r.given x h.awaited may }

  own_later : (s t : State) (d : ListedSend) (p : IsOwnSend M s d) (r : Request) (x : Outside) → p.request ≡ r → slice_get t.requests d.request ≡ Some (record r { given = r.given ++ x ∷ [] }) → IsOwnSend M t d
  own_later s t d p r x e there =
      record {
        request = record r { given = r.given ++ x ∷ [] };
        there = there;
        given = p.given;
        since = p.since ++ x ∷ [];
        front = ap (λ l. l ++ x ∷ []) (ap (λ (u : Request). u.given) (sym e) ∙ p.front) ∙ append_assoc p.given p.since (x ∷ []);
        send = subst (λ (u : Request). IsAwaitedSend M u.frame p.given d) e p.send;
      }

  sound_given : (s : State) (k : ℕ) (r : Request) (x : Outside) → IsSound s → slice_get s.requests k ≡ Some r → IsAwaited M (M.status r.frame r.given) x
      → ((n : ℕ) (e : ℕ × ListedSend) → s.answered ≤ n → slice_get (due s) n ≡ Some e → e.1.request ≡ k → ⊥)
      → IsSound (record s { requests = slice_set s.requests k (record r { given = r.given ++ x ∷ [] }) })
  sound_given s k r x h there may none =
      let new : Request = record r { given = r.given ++ x ∷ [] } in
      record {
        fair = λ j t is. elim (same_or_not j k) [
          | inl same ↦ subst (IsGivenAsAwaited M) (same_element (slice_get (slice_set s.requests k new) k) new t (set_there s.requests k new r there) (subst (λ i. slice_get (slice_set s.requests k new) i ≡ Some t) same is)) (fair_more r x (h.fair k r there) may)
          | inr other ↦ h.fair j t (sym (set_elsewhere s.requests k j new other) ∙ is)
        ];
        counted = h.counted;
        pending = λ n e le is low.
            let p = h.pending n e le is low in
            record { request = p.request; there = set_elsewhere s.requests k e.1.request new (none n e le is) ∙ p.there; ask = p.ask; waits = p.waits };
        alone = h.alone;
        own = λ n d is. let p = h.own n d is in elim (same_or_not d.request k) [
          | inl same ↦
              own_later s (record s { requests = slice_set s.requests k new }) d p r x
              (same_element (slice_get s.requests k) p.request r (subst (λ i. slice_get s.requests i ≡ Some p.request) same p.there) there)
              (subst (λ i. slice_get (slice_set s.requests k new) i ≡ Some new) (sym same) (set_there s.requests k new r there))
          | inr other ↦ own_there s (record s { requests = slice_set s.requests k new }) d p (set_elsewhere s.requests k d.request new other ∙ p.there)
        ];
        apart = h.apart;
      }

  given_found : (s : State) (k : ℕ) (x : Outside) (o : Option Request) (r : Request) → o ≡ Some r → given_more x o s.requests k ≡ slice_set s.requests k (record r { given = r.given ++ x ∷ [] })
  given_found s k x None r e = absurd cc
  given_found s k x (Some t) r e = ap (λ (u : Request). slice_set s.requests k (record u { given = u.given ++ x ∷ [] })) (let z : t ≡ r = cc in z)

  sound_give : (s : State) (k : ℕ) (r : Request) (x : Outside) → IsSound s → slice_get s.requests k ≡ Some r → IsAwaited M (M.status r.frame r.given) x
      → ((n : ℕ) (e : ℕ × ListedSend) → s.answered ≤ n → slice_get (due s) n ≡ Some e → e.1.request ≡ k → ⊥) → IsSound (give k x s)
  sound_give s k r x h there may none =
      subst (λ rs. IsSound (record s { requests = rs })) (sym (given_found s k x (slice_get s.requests k) r there)) (sound_given s k r x h there may none)

  -- ---- settling

  -- a request lists this send
  pub record IsListing (s : State) (d : ListedSend) : Type 0 where
    pub request : Request
    pub there : slice_get s.requests d.request ≡ Some request
    pub low : below s.causes.cut d.request ≡ true
    pub ask : d.ask ≡ length request.given
    pub waits : M.status request.frame request.given ≡ Waits (ToBroker d.before d.behind d.main d.responds)
    pub unlisted : is_listed s.sends d.request d.ask ≡ false

  abbrev pub IsSendOf : List ListedSend → ℕ → Request → ListedSend → Type 0
  IsSendOf sends k r d = (d.request ≡ k) × (d.ask ≡ length r.given) × (M.status r.frame r.given ≡ Waits (ToBroker d.before d.behind d.main d.responds)) × (is_listed sends k (length r.given) ≡ false)

  listing_if : (sends : List ListedSend) (k : ℕ) (r : Request) (d : ListedSend) (before behind : List ℕ) (main responds b c : Bool) → is_listed sends k (length r.given) ≡ b → M.status r.frame r.given ≡ Waits (ToBroker before behind main responds)
      → (if not b && c then Some (Lists (record { request = k; ask = length r.given; before = before; behind = behind; main = main; responds = responds })) else None) ≡ Some (Lists d) → IsSendOf sends k r d
  listing_if sends k r d before behind main responds true c is w e = absurd (let z : None ≡ Some (Lists d) = e in cc)
  listing_if sends k r d before behind main responds false false is w e = absurd (let z : None ≡ Some (Lists d) = e in cc)
  listing_if sends k r d before behind main responds false true is w e =
      let new : ListedSend = record { request = k; ask = length r.given; before = before; behind = behind; main = main; responds = responds } in
      let z : new ≡ d = (let y : Some (Lists new) ≡ Some (Lists d) = e in cc) in
      subst (IsSendOf sends k r) z (refl, refl, w, is)

  pub listing_of : (sends : List ListedSend) (k : ℕ) (free : Bool) (r : Request) (d : ListedSend) (status : Status) → M.status r.frame r.given ≡ status → act_of sends k (length r.given) free status ≡ Some (Lists d) → IsSendOf sends k r d
  listing_of sends k free r d (Fails why) w e = absurd (let z : Some (CutAt k (why k)) ≡ Some (Lists d) = e in cc)
  listing_of sends k free r d (Done response) w e = absurd (let z : None ≡ Some (Lists d) = e in cc)
  listing_of sends k free r d (Waits (Hold key)) w e = absurd (let z : None ≡ Some (Lists d) = e in cc)
  listing_of sends k free r d (Waits (ToBroker before behind main responds)) w e = listing_if sends k r d before behind main responds (is_listed sends k (length r.given)) (free || not main) refl w e

  record IsListingFrom (sends : List ListedSend) (cut : Option (ℕ × End)) (k : ℕ) (rs : List Request) (d : ListedSend) : Type 0 where
    place : ℕ
    request : Request
    there : slice_get rs place ≡ Some request
    low : below cut (k + place) ≡ true
    send : IsSendOf sends (k + place) request d

  one_later : (sends : List ListedSend) (cut : Option (ℕ × End)) (k : ℕ) (r : Request) (rs : List Request) (d : ListedSend) → IsListingFrom sends cut (suc k) rs d → IsListingFrom sends cut k (r ∷ rs) d
  one_later sends cut k r rs d h =
      let e : suc k + h.place ≡ k + suc h.place = omega arith in
      record { place = suc h.place; request = h.request; there = h.there; low = subst (λ j. below cut j ≡ true) e h.low; send = subst (λ j. IsSendOf sends j h.request d) e h.send }

  listing_from : (sends : List ListedSend) (cut : Option (ℕ × End)) (k : ℕ) (free : Bool) (rs : List Request) (d : ListedSend) → act_from M sends cut k free rs ≡ Some (Lists d) → IsListingFrom sends cut k rs d
  listing_from sends cut k free [] d e = absurd (let z : None ≡ Some (Lists d) = e in cc)
  listing_from sends cut k free (r ∷ rs) d e =
      let h = only_below (below cut k) _ (Lists d) e in
      let here : k + 0 ≡ k = omega arith in
      elim (either_act (act_of sends k (length r.given) free (M.status r.frame r.given)) (act_from M sends cut (suc k) (free && lets_later_go sends k (M.status r.frame r.given)) rs) (Lists d) h.1) [
        | inl own ↦ record { place = 0; request = r; there = refl; low = subst (λ j. below cut j ≡ true) (sym here) h.0; send = subst (λ j. IsSendOf sends j r d) (sym here) (listing_of sends k free r d (M.status r.frame r.given) refl own) }
        | inr behind ↦ one_later sends cut k r rs d (listing_from sends cut (suc k) _ rs d behind)
      ]

  pub listing : (s : State) (d : ListedSend) → next_act M s ≡ Some (Lists d) → IsListing s d
  listing s d e =
      let h = listing_from s.sends s.causes.cut 0 true s.requests d e in
      let z : 0 + h.place ≡ d.request = sym h.send.0 in
      let y : h.place ≡ d.request = (let x : 0 + h.place ≡ h.place = omega arith in sym x ∙ z) in
      record {
        request = h.request;
        there = subst (λ j. slice_get s.requests j ≡ Some h.request) y h.there;
        low = subst (λ j. below s.causes.cut j ≡ true) z h.low;
        ask = h.send.1;
        waits = h.send.2;
        unlisted = subst (λ i. is_listed s.sends d.request i ≡ false) (sym h.send.1) (subst (λ j. is_listed s.sends j (length h.request.given) ≡ false) z h.send.3);
      }

  module _ (s : State) (h : IsSound s) (d : ListedSend) (l : IsListing s d) where
    -- no answer to another send of this request has to come
    none_due : (n : ℕ) (e : ℕ × ListedSend) → s.answered ≤ n → slice_get (due s) n ≡ Some e → e.1.request ≡ d.request → ⊥
    none_due n e le is same =
        let p = h.pending n e le is (subst (λ j. below s.causes.cut j ≡ true) (sym same) l.low) in
        let r : p.request ≡ l.request = same_element (slice_get s.requests d.request) p.request l.request (subst (λ j. slice_get s.requests j ≡ Some p.request) same p.there) l.there in
        let a : e.1.ask ≡ d.ask = p.ask ∙ ap (λ (x : Request). length x.given) r ∙ sym l.ask in
        let there : is_listed s.sends d.request d.ask ≡ true = subst (λ i. is_listed s.sends d.request i ≡ true) a (subst (λ j. is_listed s.sends j e.1.ask ≡ true) same (respond_listed s.sends e 0 n is)) in
        let z : true ≡ false = sym there ∙ l.unlisted in
        cc

    abbrev more : State
    more = record s { sends = s.sends ++ d ∷ [] }

    abbrev new : ℕ × ListedSend
    new = (0 + length s.sends, d)

    due_one : d.responds ≡ true → due more ≡ due s ++ new ∷ []
    due_one b = respond_more s.sends d 0 ∙ ap (λ x. due s ++ if_responding x (0 + length s.sends) d) b

    due_none : d.responds ≡ false → due more ≡ due s
    due_none b = respond_more s.sends d 0 ∙ ap (λ x. due s ++ if_responding x (0 + length s.sends) d) b ∙ append-nil (due s)

    apart : (n m : ℕ) (e f : ℕ × ListedSend) → s.answered ≤ n → n < m → (slice_get (due s) n ≡ Some e) ⊎ ((n ≡ length (due s)) × (new ≡ e)) → (slice_get (due s) m ≡ Some f) ⊎ ((m ≡ length (due s)) × (new ≡ f)) → e.1.request ≡ f.1.request → ⊥
    apart n m e f le lt (inl a) (inl b) same = h.alone n m e f le lt a b same
    apart n m e f le lt (inr a) (inl b) same = omega (arith, lt, a.0, inside (due s) m f b)
    apart n m e f le lt (inl a) (inr b) same = none_due n e le a (same ∙ ap (λ (x : ℕ × ListedSend). x.1.request) (sym b.1))
    apart n m e f le lt (inr a) (inr b) same = omega (arith, lt, a.0, b.0)

    own_new : IsOwnSend M more d
    own_new =
        record {
          request = l.request;
          there = l.there;
          given = l.request.given;
          since = [];
          front = sym (append-nil l.request.given);
          send = record { request = h.fair d.request l.request l.there; waits = l.waits; ask_is = l.ask };
        }

    -- its ask wasn't sent before
    not_sent : (n : ℕ) (f : ListedSend) → slice_get s.sends n ≡ Some f → f.request ≡ d.request → f.ask ≡ d.ask → ⊥
    not_sent n f is same ask =
        let z : is_listed s.sends d.request d.ask ≡ true = subst (λ i. is_listed s.sends d.request i ≡ true) ask (subst (λ j. is_listed s.sends j f.ask ≡ true) same (present_listed s.sends n f is)) in
        let y : true ≡ false = sym z ∙ l.unlisted in
        cc

    asks_apart : (n m : ℕ) (e f : ListedSend) → n < m → (slice_get s.sends n ≡ Some e) ⊎ ((n ≡ length s.sends) × (d ≡ e)) → (slice_get s.sends m ≡ Some f) ⊎ ((m ≡ length s.sends) × (d ≡ f)) → e.request ≡ f.request → e.ask ≡ f.ask → ⊥
    asks_apart n m e f lt (inl a) (inl b) same ask = h.apart n m e f lt a b same ask
    asks_apart n m e f lt (inr a) (inl b) same ask = omega (arith, lt, a.0, inside s.sends m f b)
    asks_apart n m e f lt (inl a) (inr b) same ask = not_sent n e a (same ∙ ap (λ (x : ListedSend). x.request) (sym b.1)) (ask ∙ ap (λ (x : ListedSend). x.ask) (sym b.1))
    asks_apart n m e f lt (inr a) (inr b) same ask = omega (arith, lt, a.0, b.0)

    more_apart : AreAskedOnce more
    more_apart n m e f lt a b same ask = asks_apart n m e f lt (there_or_new s.sends d n e a) (there_or_new s.sends d m f b) same ask

    own_more : (n : ℕ) (f : ListedSend) → slice_get (s.sends ++ d ∷ []) n ≡ Some f → IsOwnSend M more f
    own_more n f is = elim (there_or_new s.sends d n f is) [
      | inl old ↦ same_own s more f refl (h.own n f old)
      | inr last ↦ subst (IsOwnSend M more) last.1 own_new
    ]

    sound_one : d.responds ≡ true → IsSound more
    sound_one b =
        record {
          fair = h.fair;
          counted = subst (λ ds. s.answered ≤ length ds) (sym (due_one b)) (omega (arith, h.counted, length_push (due s) new));
          pending = λ n e le is low. elim (there_or_new (due s) new n e (ap (λ ds. slice_get ds n) (sym (due_one b)) ∙ is)) [
            | inl old ↦ same_pending s more e.1 refl (h.pending n e le old low)
            | inr last ↦ subst (λ (x : ℕ × ListedSend). IsPending more x.1) last.1 (record { request = l.request; there = l.there; ask = l.ask; waits = subst (λ x. M.status l.request.frame l.request.given ≡ Waits (ToBroker d.before d.behind d.main x)) b l.waits })
          ];
          alone = λ n m e f le lt there also same.
              apart n m e f le lt (there_or_new (due s) new n e (ap (λ ds. slice_get ds n) (sym (due_one b)) ∙ there)) (there_or_new (due s) new m f (ap (λ ds. slice_get ds m) (sym (due_one b)) ∙ also)) same;
          own = own_more;
          apart = more_apart;
        }

    sound_none : d.responds ≡ false → IsSound more
    sound_none b =
        record {
          fair = h.fair;
          counted = subst (λ ds. s.answered ≤ length ds) (sym (due_none b)) h.counted;
          pending = λ n e le is low. same_pending s more e.1 refl (h.pending n e le (ap (λ ds. slice_get ds n) (sym (due_none b)) ∙ is) low);
          alone = λ n m e f le lt there also same. h.alone n m e f le lt (ap (λ ds. slice_get ds n) (sym (due_none b)) ∙ there) (ap (λ ds. slice_get ds m) (sym (due_none b)) ∙ also) same;
          own = own_more;
          apart = more_apart;
        }

    silent_given : d.responds ≡ false → IsAwaited M (M.status l.request.frame l.request.given) NoResponse
    silent_given b = subst (λ status. IsAwaited M status NoResponse) (sym l.waits) b

    sound_either_way : (b : Bool) → d.responds ≡ b → IsSound (if b then more else give d.request NoResponse more)
    sound_either_way true b = sound_one b
    sound_either_way false b =
        sound_give more d.request l.request NoResponse (sound_none b) l.there (silent_given b)
        (λ n e le is. none_due n e le (ap (λ ds. slice_get ds n) (sym (due_none b)) ∙ is))

    sound_listed : IsSound (listed d s)
    sound_listed = sound_either_way d.responds refl

  sound_acted : (s : State) (o : Option Act) → next_act M s ≡ o → IsSound s → IsSound (acted o s)
  sound_acted s None is h = h
  sound_acted s (Some (CutAt k why)) is h = sound_cut k why s h
  sound_acted s (Some (Lists d)) is h = sound_listed s h d (listing s d is)

  sound_acts : (n : ℕ) (s : State) → IsSound s → IsSound (after_acts M n s)
  sound_acts zero s h = h
  sound_acts (suc n) s h = sound_acts n (acted (next_act M s) s) (sound_acted s (next_act M s) refl h)

  -- ---- events

  module _ (s : State) (h : IsSound s) where
    sound_joined : (frame : List ℕ) (why : Option (ℕ → End)) → AreBytes frame → M.no_request frame ≡ why → IsSound (joined why frame s)
    sound_joined frame None bytes is =
        let new : Request = record { frame = frame; given = [] } in
        record {
          fair = λ k r there. elim (there_or_new s.requests new k r there) [
            | inl old ↦ h.fair k r old
            | inr last ↦ subst (IsGivenAsAwaited M) last.1 (record { bytes = bytes; is_request = is; awaited = tt })
          ];
          counted = h.counted;
          pending = λ n e le is low.
              let p = h.pending n e le is low in
              record { request = p.request; there = still_there s.requests new e.1.request p.request p.there; ask = p.ask; waits = p.waits };
          alone = h.alone;
          own = λ n d there. let p = h.own n d there in own_there s (record s { requests = s.requests ++ new ∷ [] }) d p (still_there s.requests new d.request p.request p.there);
          apart = h.apart;
        }
    sound_joined frame (Some why) bytes is = sound_cut (length s.requests) (why (length s.requests)) s h

    answer_either : (b : Bool) (x y : Reply × State) → IsSound x.1 → IsSound y.1 → IsSound (if b then x else y).1
    answer_either true x y f g = f
    answer_either false x y f g = g

    take_case : (frame : List ℕ) (ending room : Bool)
        → All AreBytes (client_frame (event.Take frame) (if◌then◌else◌ {A = Reply × State} ending (reply.Take (Err (take_fault.Ending frame)), s) (if room then (reply.Take (Ok tt), joined (M.no_request frame) frame s) else (reply.Take (Err (take_fault.Full (in_flight s) (held s) frame)), s))).0)
        → IsSound (if◌then◌else◌ {A = Reply × State} ending (reply.Take (Err (take_fault.Ending frame)), s) (if room then (reply.Take (Ok tt), joined (M.no_request frame) frame s) else (reply.Take (Err (take_fault.Full (in_flight s) (held s) frame)), s))).1
    take_case frame true room bytes = h
    take_case frame false true bytes = sound_joined frame (M.no_request frame) (bytes 0 frame (omega arith)) refl
    take_case frame false false bytes = h

    sound_take : (frame : List ℕ) → All AreBytes (client_frame (event.Take frame) (answer_to M s (event.Take frame)).0) → IsSound (answer_to M s (event.Take frame)).1
    sound_take frame bytes = take_case frame (are_ending s.causes) (M.room (in_flight s) (held s) (length frame)) bytes

    drop_small : (n : ℕ) (bytes : List ℕ) → AreBytes bytes → AreBytes (drop n bytes)
    drop_small n bytes small i = omega (arith, get_or-drop n bytes i 0, small (n + i))

    module _ (e : ℕ × ListedSend) (is : slice_get (due s) s.answered ≡ Some e) where
      abbrev counted_on : State
      counted_on = record s { answered = s.answered + 1 }

      sound_counted : IsSound counted_on
      sound_counted =
          record {
            fair = h.fair;
            counted = omega (arith, inside (due s) s.answered e is);
            pending = λ n f le there low. same_pending s counted_on f.1 refl (h.pending n f (omega (arith, le)) there low);
            alone = λ n m f g le lt there also same. h.alone n m f g (omega (arith, le)) lt there also same;
            own = λ n d there. same_own s counted_on d refl (h.own n d there);
            apart = h.apart;
          }

      sound_body : (why : Option (ℕ → End)) (body : List ℕ) → AreBytes body → M.unreadable e.1.before body ≡ why → below s.causes.cut e.1.request ≡ true → IsSound (read_body why e.1.request body counted_on)
      sound_body None body bytes readable low =
          let p = h.pending s.answered e (omega arith) is low in
          sound_give counted_on e.1.request p.request (Body body) sound_counted p.there
          (subst (λ status. IsAwaited M status (Body body)) (sym p.waits) (refl, bytes, readable))
          (λ n f le there same. h.alone s.answered n e f (omega arith) (omega (arith, le)) is there (sym same))
      sound_body (Some why) body bytes readable low = sound_cut e.1.request (why e.1.request) counted_on sound_counted

      matched_case : (b : Bool) (body : List ℕ) → AreBytes body → below s.causes.cut e.1.request ≡ b → IsSound (if b then read_body (M.unreadable e.1.before body) e.1.request body counted_on else counted_on)
      matched_case true body bytes low = sound_body (M.unreadable e.1.before body) body bytes refl low
      matched_case false body bytes low = sound_counted

      sound_matched : (body : List ℕ) → AreBytes body → IsSound (matched M s e.1 body)
      sound_matched body bytes = matched_case (below s.causes.cut e.1.request) body bytes refl

    sound_attributed : (frame : List ℕ) → AreBytes frame → (o : Option (ℕ × ListedSend)) → due_send s ≡ o → IsSound (attributed M s frame o)
    sound_attributed frame bytes None is = sound_dead (end.Unasked (response_id frame)) s h
    sound_attributed frame bytes (Some e) is =
        sound_either (int_eq (response_id frame) (pos (upstream_id e.0))) _ _ (sound_matched e (respond_taken s.sends s.taken e 0 s.answered is) (drop 4 frame) (drop_small 4 frame bytes))
        (sound_dead (end.Mismatch (pos (upstream_id e.0)) (response_id frame)) s h)

    sound_answer : (frame : List ℕ) → AreBytes frame → IsSound (answer_step M s frame).1
    sound_answer frame bytes = answer_either (are_dead s.causes) _ _ h (sound_attributed frame bytes (due_send s) refl)

    -- a verdict
    record IsHeld (k : ℕ) : Type 0 where
      request : Request
      there : slice_get s.requests k ≡ Some request
      low : below s.causes.cut k ≡ true
      key : List ℕ
      waits : M.status request.frame request.given ≡ Waits (Hold key)

    held_of : (i k : ℕ) (r : Request) (status : Status) → slice_get s.requests k ≡ Some r → below s.causes.cut k ≡ true → M.status r.frame r.given ≡ status → is_hold i (hold_of (length r.given) status) ≡ true → IsHeld k
    held_of i k r (Waits (Hold key)) there low w e = record { request = r; there = there; low = low; key = key; waits = w }
    held_of i k r (Waits (ToBroker before behind main responds)) there low w e = absurd (let z : false ≡ true = e in cc)
    held_of i k r (Done response) there low w e = absurd (let z : false ≡ true = e in cc)
    held_of i k r (Fails why) there low w e = absurd (let z : false ≡ true = e in cc)

    held_below : (i k : ℕ) (r : Request) (b : Bool) → slice_get s.requests k ≡ Some r → below s.causes.cut k ≡ b → is_hold i (if b then hold_of (length r.given) (M.status r.frame r.given) else None) ≡ true → IsHeld k
    held_below i k r true there low e = held_of i k r (M.status r.frame r.given) there low refl e
    held_below i k r false there low e = absurd (let z : false ≡ true = e in cc)

    held_in : (i k : ℕ) (o : Option Request) → slice_get s.requests k ≡ o → is_hold i (hold_in M s.causes.cut k o) ≡ true → IsHeld k
    held_in i k None there e = absurd (let z : false ≡ true = e in cc)
    held_in i k (Some r) there e = held_below i k r (below s.causes.cut k) there refl e

    second_and : (a b : Bool) → (a && b) ≡ true → b ≡ true
    second_and true b e = e
    second_and false b e = absurd cc

    no_send : (k : ℕ) (d : ListedSend) (key : List ℕ) (p q : Request) → slice_get s.requests k ≡ Some p → slice_get s.requests k ≡ Some q → M.status p.frame p.given ≡ Waits (Hold key) → M.status q.frame q.given ≡ Waits (ToBroker d.before d.behind d.main true) → ⊥
    no_send k d key p q a b w v =
        let same : p ≡ q = same_element (slice_get s.requests k) p q a b in
        let z : Waits (Hold key) ≡ Waits (ToBroker d.before d.behind d.main true) = sym w ∙ ap (λ (x : Request). M.status x.frame x.given) same ∙ v in
        cc

    completed_case : (k i : ℕ) (verdict : List ℕ) (b : Bool) → (not (are_still s.causes) && is_hold i (open_hold M s k)) ≡ b
        → IsSound (if◌then◌else◌ {A = Reply × State} b (reply.Complete (Ok tt), give k (Verdict verdict) s) (reply.Complete (Err (complete_fault.NotWaiting verdict)), s)).1
    completed_case k i verdict true e =
        let p = held_in i k (slice_get s.requests k) refl (second_and (not (are_still s.causes)) (is_hold i (open_hold M s k)) e) in
        sound_give s k p.request (Verdict verdict) h p.there (subst (λ status. IsAwaited M status (Verdict verdict)) (sym p.waits) tt)
        (λ n f le is same.
        let q = h.pending n f le is (subst (λ j. below s.causes.cut j ≡ true) (sym same) p.low) in
        no_send k f.1 p.key p.request q.request p.there (subst (λ j. slice_get s.requests j ≡ Some q.request) same q.there) p.waits q.waits)
    completed_case k i verdict false e = h

    sound_complete : (k i : ℕ) (verdict : List ℕ) → IsSound (complete_step M s k i verdict).1
    sound_complete k i verdict = completed_case k i verdict (not (are_still s.causes) && is_hold i (open_hold M s k)) refl

    -- ends, faults, and what the writers are given
    sound_noted : (t : State) → IsSound t → IsSound (noted s t).1
    sound_noted t f = sound_either (is_some s.causes.over) s t h f

    ended_case : (b : Bool) (why : End) → IsSound (record s { causes = if b then s.causes else with_cut (length s.requests) why s.causes })
    ended_case true why = h
    ended_case false why = sound_cut (length s.requests) why s h

    sound_client_end : (rest : ℕ) → IsSound (client_end rest s)
    sound_client_end rest = ended_case (is_some s.causes.death) (client_ended rest)

    sound_fault : (x : Fault) → IsSound (faulted M s x)
    sound_fault fault.ClientRead = sound_cut (length s.requests) end.ClientReadFault s h
    sound_fault fault.ClientWrite = sound_halted end.ClientWriteFault s h
    sound_fault fault.BrokerRead = sound_dead end.BrokerReadFault s h
    sound_fault fault.BrokerWrite = sound_dead end.BrokerWriteFault s h
    sound_fault (fault.ClientBadSize at size) = sound_cut (length s.requests) (end.BadSize at size) s h
    sound_fault (fault.BrokerBadSize at size) = sound_dead (end.BrokerBadSize at size) s h
    sound_fault (fault.Authority k) = sound_either (is_some (open_hold M s k)) _ s (sound_cut k (end.AuthorityFault k) s h) h
    sound_fault fault.Thread = sound_halted end.ThreadRefused s h
    sound_fault fault.NoMemory = sound_halted end.NoMemory s h

    sound_sent : (o : Option ListedSend) → IsSound (sent_next s o).1
    sound_sent None = h
    sound_sent (Some d) = sound_same s (record s { taken = s.taken + 1 }) refl refl refl (λ j e. e) h

    sound_picked : (o : Option (ℕ × ℕ × List ℕ)) → IsSound (picked_next s o).1
    sound_picked None = h
    sound_picked (Some hold) = sound_same s (record s { picked = s.picked ++ (hold.0, hold.1) ∷ [] }) refl refl refl (λ j e. e) h

  sound_over_or : (why : Option End) (t : State) (later : Reply × State) → IsSound t → IsSound later.1 → IsSound (over_or why t later).1
  sound_over_or None t later h k = k
  sound_over_or (Some why) t later h k = sound_same t _ refl refl refl (λ j e. e) h

  sound_respond_or : (response : Option (List ℕ)) (t : State) (later : Reply × State) → IsSound t → IsSound later.1 → IsSound (respond_or response t later).1
  sound_respond_or None t later h k = k
  sound_respond_or (Some response) t later h k = sound_same t _ refl refl refl (λ j e. e) h

  sound_told : (why : Option End) (s : State) (later : Reply × State) → IsSound s → IsSound later.1 → IsSound (told_again why s later).1
  sound_told None s later h k = k
  sound_told (Some why) s later h k = h

  sound_emit : (s : State) → IsSound s → IsSound (emit_step M s).1
  sound_emit s h =
      let t : State = silent_passed M s in
      let there : IsSound t = sound_same s t refl refl refl (λ j e. e) h in
      sound_told s.causes.over s _ h
      (sound_over_or s.causes.halt s _ h
      (sound_over_or (cut_cause t.causes.cut t.passed) t _ there
      (sound_respond_or (response_in M (slice_get t.requests t.passed)) t _ there (sound_over_or s.causes.death t _ there there))))

  sound_answered : (s : State) (e : Event) → All AreBytes (client_frame e (answer_to M s e).0) → All AreBytes (broker_frame e) → IsSound s → IsSound (answer_to M s e).1
  sound_answered s (event.Take frame) client broker h = sound_take s h frame client
  sound_answered s (event.Answer frame) client broker h = sound_answer s h frame (broker 0 frame (omega arith))
  sound_answered s (event.Complete k i verdict) client broker h = sound_complete s h k i verdict
  sound_answered s (event.ClientEnd rest) client broker h = sound_noted s h _ (sound_client_end s h rest)
  sound_answered s (event.BrokerEnd rest) client broker h = sound_noted s h _ (sound_dead (broker_ended rest (waiting s)) s h)
  sound_answered s (event.Fault x) client broker h = sound_noted s h _ (sound_fault s h x)
  sound_answered s event.Send client broker h = answer_either s h (is_some s.causes.death || is_some s.causes.halt) _ _ h (sound_sent s h (slice_get s.sends s.taken))
  sound_answered s event.Emit client broker h = sound_emit s h
  sound_answered s event.Pick client broker h = answer_either s h (are_still s.causes) _ _ h (sound_picked s h (first_hold M s.causes.cut s.picked 0 s.requests))
  sound_answered s event.Look client broker h = h

  sound_event : (s t : State) (e : Event) (r : Reply) → All AreBytes (client_frame e r) → All AreBytes (broker_frame e) → StepOrNoMemory M s e r t → IsSound s → IsSound t
  sound_event s t e r client broker (inl step) h =
      subst IsSound step.settles.after (sound_acts step.settles.acts (answer_to M s e).1 (sound_answered s e (subst (λ q. All AreBytes (client_frame e q)) step.reply client) broker h))
  sound_event s t e r client broker (inr gives) h = subst IsSound (sym gives.halts) (sound_halted end.NoMemory s h)

  sound_from : (s t : State) (hs : List Entry) → All AreBytes (client_frames hs) → All AreBytes (broker_frames hs) → LeadsTo M s hs t → IsSound s → IsSound t
  sound_from s t [] client broker run h = subst IsSound (sym run) h
  sound_from s t (x ∷ hs) client broker run h =
      sound_from run.0 t hs (all_right AreBytes (client_frame x.event x.reply) (client_frames hs) client) (all_right AreBytes (broker_frame x.event) (broker_frames hs) broker) run.2
      (sound_event s run.0 x.event x.reply (all_left AreBytes (client_frame x.event x.reply) (client_frames hs) client) (all_left AreBytes (broker_frame x.event) (broker_frames hs) broker) run.1 h)

  sound_opening : IsSound opening
  sound_opening =
      record {
        fair = λ k r there. absurd (let z : None ≡ Some r = there in cc);
        counted = omega arith;
        pending = λ n e le is low. absurd (let z : None ≡ Some e = is in cc);
        alone = λ n m e f le lt there also same. let z : None ≡ Some e = there in cc;
        own = λ n d there. absurd (let z : None ≡ Some d = there in cc);
        apart = λ n m d f lt there also same ask. let z : None ≡ Some d = there in cc;
      }

  pub all_fair : (hs : List Entry) (s : State) → IsHistory M hs s → FramesAreBytes hs → All (IsGivenAsAwaited M) s.requests
  all_fair hs s run bytes =
      let h = sound_from opening s hs bytes.0 bytes.1 run sound_opening in
      λ k r lt. h.fair k (get_or s.requests k r) (slice_get-get_or s.requests k r lt)

  pub all_own : (hs : List Entry) (s : State) → IsHistory M hs s → FramesAreBytes hs → All (IsOwnSend M s) s.sends
  all_own hs s run bytes =
      let h = sound_from opening s hs bytes.0 bytes.1 run sound_opening in
      λ k d lt. h.own k (get_or s.sends k d) (slice_get-get_or s.sends k d lt)

  pub all_apart : (hs : List Entry) (s : State) → IsHistory M hs s → FramesAreBytes hs → AreAskedOnce s
  all_apart hs s run bytes = (sound_from opening s hs bytes.0 bytes.1 run sound_opening).apart

  pub own_at : (hs : List Entry) (s : State) → IsHistory M hs s → FramesAreBytes hs → (n : ℕ) (d : ListedSend) → slice_get s.sends n ≡ Some d → IsOwnSend M s d
  own_at hs s run bytes n d is = (sound_from opening s hs bytes.0 bytes.1 run sound_opening).own n d is
