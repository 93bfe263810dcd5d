-- The steps of calls, one after another.
use Rattle.std.proofs.Common.{◌≡◌, ◌∙◌, ℕ, ◌+◌, Bool, true, false, ◌||◌, List, [], ◌∷◌, ◌++◌, map, Option, Some, None, Result, Ok, Err, ◌⊎◌, inl, inr, subst, sym, ap, refl, arith}
use Rattle.std.specs.Prelude.{MatchBool}
use Rattle.std.specs.List.{list_any, AllByRecursion}
use Rattle.std.proofs.lemmas.List.Folds.{list_any-append}
use Rattle.std.proofs.lemmas.List.Elements.{recursion_from_All}
use Rattle.kp_edge.specs.declared.no_memory.NoMemory.{NoMemory}
use Rattle.conn_rules.specs.declared.event.Event.{Event}
use Rattle.conn_rules.specs.declared.event.Reply.{Reply}
use Rattle.conn_rules.specs.declared.event.Reply.TheVariants as reply
use Rattle.conn_rules.specs.declared.event.TakeFault.TheVariants as take_fault
use Rattle.conn_rules.specs.declared.event.AnswerFault.TheVariants as answer_fault
use Rattle.conn_rules.specs.declared.event.CompleteFault.TheVariants as complete_fault
use Rattle.conn_rules.specs.Meaning.{Meaning}
use Rattle.conn_rules.specs.State.{State}
use Rattle.conn_rules.specs.Steps.{Step, StepOrNoMemory, memory_answer, answer_to}
use Rattle.conn_rules.specs.History.{Entry, LeadsTo, IsHistory}
use Rattle.conn_rules.specs.Work.{total_work, TakesGrowth, is_accepted}
use Rattle.conn_rules.specs.Connections.{Follows, CountsWork, Brings}
use Rattle.conn_rules.specs.State.{opening}
use Rattle.conn_rules.proofs.Brings.{leads_then}
use Rattle.conn_rules.proofs.Resting.{work_stays}
use Rattle.session.specs.declared.peer.Peer.{Peer}
use Rattle.session.specs.declared.peer.Peer.TheVariants as peer
use Rattle.session.specs.declared.receipt.Receipt.{Receipt}
use Rattle.session.specs.declared.receipt.Receipt.TheVariants as receipt
use Rattle.session.specs.declared.told.Told.{Told}
use Rattle.session.specs.declared.told.Told.TheVariants as told
use Rattle.session.specs.Peers.{client_receipt, broker_receipt, frame_receipt}
use Rattle.session.specs.Streams.{Stream, with_piece, with_rest, bad_size_events, end_events}
use Rattle.session.specs.Pushes.{noted_entry, is_handed_on, IsHandedOn, Stops, IsPush}
use Rattle.session.specs.Calls.{IsClosed, TakesPiece, IsPiece, EndsLater, EndsAtOnce, Ends, IsEnd}
use Rattle.conn_rules.specs.Origins.{wants_memory}
use Rattle.session.specs.Counting.{FoundMemory, CountsGrowth, BringsCounted}

-- ---- an event at which memory was found is a step

lost_memory : (a r : Reply) → memory_answer a ≡ Some r → wants_memory r ≡ false → ⊥
lost_memory (reply.Take (Ok u)) r e found = let same : reply.Take (Err take_fault.NoMemory) ≡ r = cc in let wants : true ≡ wants_memory r = ap wants_memory same in cc
lost_memory (reply.Take (Err x)) r e found = cc
lost_memory (reply.Answer (Ok u)) r e found = let same : reply.Answer (Err answer_fault.NoMemory) ≡ r = cc in let wants : true ≡ wants_memory r = ap wants_memory same in cc
lost_memory (reply.Answer (Err x)) r e found = cc
lost_memory (reply.Complete (Ok u)) r e found = let same : reply.Complete (Err complete_fault.NoMemory) ≡ r = cc in let wants : true ≡ wants_memory r = ap wants_memory same in cc
lost_memory (reply.Complete (Err x)) r e found = cc
lost_memory reply.Noted r e found = cc
lost_memory (reply.Send x) r e found = cc
lost_memory (reply.Emit x) r e found = cc
lost_memory (reply.Pick x) r e found = cc
lost_memory (reply.Look x) r e found = cc

found_step : (M : Meaning) (s : State) (e : Event) (r : Reply) (t : State) → StepOrNoMemory M s e r t → wants_memory r ≡ false → Step M s e r t
found_step M s e r t (inl step) found = step
found_step M s e r t (inr gives) found = absurd (lost_memory (answer_to M s e).0 r gives.reply found)

or_left : (a b : Bool) → (a || b) ≡ false → a ≡ false
or_left true b e = cc
or_left false b e = refl

or_right : (a b : Bool) → (a || b) ≡ false → b ≡ false
or_right true b e = cc
or_right false b e = e

found_both : (hs ks : List Entry) → FoundMemory (hs ++ ks) → FoundMemory hs × FoundMemory ks
found_both hs ks found =
    let wants : Entry → Bool = λ h. wants_memory h.reply in
    let e : (list_any wants hs || list_any wants ks) ≡ false = sym (list_any-append wants hs ks) ∙ found in
    (or_left (list_any wants hs) (list_any wants ks) e, or_right (list_any wants hs) (list_any wants ks) e)

pub found_append : (hs ks : List Entry) → FoundMemory hs → FoundMemory ks → FoundMemory (hs ++ ks)
found_append hs ks first rest =
    let wants : Entry → Bool = λ h. wants_memory h.reply in
    list_any-append wants hs ks ∙ ap (λ b. b || list_any wants ks) first ∙ rest

-- ---- calls, one after another

growth_then : (M : Meaning) (a b c : ℕ) (s t u : State) → TakesGrowth M a b s t → TakesGrowth M b c t u → TakesGrowth M a c s u
growth_then M a b c s t u first rest = omega (arith, first, rest)

-- nothing is accepted
abbrev pub AreIdle : List Entry → Type 0
AreIdle hs = AllByRecursion (λ h. is_accepted h.reply ≡ false) hs

idle_work : (M : Meaning) (past hs : List Entry) (s t : State) → IsHistory M past s → LeadsTo M s hs t → AreIdle hs → total_work M t ≡ total_work M s
idle_work M past [] s t run leads idle = ap (total_work M) leads
idle_work M past (h ∷ hs) s t run leads idle =
    idle_work M (past ++ h ∷ []) hs leads.0 t (leads_then M opening s leads.0 past (h ∷ []) run (leads.0, leads.1, refl)) leads.2 idle.1
    ∙ work_stays M past h s leads.0 run leads.1 idle.0

module _ {C : Type 0} (meaning : C → Meaning) (stands : C → State → Type 0) where
  pub counted_none : (x : C) (n : ℕ) → BringsCounted meaning stands x [] x n n
  counted_none x n = (refl, λ s is. (s, refl, is, λ past run found. refl))

  pub counted_one : (old new : C) (h : Entry) (n m : ℕ) → Follows meaning stands old h.event h.reply new → CountsWork meaning stands old h.event h.reply n m → BringsCounted meaning stands old (h ∷ []) new n m
  counted_one old new h n m follows counts = (
    follows.0,
    λ s is.
        let f = follows.1 s is in
        (f.0, (f.0, f.1, refl), f.2, λ past run found. counts s f.0 is (found_step (meaning old) s h.event h.reply f.0 f.1 (or_left (wants_memory h.reply) false found))),
  )

  pub counted_then : (old between new : C) (hs ks : List Entry) (n m k : ℕ) → BringsCounted meaning stands old hs between n m → BringsCounted meaning stands between ks new m k → BringsCounted meaning stands old (hs ++ ks) new n k
  counted_then old between new hs ks n m k first then_ = (
    then_.0 ∙ first.0,
    λ s is.
        let M = meaning old in
        let f = first.1 s is in
        let g = then_.1 f.0 f.2 in
        let counts : CountsGrowth M f.0 ks g.0 m k = subst (λ N. CountsGrowth N f.0 ks g.0 m k) first.0 g.3 in (
          g.0,
          leads_then M s f.0 g.0 hs ks f.1 (subst (λ N. LeadsTo N f.0 ks g.0) first.0 g.1),
          g.2,
          λ past run found.
              let both = found_both hs ks found in
              growth_then M n m k s f.0 g.0 (f.3 past run both.0) (counts (past ++ hs) (leads_then M opening s f.0 past hs run f.1) both.1),
        ),
  )

  -- calls at which nothing is accepted count no step
  pub counted_idle : (old new : C) (hs : List Entry) (n : ℕ) → Brings meaning stands old hs new → AreIdle hs → BringsCounted meaning stands old hs new n n
  counted_idle old new hs n brings idle = (
    brings.0,
    λ s is.
        let b = brings.1 s is in
        (b.0, b.1, b.2, λ past run found. ap (λ w. n + w) (sym (idle_work (meaning old) past hs s b.0 run b.1 idle))),
  )

-- what is noted is no matter of work
pub noted_idle : (es : List Event) → AreIdle (map noted_entry es)
noted_idle [] = tt
noted_idle (e ∷ es) = (refl, noted_idle es)

-- ---- where a call of a station answers, the connection found memory

client_found : (r : Reply) (o : Receipt) → (o ≡ receipt.NoMemory → ⊥) → client_receipt r ≡ Some o → wants_memory r ≡ false
client_found (reply.Take (Ok u)) o not e = refl
client_found (reply.Take (Err (take_fault.Ending back))) o not e = refl
client_found (reply.Take (Err (take_fault.Full count held back))) o not e = refl
client_found (reply.Take (Err take_fault.NoMemory)) o not e = absurd (not (let same : receipt.NoMemory ≡ o = cc in sym same))
client_found (reply.Answer x) o not e = cc
client_found (reply.Complete x) o not e = cc
client_found reply.Noted o not e = cc
client_found (reply.Send x) o not e = cc
client_found (reply.Emit x) o not e = cc
client_found (reply.Pick x) o not e = cc
client_found (reply.Look x) o not e = cc

broker_found : (r : Reply) (o : Receipt) → (o ≡ receipt.NoMemory → ⊥) → broker_receipt r ≡ Some o → wants_memory r ≡ false
broker_found (reply.Answer (Ok u)) o not e = refl
broker_found (reply.Answer (Err (answer_fault.Dead back))) o not e = refl
broker_found (reply.Answer (Err answer_fault.NoMemory)) o not e = absurd (not (let same : receipt.NoMemory ≡ o = cc in sym same))
broker_found (reply.Take x) o not e = cc
broker_found (reply.Complete x) o not e = cc
broker_found reply.Noted o not e = cc
broker_found (reply.Send x) o not e = cc
broker_found (reply.Emit x) o not e = cc
broker_found (reply.Pick x) o not e = cc
broker_found (reply.Look x) o not e = cc

frame_found : (p : Peer) (r : Reply) (o : Receipt) → (o ≡ receipt.NoMemory → ⊥) → frame_receipt p r ≡ Some o → wants_memory r ≡ false
frame_found peer.Client r o not e = client_found r o not e
frame_found peer.Broker r o not e = broker_found r o not e

handed_found : (p : Peer) (r : Reply) (o : Option Receipt) → frame_receipt p r ≡ o → is_handed_on o ≡ true → wants_memory r ≡ false
handed_found p r None e is = cc
handed_found p r (Some receipt.Accepted) e is = frame_found p r receipt.Accepted (λ x. cc) e
handed_found p r (Some receipt.Refused) e is = frame_found p r receipt.Refused (λ x. cc) e
handed_found p r (Some (receipt.Full back)) e is = cc
handed_found p r (Some receipt.NoMemory) e is = cc

found_noted : (es : List Event) → FoundMemory (map noted_entry es)
found_noted [] = refl
found_noted (e ∷ es) = found_noted es

found_handed : (p : Peer) (hs : List Entry) → AllByRecursion (IsHandedOn p) hs → FoundMemory hs
found_handed p [] each = refl
found_handed p (h ∷ hs) each =
    ap (λ b. b || list_any (λ (x : Entry). wants_memory x.reply) hs) (handed_found p h.reply (frame_receipt p h.reply) refl each.0.for_good) ∙ found_handed p hs each.1

stops_found : (s t : Stream) (refused : Bool) (hs : List Entry) (answered : Told) → Stops s refused hs (Ok answered) t → FoundMemory hs
stops_found s t refused hs told.Fine stop = subst FoundMemory (sym stop.1.told) (found_noted (bad_size_events s ++ end_events s))
stops_found s t refused hs told.Closed stop = subst FoundMemory (sym stop.1.told) (found_noted (bad_size_events s ++ end_events s))
stops_found s t refused hs told.Full stop = subst FoundMemory (sym stop.entry) (ap (λ b. b || false) (frame_found s.peer stop.reply (receipt.Full stop.frame) (λ x. cc) stop.full))
stops_found s t refused hs told.NotWaiting stop = absurd stop

pub push_found : (s t : Stream) (hs : List Entry) (answered : Told) → IsPush s hs (Ok answered) t → FoundMemory hs
push_found s t hs answered push =
    subst FoundMemory (sym push.entries) (found_append push.first push.last (found_handed s.peer push.first (recursion_from_All (IsHandedOn s.peer) push.first push.delivered.entries))
    (stops_found (with_rest push.rest s) t push.refused push.last answered push.stops))

piece_case : (s t : Stream) (piece : List ℕ) (hs : List Entry) (answered : Told) (ended : Bool) → MatchBool ended (IsClosed s hs (Ok answered) t) (TakesPiece s piece hs (Ok answered) t) → FoundMemory hs
piece_case s t piece hs answered true closed = subst FoundMemory (sym closed.nothing) refl
piece_case s t piece hs answered false push = push_found (with_piece piece s) t hs answered push

pub piece_found : (s t : Stream) (piece : List ℕ) (hs : List Entry) (answered : Told) → IsPiece s piece hs (Ok answered) t → FoundMemory hs
piece_found s t piece hs answered h = piece_case s t piece hs answered s.ended h

-- the end of a stream is noted, and nothing else
ends_idle : (s t : Stream) (hs : List Entry) → EndsLater s hs t ⊎ EndsAtOnce s hs t → AreIdle hs × FoundMemory hs
ends_idle s t hs (inl later) = subst (λ ks. AreIdle ks × FoundMemory ks) (sym later.nothing) (tt, refl)
ends_idle s t hs (inr now) = subst (λ ks. AreIdle ks × FoundMemory ks) (sym now.told) ((refl, tt), refl)

end_case : (s t : Stream) (hs : List Entry) (result : Result Told NoMemory) (ended : Bool) → MatchBool ended (IsClosed s hs result t) (Ends s hs result t) → AreIdle hs × FoundMemory hs
end_case s t hs result true closed = subst (λ ks. AreIdle ks × FoundMemory ks) (sym closed.nothing) (tt, refl)
end_case s t hs result false ends = ends_idle s t hs ends.ends

pub end_idle : (s t : Stream) (hs : List Entry) (result : Result Told NoMemory) → IsEnd s hs result t → AreIdle hs × FoundMemory hs
end_idle s t hs result h = end_case s t hs result s.ended h
