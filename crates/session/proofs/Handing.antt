-- Frames that are handed on one after another, and where that stops.
use Rattle.std.proofs.Common.{◌≡◌, ℕ, Bool, true, false, ◌||◌, List, [], ◌∷◌, ◌++◌, map, Some, Result, Ok, Err, inl, inr, refl, sym, ap, ◌∙◌, subst, append_assoc, All, if◌then◌else◌}
use Rattle.std.specs.List.{flat_map, list_any}
use Rattle.std.proofs.lemmas.List.{append-nil}
use Rattle.std.proofs.lemmas.Grind.{flat_map-append}
use Rattle.std.proofs.lemmas.List.Elements.{All-append, All-cons, All-nil}
use Rattle.std.proofs.lemmas.List.Folds.{list_any-append}
use Rattle.kp_edge.specs.declared.no_memory.NoMemory.{NoMemory}
use Rattle.framing.specs.Frames.{sized, IsFrame, BeginsFrame, IsTail}
use Rattle.conn_rules.specs.declared.event.Event.TheVariants as event
use Rattle.conn_rules.specs.declared.event.Fault.TheVariants as fault
use Rattle.conn_rules.specs.declared.event.Reply.{Reply}
use Rattle.conn_rules.specs.declared.event.Reply.TheVariants as reply
use Rattle.conn_rules.specs.Meaning.{Meaning}
use Rattle.conn_rules.specs.State.{State}
use Rattle.conn_rules.specs.History.{Entry}
use Rattle.conn_rules.specs.Connections.{Follows, CountsWork, Brings}
use Rattle.conn_rules.proofs.Brings.{brings_one}
use Rattle.session.specs.declared.peer.Peer.{Peer}
use Rattle.session.specs.declared.peer.Peer.TheVariants as peer
use Rattle.session.specs.declared.receipt.Receipt.{Receipt}
use Rattle.session.specs.declared.receipt.Receipt.TheVariants as receipt
use Rattle.session.specs.declared.told.Told.{Told}
use Rattle.session.specs.declared.told.Told.TheVariants as told
use Rattle.session.specs.Peers.{least_size, most_size, frame_event, frame_receipt, frames_of_peer}
use Rattle.session.specs.Streams.{Stream, with_rest, bad_size_events, end_events, tail_told}
use Rattle.session.specs.Pushes.{entry_of, noted_entry, is_handed_on, is_refused, IsHandedOn, AreHandedOn, FrameInFront, StopsAtTail, Stops, IsPush}
use Rattle.session.specs.Counting.{BringsCounted}
use Rattle.session.proofs.Counting.{counted_none, counted_one, counted_then, counted_idle, noted_idle}
use Rattle.session.proofs.Frames.{frames_append, handed, one_frame}

-- a frame that was accepted or refused is handed on for good
passed_frame : (frame : List ℕ) (o : Receipt) → is_handed_on (Some o) ≡ true → handed frame o ≡ frame ∷ []
passed_frame frame receipt.Accepted e = refl
passed_frame frame receipt.Refused e = refl
passed_frame frame (receipt.Full back) e = cc
passed_frame frame receipt.NoMemory e = cc

pub or_false : (b : Bool) → (b || false) ≡ b
or_false true = refl
or_false false = refl

pub or_true : (b : Bool) → (b || true) ≡ true
or_true true = refl
or_true false = refl

pub no_frames : (p : Peer) → frames_of_peer p [] ≡ []
no_frames peer.Client = refl
no_frames peer.Broker = refl

pub hands_none : (before : Stream) → AreHandedOn before [] false before.rest
hands_none before =
    let none = no_frames before.peer in
    let P = IsFrame (least_size before.peer) (most_size before.peer) in
    record {
      whole = ap (λ fs. flat_map sized fs ++ before.rest) (sym none);
      each = subst (All P) (sym none) (All-nil P);
      entries = All-nil (IsHandedOn before.peer);
      refused_is = refl;
    }

pub hands_more : (before : Stream) (hs : List Entry) (refused : Bool) (rest frame behind : List ℕ) (r : Reply) (o : Receipt)
    → AreHandedOn before hs refused rest → FrameInFront (with_rest rest before) frame behind → frame_receipt before.peer r ≡ Some o → is_handed_on (Some o) ≡ true
    → AreHandedOn before (hs ++ entry_of (frame_event before.peer frame) r ∷ []) (refused || is_refused (Some o)) behind
hands_more before hs refused rest frame behind r o h front out for_good =
    let p = before.peer in
    let e : Entry = entry_of (frame_event p frame) r in
    let P = IsFrame (least_size p) (most_size p) in
    let frames : frames_of_peer p (hs ++ e ∷ []) ≡ frames_of_peer p hs ++ frame ∷ [] = frames_append p hs (e ∷ []) ∙ ap (λ fs. frames_of_peer p hs ++ fs) (one_frame p frame r o out ∙ passed_frame frame o for_good) in
    record {
      whole = h.whole ∙ ap (λ xs. flat_map sized (frames_of_peer p hs) ++ xs) (front.front ∙ ap (λ xs. xs ++ behind) (sym (append-nil (sized frame))))
          ∙ sym (append_assoc (flat_map sized (frames_of_peer p hs)) (flat_map sized (frame ∷ [])) behind)
          ∙ ap (λ xs. xs ++ behind) (sym (flat_map-append sized (frames_of_peer p hs) (frame ∷ [])) ∙ ap (flat_map sized) (sym frames));
      each = subst (All P) (sym frames) (All-append P (frames_of_peer p hs) (frame ∷ []) h.each (All-cons P frame [] front.is_frame (All-nil P)));
      entries = All-append (IsHandedOn p) hs (e ∷ []) h.entries (All-cons (IsHandedOn p) e [] (record { frame = frame; actor = refl; event = refl; for_good = ap is_handed_on out ∙ for_good }) (All-nil (IsHandedOn p)));
      refused_is = ap (λ b. b || is_refused (Some o)) h.refused_is
          ∙ ap (λ b. list_any (λ (h : Entry). is_refused (frame_receipt p h.reply)) hs || b) (sym (or_false (is_refused (Some o))) ∙ ap (λ x. is_refused x || false) (sym out))
          ∙ sym (list_any-append (λ (h : Entry). is_refused (frame_receipt p h.reply)) hs (e ∷ []));
    }

module _ {C : Type 0} (meaning : C → Meaning) (stands : C → State → Type 0) where
  -- the first frames of a stream were handed on to a connection
  pub record Handing (old : C) (before : Stream) (refused : Bool) (new : C) (now : Stream) (n m : ℕ) : Type 0 where
    pub entries : List Entry
    pub brings : BringsCounted meaning stands old entries new n m
    pub rest : List ℕ
    pub delivered : AreHandedOn before entries refused rest
    pub now_is : now ≡ with_rest rest before

  pub handing_none : (old : C) (s : Stream) (n : ℕ) → Handing old s false old s n n
  handing_none old s n = record { entries = []; brings = counted_none meaning stands old n; rest = s.rest; delivered = hands_none s; now_is = refl }

  -- the frame in front, as the stream stood at the start
  in_front : (before now : Stream) (rest frame behind : List ℕ) → now ≡ with_rest rest before → FrameInFront now frame behind → FrameInFront (with_rest rest before) frame behind
  in_front before now rest frame behind e front = subst (λ s. FrameInFront s frame behind) e front

  left_is : (before now later : Stream) (rest : List ℕ) → now ≡ with_rest rest before → later ≡ with_rest later.rest now → later ≡ with_rest later.rest before
  left_is before now later rest e f = f ∙ ap (with_rest later.rest) e

  pub handing_more : (old between new : C) (before now later : Stream) (refused : Bool) (p : Peer) (frame : List ℕ) (r : Reply) (o : Receipt) (n m k : ℕ)
      → Handing old before refused between now n m → FrameInFront now frame later.rest → later ≡ with_rest later.rest now → p ≡ later.peer
      → Follows meaning stands between (frame_event p frame) r new → CountsWork meaning stands between (frame_event p frame) r m k → frame_receipt p r ≡ Some o → is_handed_on (Some o) ≡ true
      → (closed : Bool) → (refused || is_refused (Some o)) ≡ closed
      → Handing old before closed new later n k
  handing_more old between new before now later refused p frame r o n m k h front later_is p_is follows counts out for_good closed closed_is =
      let later_of = left_is before now later h.rest h.now_is later_is in
      let same : p ≡ before.peer = p_is ∙ ap (λ (s : Stream). s.peer) later_of in
      let e : Entry = entry_of (frame_event before.peer frame) r in
      record {
        entries = h.entries ++ e ∷ [];
        brings = counted_then meaning stands old between new h.entries (e ∷ []) n m k h.brings (counted_one meaning stands between new e m k (subst (λ q. Follows meaning stands between (frame_event q frame) r new) same follows) (subst (λ q. CountsWork meaning stands between (frame_event q frame) r m k) same counts));
        rest = later.rest;
        delivered = subst (λ b. AreHandedOn before (h.entries ++ e ∷ []) b later.rest) closed_is (hands_more before h.entries refused h.rest frame later.rest r o h.delivered (in_front before now h.rest frame later.rest h.now_is front) (subst (λ q. frame_receipt q r ≡ Some o) same out) for_good);
        now_is = later_of;
      }

  -- what a push did, and how it ended
  abbrev pub Pushed : C → Stream → Result Told NoMemory → C → Stream → (n k : ℕ) → Type 0
  Pushed old before result new after n k = (hs : List Entry) × BringsCounted meaning stands old hs new n k × IsPush before hs result after

  pub pushed_full : (old between new : C) (before now later after : Stream) (refused : Bool) (p : Peer) (frame : List ℕ) (r : Reply) (n m k : ℕ)
      → Handing old before refused between now n m → FrameInFront now frame later.rest → later ≡ with_rest later.rest now → p ≡ later.peer
      → Follows meaning stands between (frame_event p frame) r new → CountsWork meaning stands between (frame_event p frame) r m k → frame_receipt p r ≡ Some (receipt.Full frame) → after ≡ with_rest (sized frame ++ later.rest) later
      → Pushed old before (Ok told.Full) new after n k
  pushed_full old between new before now later after refused p frame r n m k h front later_is p_is follows counts out after_is =
      let later_of = left_is before now later h.rest h.now_is later_is in
      let same : p ≡ before.peer = p_is ∙ ap (λ (s : Stream). s.peer) later_of in
      let e : Entry = entry_of (frame_event before.peer frame) r in
      let there = in_front before now h.rest frame later.rest h.now_is front in (
        h.entries ++ e ∷ [],
        counted_then meaning stands old between new h.entries (e ∷ []) n m k h.brings (counted_one meaning stands between new e m k (subst (λ q. Follows meaning stands between (frame_event q frame) r new) same follows) (subst (λ q. CountsWork meaning stands between (frame_event q frame) r m k) same counts)),
        record {
          first = h.entries;
          refused = refused;
          rest = h.rest;
          delivered = h.delivered;
          last = e ∷ [];
          stops = record {
            frame = frame;
            behind = later.rest;
            in_front = there;
            reply = r;
            full = subst (λ q. frame_receipt q r ≡ Some (receipt.Full frame)) same out;
            entry = refl;
            after_is = after_is ∙ ap (with_rest (sized frame ++ later.rest)) later_of ∙ ap (λ xs. with_rest xs before) (sym there.front);
          };
          entries = refl;
        },
      )

  pub pushed_lost : (old between new : C) (before now later : Stream) (refused : Bool) (p : Peer) (frame : List ℕ) (r : Reply) (e : NoMemory) (n m k : ℕ)
      → Handing old before refused between now n m → FrameInFront now frame later.rest → later ≡ with_rest later.rest now → p ≡ later.peer
      → Follows meaning stands between (frame_event p frame) r new → CountsWork meaning stands between (frame_event p frame) r m k → frame_receipt p r ≡ Some receipt.NoMemory
      → Pushed old before (Err e) new later n k
  pushed_lost old between new before now later refused p frame r why n m k h front later_is p_is follows counts out =
      let later_of = left_is before now later h.rest h.now_is later_is in
      let same : p ≡ before.peer = p_is ∙ ap (λ (s : Stream). s.peer) later_of in
      let e : Entry = entry_of (frame_event before.peer frame) r in (
        h.entries ++ e ∷ [],
        counted_then meaning stands old between new h.entries (e ∷ []) n m k h.brings (counted_one meaning stands between new e m k (subst (λ q. Follows meaning stands between (frame_event q frame) r new) same follows) (subst (λ q. CountsWork meaning stands between (frame_event q frame) r m k) same counts)),
        record {
          first = h.entries;
          refused = refused;
          rest = h.rest;
          delivered = h.delivered;
          last = e ∷ [];
          stops = inl (record {
            frame = frame;
            behind = later.rest;
            in_front = in_front before now h.rest frame later.rest h.now_is front;
            reply = r;
            wants = subst (λ q. frame_receipt q r ≡ Some receipt.NoMemory) same out;
            entry = refl;
            after_is = later_of;
          });
          entries = refl;
        },
      )

  pub pushed_kept : (old between new : C) (before now later : Stream) (refused : Bool) (e : NoMemory) (n m : ℕ)
      → Handing old before refused between now n m → BeginsFrame (least_size now.peer) (most_size now.peer) now.rest → later ≡ now
      → Follows meaning stands between (event.Fault fault.NoMemory) reply.Noted new
      → Pushed old before (Err e) new later n m
  pushed_kept old between new before now later refused why n m h begins same follows =
      let e : Entry = noted_entry (event.Fault fault.NoMemory) in (
        h.entries ++ e ∷ [],
        counted_then meaning stands old between new h.entries (e ∷ []) n m m h.brings (counted_idle meaning stands between new (e ∷ []) m (brings_one meaning stands between new e follows) (refl, tt)),
        record {
          first = h.entries;
          refused = refused;
          rest = h.rest;
          delivered = h.delivered;
          last = e ∷ [];
          stops = inr (record {
            begins = subst (λ (s : Stream). BeginsFrame (least_size s.peer) (most_size s.peer) s.rest) h.now_is begins;
            told = refl;
            after_is = same ∙ h.now_is;
          });
          entries = refl;
        },
      )

  stops_told : (refused : Bool) (now : Stream) (last : List Entry) (after : Stream) → StopsAtTail now last after → Stops now refused last (Ok (if refused then told.Closed else told.Fine)) after
  stops_told true now last after s = (refl, s)
  stops_told false now last after s = (refl, s)

  pub pushed_all : (old between new : C) (before now later after : Stream) (refused : Bool) (answered : Told) (n m : ℕ)
      → Handing old before refused between now n m → IsTail (least_size now.peer) (most_size now.peer) now.rest → later ≡ now
      → Brings meaning stands between (map noted_entry (bad_size_events later ++ end_events later)) new → after ≡ tail_told later → answered ≡ (if refused then told.Closed else told.Fine)
      → Pushed old before (Ok answered) new after n m
  pushed_all old between new before now later after refused answered n m h tail same brings after_is answered_is =
      let there : later ≡ with_rest h.rest before = same ∙ h.now_is in
      let last : List Entry = map noted_entry (bad_size_events (with_rest h.rest before) ++ end_events (with_rest h.rest before)) in (
        h.entries ++ last,
        counted_then meaning stands old between new h.entries last n m m h.brings (counted_idle meaning stands between new last m (subst (λ s. Brings meaning stands between (map noted_entry (bad_size_events s ++ end_events s)) new) there brings) (noted_idle (bad_size_events (with_rest h.rest before) ++ end_events (with_rest h.rest before)))),
        record {
          first = h.entries;
          refused = refused;
          rest = h.rest;
          delivered = h.delivered;
          last = last;
          stops = subst (λ t. Stops (with_rest h.rest before) refused last (Ok t) after) (sym answered_is) (stops_told refused (with_rest h.rest before) last after (record {
            tail_is = subst (λ (s : Stream). IsTail (least_size s.peer) (most_size s.peer) s.rest) h.now_is tail;
            told = refl;
            after_is = after_is ∙ ap tail_told there;
          }));
          entries = refl;
        },
      )
