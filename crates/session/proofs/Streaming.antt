-- The frames that were handed on are the first of their stream.
use Rattle.std.proofs.Common.{◌≡◌, ℕ, ◌+◌, Bool, true, false, List, [], ◌∷◌, ◌++◌, length, map, Option, Some, None, Result, Ok, Err, ◌⊎◌, inl, inr, refl, sym, ap, ◌∙◌, subst, append_assoc, length-append, All, ◌&&◌, not, if◌then◌else◌, option_map}
use Rattle.std.specs.Prelude.{MatchBool}
use Rattle.std.specs.List.{flat_map, AllByRecursion}
use Rattle.std.specs.Option.{option_to_list}
use Rattle.std.proofs.lemmas.List.{append-nil}
use Rattle.std.proofs.lemmas.Grind.{flat_map-append}
use Rattle.std.proofs.lemmas.List.Elements.{All-append, All-cons, All-nil, recursion_from_All}
use Rattle.kp_edge.specs.declared.no_memory.NoMemory.{NoMemory}
use Rattle.framing.specs.Frames.{sized, IsFrame, IsTail}
use Rattle.framing.specs.Cuts.{Cuts}
use Rattle.framing.proofs.Cutting.{first_frames_of_a_cut}
use Rattle.conn_rules.specs.declared.event.Event.{Event}
use Rattle.conn_rules.specs.declared.event.Event.TheVariants as event
use Rattle.conn_rules.specs.declared.event.Fault.{Fault}
use Rattle.conn_rules.specs.declared.event.Fault.TheVariants as fault
use Rattle.conn_rules.specs.declared.event.Reply.{Reply}
use Rattle.conn_rules.specs.History.{Entry, AreFirst, client_frame, broker_frame}
use Rattle.session.specs.declared.peer.Peer.{Peer}
use Rattle.session.specs.declared.peer.Peer.TheVariants as peer
use Rattle.session.specs.declared.receipt.Receipt.TheVariants as receipt
use Rattle.session.specs.declared.told.Told.{Told}
use Rattle.session.specs.declared.told.Told.TheVariants as told
use Rattle.session.specs.Peers.{least_size, most_size, frame_event, end_event, frames_of_peer}
use Rattle.session.specs.Streams.{Stream, fresh_stream, other_peer, with_piece, with_rest, tail_fault, bad_size_events, end_events, IsStreamOf}
use Rattle.session.specs.Pushes.{entry_of, noted_entry, IsHandedOn, StopsAtTail, StopsAtFull, LosesFrame, KeepsFrame, Stops, IsPush}
use Rattle.session.specs.Calls.{IsClosed, TakesPiece, IsPiece, EndsLater, EndsAtOnce, Ends, IsEnd}
use Rattle.session.proofs.Frames.{frames_append, one_frame}
use Rattle.session.proofs.Handing.{no_frames}

fault_frames : (p : Peer) (x : Fault) → frames_of_peer p (noted_entry (event.Fault x) ∷ []) ≡ []
fault_frames peer.Client x = refl
fault_frames peer.Broker x = refl

end_frames : (p q : Peer) (n : ℕ) → frames_of_peer p (noted_entry (end_event q n) ∷ []) ≡ []
end_frames peer.Client peer.Client n = refl
end_frames peer.Client peer.Broker n = refl
end_frames peer.Broker peer.Client n = refl
end_frames peer.Broker peer.Broker n = refl

bad_size_frames : (p : Peer) (told : Bool) (o : Option Fault) → frames_of_peer p (map noted_entry (if told then [] else option_to_list (option_map event.Fault o))) ≡ []
bad_size_frames p true o = no_frames p
bad_size_frames p false None = no_frames p
bad_size_frames p false (Some x) = fault_frames p x

end_once_frames : (p q : Peer) (b : Bool) (n : ℕ) → frames_of_peer p (map noted_entry (if b then end_event q n ∷ [] else [])) ≡ []
end_once_frames p q true n = end_frames p q n
end_once_frames p q false n = no_frames p

map_append : (es fs : List Event) → map noted_entry (es ++ fs) ≡ map noted_entry es ++ map noted_entry fs
map_append [] fs = refl
map_append (e ∷ es) fs = ap (λ hs. noted_entry e ∷ hs) (map_append es fs)

-- what stands behind the frames hands on none
tail_frames : (p : Peer) (s : Stream) → frames_of_peer p (map noted_entry (bad_size_events s ++ end_events s)) ≡ []
tail_frames p s =
    ap (frames_of_peer p) (map_append (bad_size_events s) (end_events s)) ∙ frames_append p (map noted_entry (bad_size_events s)) (map noted_entry (end_events s))
    ∙ ap (λ fs. fs ++ frames_of_peer p (map noted_entry (end_events s))) (bad_size_frames p s.bad_told (tail_fault s)) ∙ end_once_frames p s.peer (s.ended && not s.end_told) (length s.rest)

-- the entries hand on the frames at the front of a stream, and leave the rest
record Leaves (s : Stream) (hs : List Entry) (t : Stream) : Type 0 where
  whole : s.rest ≡ flat_map sized (frames_of_peer s.peer hs) ++ t.rest
  each : All (IsFrame (least_size s.peer) (most_size s.peer)) (frames_of_peer s.peer hs)
  peer_is : t.peer ≡ s.peer
  came : t.came ≡ s.came

leaves_all : (s t : Stream) (hs : List Entry) → frames_of_peer s.peer hs ≡ [] → t.rest ≡ s.rest → t.peer ≡ s.peer → t.came ≡ s.came → Leaves s hs t
leaves_all s t hs none rest peer came =
    record {
      whole = sym rest ∙ ap (λ fs. flat_map sized fs ++ t.rest) (sym none);
      each = subst (All (IsFrame (least_size s.peer) (most_size s.peer))) (sym none) (All-nil (IsFrame (least_size s.peer) (most_size s.peer)));
      peer_is = peer;
      came = came;
    }

leaves_tail : (s t : Stream) (hs : List Entry) → StopsAtTail s hs t → Leaves s hs t
leaves_tail s t hs stop =
    leaves_all s t hs (ap (frames_of_peer s.peer) stop.told ∙ tail_frames s.peer s) (ap (λ (x : Stream). x.rest) stop.after_is) (ap (λ (x : Stream). x.peer) stop.after_is) (ap (λ (x : Stream). x.came) stop.after_is)

leaves_full : (s t : Stream) (hs : List Entry) → StopsAtFull s hs t → Leaves s hs t
leaves_full s t hs stop =
    leaves_all s t hs (ap (frames_of_peer s.peer) stop.entry ∙ one_frame s.peer stop.frame stop.reply (receipt.Full stop.frame) stop.full) (ap (λ (x : Stream). x.rest) stop.after_is) (ap (λ (x : Stream). x.peer) stop.after_is) (ap (λ (x : Stream). x.came) stop.after_is)

leaves_kept : (s t : Stream) (hs : List Entry) → KeepsFrame s hs t → Leaves s hs t
leaves_kept s t hs stop =
    leaves_all s t hs (ap (frames_of_peer s.peer) stop.told ∙ fault_frames s.peer fault.NoMemory) (ap (λ (x : Stream). x.rest) stop.after_is) (ap (λ (x : Stream). x.peer) stop.after_is) (ap (λ (x : Stream). x.came) stop.after_is)

leaves_lost : (s t : Stream) (hs : List Entry) → LosesFrame s hs t → Leaves s hs t
leaves_lost s t hs stop =
    let one : frames_of_peer s.peer hs ≡ stop.frame ∷ [] = ap (frames_of_peer s.peer) stop.entry ∙ one_frame s.peer stop.frame stop.reply receipt.NoMemory stop.wants in
    let P = IsFrame (least_size s.peer) (most_size s.peer) in
    record {
      whole = stop.in_front.front ∙ ap (λ xs. xs ++ stop.behind) (sym (append-nil (sized stop.frame))) ∙ ap (λ fs. flat_map sized fs ++ stop.behind) (sym one) ∙ ap (λ (x : Stream). flat_map sized (frames_of_peer s.peer hs) ++ x.rest) (sym stop.after_is);
      each = subst (All P) (sym one) (All-cons P stop.frame [] stop.in_front.is_frame (All-nil P));
      peer_is = ap (λ (x : Stream). x.peer) stop.after_is;
      came = ap (λ (x : Stream). x.came) stop.after_is;
    }

leaves_at_stop : (s t : Stream) (refused : Bool) (hs : List Entry) (result : Result Told NoMemory) → Stops s refused hs result t → Leaves s hs t
leaves_at_stop s t refused hs (Ok told.Fine) stop = leaves_tail s t hs stop.1
leaves_at_stop s t refused hs (Ok told.Closed) stop = leaves_tail s t hs stop.1
leaves_at_stop s t refused hs (Ok told.Full) stop = leaves_full s t hs stop
leaves_at_stop s t refused hs (Ok told.NotWaiting) stop = absurd stop
leaves_at_stop s t refused hs (Err e) (inl lost) = leaves_lost s t hs lost
leaves_at_stop s t refused hs (Err e) (inr kept) = leaves_kept s t hs kept

leaves_push : (s t : Stream) (hs : List Entry) (result : Result Told NoMemory) → IsPush s hs result t → Leaves s hs t
leaves_push s t hs result push =
    let p = s.peer in
    let P = IsFrame (least_size p) (most_size p) in
    let stop = leaves_at_stop (with_rest push.rest s) t push.refused push.last result push.stops in
    let frames : frames_of_peer p hs ≡ frames_of_peer p push.first ++ frames_of_peer p push.last = ap (frames_of_peer p) push.entries ∙ frames_append p push.first push.last in
    record {
      whole = push.delivered.whole ∙ ap (λ xs. flat_map sized (frames_of_peer p push.first) ++ xs) stop.whole
          ∙ sym (append_assoc (flat_map sized (frames_of_peer p push.first)) (flat_map sized (frames_of_peer p push.last)) t.rest)
          ∙ ap (λ xs. xs ++ t.rest) (sym (flat_map-append sized (frames_of_peer p push.first) (frames_of_peer p push.last)) ∙ ap (flat_map sized) (sym frames));
      each = subst (All P) (sym frames) (All-append P (frames_of_peer p push.first) (frames_of_peer p push.last) push.delivered.each stop.each);
      peer_is = stop.peer_is;
      came = stop.came;
    }

goes_on : (bytes : List ℕ) (hs ks : List Entry) (s t : Stream) → IsStreamOf bytes hs s → Leaves s ks t → IsStreamOf bytes (hs ++ ks) t
goes_on bytes hs ks s t is more =
    let p = s.peer in
    let P = IsFrame (least_size p) (most_size p) in
    let frames : frames_of_peer p (hs ++ ks) ≡ frames_of_peer p hs ++ frames_of_peer p ks = frames_append p hs ks in
    let whole : bytes ≡ flat_map sized (frames_of_peer p (hs ++ ks)) ++ t.rest = is.whole ∙ ap (λ xs. flat_map sized (frames_of_peer p hs) ++ xs) more.whole
    ∙ sym (append_assoc (flat_map sized (frames_of_peer p hs)) (flat_map sized (frames_of_peer p ks)) t.rest)
    ∙ ap (λ xs. xs ++ t.rest) (sym (flat_map-append sized (frames_of_peer p hs) (frames_of_peer p ks)) ∙ ap (flat_map sized) (sym frames)) in
    let each : All P (frames_of_peer p (hs ++ ks)) = subst (All P) (sym frames) (All-append P (frames_of_peer p hs) (frames_of_peer p ks) is.each more.each) in
    record {
      whole = subst (λ q. bytes ≡ flat_map sized (frames_of_peer q (hs ++ ks)) ++ t.rest) (sym more.peer_is) whole;
      each = subst (λ q. All (IsFrame (least_size q) (most_size q)) (frames_of_peer q (hs ++ ks))) (sym more.peer_is) each;
      came = more.came ∙ is.came;
    }

pub stream_fresh : (p : Peer) → IsStreamOf [] [] (fresh_stream p)
stream_fresh p =
    record {
      whole = ap (λ fs. flat_map sized fs ++ []) (sym (no_frames p));
      each = subst (All (IsFrame (least_size p) (most_size p))) (sym (no_frames p)) (All-nil (IsFrame (least_size p) (most_size p)));
      came = refl;
    }

pub stream_push : (bytes : List ℕ) (hs ks : List Entry) (s t : Stream) (result : Result Told NoMemory) → IsStreamOf bytes hs s → IsPush s ks result t → IsStreamOf bytes (hs ++ ks) t
stream_push bytes hs ks s t result is push = goes_on bytes hs ks s t is (leaves_push s t ks result push)

-- entries that hand on nothing of this stream
pub stream_elsewhere : (bytes : List ℕ) (hs ks : List Entry) (s : Stream) → IsStreamOf bytes hs s → frames_of_peer s.peer ks ≡ [] → IsStreamOf bytes (hs ++ ks) s
stream_elsewhere bytes hs ks s is none = goes_on bytes hs ks s s is (leaves_all s s ks none refl refl refl)

stream_fed : (bytes piece : List ℕ) (hs : List Entry) (s : Stream) → IsStreamOf bytes hs s → IsStreamOf (bytes ++ piece) hs (with_piece piece s)
stream_fed bytes piece hs s is =
    record {
      whole = ap (λ xs. xs ++ piece) is.whole ∙ append_assoc (flat_map sized (frames_of_peer s.peer hs)) s.rest piece;
      each = is.each;
      came = ap (λ n. n + length piece) is.came ∙ sym (length-append bytes piece);
    }

stream_same : (bytes : List ℕ) (hs ks : List Entry) (s t : Stream) → IsStreamOf bytes hs s → ks ≡ [] → t ≡ s → IsStreamOf bytes (hs ++ ks) t
stream_same bytes hs ks s t is none same = goes_on bytes hs ks s t is (leaves_all s t ks (ap (frames_of_peer s.peer) none ∙ no_frames s.peer) (ap (λ (x : Stream). x.rest) same) (ap (λ (x : Stream). x.peer) same) (ap (λ (x : Stream). x.came) same))

-- the bytes of a stream once a piece came: none more once it has ended
abbrev pub bytes_with : Bool → List ℕ → List ℕ → List ℕ
bytes_with ended bytes piece = if ended then bytes else (bytes ++ piece)

piece_case : (bytes piece : List ℕ) (hs ks : List Entry) (s t : Stream) (answered : Told) (ended : Bool) → IsStreamOf bytes hs s → MatchBool ended (IsClosed s ks (Ok answered) t) (TakesPiece s piece ks (Ok answered) t) → IsStreamOf (bytes_with ended bytes piece) (hs ++ ks) t
piece_case bytes piece hs ks s t answered true is closed = stream_same bytes hs ks s t is closed.nothing closed.same
piece_case bytes piece hs ks s t answered false is push = stream_push (bytes ++ piece) hs ks (with_piece piece s) t (Ok answered) (stream_fed bytes piece hs s is) push

pub stream_piece : (bytes piece : List ℕ) (hs ks : List Entry) (s t : Stream) (answered : Told) → IsStreamOf bytes hs s → IsPiece s piece ks (Ok answered) t → IsStreamOf (bytes_with s.ended bytes piece) (hs ++ ks) t
stream_piece bytes piece hs ks s t answered is h = piece_case bytes piece hs ks s t answered s.ended is h

-- where memory was wanting, the piece came or it did not
lost_case : (bytes piece : List ℕ) (hs ks : List Entry) (s t : Stream) (e : NoMemory) (ended : Bool) → IsStreamOf bytes hs s → MatchBool ended (IsClosed s ks (Err e) t) (TakesPiece s piece ks (Err e) t) → IsStreamOf (bytes ++ piece) (hs ++ ks) t ⊎ IsStreamOf bytes (hs ++ ks) t
lost_case bytes piece hs ks s t e true is closed = let no = closed.answered in cc
lost_case bytes piece hs ks s t e false is (inl push) = inl (stream_push (bytes ++ piece) hs ks (with_piece piece s) t (Err e) (stream_fed bytes piece hs s is) push)
lost_case bytes piece hs ks s t e false is (inr lost) =
    inr (goes_on bytes hs ks s t is (leaves_all s t ks (ap (frames_of_peer s.peer) lost.told ∙ fault_frames s.peer fault.NoMemory) (ap (λ (x : Stream). x.rest) lost.same) (ap (λ (x : Stream). x.peer) lost.same) (ap (λ (x : Stream). x.came) lost.same)))

pub stream_piece_lost : (bytes piece : List ℕ) (hs ks : List Entry) (s t : Stream) (e : NoMemory) → IsStreamOf bytes hs s → IsPiece s piece ks (Err e) t → IsStreamOf (bytes ++ piece) (hs ++ ks) t ⊎ IsStreamOf bytes (hs ++ ks) t
stream_piece_lost bytes piece hs ks s t e is h = lost_case bytes piece hs ks s t e s.ended is h

ends_case : (bytes : List ℕ) (hs ks : List Entry) (s t : Stream) → IsStreamOf bytes hs s → EndsLater s ks t ⊎ EndsAtOnce s ks t → IsStreamOf bytes (hs ++ ks) t
ends_case bytes hs ks s t is (inl later) =
    goes_on bytes hs ks s t is (leaves_all s t ks (ap (frames_of_peer s.peer) later.nothing ∙ no_frames s.peer) (ap (λ (x : Stream). x.rest) later.after_is) (ap (λ (x : Stream). x.peer) later.after_is) (ap (λ (x : Stream). x.came) later.after_is))
ends_case bytes hs ks s t is (inr now) =
    goes_on bytes hs ks s t is (leaves_all s t ks (ap (frames_of_peer s.peer) now.told ∙ end_frames s.peer s.peer (length s.rest)) (ap (λ (x : Stream). x.rest) now.after_is) (ap (λ (x : Stream). x.peer) now.after_is) (ap (λ (x : Stream). x.came) now.after_is))

end_case : (bytes : List ℕ) (hs ks : List Entry) (s t : Stream) (result : Result Told NoMemory) (ended : Bool) → IsStreamOf bytes hs s → MatchBool ended (IsClosed s ks result t) (Ends s ks result t) → IsStreamOf bytes (hs ++ ks) t
end_case bytes hs ks s t result true is closed = stream_same bytes hs ks s t is closed.nothing closed.same
end_case bytes hs ks s t result false is ends = ends_case bytes hs ks s t is ends.ends

pub stream_end : (bytes : List ℕ) (hs ks : List Entry) (s t : Stream) (result : Result Told NoMemory) → IsStreamOf bytes hs s → IsEnd s ks result t → IsStreamOf bytes (hs ++ ks) t
stream_end bytes hs ks s t result is h = end_case bytes hs ks s t result s.ended is h

pub stream_cut : (bytes : List ℕ) (hs : List Entry) (s : Stream) (frames : List (List ℕ)) (tail : List ℕ) → IsStreamOf bytes hs s → Cuts (least_size s.peer) (most_size s.peer) bytes frames tail → AreFirst (frames_of_peer s.peer hs) frames
stream_cut bytes hs s frames tail is cut = first_frames_of_a_cut (least_size s.peer) (most_size s.peer) bytes (frames_of_peer s.peer hs) frames s.rest tail is.each is.whole cut

pub stream_whole : (bytes : List ℕ) (hs : List Entry) (s : Stream) → IsStreamOf bytes hs s → IsTail (least_size s.peer) (most_size s.peer) s.rest → Cuts (least_size s.peer) (most_size s.peer) bytes (frames_of_peer s.peer hs) s.rest
stream_whole bytes hs s is tail = record { whole = is.whole; each = is.each; tail_is = tail }

-- ---- what is done with one stream hands on nothing of the other

other_frame : (p : Peer) (frame : List ℕ) (r : Reply) → frames_of_peer (other_peer p) (entry_of (frame_event p frame) r ∷ []) ≡ []
other_frame peer.Client frame r = refl
other_frame peer.Broker frame r = refl

other_stops : (s t : Stream) (refused : Bool) (hs : List Entry) (result : Result Told NoMemory) → Stops s refused hs result t → frames_of_peer (other_peer s.peer) hs ≡ []
other_stops s t refused hs (Ok told.Fine) stop = ap (frames_of_peer (other_peer s.peer)) stop.1.told ∙ tail_frames (other_peer s.peer) s
other_stops s t refused hs (Ok told.Closed) stop = ap (frames_of_peer (other_peer s.peer)) stop.1.told ∙ tail_frames (other_peer s.peer) s
other_stops s t refused hs (Ok told.Full) stop = ap (frames_of_peer (other_peer s.peer)) stop.entry ∙ other_frame s.peer stop.frame stop.reply
other_stops s t refused hs (Ok told.NotWaiting) stop = absurd stop
other_stops s t refused hs (Err e) (inl lost) = ap (frames_of_peer (other_peer s.peer)) lost.entry ∙ other_frame s.peer lost.frame lost.reply
other_stops s t refused hs (Err e) (inr kept) = ap (frames_of_peer (other_peer s.peer)) kept.told ∙ fault_frames (other_peer s.peer) fault.NoMemory

other_one : (p : Peer) (h : Entry) → IsHandedOn p h → frames_of_peer (other_peer p) (h ∷ []) ≡ []
other_one peer.Client h is = ap (λ e. broker_frame e ++ []) is.event
other_one peer.Broker h is = ap (λ e. client_frame e h.reply ++ []) is.event

other_passed : (p : Peer) (hs : List Entry) → AllByRecursion (IsHandedOn p) hs → frames_of_peer (other_peer p) hs ≡ []
other_passed p [] each = no_frames (other_peer p)
other_passed p (h ∷ hs) each = frames_append (other_peer p) (h ∷ []) hs ∙ ap (λ fs. fs ++ frames_of_peer (other_peer p) hs) (other_one p h each.0) ∙ other_passed p hs each.1

pub other_push : (s t : Stream) (ks : List Entry) (result : Result Told NoMemory) → IsPush s ks result t → frames_of_peer (other_peer s.peer) ks ≡ []
other_push s t ks result push =
    let q = other_peer s.peer in
    ap (frames_of_peer q) push.entries ∙ frames_append q push.first push.last
    ∙ ap (λ fs. fs ++ frames_of_peer q push.last) (other_passed s.peer push.first (recursion_from_All (IsHandedOn s.peer) push.first push.delivered.entries))
    ∙ other_stops (with_rest push.rest s) t push.refused push.last result push.stops

other_taken : (s t : Stream) (piece : List ℕ) (ks : List Entry) (result : Result Told NoMemory) → TakesPiece s piece ks result t → frames_of_peer (other_peer s.peer) ks ≡ []
other_taken s t piece ks (Ok answered) push = other_push (with_piece piece s) t ks (Ok answered) push
other_taken s t piece ks (Err e) (inl push) = other_push (with_piece piece s) t ks (Err e) push
other_taken s t piece ks (Err e) (inr lost) = ap (frames_of_peer (other_peer s.peer)) lost.told ∙ fault_frames (other_peer s.peer) fault.NoMemory

other_piece_case : (s t : Stream) (piece : List ℕ) (ks : List Entry) (result : Result Told NoMemory) (ended : Bool) → MatchBool ended (IsClosed s ks result t) (TakesPiece s piece ks result t) → frames_of_peer (other_peer s.peer) ks ≡ []
other_piece_case s t piece ks result true closed = ap (frames_of_peer (other_peer s.peer)) closed.nothing ∙ no_frames (other_peer s.peer)
other_piece_case s t piece ks result false takes = other_taken s t piece ks result takes

pub other_piece : (s t : Stream) (piece : List ℕ) (ks : List Entry) (result : Result Told NoMemory) → IsPiece s piece ks result t → frames_of_peer (other_peer s.peer) ks ≡ []
other_piece s t piece ks result h = other_piece_case s t piece ks result s.ended h

other_ends : (s t : Stream) (ks : List Entry) → EndsLater s ks t ⊎ EndsAtOnce s ks t → frames_of_peer (other_peer s.peer) ks ≡ []
other_ends s t ks (inl later) = ap (frames_of_peer (other_peer s.peer)) later.nothing ∙ no_frames (other_peer s.peer)
other_ends s t ks (inr now) = ap (frames_of_peer (other_peer s.peer)) now.told ∙ end_frames (other_peer s.peer) s.peer (length s.rest)

other_end_case : (s t : Stream) (ks : List Entry) (result : Result Told NoMemory) (ended : Bool) → MatchBool ended (IsClosed s ks result t) (Ends s ks result t) → frames_of_peer (other_peer s.peer) ks ≡ []
other_end_case s t ks result true closed = ap (frames_of_peer (other_peer s.peer)) closed.nothing ∙ no_frames (other_peer s.peer)
other_end_case s t ks result false ends = other_ends s t ks ends.ends

pub other_end : (s t : Stream) (ks : List Entry) (result : Result Told NoMemory) → IsEnd s ks result t → frames_of_peer (other_peer s.peer) ks ≡ []
other_end s t ks result h = other_end_case s t ks result s.ended h

-- ---- whose stream it is

pub push_peer : (s t : Stream) (ks : List Entry) (result : Result Told NoMemory) → IsPush s ks result t → t.peer ≡ s.peer
push_peer s t ks result push = (leaves_push s t ks result push).peer_is

piece_peer_case : (s t : Stream) (piece : List ℕ) (ks : List Entry) (answered : Told) (ended : Bool) → MatchBool ended (IsClosed s ks (Ok answered) t) (TakesPiece s piece ks (Ok answered) t) → t.peer ≡ s.peer
piece_peer_case s t piece ks answered true closed = ap (λ (x : Stream). x.peer) closed.same
piece_peer_case s t piece ks answered false push = push_peer (with_piece piece s) t ks (Ok answered) push

pub piece_peer : (s t : Stream) (piece : List ℕ) (ks : List Entry) (answered : Told) → IsPiece s piece ks (Ok answered) t → t.peer ≡ s.peer
piece_peer s t piece ks answered h = piece_peer_case s t piece ks answered s.ended h

ends_peer : (s t : Stream) (ks : List Entry) → EndsLater s ks t ⊎ EndsAtOnce s ks t → t.peer ≡ s.peer
ends_peer s t ks (inl later) = ap (λ (x : Stream). x.peer) later.after_is
ends_peer s t ks (inr now) = ap (λ (x : Stream). x.peer) now.after_is

end_peer_case : (s t : Stream) (ks : List Entry) (result : Result Told NoMemory) (ended : Bool) → MatchBool ended (IsClosed s ks result t) (Ends s ks result t) → t.peer ≡ s.peer
end_peer_case s t ks result true closed = ap (λ (x : Stream). x.peer) closed.same
end_peer_case s t ks result false ends = ends_peer s t ks ends.ends

pub end_peer : (s t : Stream) (ks : List Entry) (result : Result Told NoMemory) → IsEnd s ks result t → t.peer ≡ s.peer
end_peer s t ks result h = end_peer_case s t ks result s.ended h
