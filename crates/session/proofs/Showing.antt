-- What is done with a stream gives the client and the broker nothing.
use Rattle.std.proofs.Common.{◌≡◌, ℕ, Bool, true, false, List, [], ◌∷◌, ◌++◌, map, Option, Some, None, Result, Ok, Err, ◌⊎◌, inl, inr, refl, ap, ◌∙◌}
use Rattle.std.specs.Prelude.{MatchBool}
use Rattle.std.specs.List.{AllByRecursion, flat_map}
use Rattle.std.proofs.lemmas.Grind.{flat_map-append}
use Rattle.std.proofs.lemmas.List.Elements.{recursion_from_All}
use Rattle.kp_edge.specs.declared.no_memory.NoMemory.{NoMemory}
use Rattle.conn_rules.specs.declared.event.Event.{Event}
use Rattle.conn_rules.specs.declared.event.Reply.{Reply}
use Rattle.conn_rules.specs.declared.event.Reply.TheVariants as reply
use Rattle.conn_rules.specs.History.{Entry, to_client, out, to_broker, sent}
use Rattle.session.specs.declared.peer.Peer.{Peer}
use Rattle.session.specs.declared.peer.Peer.TheVariants as peer
use Rattle.session.specs.declared.receipt.Receipt.{Receipt}
use Rattle.session.specs.declared.receipt.Receipt.TheVariants as receipt
use Rattle.session.specs.declared.told.Told.{Told}
use Rattle.session.specs.declared.told.Told.TheVariants as told
use Rattle.session.specs.Peers.{frame_receipt}
use Rattle.session.specs.Streams.{Stream, with_piece, with_rest, bad_size_events, end_events}
use Rattle.session.specs.Pushes.{noted_entry, is_handed_on, IsHandedOn, Stops, IsPush}
use Rattle.session.specs.Calls.{IsClosed, TakesPiece, IsPiece, EndsLater, EndsAtOnce, Ends, IsEnd}

pub out_append : (hs ks : List Entry) → out (hs ++ ks) ≡ out hs ++ out ks
out_append hs ks = flat_map-append (λ (h : Entry). to_client h.reply) hs ks

pub sent_append : (hs ks : List Entry) → sent (hs ++ ks) ≡ sent hs ++ sent ks
sent_append hs ks = flat_map-append (λ (h : Entry). to_broker h.reply) hs ks

-- a reply to a frame
receipt_silent : (p : Peer) (r : Reply) (o : Receipt) → frame_receipt p r ≡ Some o → to_client r ≡ []
receipt_silent p (reply.Take x) o e = refl
receipt_silent p (reply.Answer x) o e = refl
receipt_silent p (reply.Complete x) o e = refl
receipt_silent p reply.Noted o e = refl
receipt_silent p (reply.Send x) o e = refl
receipt_silent peer.Client (reply.Emit x) o e = cc
receipt_silent peer.Broker (reply.Emit x) o e = cc
receipt_silent p (reply.Pick x) o e = refl
receipt_silent p (reply.Look x) o e = refl

receipt_unsent : (p : Peer) (r : Reply) (o : Receipt) → frame_receipt p r ≡ Some o → to_broker r ≡ []
receipt_unsent p (reply.Take x) o e = refl
receipt_unsent p (reply.Answer x) o e = refl
receipt_unsent p (reply.Complete x) o e = refl
receipt_unsent p reply.Noted o e = refl
receipt_unsent peer.Client (reply.Send x) o e = cc
receipt_unsent peer.Broker (reply.Send x) o e = cc
receipt_unsent p (reply.Emit x) o e = refl
receipt_unsent p (reply.Pick x) o e = refl
receipt_unsent p (reply.Look x) o e = refl

passed_some : (o : Option Receipt) → is_handed_on o ≡ true → (x : Receipt) × (o ≡ Some x)
passed_some None e = cc
passed_some (Some x) e = (x, refl)

-- what replies give to a peer, where a reply to a frame and what is noted give nothing
module _ (give : Reply → List ℕ) (framed : (p : Peer) (r : Reply) (o : Receipt) → frame_receipt p r ≡ Some o → give r ≡ []) (noted : give reply.Noted ≡ []) where
  abbrev given : List Entry → List ℕ
  given hs = flat_map (λ h. give h.reply) hs

  noted_gives : (es : List Event) → given (map noted_entry es) ≡ []
  noted_gives [] = refl
  noted_gives (e ∷ es) = ap (λ xs. xs ++ given (map noted_entry es)) noted ∙ noted_gives es

  passed_gives : (p : Peer) (hs : List Entry) → AllByRecursion (IsHandedOn p) hs → given hs ≡ []
  passed_gives p [] each = refl
  passed_gives p (h ∷ hs) each =
      let o = passed_some (frame_receipt p h.reply) each.0.for_good in
      ap (λ xs. xs ++ given hs) (framed p h.reply o.0 o.1) ∙ passed_gives p hs each.1

  stops_gives : (s t : Stream) (refused : Bool) (hs : List Entry) (result : Result Told NoMemory) → Stops s refused hs result t → given hs ≡ []
  stops_gives s t refused hs (Ok told.Fine) stop = ap given stop.1.told ∙ noted_gives (bad_size_events s ++ end_events s)
  stops_gives s t refused hs (Ok told.Closed) stop = ap given stop.1.told ∙ noted_gives (bad_size_events s ++ end_events s)
  stops_gives s t refused hs (Ok told.Full) stop = ap given stop.entry ∙ ap (λ xs. xs ++ []) (framed s.peer stop.reply (receipt.Full stop.frame) stop.full)
  stops_gives s t refused hs (Ok told.NotWaiting) stop = absurd stop
  stops_gives s t refused hs (Err e) (inl lost) = ap given lost.entry ∙ ap (λ xs. xs ++ []) (framed s.peer lost.reply receipt.NoMemory lost.wants)
  stops_gives s t refused hs (Err e) (inr kept) = ap given kept.told ∙ ap (λ xs. xs ++ []) noted

  push_gives : (s t : Stream) (hs : List Entry) (result : Result Told NoMemory) → IsPush s hs result t → given hs ≡ []
  push_gives s t hs result push =
      ap given push.entries ∙ flat_map-append (λ (h : Entry). give h.reply) push.first push.last
      ∙ ap (λ xs. xs ++ given push.last) (passed_gives s.peer push.first (recursion_from_All (IsHandedOn s.peer) push.first push.delivered.entries))
      ∙ stops_gives (with_rest push.rest s) t push.refused push.last result push.stops

  piece_case : (s t : Stream) (piece : List ℕ) (hs : List Entry) (answered : Told) (ended : Bool) → MatchBool ended (IsClosed s hs (Ok answered) t) (TakesPiece s piece hs (Ok answered) t) → given hs ≡ []
  piece_case s t piece hs answered true closed = ap given closed.nothing
  piece_case s t piece hs answered false push = push_gives (with_piece piece s) t hs (Ok answered) push

  ends_gives : (s t : Stream) (hs : List Entry) → EndsLater s hs t ⊎ EndsAtOnce s hs t → given hs ≡ []
  ends_gives s t hs (inl later) = ap given later.nothing
  ends_gives s t hs (inr now) = ap given now.told ∙ ap (λ xs. xs ++ []) noted

  end_case : (s t : Stream) (hs : List Entry) (result : Result Told NoMemory) (ended : Bool) → MatchBool ended (IsClosed s hs result t) (Ends s hs result t) → given hs ≡ []
  end_case s t hs result true closed = ap given closed.nothing
  end_case s t hs result false ends = ends_gives s t hs ends.ends

pub push_silent : (s t : Stream) (hs : List Entry) (result : Result Told NoMemory) → IsPush s hs result t → out hs ≡ []
push_silent s t hs result push = push_gives to_client receipt_silent refl s t hs result push

pub piece_silent : (s t : Stream) (piece : List ℕ) (hs : List Entry) (answered : Told) → IsPiece s piece hs (Ok answered) t → out hs ≡ []
piece_silent s t piece hs answered h = piece_case to_client receipt_silent refl s t piece hs answered s.ended h

pub end_silent : (s t : Stream) (hs : List Entry) (result : Result Told NoMemory) → IsEnd s hs result t → out hs ≡ []
end_silent s t hs result h = end_case to_client receipt_silent refl s t hs result s.ended h

pub push_unsent : (s t : Stream) (hs : List Entry) (result : Result Told NoMemory) → IsPush s hs result t → sent hs ≡ []
push_unsent s t hs result push = push_gives to_broker receipt_unsent refl s t hs result push

pub piece_unsent : (s t : Stream) (piece : List ℕ) (hs : List Entry) (answered : Told) → IsPiece s piece hs (Ok answered) t → sent hs ≡ []
piece_unsent s t piece hs answered h = piece_case to_broker receipt_unsent refl s t piece hs answered s.ended h

pub end_unsent : (s t : Stream) (hs : List Entry) (result : Result Told NoMemory) → IsEnd s hs result t → sent hs ≡ []
end_unsent s t hs result h = end_case to_broker receipt_unsent refl s t hs result s.ended h

-- ---- whether a stream has ended

stops_ended : (s t : Stream) (refused : Bool) (hs : List Entry) (result : Result Told NoMemory) → Stops s refused hs result t → t.ended ≡ s.ended
stops_ended s t refused hs (Ok told.Fine) stop = ap (λ (x : Stream). x.ended) stop.1.after_is
stops_ended s t refused hs (Ok told.Closed) stop = ap (λ (x : Stream). x.ended) stop.1.after_is
stops_ended s t refused hs (Ok told.Full) stop = ap (λ (x : Stream). x.ended) stop.after_is
stops_ended s t refused hs (Ok told.NotWaiting) stop = absurd stop
stops_ended s t refused hs (Err e) (inl lost) = ap (λ (x : Stream). x.ended) lost.after_is
stops_ended s t refused hs (Err e) (inr kept) = ap (λ (x : Stream). x.ended) kept.after_is

pub push_ended : (s t : Stream) (hs : List Entry) (result : Result Told NoMemory) → IsPush s hs result t → t.ended ≡ s.ended
push_ended s t hs result push = stops_ended (with_rest push.rest s) t push.refused push.last result push.stops

piece_ended_case : (s t : Stream) (piece : List ℕ) (hs : List Entry) (answered : Told) (ended : Bool) → MatchBool ended (IsClosed s hs (Ok answered) t) (TakesPiece s piece hs (Ok answered) t) → t.ended ≡ s.ended
piece_ended_case s t piece hs answered true closed = ap (λ (x : Stream). x.ended) closed.same
piece_ended_case s t piece hs answered false push = push_ended (with_piece piece s) t hs (Ok answered) push

pub piece_ended : (s t : Stream) (piece : List ℕ) (hs : List Entry) (answered : Told) → IsPiece s piece hs (Ok answered) t → t.ended ≡ s.ended
piece_ended s t piece hs answered h = piece_ended_case s t piece hs answered s.ended h

ends_ended : (s t : Stream) (hs : List Entry) → EndsLater s hs t ⊎ EndsAtOnce s hs t → t.ended ≡ true
ends_ended s t hs (inl later) = ap (λ (x : Stream). x.ended) later.after_is
ends_ended s t hs (inr now) = ap (λ (x : Stream). x.ended) now.after_is

end_ended_case : (s t : Stream) (hs : List Entry) (result : Result Told NoMemory) (ended : Bool) → s.ended ≡ ended → MatchBool ended (IsClosed s hs result t) (Ends s hs result t) → t.ended ≡ true
end_ended_case s t hs result true is closed = ap (λ (x : Stream). x.ended) closed.same ∙ is
end_ended_case s t hs result false is ends = ends_ended s t hs ends.ends

pub end_ended : (s t : Stream) (hs : List Entry) (result : Result Told NoMemory) → IsEnd s hs result t → t.ended ≡ true
end_ended s t hs result h = end_ended_case s t hs result s.ended refl h
