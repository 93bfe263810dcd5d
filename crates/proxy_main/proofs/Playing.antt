-- One line more of a script: what it does goes on from what the lines before it did.
use Rattle.std.proofs.Common.{◌≡◌, ℕ, Bool, true, false, ◌||◌, List, [], ◌∷◌, ◌++◌, map, Some, None, Ok, Err, sym, ◌∙◌, ap, subst, refl, append_assoc, if◌then◌else◌, ◌+◌, arith}
use Rattle.std.specs.List.{flat_map}
use Rattle.std.proofs.lemmas.Grind.{flat_map-append}
use Rattle.conn_rules.specs.declared.event.Event.{Event}
use Rattle.conn_rules.specs.declared.event.Event.TheVariants as event
use Rattle.conn_rules.specs.declared.event.Fault.TheVariants as fault
use Rattle.conn_rules.specs.declared.event.Reply.{Reply}
use Rattle.conn_rules.specs.declared.event.Reply.TheVariants as reply
use Rattle.conn_rules.specs.declared.event.Emit.TheVariants as emit
use Rattle.conn_rules.specs.declared.event.CompleteFault.TheVariants as complete_fault
use Rattle.conn_rules.specs.Meaning.{Meaning, Lasting}
use Rattle.conn_rules.specs.History.{Entry, LeadsTo, IsHistory, to_client, out, to_broker, sent, frames_taken, client_frames, AreFirst}
use Rattle.conn_rules.specs.Work.{total_work, TakesGrowth}
use Rattle.conn_rules.proofs.Brings.{leads_then}
use Rattle.conn_rules.proofs.Order.{order}
use Rattle.conn_rules.proofs.Told.{end_next}
use Rattle.conn_rules.proofs.Requests.{requests, first_frames}
use Rattle.session.specs.declared.peer.Peer.{Peer}
use Rattle.session.specs.declared.peer.Peer.TheVariants as peer
use Rattle.session.specs.declared.told.Told.{Told}
use Rattle.session.specs.declared.told.Told.TheVariants as told
use Rattle.session.specs.Peers.{least_size, most_size, frames_of_peer}
use Rattle.framing.specs.Cuts.{Cuts}
use Rattle.session.specs.Streams.{Stream, other_peer, IsStreamOf}
use Rattle.session.specs.Pushes.{entry_of}
use Rattle.conn_rules.specs.Origins.{wants_memory}
use Rattle.session.specs.Counting.{FoundMemory}
use Rattle.session.proofs.Counting.{found_append, piece_found, push_found, end_idle}
use Rattle.session.proofs.Frames.{frames_append}
use Rattle.session.proofs.Streaming.{stream_fresh, stream_piece, stream_push, stream_end, stream_elsewhere, stream_cut, other_piece, other_push, other_end, piece_peer, push_peer, end_peer}
use Rattle.session.proofs.Showing.{out_append, sent_append, push_silent, piece_silent, end_silent, push_unsent, piece_unsent, end_unsent, push_ended, piece_ended, end_ended}
use Rattle.transcript.specs.declared.line.Line.{Line}
use Rattle.transcript.specs.declared.line.Line.TheVariants as line
use Rattle.transcript.specs.declared.answer.Answer.{Answer}
use Rattle.transcript.specs.declared.answer.Answer.TheVariants as answer
use Rattle.transcript.specs.Answers.{answer_text}
use Rattle.proxy_main.specs.Played.{Play, opening_play, told_answer, answer_of, IsPieceLine, IsEndLine, IsEventLine, IsEmitLine, StreamsStay, IsPlayed, ArePlayed, piece_of, is_end_of, stream_in, printed, shown_to_client, shown_to_broker}
use Rattle.proxy_main.specs.Scripts.{IsLineText, AreLineTexts}
use Rattle.proxy_main.specs.Replayed.{Answered, CountsRequests, AreFirstOfStream}
use Rattle.proxy_main.proofs.Lists.{append_nil}

-- ---- what an answer shows the client

told_shows : (t : Told) → shown_to_client (told_answer t) ≡ []
told_shows told.Fine = refl
told_shows told.Full = refl
told_shows told.Closed = refl
told_shows told.NotWaiting = refl

reply_shows : (r : Reply) (a : Answer) → answer_of r ≡ Some a → shown_to_client a ≡ to_client r
reply_shows (reply.Send (Some frame)) a h = let e : answer.ToBroker frame ≡ a = cc in subst (λ x. shown_to_client x ≡ []) e refl
reply_shows (reply.Send None) a h = let e : answer.Nothing ≡ a = cc in subst (λ x. shown_to_client x ≡ []) e refl
reply_shows (reply.Emit (emit.Bytes response)) a h = let e : answer.ToClient response ≡ a = cc in subst (λ x. shown_to_client x ≡ response) e refl
reply_shows (reply.Emit emit.Later) a h = let e : answer.Later ≡ a = cc in subst (λ x. shown_to_client x ≡ []) e refl
reply_shows (reply.Emit (emit.Over why)) a h = let e : answer.Over why ≡ a = cc in subst (λ x. shown_to_client x ≡ []) e refl
reply_shows (reply.Pick (Some ticket)) a h = let e : answer.Ticket ticket.request ticket.index ticket.key ≡ a = cc in subst (λ x. shown_to_client x ≡ []) e refl
reply_shows (reply.Pick None) a h = let e : answer.Nothing ≡ a = cc in subst (λ x. shown_to_client x ≡ []) e refl
reply_shows (reply.Complete (Ok u)) a h = let e : answer.Fine ≡ a = cc in subst (λ x. shown_to_client x ≡ []) e refl
reply_shows (reply.Complete (Err (complete_fault.NotWaiting verdict))) a h = let e : answer.NotWaiting ≡ a = cc in subst (λ x. shown_to_client x ≡ []) e refl
reply_shows (reply.Complete (Err complete_fault.NoMemory)) a h = cc
reply_shows reply.Noted a h = let e : answer.Fine ≡ a = cc in subst (λ x. shown_to_client x ≡ []) e refl
reply_shows (reply.Take x) a h = cc
reply_shows (reply.Answer x) a h = cc
reply_shows (reply.Look x) a h = cc

-- ---- what an answer shows the broker

told_sends : (t : Told) → shown_to_broker (told_answer t) ≡ []
told_sends told.Fine = refl
told_sends told.Full = refl
told_sends told.Closed = refl
told_sends told.NotWaiting = refl

reply_sends : (r : Reply) (a : Answer) → answer_of r ≡ Some a → shown_to_broker a ≡ to_broker r
reply_sends (reply.Send (Some frame)) a h = let e : answer.ToBroker frame ≡ a = cc in subst (λ x. shown_to_broker x ≡ frame) e refl
reply_sends (reply.Send None) a h = let e : answer.Nothing ≡ a = cc in subst (λ x. shown_to_broker x ≡ []) e refl
reply_sends (reply.Emit (emit.Bytes response)) a h = let e : answer.ToClient response ≡ a = cc in subst (λ x. shown_to_broker x ≡ []) e refl
reply_sends (reply.Emit emit.Later) a h = let e : answer.Later ≡ a = cc in subst (λ x. shown_to_broker x ≡ []) e refl
reply_sends (reply.Emit (emit.Over why)) a h = let e : answer.Over why ≡ a = cc in subst (λ x. shown_to_broker x ≡ []) e refl
reply_sends (reply.Pick (Some ticket)) a h = let e : answer.Ticket ticket.request ticket.index ticket.key ≡ a = cc in subst (λ x. shown_to_broker x ≡ []) e refl
reply_sends (reply.Pick None) a h = let e : answer.Nothing ≡ a = cc in subst (λ x. shown_to_broker x ≡ []) e refl
reply_sends (reply.Complete (Ok u)) a h = let e : answer.Fine ≡ a = cc in subst (λ x. shown_to_broker x ≡ []) e refl
reply_sends (reply.Complete (Err (complete_fault.NotWaiting verdict))) a h = let e : answer.NotWaiting ≡ a = cc in subst (λ x. shown_to_broker x ≡ []) e refl
reply_sends (reply.Complete (Err complete_fault.NoMemory)) a h = cc
reply_sends reply.Noted a h = let e : answer.Fine ≡ a = cc in subst (λ x. shown_to_broker x ≡ []) e refl
reply_sends (reply.Take x) a h = cc
reply_sends (reply.Answer x) a h = cc
reply_sends (reply.Look x) a h = cc

-- what a line does, as one stream of the two sees it
record SeenBy (p : Peer) (l : Line) (s : Stream) (hs : List Entry) (t : Stream) : Type 0 where
  stream : (bytes : List ℕ) (before : List Entry) → IsStreamOf bytes before s → IsStreamOf (if s.ended then bytes else (bytes ++ piece_of l p)) (before ++ hs) t
  ended : t.ended ≡ (s.ended || is_end_of l p)
  peer_is : t.peer ≡ s.peer

or_false : (b : Bool) → b ≡ (b || false)
or_false true = refl
or_false false = refl

or_true : (b : Bool) → true ≡ (b || true)
or_true true = refl
or_true false = refl

no_bytes : (b : Bool) (bytes : List ℕ) → bytes ≡ (if b then bytes else (bytes ++ []))
no_bytes true bytes = refl
no_bytes false bytes = sym (append_nil bytes)

-- where the line has no bytes of this stream
no_piece : (p : Peer) (l : Line) (s : Stream) (bytes : List ℕ) → piece_of l p ≡ [] → bytes ≡ (if s.ended then bytes else (bytes ++ piece_of l p))
no_piece p l s bytes none = no_bytes s.ended bytes ∙ ap (λ xs. if s.ended then bytes else (bytes ++ xs)) (sym none)

still_open : (p : Peer) (l : Line) (s t : Stream) → is_end_of l p ≡ false → t.ended ≡ s.ended → t.ended ≡ (s.ended || is_end_of l p)
still_open p l s t stays e = e ∙ or_false s.ended ∙ ap (λ b. s.ended || b) (sym stays)

elsewhere : (p : Peer) (l : Line) (s t : Stream) (hs : List Entry) → piece_of l p ≡ [] → is_end_of l p ≡ false → t ≡ s → frames_of_peer s.peer hs ≡ [] → SeenBy p l s hs t
elsewhere p l s t hs none stays same frames =
    record {
      stream = λ bytes before is. subst (λ x. IsStreamOf (if s.ended then bytes else (bytes ++ piece_of l p)) (before ++ hs) x) (sym same)
          (subst (λ xs. IsStreamOf xs (before ++ hs) s) (no_piece p l s bytes none) (stream_elsewhere bytes before hs s is frames));
      ended = still_open p l s t stays (ap (λ (x : Stream). x.ended) same);
      peer_is = ap (λ (x : Stream). x.peer) same;
    }

its_piece : (p : Peer) (l : Line) (s t : Stream) (a : Answer) (hs : List Entry) → is_end_of l p ≡ false → IsPieceLine s (piece_of l p) a hs t → SeenBy p l s hs t
its_piece p l s t a hs stays h =
    record {
      stream = λ bytes before is. stream_piece bytes (piece_of l p) before hs s t h.told is h.is_piece;
      ended = still_open p l s t stays (piece_ended s t (piece_of l p) hs h.told h.is_piece);
      peer_is = piece_peer s t (piece_of l p) hs h.told h.is_piece;
    }

its_end : (p : Peer) (l : Line) (s t : Stream) (a : Answer) (hs : List Entry) → piece_of l p ≡ [] → is_end_of l p ≡ true → IsEndLine s a hs t → SeenBy p l s hs t
its_end p l s t a hs none ends h =
    record {
      stream = λ bytes before is. subst (λ xs. IsStreamOf xs (before ++ hs) t) (no_piece p l s bytes none) (stream_end bytes before hs s t (Ok h.told) is h.is_end);
      ended = end_ended s t hs (Ok h.told) h.is_end ∙ or_true s.ended ∙ ap (λ b. s.ended || b) (sym ends);
      peer_is = end_peer s t hs (Ok h.told) h.is_end;
    }

-- an event that is no frame
abbrev IsNoFrame : Event → Type 0
IsNoFrame (event.Take frame) = ⊥
IsNoFrame (event.Answer frame) = ⊥
IsNoFrame (event.Complete k i verdict) = Unit {0}
IsNoFrame (event.ClientEnd rest) = Unit {0}
IsNoFrame (event.BrokerEnd rest) = Unit {0}
IsNoFrame (event.Fault x) = Unit {0}
IsNoFrame event.Send = Unit {0}
IsNoFrame event.Emit = Unit {0}
IsNoFrame event.Pick = Unit {0}
IsNoFrame event.Look = Unit {0}

no_frame : (q : Peer) (e : Event) (r : Reply) → IsNoFrame e → frames_of_peer q (entry_of e r ∷ []) ≡ []
no_frame q (event.Take frame) r is = absurd is
no_frame q (event.Answer frame) r is = absurd is
no_frame peer.Client (event.Complete k i verdict) r is = refl
no_frame peer.Client (event.ClientEnd rest) r is = refl
no_frame peer.Client (event.BrokerEnd rest) r is = refl
no_frame peer.Client (event.Fault x) r is = refl
no_frame peer.Client event.Send r is = refl
no_frame peer.Client event.Emit r is = refl
no_frame peer.Client event.Pick r is = refl
no_frame peer.Client event.Look r is = refl
no_frame peer.Broker (event.Complete k i verdict) r is = refl
no_frame peer.Broker (event.ClientEnd rest) r is = refl
no_frame peer.Broker (event.BrokerEnd rest) r is = refl
no_frame peer.Broker (event.Fault x) r is = refl
no_frame peer.Broker event.Send r is = refl
no_frame peer.Broker event.Emit r is = refl
no_frame peer.Broker event.Pick r is = refl
no_frame peer.Broker event.Look r is = refl

event_frames : (q : Peer) (e : Event) (a : Answer) (hs : List Entry) → IsNoFrame e → IsEventLine e a hs → frames_of_peer q hs ≡ []
event_frames q e a hs is h = ap (frames_of_peer q) h.entry ∙ no_frame q e h.reply is

emit_frames : (s t : Stream) (a : Answer) (hs : List Entry) → IsEmitLine s a hs t → frames_of_peer (other_peer s.peer) hs ≡ []
emit_frames s t a hs h =
    let q = other_peer s.peer in
    ap (frames_of_peer q) h.entries ∙ frames_append q h.first h.rest ∙ ap (λ fs. fs ++ frames_of_peer q h.rest) (event_frames q event.Emit a h.first tt h.emits) ∙ other_push s t h.rest (Ok h.told) h.pushes

its_push : (s t : Stream) (a : Answer) (hs : List Entry) → IsEmitLine s a hs t → SeenBy peer.Client line.Emit s hs t
its_push s t a hs h =
    record {
      stream = λ bytes before is. subst (λ xs. IsStreamOf xs (before ++ hs) t) (no_piece peer.Client line.Emit s bytes refl)
          (subst (λ ks. IsStreamOf bytes ks t) (append_assoc before h.first h.rest ∙ ap (λ ks. before ++ ks) (sym h.entries))
          (stream_push bytes (before ++ h.first) h.rest s t (Ok h.told) (stream_elsewhere bytes before h.first s is (event_frames s.peer event.Emit a h.first tt h.emits)) h.pushes));
      ended = still_open peer.Client line.Emit s t refl (push_ended s t h.rest (Ok h.told) h.pushes);
      peer_is = push_peer s t h.rest (Ok h.told) h.pushes;
    }

-- ---- what a line does, as both streams see it, and what its answer shows

pub record IsBothPeers (p : Play) : Type 0 where
  pub client : p.client.peer ≡ peer.Client
  pub broker : p.broker.peer ≡ peer.Broker

other_is_broker : (p : Play) → IsBothPeers p → other_peer p.client.peer ≡ p.broker.peer
other_is_broker p is = ap other_peer is.client ∙ sym is.broker

other_is_client : (p : Play) → IsBothPeers p → other_peer p.broker.peer ≡ p.client.peer
other_is_client p is = ap other_peer is.broker ∙ sym is.client

record Seen (l : Line) (p : Play) (a : Answer) (hs : List Entry) (q : Play) : Type 0 where
  client : SeenBy peer.Client l p.client hs q.client
  broker : SeenBy peer.Broker l p.broker hs q.broker
  shown : shown_to_client a ≡ out hs
  sends : shown_to_broker a ≡ sent hs

event_shows : (e : Event) (a : Answer) (hs : List Entry) → IsEventLine e a hs → shown_to_client a ≡ out hs
event_shows e a hs h = reply_shows h.reply a h.answered ∙ sym (append_nil (to_client h.reply)) ∙ sym (ap out h.entry)

event_sends : (e : Event) (a : Answer) (hs : List Entry) → IsEventLine e a hs → shown_to_broker a ≡ sent hs
event_sends e a hs h = reply_sends h.reply a h.answered ∙ sym (append_nil (to_broker h.reply)) ∙ sym (ap sent h.entry)

seen_event : (l : Line) (e : Event) (p : Play) (a : Answer) (hs : List Entry) (q : Play) → IsNoFrame e → ((x : Peer) → piece_of l x ≡ []) → ((x : Peer) → is_end_of l x ≡ false) → IsEventLine e a hs × StreamsStay p q → Seen l p a hs q
seen_event l e p a hs q is none stays h =
    record {
      client = elsewhere peer.Client l p.client q.client hs (none peer.Client) (stays peer.Client) h.1.0 (event_frames p.client.peer e a hs is h.0);
      broker = elsewhere peer.Broker l p.broker q.broker hs (none peer.Broker) (stays peer.Broker) h.1.1 (event_frames p.broker.peer e a hs is h.0);
      shown = event_shows e a hs h.0;
      sends = event_sends e a hs h.0;
    }

seen : (l : Line) (p : Play) (a : Answer) (hs : List Entry) (q : Play) → IsBothPeers p → IsPlayed p l a hs q → Seen l p a hs q
seen (line.Client piece) p a hs q both h =
    record {
      client = its_piece peer.Client (line.Client piece) p.client q.client a hs refl h.0;
      broker = elsewhere peer.Broker (line.Client piece) p.broker q.broker hs refl refl h.1 (subst (λ x. frames_of_peer x hs ≡ []) (other_is_broker p both) (other_piece p.client q.client piece hs (Ok h.0.told) h.0.is_piece));
      shown = ap shown_to_client h.0.answered ∙ told_shows h.0.told ∙ sym (piece_silent p.client q.client piece hs h.0.told h.0.is_piece);
      sends = ap shown_to_broker h.0.answered ∙ told_sends h.0.told ∙ sym (piece_unsent p.client q.client piece hs h.0.told h.0.is_piece);
    }
seen (line.Broker piece) p a hs q both h =
    record {
      client = elsewhere peer.Client (line.Broker piece) p.client q.client hs refl refl h.1 (subst (λ x. frames_of_peer x hs ≡ []) (other_is_client p both) (other_piece p.broker q.broker piece hs (Ok h.0.told) h.0.is_piece));
      broker = its_piece peer.Broker (line.Broker piece) p.broker q.broker a hs refl h.0;
      shown = ap shown_to_client h.0.answered ∙ told_shows h.0.told ∙ sym (piece_silent p.broker q.broker piece hs h.0.told h.0.is_piece);
      sends = ap shown_to_broker h.0.answered ∙ told_sends h.0.told ∙ sym (piece_unsent p.broker q.broker piece hs h.0.told h.0.is_piece);
    }
seen line.ClientEnd p a hs q both h =
    record {
      client = its_end peer.Client line.ClientEnd p.client q.client a hs refl refl h.0;
      broker = elsewhere peer.Broker line.ClientEnd p.broker q.broker hs refl refl h.1 (subst (λ x. frames_of_peer x hs ≡ []) (other_is_broker p both) (other_end p.client q.client hs (Ok h.0.told) h.0.is_end));
      shown = ap shown_to_client h.0.answered ∙ told_shows h.0.told ∙ sym (end_silent p.client q.client hs (Ok h.0.told) h.0.is_end);
      sends = ap shown_to_broker h.0.answered ∙ told_sends h.0.told ∙ sym (end_unsent p.client q.client hs (Ok h.0.told) h.0.is_end);
    }
seen line.BrokerEnd p a hs q both h =
    record {
      client = elsewhere peer.Client line.BrokerEnd p.client q.client hs refl refl h.1 (subst (λ x. frames_of_peer x hs ≡ []) (other_is_client p both) (other_end p.broker q.broker hs (Ok h.0.told) h.0.is_end));
      broker = its_end peer.Broker line.BrokerEnd p.broker q.broker a hs refl refl h.0;
      shown = ap shown_to_client h.0.answered ∙ told_shows h.0.told ∙ sym (end_silent p.broker q.broker hs (Ok h.0.told) h.0.is_end);
      sends = ap shown_to_broker h.0.answered ∙ told_sends h.0.told ∙ sym (end_unsent p.broker q.broker hs (Ok h.0.told) h.0.is_end);
    }
seen line.Send p a hs q both h = seen_event line.Send event.Send p a hs q tt (λ x. refl) (λ x. refl) h
seen line.Emit p a hs q both h =
    record {
      client = its_push p.client q.client a hs h.0;
      broker = elsewhere peer.Broker line.Emit p.broker q.broker hs refl refl h.1 (subst (λ x. frames_of_peer x hs ≡ []) (other_is_broker p both) (emit_frames p.client q.client a hs h.0));
      shown = event_shows event.Emit a h.0.first h.0.emits ∙ sym (append_nil (out h.0.first)) ∙ ap (λ xs. out h.0.first ++ xs) (sym (push_silent p.client q.client h.0.rest (Ok h.0.told) h.0.pushes)) ∙ sym (out_append h.0.first h.0.rest) ∙ sym (ap out h.0.entries);
      sends = event_sends event.Emit a h.0.first h.0.emits ∙ sym (append_nil (sent h.0.first)) ∙ ap (λ xs. sent h.0.first ++ xs) (sym (push_unsent p.client q.client h.0.rest (Ok h.0.told) h.0.pushes)) ∙ sym (sent_append h.0.first h.0.rest) ∙ sym (ap sent h.0.entries);
    }
seen line.Pick p a hs q both h = seen_event line.Pick event.Pick p a hs q tt (λ x. refl) (λ x. refl) h
seen (line.Done k i verdict) p a hs q both h = seen_event (line.Done k i verdict) (event.Complete k i verdict) p a hs q tt (λ x. refl) (λ x. refl) h
seen line.FaultClientRead p a hs q both h = seen_event line.FaultClientRead (event.Fault fault.ClientRead) p a hs q tt (λ x. refl) (λ x. refl) h
seen line.FaultClientWrite p a hs q both h = seen_event line.FaultClientWrite (event.Fault fault.ClientWrite) p a hs q tt (λ x. refl) (λ x. refl) h
seen line.FaultBrokerRead p a hs q both h = seen_event line.FaultBrokerRead (event.Fault fault.BrokerRead) p a hs q tt (λ x. refl) (λ x. refl) h
seen line.FaultBrokerWrite p a hs q both h = seen_event line.FaultBrokerWrite (event.Fault fault.BrokerWrite) p a hs q tt (λ x. refl) (λ x. refl) h
seen (line.FaultAuthority k) p a hs q both h = seen_event (line.FaultAuthority k) (event.Fault (fault.Authority k)) p a hs q tt (λ x. refl) (λ x. refl) h

-- ---- many lines

-- the line that ends a stream has no bytes of it
end_is_empty : (l : Line) (p : Peer) → is_end_of l p ≡ true → piece_of l p ≡ []
end_is_empty (line.Client piece) peer.Client e = cc
end_is_empty (line.Client piece) peer.Broker e = cc
end_is_empty (line.Broker piece) peer.Client e = cc
end_is_empty (line.Broker piece) peer.Broker e = cc
end_is_empty line.ClientEnd p e = refl
end_is_empty line.BrokerEnd p e = refl
end_is_empty line.Send p e = refl
end_is_empty line.Emit p e = refl
end_is_empty line.Pick p e = refl
end_is_empty (line.Done k i verdict) p e = refl
end_is_empty line.FaultClientRead p e = refl
end_is_empty line.FaultClientWrite p e = refl
end_is_empty line.FaultBrokerRead p e = refl
end_is_empty line.FaultBrokerWrite p e = refl
end_is_empty (line.FaultAuthority k) p e = refl

bytes_more : (before is_end after : Bool) (bytes piece more : List ℕ) → after ≡ (before || is_end) → (is_end ≡ true → piece ≡ [])
    → (if after then (if before then bytes else (bytes ++ piece)) else ((if before then bytes else (bytes ++ piece)) ++ more)) ≡ (if before then bytes else (bytes ++ (if is_end then [] else (piece ++ more))))
bytes_more true is_end true bytes piece more e none = refl
bytes_more true is_end false bytes piece more e none = cc
bytes_more false true true bytes piece more e none = ap (λ xs. bytes ++ xs) (none refl)
bytes_more false true false bytes piece more e none = cc
bytes_more false false true bytes piece more e none = cc
bytes_more false false false bytes piece more e none = append_assoc bytes piece more

-- ---- a line is answered only where the connection found memory

answer_found : (r : Reply) (a : Answer) → answer_of r ≡ Some a → wants_memory r ≡ false
answer_found (reply.Send x) a h = refl
answer_found (reply.Emit x) a h = refl
answer_found (reply.Pick x) a h = refl
answer_found (reply.Complete (Ok u)) a h = refl
answer_found (reply.Complete (Err (complete_fault.NotWaiting verdict))) a h = refl
answer_found (reply.Complete (Err complete_fault.NoMemory)) a h = cc
answer_found reply.Noted a h = refl
answer_found (reply.Take x) a h = cc
answer_found (reply.Answer x) a h = cc
answer_found (reply.Look x) a h = cc

event_found : (e : Event) (a : Answer) (hs : List Entry) → IsEventLine e a hs → FoundMemory hs
event_found e a hs h = subst FoundMemory (sym h.entry) (ap (λ b. b || false) (answer_found h.reply a h.answered))

pub line_found : (p : Play) (l : Line) (a : Answer) (hs : List Entry) (q : Play) → IsPlayed p l a hs q → FoundMemory hs
line_found p (line.Client piece) a hs q h = piece_found p.client q.client piece hs h.0.told h.0.is_piece
line_found p (line.Broker piece) a hs q h = piece_found p.broker q.broker piece hs h.0.told h.0.is_piece
line_found p line.ClientEnd a hs q h = (end_idle p.client q.client hs (Ok h.0.told) h.0.is_end).1
line_found p line.BrokerEnd a hs q h = (end_idle p.broker q.broker hs (Ok h.0.told) h.0.is_end).1
line_found p line.Send a hs q h = event_found event.Send a hs h.0
line_found p line.Emit a hs q h = subst FoundMemory (sym h.0.entries) (found_append h.0.first h.0.rest (event_found event.Emit a h.0.first h.0.emits) (push_found p.client q.client h.0.rest h.0.told h.0.pushes))
line_found p line.Pick a hs q h = event_found event.Pick a hs h.0
line_found p (line.Done k i verdict) a hs q h = event_found (event.Complete k i verdict) a hs h.0
line_found p line.FaultClientRead a hs q h = event_found (event.Fault fault.ClientRead) a hs h.0
line_found p line.FaultClientWrite a hs q h = event_found (event.Fault fault.ClientWrite) a hs h.0
line_found p line.FaultBrokerRead a hs q h = event_found (event.Fault fault.BrokerRead) a hs h.0
line_found p line.FaultBrokerWrite a hs q h = event_found (event.Fault fault.BrokerWrite) a hs h.0
line_found p (line.FaultAuthority k) a hs q h = event_found (event.Fault (fault.Authority k)) a hs h.0

-- what the lines do, all in all
pub record AllSeen (M : Meaning) (p : Play) (ls : List Line) (answers : List Answer) (hs : List Entry) (q : Play) : Type 0 where
  pub client : (bytes : List ℕ) (before : List Entry) → IsStreamOf bytes before p.client → IsStreamOf (if p.client.ended then bytes else (bytes ++ stream_in peer.Client ls)) (before ++ hs) q.client
  pub broker : (bytes : List ℕ) (before : List Entry) → IsStreamOf bytes before p.broker → IsStreamOf (if p.broker.ended then bytes else (bytes ++ stream_in peer.Broker ls)) (before ++ hs) q.broker
  pub both : IsBothPeers q
  pub leads : LeadsTo M p.state hs q.state
  pub shown : flat_map shown_to_client answers ≡ out hs
  pub sends : flat_map shown_to_broker answers ≡ sent hs

-- one stream: the first line, and then the others
stream_more : (p : Peer) (l : Line) (ls : List Line) (s m t : Stream) (first rest : List Entry) → SeenBy p l s first m → ((bytes : List ℕ) (before : List Entry) → IsStreamOf bytes before m → IsStreamOf (if m.ended then bytes else (bytes ++ stream_in p ls)) (before ++ rest) t)
    → (bytes : List ℕ) (before : List Entry) → IsStreamOf bytes before s → IsStreamOf (if s.ended then bytes else (bytes ++ stream_in p (l ∷ ls))) (before ++ (first ++ rest)) t
stream_more p l ls s m t first rest seen more bytes before is =
    let there = more (if s.ended then bytes else (bytes ++ piece_of l p)) (before ++ first) (seen.stream bytes before is) in
    subst (λ ks. IsStreamOf (if s.ended then bytes else (bytes ++ stream_in p (l ∷ ls))) ks t) (append_assoc before first rest)
    (subst (λ xs. IsStreamOf xs ((before ++ first) ++ rest) t) (bytes_more s.ended (is_end_of l p) m.ended bytes (piece_of l p) (stream_in p ls) seen.ended (end_is_empty l p)) there)

pub all_seen : (M : Meaning) (p : Play) (ls : List Line) (answers : List Answer) (hs : List Entry) (q : Play) → IsBothPeers p → ArePlayed M p ls answers hs q → AllSeen M p ls answers hs q
all_seen M p [] [] hs q both h =
    let here : AllSeen M p [] [] [] p = record {
      client = λ bytes before is. subst (λ ks. IsStreamOf (if p.client.ended then bytes else (bytes ++ [])) ks p.client) (sym (append_nil before)) (subst (λ xs. IsStreamOf xs before p.client) (no_bytes p.client.ended bytes) is);
      broker = λ bytes before is. subst (λ ks. IsStreamOf (if p.broker.ended then bytes else (bytes ++ [])) ks p.broker) (sym (append_nil before)) (subst (λ xs. IsStreamOf xs before p.broker) (no_bytes p.broker.ended bytes) is);
      both = both;
      leads = refl;
      shown = refl;
      sends = refl;
    } in
    subst (λ ks. AllSeen M p [] [] ks q) (sym h.0) (subst (λ x. AllSeen M p [] [] [] x) (sym h.1) here)
all_seen M p [] (a ∷ answers) hs q both h = absurd h
all_seen M p (l ∷ ls) [] hs q both h = absurd h
all_seen M p (l ∷ ls) (a ∷ answers) hs q both h =
    let first = h.0 in
    let rest = h.1 in
    let between = h.2 in
    let s = seen l p a first between both h.3 in
    let peers : IsBothPeers between = record { client = s.client.peer_is ∙ both.client; broker = s.broker.peer_is ∙ both.broker } in
    let more = all_seen M between ls answers rest q peers h.5 in
    subst (λ ks. AllSeen M p (l ∷ ls) (a ∷ answers) ks q) (sym h.6) (record {
      client = stream_more peer.Client l ls p.client between.client q.client first rest s.client more.client;
      broker = stream_more peer.Broker l ls p.broker between.broker q.broker first rest s.broker more.broker;
      both = more.both;
      leads = leads_then M p.state between.state q.state first rest h.4 more.leads;
      shown = ap (λ xs. xs ++ flat_map shown_to_client answers) s.shown ∙ ap (λ xs. out first ++ xs) more.shown ∙ sym (out_append first rest);
      sends = ap (λ xs. xs ++ flat_map shown_to_broker answers) s.sends ∙ ap (λ xs. sent first ++ xs) more.sends ∙ sym (sent_append first rest);
    })

-- ---- one line more

played_more : (M : Meaning) (p : Play) (ls : List Line) (answers : List Answer) (hs : List Entry) (q : Play) (l : Line) (a : Answer) (ks : List Entry) (r : Play) → ArePlayed M p ls answers hs q → IsPlayed q l a ks r → LeadsTo M q.state ks r.state → ArePlayed M p (ls ++ l ∷ []) (answers ++ a ∷ []) (hs ++ ks) r
played_more M p [] [] hs q l a ks r h d leads =
    (ks, [], r, subst (λ x. IsPlayed x l a ks r) h.1 d, subst (λ (x : Play). LeadsTo M x.state ks r.state) h.1 leads, (refl, refl), ap (λ xs. xs ++ ks) h.0 ∙ sym (append_nil ks))
played_more M p [] (b ∷ bs) hs q l a ks r h d leads = absurd h
played_more M p (m ∷ ms) [] hs q l a ks r h d leads = absurd h
played_more M p (m ∷ ms) (b ∷ bs) hs q l a ks r h d leads = (h.0, h.1 ++ ks, h.2, h.3, h.4, played_more M h.2 ms bs h.1 q l a ks r h.5 d leads, ap (λ xs. xs ++ ks) h.6 ∙ append_assoc h.0 h.1 ks)

texts_more : (ts : List (List ℕ)) (ls : List Line) (t : List ℕ) (l : Line) → AreLineTexts ts ls → IsLineText t l → AreLineTexts (ts ++ t ∷ []) (ls ++ l ∷ [])
texts_more [] [] t l s x = (x, tt)
texts_more [] (m ∷ ms) t l s x = absurd s
texts_more (u ∷ us) [] t l s x = absurd s
texts_more (u ∷ us) (m ∷ ms) t l s x = (s.0, texts_more us ms t l s.1 x)

first_of_first : (a b c : List (List ℕ)) → AreFirst a b → AreFirst b c → AreFirst a c
first_of_first a b c h k = (h.0 ++ k.0, k.1 ∙ ap (λ xs. xs ++ k.0) h.1 ∙ append_assoc a h.0 k.0)

-- the requests are the first frames of the client's stream
own_requests : (M : Meaning) (hs : List Entry) (q : Play) (bytes : List ℕ) → q.client.peer ≡ peer.Client → IsHistory M hs q.state → IsStreamOf bytes hs q.client → AreFirstOfStream (map (λ r. r.frame) q.state.requests) bytes
own_requests M hs q bytes client history is frames tail cut =
    let taken = requests M hs q.state history in
    let of_taken : AreFirst (map (λ r. r.frame) q.state.requests) (frames_taken hs) = (taken.other, taken.frames) in
    let of_frames : AreFirst (frames_taken hs) (client_frames hs) = first_frames M hs q.state history in
    let of_stream : AreFirst (client_frames hs) frames =
    subst (λ x. AreFirst (frames_of_peer x hs) frames) client (stream_cut bytes hs q.client frames tail is (subst (λ x. Cuts (least_size x) (most_size x) bytes frames tail) (sym client) cut)) in
    first_of_first _ (frames_taken hs) frames of_taken (first_of_first (frames_taken hs) (client_frames hs) frames of_frames of_stream)

pub opening_peers : IsBothPeers opening_play
opening_peers = record { client = refl; broker = refl }

-- the lines with one more
pub record AnsweredMore (M : Meaning) (lines : List (List ℕ)) (text : List ℕ) (q : Play) : Type 0 where
  pub answered : Answered M lines text
  pub last_is : answered.last ≡ q

pub answered_more : (M : Meaning) (lines : List (List ℕ)) (text : List ℕ) (t : List ℕ) (l : Line) (a : Answer) (hs : List Entry) (q : Play) (before : Answered M lines text) → Lasting M → IsLineText t l → IsPlayed before.last l a hs q → LeadsTo M before.last.state hs q.state → AnsweredMore M (lines ++ t ∷ []) (text ++ (answer_text a ++ 10 ∷ [])) q
answered_more M lines text t l a hs q before lasting text_of is leads =
    let played = played_more M opening_play before.script before.answers before.history before.last l a hs q before.played is leads in
    let all = all_seen M opening_play (before.script ++ l ∷ []) (before.answers ++ a ∷ []) (before.history ++ hs) q opening_peers played in
    let client = all.client [] [] (stream_fresh peer.Client) in
    record {
      answered = record {
        script = before.script ++ l ∷ [];
        answers = before.answers ++ a ∷ [];
        history = before.history ++ hs;
        last = q;
        texts = texts_more lines before.script t l before.texts text_of;
        played = played;
        text_is = ap (λ xs. xs ++ (answer_text a ++ 10 ∷ [])) before.text_is ∙ ap (λ xs. printed before.answers ++ xs) (sym (append_nil (answer_text a ++ 10 ∷ []))) ∙ sym (flat_map-append (λ b. answer_text b ++ 10 ∷ []) before.answers (a ∷ []));
        is_history = all.leads;
        client = client;
        broker = all.broker [] [] (stream_fresh peer.Broker);
        shown = all.shown;
        shown_sends = all.sends;
        in_order = order M (before.history ++ hs) q.state lasting all.leads;
        told = λ why over. end_next M (before.history ++ hs) q.state why all.leads over;
        own_requests = own_requests M (before.history ++ hs) q (stream_in peer.Client (before.script ++ l ∷ [])) all.both.client all.leads client;
      };
      last_is = refl;
    }

-- the steps of one line more
pub counted_more : (M : Meaning) (begun n m : ℕ) {lines more : List (List ℕ)} {text longer : List ℕ} (before : Answered M lines text) (after : Answered M more longer) (q : Play)
    → CountsRequests M begun n before → TakesGrowth M n m before.last.state q.state → after.last ≡ q → CountsRequests M begun m after
counted_more M begun n m before after q counted grows is =
    let there : total_work M after.last.state ≡ total_work M q.state = ap (λ (p : Play). total_work M p.state) is in
    omega (arith, counted, grows, there)
