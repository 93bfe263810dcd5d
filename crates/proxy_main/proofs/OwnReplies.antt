-- What a script shows the client is the own responses of its requests.
use Rattle.std.proofs.Common.{◌≡◌, sym, subst, ℕ, zero, suc, Bool, true, false, if◌then◌else◌, List, [], ◌∷◌, ◌++◌, inl, inr, arith}
use Rattle.std.specs.List.{All}
use Rattle.hex.proofs.HexLemmas.{decode_of-ok}
use Rattle.tree_spelling.specs.Laws.{AreBytes}
use Rattle.filter_core.specs.Laws.{IsLawful}
use Rattle.virtual_cluster.specs.declared.plan.ClusterPlan.{ClusterPlan}
use Rattle.any_filter.specs.Chains.{cluster_chain}
use Rattle.conn_rules.specs.Meaning.{Meaning}
use Rattle.session.specs.declared.peer.Peer.{Peer}
use Rattle.session.specs.declared.peer.Peer.TheVariants as peer
use Rattle.session.specs.Peers.{frames_of_peer}
use Rattle.session.specs.Streams.{Stream, IsStreamOf}
use Rattle.conn_rules.specs.History.{Entry}
use Rattle.transcript.specs.Hex.{SpellsBytes}
use Rattle.transcript.specs.Lines.{Spells}
use Rattle.transcript.specs.declared.line.Line.{Line}
use Rattle.transcript.specs.declared.line.Line.TheVariants as line
use Rattle.proxy_laws.specs.Awaited.{FramesAreBytes}
use Rattle.proxy_laws.specs.OwnResponses.{AreOwnResponses, AreMessageSends}
use Rattle.proxy_laws.proofs.Bytes.{frames_are_bytes}
use Rattle.proxy_laws.proofs.Sent.{own_responses, message_sends}
use Rattle.proxy_main.specs.DefaultPlan.{cluster_meaning}
use Rattle.proxy_main.specs.Played.{opening_play, piece_of, is_end_of, stream_in}
use Rattle.proxy_main.specs.Scripts.{AreLineTexts}
use Rattle.proxy_main.specs.Replayed.{Answered}
use Rattle.proxy_main.proofs.Playing.{all_seen, opening_peers}

none_is_bytes : AreBytes []
none_is_bytes zero = omega arith
none_is_bytes (suc i) = omega arith

bytes_behind : (xs ys : List ℕ) → AreBytes xs → AreBytes ys → AreBytes (xs ++ ys)
bytes_behind [] ys a b i = b i
bytes_behind (x ∷ xs) ys a b zero = a 0
bytes_behind (x ∷ xs) ys a b (suc i) = bytes_behind xs ys (λ j. a (suc j)) b i

spelled_bytes : (bytes word : List ℕ) → SpellsBytes bytes word → AreBytes bytes
spelled_bytes bytes word (inl h) = subst AreBytes (sym h.0) none_is_bytes
spelled_bytes bytes word (inr h) = (decode_of-ok word bytes h.1).3

-- the piece of a stream that a line brings
piece_bytes : (l : Line) (text : List ℕ) (p : Peer) → Spells l text → AreBytes (piece_of l p)
piece_bytes (line.Client piece) text peer.Client h = spelled_bytes piece h.0 h.2
piece_bytes (line.Client piece) text peer.Broker h = none_is_bytes
piece_bytes (line.Broker piece) text peer.Client h = none_is_bytes
piece_bytes (line.Broker piece) text peer.Broker h = spelled_bytes piece h.0 h.2
piece_bytes line.ClientEnd text p h = none_is_bytes
piece_bytes line.BrokerEnd text p h = none_is_bytes
piece_bytes line.Send text p h = none_is_bytes
piece_bytes line.Emit text p h = none_is_bytes
piece_bytes line.Pick text p h = none_is_bytes
piece_bytes (line.Done k i verdict) text p h = none_is_bytes
piece_bytes line.FaultClientRead text p h = none_is_bytes
piece_bytes line.FaultClientWrite text p h = none_is_bytes
piece_bytes line.FaultBrokerRead text p h = none_is_bytes
piece_bytes line.FaultBrokerWrite text p h = none_is_bytes
piece_bytes (line.FaultAuthority k) text p h = none_is_bytes

either_bytes : (b : Bool) (xs : List ℕ) → AreBytes xs → AreBytes (if b then [] else xs)
either_bytes true xs h = none_is_bytes
either_bytes false xs h = h

stream_bytes : (lines : List (List ℕ)) (script : List Line) (p : Peer) → AreLineTexts lines script → AreBytes (stream_in p script)
stream_bytes [] [] p h = none_is_bytes
stream_bytes [] (l ∷ script) p h = absurd h
stream_bytes (t ∷ lines) [] p h = absurd h
stream_bytes (t ∷ lines) (l ∷ script) p h = either_bytes (is_end_of l p) _ (bytes_behind (piece_of l p) (stream_in p script) (piece_bytes l t p h.0.spelled) (stream_bytes lines script p h.1))

frames_bytes : (bytes : List ℕ) (hs : List Entry) (s : Stream) (p : Peer) → s.peer ≡ p → IsStreamOf bytes hs s → AreBytes bytes → All AreBytes (frames_of_peer p hs)
frames_bytes bytes hs s p e is small = subst (λ q. All AreBytes (frames_of_peer q hs)) e (frames_are_bytes (frames_of_peer s.peer hs) s.rest (subst AreBytes is.whole small))

module _ (M : Meaning) (lines : List (List ℕ)) (text : List ℕ) (a : Answered M lines text) where
  pub handed_bytes : FramesAreBytes a.history
  handed_bytes =
      let all = all_seen M opening_play a.script a.answers a.history a.last opening_peers a.played in (
        frames_bytes (stream_in peer.Client a.script) a.history a.last.client peer.Client all.both.client a.client (stream_bytes lines a.script peer.Client a.texts),
        frames_bytes (stream_in peer.Broker a.script) a.history a.last.broker peer.Broker all.both.broker a.broker (stream_bytes lines a.script peer.Broker a.texts),
      )

module _ (plan : ClusterPlan) (lawful : All IsLawful (cluster_chain plan)) (lines : List (List ℕ)) (text : List ℕ) (a : Answered (cluster_meaning plan) lines text) where
  pub replay_responses : AreOwnResponses (cluster_meaning plan) a.history a.last.state
  replay_responses = own_responses (cluster_chain plan) plan.in_flight lawful a.history a.last.state a.is_history (handed_bytes (cluster_meaning plan) lines text a)

  pub replay_sends : AreMessageSends (cluster_chain plan) a.history a.last.state
  replay_sends = message_sends (cluster_chain plan) plan.in_flight lawful a.history a.last.state a.is_history (handed_bytes (cluster_meaning plan) lines text a)
