-- Which frames of a peer's an entry hands on.
use Rattle.std.proofs.Common.{◌≡◌, ℕ, List, [], ◌∷◌, ◌++◌, Some, Ok, Err, refl, subst}
use Rattle.std.proofs.lemmas.Grind.{flat_map-append}
use Rattle.conn_rules.specs.declared.event.Event.TheVariants as event
use Rattle.conn_rules.specs.declared.event.Reply.{Reply}
use Rattle.conn_rules.specs.declared.event.Reply.TheVariants as reply
use Rattle.conn_rules.specs.declared.event.TakeFault.TheVariants as take_fault
use Rattle.conn_rules.specs.declared.event.AnswerFault.TheVariants as answer_fault
use Rattle.conn_rules.specs.History.{Entry, client_frame, broker_frame}
use Rattle.session.specs.declared.peer.Peer.{Peer}
use Rattle.session.specs.declared.peer.Peer.TheVariants as peer
use Rattle.session.specs.declared.receipt.Receipt.{Receipt}
use Rattle.session.specs.declared.receipt.Receipt.TheVariants as receipt
use Rattle.session.specs.Peers.{frame_event, client_receipt, broker_receipt, frame_receipt, frames_of_peer}
use Rattle.session.specs.Pushes.{entry_of}

pub frames_append : (p : Peer) (hs ks : List Entry) → frames_of_peer p (hs ++ ks) ≡ frames_of_peer p hs ++ frames_of_peer p ks
frames_append peer.Client hs ks = flat_map-append (λ (h : Entry). client_frame h.event h.reply) hs ks
frames_append peer.Broker hs ks = flat_map-append (λ (h : Entry). broker_frame h.event) hs ks

-- the frame is handed on for good, but where there is no room for it
abbrev pub handed : List ℕ → Receipt → List (List ℕ)
handed frame receipt.Accepted = frame ∷ []
handed frame receipt.Refused = frame ∷ []
handed frame (receipt.Full back) = []
handed frame receipt.NoMemory = frame ∷ []

some_is : (a b : Receipt) → Some a ≡ Some b → a ≡ b
some_is a b e = cc

client_one : (frame : List ℕ) (r : Reply) (o : Receipt) → client_receipt r ≡ Some o → frames_of_peer peer.Client (entry_of (event.Take frame) r ∷ []) ≡ handed frame o
client_one frame (reply.Take (Ok u)) o e = subst (λ x. frame ∷ [] ≡ handed frame x) (some_is _ o e) refl
client_one frame (reply.Take (Err (take_fault.Ending back))) o e = subst (λ x. frame ∷ [] ≡ handed frame x) (some_is _ o e) refl
client_one frame (reply.Take (Err (take_fault.Full count held back))) o e = subst (λ x. [] ≡ handed frame x) (some_is _ o e) refl
client_one frame (reply.Take (Err take_fault.NoMemory)) o e = subst (λ x. frame ∷ [] ≡ handed frame x) (some_is _ o e) refl
client_one frame (reply.Answer x) o e = cc
client_one frame (reply.Complete x) o e = cc
client_one frame reply.Noted o e = cc
client_one frame (reply.Send x) o e = cc
client_one frame (reply.Emit x) o e = cc
client_one frame (reply.Pick x) o e = cc
client_one frame (reply.Look x) o e = cc

broker_one : (frame : List ℕ) (r : Reply) (o : Receipt) → broker_receipt r ≡ Some o → frames_of_peer peer.Broker (entry_of (event.Answer frame) r ∷ []) ≡ handed frame o
broker_one frame (reply.Answer (Ok u)) o e = subst (λ x. frame ∷ [] ≡ handed frame x) (some_is _ o e) refl
broker_one frame (reply.Answer (Err (answer_fault.Dead back))) o e = subst (λ x. frame ∷ [] ≡ handed frame x) (some_is _ o e) refl
broker_one frame (reply.Answer (Err answer_fault.NoMemory)) o e = subst (λ x. frame ∷ [] ≡ handed frame x) (some_is _ o e) refl
broker_one frame (reply.Take x) o e = cc
broker_one frame (reply.Complete x) o e = cc
broker_one frame reply.Noted o e = cc
broker_one frame (reply.Send x) o e = cc
broker_one frame (reply.Emit x) o e = cc
broker_one frame (reply.Pick x) o e = cc
broker_one frame (reply.Look x) o e = cc

pub one_frame : (p : Peer) (frame : List ℕ) (r : Reply) (o : Receipt) → frame_receipt p r ≡ Some o → frames_of_peer p (entry_of (frame_event p frame) r ∷ []) ≡ handed frame o
one_frame peer.Client frame r o e = client_one frame r o e
one_frame peer.Broker frame r o e = broker_one frame r o e
