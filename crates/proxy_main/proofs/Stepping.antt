-- A line that a station plays is played from where it stands.
use Rattle.std.proofs.Common.{◌≡◌, ℕ, false, sym, List, [], ◌∷◌, ◌++◌, Some, Result, Ok, Err, refl, ap, ◌∙◌, subst}
use Rattle.conn_rules.specs.Meaning.{Meaning}
use Rattle.conn_rules.specs.State.{State}
use Rattle.conn_rules.specs.History.{Entry, LeadsTo, IsHistory}
use Rattle.conn_rules.specs.Work.{TakesGrowth, is_accepted}
use Rattle.conn_rules.specs.declared.event.Event.{Event}
use Rattle.conn_rules.specs.declared.event.Event.TheVariants as event
use Rattle.conn_rules.specs.declared.event.Reply.{Reply}
use Rattle.conn_rules.specs.declared.event.Reply.TheVariants as reply
use Rattle.conn_rules.specs.declared.event.CompleteFault.{CompleteFault}
use Rattle.conn_rules.specs.declared.event.CompleteFault.TheVariants as complete_fault
use Rattle.session.specs.declared.told.Told.{Told}
use Rattle.session.specs.declared.told.Told.TheVariants as told
use Rattle.session.specs.Streams.{Stream}
use Rattle.conn_rules.specs.Connections.{Follows, CountsWork}
use Rattle.conn_rules.proofs.Brings.{brings_one}
use Rattle.session.specs.Pushes.{entry_of, IsPush}
use Rattle.session.specs.Counting.{CountsGrowth, BringsCounted}
use Rattle.session.proofs.Counting.{counted_one, counted_idle}
use Rattle.proxy_main.proofs.Playing.{line_found}
use Rattle.session.specs.Calls.{Link, IsToldOf}
use Rattle.transcript.specs.declared.line.Line.{Line}
use Rattle.transcript.specs.declared.answer.Answer.{Answer}
use Rattle.transcript.specs.declared.answer.Answer.TheVariants as answer
use Rattle.proxy_main.specs.Played.{Play, at_state, told_answer, answer_of, IsEventLine, IsEmitLine, IsPlayed}
use Rattle.proxy_main.specs.Progress.{IsAt}

-- what a verdict is answered
pub verdict_answer : (r : Result (Unit {0}) CompleteFault) (t : Told) → IsToldOf r (Ok t) → answer_of (reply.Complete r) ≡ Some (told_answer t)
verdict_answer (Ok u) t h = let e : told.Fine ≡ t = cc in subst (λ x. Some answer.Fine ≡ Some (told_answer x)) e refl
verdict_answer (Err (complete_fault.NotWaiting verdict)) t h = let e : told.NotWaiting ≡ t = cc in subst (λ x. Some answer.NotWaiting ≡ Some (told_answer x)) e refl
verdict_answer (Err complete_fault.NoMemory) t h = absurd h

-- an emit line: the step, and the push behind it
pub emit_line : (a : Answer) (before between after : Stream) (first rest : List Entry) (t : Told) → IsEventLine event.Emit a first → between ≡ before → IsPush between rest (Ok t) after → IsEmitLine before a (first ++ rest) after
emit_line a before between after first rest t emits same pushes =
    record { first = first; emits = emits; rest = rest; told = t; pushes = subst (λ s. IsPush s rest (Ok t) after) same pushes; entries = refl }

module _ {C : Type 0} (meaning : C → Meaning) (stands : C → State → Type 0) where
  -- one event of the connection is a line of its own; where nothing is accepted no step is counted
  pub event_line : (old new : C) (e : Event) (r : Reply) (a : Answer) → Follows meaning stands old e r new → answer_of r ≡ Some a → is_accepted r ≡ false
      → (hs : List Entry) × ((n : ℕ) → BringsCounted meaning stands old hs new n n) × IsEventLine e a hs
  event_line old new e r a follows answered idle = (
    entry_of e r ∷ [],
    λ n. counted_idle meaning stands old new (entry_of e r ∷ []) n (brings_one meaning stands old new (entry_of e r) follows) (idle, tt),
    record { reply = r; entry = refl; answered = answered },
  )

  pub verdict_line : (old new : C) (e : Event) (r : Reply) (a : Answer) (n m : ℕ) → Follows meaning stands old e r new → CountsWork meaning stands old e r n m → answer_of r ≡ Some a → (hs : List Entry) × BringsCounted meaning stands old hs new n m × IsEventLine e a hs
  verdict_line old new e r a n m follows counts answered =
      (entry_of e r ∷ [], counted_one meaning stands old new (entry_of e r) n m follows counts, record { reply = r; entry = refl; answered = answered })

  -- a line that is one event at which nothing is accepted
  pub idle_line : (old new : Link C) (written l : Line) (a : Answer) (n : ℕ) (P : List Entry → Type 0) → written ≡ l
      → (k : (hs : List Entry) × ((n : ℕ) → BringsCounted meaning stands old.connection hs new.connection n n) × P hs)
      → ((s t : State) → P k.0 → IsPlayed (at_state old s) l a k.0 (at_state new t))
      → (hs : List Entry) × BringsCounted meaning stands old.connection hs new.connection n n × ((s t : State) → IsPlayed (at_state old s) written a hs (at_state new t))
  idle_line old new written l a n P is k played =
      (k.0, k.1 n, λ s t. subst (λ x. IsPlayed (at_state old s) x a k.0 (at_state new t)) (sym is) (played s t k.2))

  pub record PlayedOn (M : Meaning) (new : Link C) (p : Play) (l : Line) (a : Answer) (n m : ℕ) : Type 0 where
    pub history : List Entry
    pub last : Play
    pub played : IsPlayed p l a history last
    pub leads : LeadsTo M p.state history last.state
    pub is_at : IsAt meaning stands M new last
    pub counts : (past : List Entry) → IsHistory M past p.state → TakesGrowth M n m p.state last.state

  pub played_on : (M : Meaning) (old new : Link C) (p : Play) (l : Line) (a : Answer) (n m : ℕ) → IsAt meaning stands M old p
      → (hs : List Entry) × BringsCounted meaning stands old.connection hs new.connection n m × ((s t : State) → IsPlayed (at_state old s) l a hs (at_state new t))
      → PlayedOn M new p l a n m
  played_on M old new p l a n m at k =
      let b = k.1.1 p.state at.stands_for in
      let here : at_state old p.state ≡ p = ap (λ s. record { client = s; broker = old.broker; state = p.state }) at.client ∙ ap (λ s. record { client = p.client; broker = s; state = p.state }) at.broker in
      let counts : CountsGrowth M p.state k.0 b.0 n m = subst (λ N. CountsGrowth N p.state k.0 b.0 n m) at.meaning_is b.3 in
      record {
        history = k.0;
        last = at_state new b.0;
        played = subst (λ x. IsPlayed x l a k.0 (at_state new b.0)) here (k.2 p.state b.0);
        leads = subst (λ N. LeadsTo N p.state k.0 b.0) at.meaning_is b.1;
        is_at = record { meaning_is = k.1.0 ∙ at.meaning_is; stands_for = b.2; client = refl; broker = refl };
        counts = λ past run. counts past run (line_found (at_state old p.state) l a k.0 (at_state new b.0) (k.2 p.state b.0));
      }
