-- How many responses are still owed to a request, read off the window of sends.
use Rattle.std.proofs.Common.{◌≡◌, ◌∙◌, ap, sym, ℕ, ◌+◌, ◌==◌, Bool, true, false, cond, if◌then◌else◌, List, [], ◌∷◌, ◌++◌, drop, Some, slice_get, Ok, arith}
use Rattle.std.specs.Prelude.{count_by}
use Rattle.conn_rules.specs.State.{State, responding}
use Rattle.correlation.specs.declared.owner.Owner.{Owner}
use Rattle.correlation.specs.declared.owner.Numbered.{Numbered}
use Rattle.correlation.specs.Windows.{Window, with_listed, with_answered}
use Rattle.correlation.specs.IsWindow.{numbered, IsWindow}
use Rattle.serving.specs.Slots.{pending}
use Rattle.serving.proofs.Places.{count_map, count_push, count_first}

abbrev pub owed : Window → ℕ → ℕ
owed w k = count_by (λ n. n.owner.request == k) w.owners

pub pending_is : (s : State) (w : Window) (k : ℕ) → IsWindow s w → pending s k ≡ owed w k
pending_is s w k h =
    sym (ap (λ ns. count_by (λ n. n.owner.request == k) ns) h.owners_are ∙ count_map (λ n. n.owner.request == k) numbered (drop s.answered (responding 0 s.sends)))

owed_more : (owners : List Numbered) (next : ℕ) (owner : Owner) (k : ℕ) (silent : Bool) → count_by (λ n. n.owner.request == k) (if silent then owners else owners ++ record { number = next; owner = owner } ∷ []) ≡ count_by (λ n. n.owner.request == k) owners + cond silent 0 (cond (owner.request == k) 1 0)
owed_more owners next owner k true = omega arith
owed_more owners next owner k false = count_push (λ n. n.owner.request == k) owners (record { number = next; owner = owner })

pub owed_listed : (w : Window) (owner : Owner) (frame : List ℕ) (k : ℕ) → owed (with_listed owner frame w) k ≡ owed w k + cond owner.silent 0 (cond (owner.request == k) 1 0)
owed_listed w owner frame k = owed_more w.owners w.next owner k owner.silent

owed_first : (owners : List Numbered) (n : Numbered) (k : ℕ) → slice_get owners 0 ≡ Some n → count_by (λ n. n.owner.request == k) owners ≡ cond (n.owner.request == k) 1 0 + count_by (λ n. n.owner.request == k) (drop 1 owners)
owed_first [] n k is = cc
owed_first (m ∷ ms) n k is = let e : m ≡ n = cc in ap (λ x. count_by (λ n. n.owner.request == k) (x ∷ ms)) e ∙ count_first (λ n. n.owner.request == k) n ms

pub owed_answered : (w : Window) (n : Numbered) (owner : Owner) (k : ℕ) → slice_get w.owners 0 ≡ Some n → owed w k ≡ cond (n.owner.request == k) 1 0 + owed (with_answered (Ok owner) w) k
owed_answered w n owner k is = owed_first w.owners n k is
