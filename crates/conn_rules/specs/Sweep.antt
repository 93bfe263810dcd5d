-- Settling goes request by request: one sweep over them, from the oldest on, finds each act in its order.
use Rattle.std.specs.Prelude.{◌≡◌, ℕ, suc, ◌&&◌, ◌≤◌, Bool, true, false, if◌then◌else◌, List, [], ◌∷◌, ◌++◌, length, take, slice_get, Option, Some, None, All}
use Rattle.conn_rules.specs.Causes.{below}
use Rattle.conn_rules.specs.State.{Outside, Request, ListedSend, State, give}
use Rattle.conn_rules.specs.Meaning.{Meaning, Done}
use Rattle.conn_rules.specs.Settling.{Act, lets_later_go, act_of, act_from, next_act, acted, Settles}

-- whether no request of these, the first of them number k, holds back later main sends
abbrev pub free_from : Meaning → List ListedSend → (k : ℕ) → (free : Bool) → List Request → Bool
free_from M sends k free [] = free
free_from M sends k free (r ∷ rs) = free_from M sends (suc k) (free && lets_later_go sends k (M.status r.frame r.given)) rs

-- whether none of the first k requests does
abbrev pub free_before : Meaning → State → ℕ → Bool
free_before M s k = free_from M s.sends 0 true (take k s.requests)

-- none of the first k requests has anything to do
abbrev pub IsQuietBefore : Meaning → State → ℕ → Type 0
IsQuietBefore M s k = act_from M s.sends s.causes.cut 0 true (take k s.requests) ≡ None

-- what request k does, if the requests before it have nothing to do
abbrev pub act_in : Meaning → State → ℕ → Option Request → Option Act
act_in M s k None = None
act_in M s k (Some r) = if below s.causes.cut k then act_of s.sends k (length r.given) (free_before M s k) (M.status r.frame r.given) else None

abbrev pub act_at : Meaning → State → ℕ → Option Act
act_at M s k = act_in M s k (slice_get s.requests k)

abbrev pub HasResponse : Meaning → Request → Type 0
HasResponse M r = (response : List ℕ) × (M.status r.frame r.given ≡ Done response)

pub record SweepLaws (M : Meaning) : Type 0 where
  pub begins : (s : State) → IsQuietBefore M s 0
  -- a request that does nothing is swept over
  pub continues : (s : State) (k : ℕ) → IsQuietBefore M s k → act_at M s k ≡ None → IsQuietBefore M s (suc k)
  -- What the first that does anything does is what the connection does next. Those before it still do nothing then.
  pub next : (s : State) (k : ℕ) (act : Act) → IsQuietBefore M s k → act_at M s k ≡ Some act → next_act M s ≡ Some act
  pub stays : (s : State) (k : ℕ) (act : Act) → IsQuietBefore M s k → act_at M s k ≡ Some act → IsQuietBefore M (acted (Some act) s) k
  -- The sweep ends behind the last request, and at the cut.
  pub ends : (s : State) (k : ℕ) → length s.requests ≤ k → IsQuietBefore M s k → next_act M s ≡ None
  pub ends_at_cut : (s : State) (k : ℕ) → below s.causes.cut k ≡ false → IsQuietBefore M s k → next_act M s ≡ None
  -- a connection that is settled is quiet everywhere
  pub settled : (s : State) (k : ℕ) → next_act M s ≡ None → IsQuietBefore M s k
  -- what holds back later main sends, request by request; requests that have their response do nothing and hold back none
  pub freed : (s : State) (k : ℕ) (r : Request) → slice_get s.requests k ≡ Some r → free_before M s (suc k) ≡ (free_before M s k && lets_later_go s.sends k (M.status r.frame r.given))
  pub answered_quiet : (s : State) (k : ℕ) → All (HasResponse M) (take k s.requests) → IsQuietBefore M s k
  pub answered_free : (s : State) (k : ℕ) → All (HasResponse M) (take k s.requests) → free_before M s k ≡ true
  -- What a request is given is no matter to those behind it, where it does nothing and holds back later main sends as it
  -- did before. A request that joins stands behind all others.
  pub given_quietly : (s : State) (k : ℕ) (x : Outside) (r : Request) → slice_get s.requests k ≡ Some r → next_act M s ≡ None → act_at M (give k x s) k ≡ None → lets_later_go s.sends k (M.status r.frame (r.given ++ x ∷ [])) ≡ lets_later_go s.sends k (M.status r.frame r.given) → next_act M (give k x s) ≡ None
  pub joins_behind : (s : State) (r : Request) → next_act M s ≡ None → IsQuietBefore M (record s { requests = s.requests ++ r ∷ [] }) (length s.requests)
  -- what settles behind an act settles before it, and there is one state to which a connection settles
  pub acts : (s t : State) (act : Act) → next_act M s ≡ Some act → Settles M (acted (Some act) s) t → Settles M s t
  pub rests : (s : State) → next_act M s ≡ None → Settles M s s
  pub once : (s t u : State) → Settles M s t → Settles M s u → t ≡ u
