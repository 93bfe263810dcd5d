-- What requests do by themselves: fail, or list a send for the broker. After each event the connection settles: the
-- least request that can do either does it, until none can.
use Rattle.std.specs.Prelude.{◌≡◌, ℕ, zero, suc, ◌==◌, ◌&&◌, ◌||◌, not, Bool, true, if◌then◌else◌, List, [], ◌∷◌, ◌++◌, length, Option, Some, None}
use Rattle.std.specs.List.{list_any}
use Rattle.kp_edge.specs.declared.end.End.{End}
use Rattle.conn_rules.specs.State.{NoResponse, Request, ListedSend, State, cut_at, give}
use Rattle.conn_rules.specs.Causes.{below}
use Rattle.conn_rules.specs.Meaning.{Meaning, ToBroker, Hold, Status, Waits, Done, Fails}

-- what a request does
pub data Act : Type 0 where
  CutAt : (request : ℕ) (why : End) → Act
  Lists : (send : ListedSend) → Act

-- ask number i of request k is among the sends
abbrev pub is_listed : List ListedSend → ℕ → ℕ → Bool
is_listed sends k i = list_any (λ d. (d.request == k) && (d.ask == i)) sends

-- The main send of request k is listed, or the request is done. Then it holds back no later one.
abbrev pub lets_later_go : List ListedSend → ℕ → Status → Bool
lets_later_go sends k (Done response) = true
lets_later_go sends k (Waits ask) = list_any (λ d. (d.request == k) && d.main) sends
lets_later_go sends k (Fails why) = list_any (λ d. (d.request == k) && d.main) sends

-- What request k does with this status, if anything. Each ask lists one send. A main send is listed only where no
-- earlier request holds it back: main sends reach the broker in the client's order.
abbrev pub act_of : List ListedSend → (k i : ℕ) → (free : Bool) → Status → Option Act
act_of sends k i free (Fails why) = Some (CutAt k (why k))
act_of sends k i free (Done response) = None
act_of sends k i free (Waits (Hold key)) = None
act_of sends k i free (Waits (ToBroker before behind main responds)) =
    if not (is_listed sends k i) && (free || not main)
    then Some (Lists (record { request = k; ask = i; before = before; behind = behind; main = main; responds = responds }))
    else None

abbrev pub or_else : Option Act → Option Act → Option Act
or_else (Some act) later = Some act
or_else None later = later

-- the same of the requests from number k on: the least that does anything, and below the cut alone
abbrev pub act_from : Meaning → List ListedSend → Option (ℕ × End) → (k : ℕ) → (free : Bool) → List Request → Option Act
act_from M sends cut k free [] = None
act_from M sends cut k free (r ∷ rs) =
    if below cut k
    then or_else (act_of sends k (length r.given) free (M.status r.frame r.given)) (act_from M sends cut (suc k) (free && lets_later_go sends k (M.status r.frame r.given)) rs)
    else None

abbrev pub next_act : Meaning → State → Option Act
next_act M s = act_from M s.sends s.causes.cut 0 true s.requests

-- A send is listed. One that gets no response counts as answered without one at once.
abbrev pub listed : ListedSend → State → State
listed d s = if d.responds then record s { sends = s.sends ++ d ∷ [] } else give d.request NoResponse (record s { sends = s.sends ++ d ∷ [] })

abbrev pub acted : Option Act → State → State
acted None s = s
acted (Some (CutAt k why)) s = cut_at k why s
acted (Some (Lists d)) s = listed d s

-- after n acts
abbrev pub after_acts : Meaning → ℕ → State → State
after_acts M zero s = s
after_acts M (suc n) s = after_acts M n (acted (next_act M s) s)

pub record Settles (M : Meaning) (s t : State) : Type 0 where
  pub acts : ℕ
  pub after : after_acts M acts s ≡ t
  pub rest : next_act M t ≡ None
