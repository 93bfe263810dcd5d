-- How a connection stands. Requests and sends are kept whole and for good: the code keeps less.
use Rattle.std.specs.Prelude.{ℕ, suc, ◌-◌, ◌^◌, ◌%◌, Bool, if◌then◌else◌, List, [], ◌∷◌, ◌++◌, length, take, drop, sum_by, slice_get, slice_set, Option, Some, None, pos}
use Rattle.wire_types.specs.Numbers.{int32}
use Rattle.framing.specs.Frames.{sized}
use Rattle.conn_rules.specs.Causes.{no_causes, with_cut, with_death, with_halt}
use Rattle.conn_rules.specs.declared.causes.Causes.{Causes}
use Rattle.kp_edge.specs.declared.end.End.{End}

-- What a request was given from outside: the body of a broker's response, that there is none (to Produce
-- with acks 0), or the verdict on a hold.
pub data Outside : Type 0 where
  Body : (bytes : List ℕ) → Outside
  NoResponse : Outside
  Verdict : (bytes : List ℕ) → Outside

pub record Request : Type 0 where
  -- the client's frame, without its size
  pub frame : List ℕ
  -- what it was given from outside, in order
  pub given : List Outside

-- A send: a frame for the broker.
pub record ListedSend : Type 0 where
  -- the request that it serves, and the number of the ask: how much the request was given before
  pub request : ℕ
  pub ask : ℕ
  -- its frame without its size, before and behind the four bytes of its correlation id
  pub before : List ℕ
  pub behind : List ℕ
  -- whether it is the main send of its request, which is the request itself on its way, and whether it gets a response
  pub main : Bool
  pub responds : Bool

pub record State : Type 0 where
  pub requests : List Request
  pub sends : List ListedSend
  -- sends that the broker's writer took
  pub taken : ℕ
  -- answers that found their send
  pub answered : ℕ
  -- requests that emit steps passed
  pub passed : ℕ
  -- why it ends or has ended
  pub causes : Causes
  -- the holds that were handed out: request and ask number
  pub picked : List (ℕ × ℕ)

abbrev pub opening : State
opening = record { requests = []; sends = []; taken = 0; answered = 0; passed = 0; causes = no_causes; picked = [] }

-- the connection is cut at request k, dies, and halts: see Causes.antt
abbrev pub cut_at : ℕ → End → State → State
cut_at k why s = record s { causes = with_cut k why s.causes }

abbrev pub dead : End → State → State
dead why s = record s { causes = with_death why s.causes }

abbrev pub halted : End → State → State
halted why s = record s { causes = with_halt why s.causes }

-- the requests from the first that no emit step has passed, and the sum of the sizes of their frames
abbrev pub in_flight : State → ℕ
in_flight s = length s.requests - s.passed

abbrev pub held : State → ℕ
held s = sum_by (λ r. length r.frame) (drop s.passed s.requests)

-- request k is given one thing more
abbrev pub given_more : Outside → Option Request → List Request → ℕ → List Request
given_more x None rs k = rs
given_more x (Some r) rs k = slice_set rs k (record r { given = r.given ++ x ∷ [] })

abbrev pub give : ℕ → Outside → State → State
give k x s = record s { requests = given_more x (slice_get s.requests k) s.requests k }

-- the correlation id of send number j
abbrev pub upstream_id : ℕ → ℕ
upstream_id j = j % 2 ^ 31

-- send number j as it goes to the broker
abbrev pub upstream_frame : ℕ → ListedSend → List ℕ
upstream_frame j d = sized (d.before ++ int32 (pos (upstream_id j)) ++ d.behind)

-- those of the sends that get a response, with their numbers, the first of them j
abbrev pub responding : ℕ → List ListedSend → List (ℕ × ListedSend)
responding j [] = []
responding j (d ∷ ds) = if d.responds then (j, d) ∷ responding (suc j) ds else responding (suc j) ds

-- the sends that the broker was given and that get a response
abbrev pub asked : State → List (ℕ × ListedSend)
asked s = responding 0 (take s.taken s.sends)

-- the send that the broker's next frame answers: the first of them that has no response yet
abbrev pub due_send : State → Option (ℕ × ListedSend)
due_send s = slice_get (asked s) s.answered

-- how many of them have none yet
abbrev pub waiting : State → ℕ
waiting s = length (asked s) - s.answered
