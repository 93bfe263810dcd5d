-- What requests mean to the service of the tests. The first three bytes of a frame are the codes of its asks, in order.
-- The fourth byte tells whether the request is silent. Behind the correlation id stands the body.
use Rattle.std.specs.Prelude.{ℕ, ◌+◌, ◌-◌, ◌==◌, nat_lt, Bool, true, if◌then◌else◌, false, List, [], ◌++◌, length, take, drop, get_or, Some, None, pos}
use Rattle.kp_edge.specs.declared.end.End.TheVariants as end
use Rattle.framing.specs.Frames.{sized}
use Rattle.framing.specs.CorrelationIds.{request_id}
use Rattle.conn_rules.specs.Meaning.{Meaning, ToBroker, Hold, Status, Waits, Done, Fails}
use Rattle.conn_rules.specs.State.{Outside, Body, NoResponse, Verdict}

-- the bytes of what a request was given last, if any
abbrev pub outside_bytes : Outside → List ℕ
outside_bytes (Body bytes) = bytes
outside_bytes NoResponse = []
outside_bytes (Verdict bytes) = bytes

abbrev pub last_given : List Outside → List ℕ
last_given given = outside_bytes (get_or given (length given - 1) NoResponse)

-- `m` and `q` are the main send, which gets a response or none. `a` is a send aside without a body. `h` is a hold on the
-- body. `v` is the main send where the last bytes begin with 1, and a failure where they don't. `f` is a failure.
abbrev pub trial_main : List ℕ → Bool → Status
trial_main frame responds = Waits (ToBroker (take 4 frame) (drop 8 frame) true responds)

-- where no ask is left
abbrev pub trial_done : List ℕ → List ℕ → Status
trial_done frame last = Done (if get_or frame 3 0 == 45 then [] else sized (request_id frame ++ last))

abbrev pub trial_ask : List ℕ → ℕ → List ℕ → Status
trial_ask frame code last =
    if code == 109 then trial_main frame true
    else if code == 113 then trial_main frame false
    else if code == 97 then Waits (ToBroker (take 4 frame) [] false true)
    else if code == 104 then Waits (Hold (drop 8 frame))
    else if code == 118 then (if get_or last 0 0 == 1 then trial_main frame true else Fails (λ k. end.FilterShut k 3 9))
    else if code == 102 then Fails (λ k. end.AskBudget k)
    else trial_done frame last

abbrev pub trial_status : List ℕ → List Outside → Status
trial_status frame given = if nat_lt (length given) 3 then trial_ask frame (get_or frame (length given) 0) (last_given given) else trial_done frame (last_given given)

-- A frame that begins with `x` is no request, and a body that begins with `!` can't be read.
abbrev pub trial : Meaning
trial =
    record {
      room = λ count held size. true;
      no_request = λ frame. if get_or frame 0 0 == 120 then Some (λ k. end.BadHead k) else None;
      silent = λ frame. get_or frame 3 0 == 45;
      status = trial_status;
      work = λ frame given. 1 + length given;
      unreadable = λ before body. if get_or body 0 0 == 33 then Some (λ k. end.BrokerBadBody k (pos 7) (pos 2)) else None;
    }
