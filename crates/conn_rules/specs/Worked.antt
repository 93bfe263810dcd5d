-- An exchange worked through by hand, event by event, with the state after each. The frames are those of a Heartbeat of
-- version 0 and of an ApiVersions request of version 3.
use Rattle.std.specs.Prelude.{◌+◌, ◌==◌, ℕ, nat_lt, true, false, if◌then◌else◌, List, [], ◌∷◌, ◌++◌, length, take, drop, get_or, None, Some, Ok}
use Rattle.framing.specs.Frames.{sized}
use Rattle.framing.specs.CorrelationIds.{request_id}
use Rattle.kp_edge.specs.declared.end.End.TheVariants as end
use Rattle.conn_rules.specs.declared.event.Event.TheVariants as event
use Rattle.conn_rules.specs.declared.event.Reply.TheVariants as reply
use Rattle.conn_rules.specs.declared.event.Emit.TheVariants as emit
use Rattle.conn_rules.specs.State.{Outside, Body, NoResponse, Verdict, State, opening}
use Rattle.conn_rules.specs.Meaning.{Meaning, ToBroker, Status, Waits, Done}
use Rattle.conn_rules.specs.History.{Entry}

-- A request of key 18 is done at once. Each other one goes to the broker, and its response is the body of the answer.
abbrev pub worked_answer : List ℕ → List Outside → Status
worked_answer frame (Body body ∷ given) = Done (sized (request_id frame ++ body))
worked_answer frame (NoResponse ∷ given) = Waits (ToBroker (take 4 frame) (drop 8 frame) true true)
worked_answer frame (Verdict verdict ∷ given) = Waits (ToBroker (take 4 frame) (drop 8 frame) true true)
worked_answer frame [] = Waits (ToBroker (take 4 frame) (drop 8 frame) true true)

abbrev pub worked_meaning : Meaning
worked_meaning =
    record {
      room = λ count held size. nat_lt count 16;
      no_request = λ frame. None;
      silent = λ frame. false;
      status = λ frame given. if get_or frame 1 0 == 18 then Done (sized (request_id frame ++ 0 ∷ 35 ∷ [])) else worked_answer frame given;
      work = λ frame given. 1 + length given;
      unreadable = λ before body. None;
    }

-- the Heartbeat with correlation id 7, and the ApiVersions request with 8
abbrev pub heartbeat : List ℕ
heartbeat = 0 ∷ 12 ∷ 0 ∷ 0 ∷ 0 ∷ 0 ∷ 0 ∷ 7 ∷ 255 ∷ 255 ∷ 0 ∷ 1 ∷ 103 ∷ 0 ∷ 0 ∷ 0 ∷ 1 ∷ 0 ∷ 1 ∷ 109 ∷ []

abbrev pub versions : List ℕ
versions = 0 ∷ 18 ∷ 0 ∷ 3 ∷ 0 ∷ 0 ∷ 0 ∷ 8 ∷ 255 ∷ 255 ∷ []

-- the Heartbeat as the broker gets it, with its size and correlation id 0; and the broker's answer
abbrev pub heartbeat_sent : List ℕ
heartbeat_sent = 0 ∷ 0 ∷ 0 ∷ 20 ∷ 0 ∷ 12 ∷ 0 ∷ 0 ∷ 0 ∷ 0 ∷ 0 ∷ 0 ∷ 255 ∷ 255 ∷ 0 ∷ 1 ∷ 103 ∷ 0 ∷ 0 ∷ 0 ∷ 1 ∷ 0 ∷ 1 ∷ 109 ∷ []

abbrev pub heartbeat_answer : List ℕ
heartbeat_answer = 0 ∷ 0 ∷ 0 ∷ 0 ∷ 0 ∷ 0 ∷ []

-- the two responses, each with its size and its own correlation id
abbrev pub heartbeat_response : List ℕ
heartbeat_response = 0 ∷ 0 ∷ 0 ∷ 6 ∷ 0 ∷ 0 ∷ 0 ∷ 7 ∷ 0 ∷ 0 ∷ []

abbrev pub versions_response : List ℕ
versions_response = 0 ∷ 0 ∷ 0 ∷ 6 ∷ 0 ∷ 0 ∷ 0 ∷ 8 ∷ 0 ∷ 35 ∷ []

-- The states: after the first request, after both, after the send, after the answer, after each response, and at the end.
abbrev pub one_waits : State
one_waits =
    record opening {
      requests = record { frame = heartbeat; given = [] } ∷ [];
      sends = record { request = 0; ask = 0; before = take 4 heartbeat; behind = drop 8 heartbeat; main = true; responds = true } ∷ [];
    }

abbrev pub both_came : State
both_came = record one_waits { requests = record { frame = heartbeat; given = [] } ∷ record { frame = versions; given = [] } ∷ [] }

abbrev pub one_sent : State
one_sent = record both_came { taken = 1 }

abbrev pub one_answered_here : State
one_answered_here = record one_sent { answered = 1; requests = record { frame = heartbeat; given = Body (0 ∷ 0 ∷ []) ∷ [] } ∷ record { frame = versions; given = [] } ∷ [] }

abbrev pub one_passed : State
one_passed = record one_answered_here { passed = 1 }

abbrev pub both_passed : State
both_passed = record one_answered_here { passed = 2 }

abbrev pub client_gone : State
client_gone = record both_passed { causes = record { cut = Some (2, end.Ended); death = None; halt = None; over = None } }

abbrev pub told_ended : State
told_ended = record both_passed { causes = record { cut = Some (2, end.Ended); death = None; halt = None; over = Some end.Ended } }

-- The ApiVersions request is done before the Heartbeat. Its response waits for its turn.
abbrev pub worked_exchange : List Entry
worked_exchange =
    record { actor = 0; event = event.Take heartbeat; reply = reply.Take (Ok tt) }
    ∷ record { actor = 0; event = event.Take versions; reply = reply.Take (Ok tt) }
    ∷ record { actor = 0; event = event.Emit; reply = reply.Emit emit.Later }
    ∷ record { actor = 0; event = event.Send; reply = reply.Send (Some heartbeat_sent) }
    ∷ record { actor = 0; event = event.Send; reply = reply.Send None }
    ∷ record { actor = 0; event = event.Answer heartbeat_answer; reply = reply.Answer (Ok tt) }
    ∷ record { actor = 0; event = event.Emit; reply = reply.Emit (emit.Bytes heartbeat_response) }
    ∷ record { actor = 0; event = event.Emit; reply = reply.Emit (emit.Bytes versions_response) }
    ∷ record { actor = 0; event = event.ClientEnd 0; reply = reply.Noted }
    ∷ record { actor = 0; event = event.Emit; reply = reply.Emit (emit.Over end.Ended) }
    ∷ []
