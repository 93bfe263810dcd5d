-- No request fails by an end of the client's stream.
use Rattle.std.proofs.Common.{◌≡◌, ℕ, Bool, true, false, if◌then◌else◌, List, [], ◌++◌, Option, Some, refl, subst, nat_le, length, ◌+◌, ℤ}
use Rattle.kp_edge.specs.declared.end.End.{End}
use Rattle.kp_edge.specs.declared.end.End.TheVariants as end
use Rattle.tree_spelling.specs.Body.{Contents}
use Rattle.tree_spelling.specs.Decoded.{Decoded, AllItems, BadAt, TooManyAt}
use Rattle.framing.specs.Frames.{sized}
use Rattle.framing.specs.CorrelationIds.{request_id}
use Rattle.framing.specs.RequestStarts.{request_key, request_version}
use Rattle.filter_core.specs.Decision.{Turn}
use Rattle.filter_core.specs.declared.reason.Reason.{Reason}
use Rattle.filter_core.specs.declared.reason.Reason.TheVariants as reason
use Rattle.side_requests.specs.declared.ask.Ask.TheVariants as ask
use Rattle.filter_chain.specs.declared.state.ShutCause.{ShutCause}
use Rattle.filter_chain.specs.declared.state.ShutCause.TheVariants as cause
use Rattle.filter_chain.specs.Outcomes.{Outcome, Needs, Completed, Shuts, NeverEnds}
use Rattle.conn_rules.specs.Meaning.{Status, Done, Fails}
use Rattle.conn_rules.specs.State.{Outside}
use Rattle.conn_rules.specs.Told.{is_client_stream_end, FailsByOwnEnds}
use Rattle.conn_core.specs.Requests.{is_silent, is_told_versions, versions_told, answer_cause, answer_decoded}
use Rattle.conn_core.specs.Chained.{most_out, grown_past, sent_for, responded, response_body, message_size, shut_end, filter_end, outcome_status, chain_outcome, chained}

-- the status fails, and by no end of the client's stream
OnlyOwnEnds : Status → Type 0
OnlyOwnEnds status = (why : ℕ → End) (k : ℕ) → status ≡ Fails why → is_client_stream_end (why k) ≡ false

own : (cause : ℕ → End) → ((k : ℕ) → is_client_stream_end (cause k) ≡ false) → OnlyOwnEnds (Fails cause)
unfolding OnlyOwnEnds
own cause is why k e = let same : cause ≡ why = cc in subst (λ (w : ℕ → End). is_client_stream_end (w k) ≡ false) same (is k)

grown_or_sent : (b : Bool) (frame : List ℕ) (message : Contents) (main : Bool) (size : ℕ) → OnlyOwnEnds (if b then sent_for frame message main else grown_past size)
unfolding OnlyOwnEnds
grown_or_sent true frame message main size why k e = absurd cc
grown_or_sent false frame message main size why k e = own (λ n. end.GrownPast n size) (λ n. refl) why k e

grown_or_done : (b : Bool) (response : List ℕ) (size : ℕ) → OnlyOwnEnds (if b then Done response else grown_past size)
unfolding OnlyOwnEnds
grown_or_done true response size why k e = absurd cc
grown_or_done false response size why k e = own (λ n. end.GrownPast n size) (λ n. refl) why k e

completed_so : (silent : Bool) (frame body : List ℕ) → OnlyOwnEnds (if silent then Done [] else responded frame body)
unfolding OnlyOwnEnds
completed_so true frame body why k e = absurd cc
completed_so false frame body why k e = grown_or_done (nat_le (4 + length body) most_out) (sized (request_id frame ++ body)) (4 + length body) why k e

shut_so : (filter : ℕ) (why : Reason) (k : ℕ) → is_client_stream_end (filter_end filter why k) ≡ false
shut_so filter (reason.Code code) k = refl
shut_so filter (reason.NodeOutOfRange node) k = refl
shut_so filter (reason.NameTooLong length) k = refl

shuts_so : (shut : ShutCause) (k : ℕ) → is_client_stream_end (shut_end shut k) ≡ false
shuts_so (cause.Filter filter why) k = shut_so filter why k
shuts_so cause.AskBudget k = refl

outcome_so : (frame : List ℕ) (o : Outcome) → OnlyOwnEnds (outcome_status frame o)
unfolding OnlyOwnEnds
outcome_so frame (Needs (ask.Broker message main)) why k e = grown_or_sent (nat_le (message_size frame message) most_out) frame message main (message_size frame message) why k e
outcome_so frame (Needs (ask.Hold filter key)) why k e = absurd cc
outcome_so frame (Completed response) why k e = completed_so (is_silent frame) frame (response_body response) why k e
outcome_so frame (Shuts shut) why k e = own (shut_end shut) (shuts_so shut) why k e
outcome_so frame (NeverEnds filter) why k e = own (λ n. end.NoMemory) (λ n. refl) why k e

status_so : (told : Bool) (frame : List ℕ) (o : Outcome) → OnlyOwnEnds (if told then Done (versions_told frame) else outcome_status frame o)
unfolding OnlyOwnEnds
status_so true frame o why k e = absurd cc
status_so false frame o why k e = outcome_so frame o why k e

answer_so : (key version : ℤ) (d : Decoded) (why : ℕ → End) (k : ℕ) → answer_cause key version d ≡ Some why → is_client_stream_end (why k) ≡ false
answer_so key version (AllItems items) why k e = absurd cc
answer_so key version (BadAt place) why k e = let same : (λ n. end.BrokerBadBody n key version) ≡ why = cc in subst (λ (w : ℕ → End). is_client_stream_end (w k) ≡ false) same refl
answer_so key version (TooManyAt place) why k e = let same : (λ n. end.BrokerBadBody n key version) ≡ why = cc in subst (λ (w : ℕ → End). is_client_stream_end (w k) ≡ false) same refl

pub chain_fails_by_own_ends : (chain : List Turn) (limit : ℕ) → FailsByOwnEnds (chained chain limit)
unfolding OnlyOwnEnds
chain_fails_by_own_ends chain limit =
    record {
      status = λ frame given why k e. status_so (is_told_versions frame) frame (chain_outcome chain frame given) why k e;
      unreadable = λ before body why k e. answer_so (request_key before) (request_version before) (answer_decoded before body) why k e;
    }
