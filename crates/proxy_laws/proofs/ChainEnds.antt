-- Each end of a cut comes in one way.
use Rattle.std.proofs.Common.{◌≡◌, ◌∙◌, ap, refl, sym, subst, ℕ, ◌+◌, Bool, true, false, not, if◌then◌else◌, List, [], ◌++◌, Some, None, nat_le, length, ℤ, inl, inr, ◌⊎◌}
use Rattle.kp_edge.specs.declared.end.End.{End}
use Rattle.kp_edge.specs.declared.end.End.TheVariants as end
use Rattle.kp_schema.specs.Messages.{is_supported}
use Rattle.tree_spelling.specs.Body.{Contents}
use Rattle.tree_spelling.specs.Decoded.{Decoded, AllItems, BadAt, TooManyAt}
use Rattle.framing.specs.Frames.{sized}
use Rattle.framing.specs.CorrelationIds.{request_id}
use Rattle.framing.specs.RequestStarts.{request_key, request_version}
use Rattle.framing.specs.Heads.{has_client_id}
use Rattle.filter_core.specs.Decision.{Turn}
use Rattle.filter_core.specs.declared.reason.Reason.{Reason}
use Rattle.filter_core.specs.declared.reason.Reason.TheVariants as reason
use Rattle.side_requests.specs.declared.ask.Ask.TheVariants as ask
use Rattle.filter_chain.specs.declared.state.ShutCause.{ShutCause}
use Rattle.filter_chain.specs.declared.state.ShutCause.TheVariants as cause
use Rattle.filter_chain.specs.Outcomes.{Outcome, Needs, Completed, Shuts, NeverEnds}
use Rattle.conn_rules.specs.Meaning.{Meaning, Status, Done, Fails}
use Rattle.conn_rules.specs.State.{State}
use Rattle.conn_rules.specs.History.{Entry}
use Rattle.conn_rules.specs.Origins.{CutComesOf, IsCutByFrame, IsCutByAnswer, IsCutByStatus, CutOrigin}
use Rattle.conn_core.specs.Requests.{is_silent, is_told_versions, versions_told, body_cause, request_decoded, answer_cause, answer_decoded}
use Rattle.conn_core.specs.Chained.{most_out, grown_past, sent_for, responded, response_body, message_size, shut_end, filter_end, outcome_status, chain_outcome, chained}
use Rattle.proxy_laws.specs.ChainEnds.{CutWay, OfEvent, OfFrame, OfAnswer, OfStatus, cut_way, IsCutInWay, OwnWayOrigin}

-- of an event alone
event_way : (M : Meaning) (why : End) (k : ℕ) (s : State) (h : Entry) → CutComesOf M why k s h → cut_way why ≡ OfEvent
event_way M end.Ended k s h is = refl
event_way M (end.ClientTorn rest) k s h is = refl
event_way M (end.BadSize at size) k s h is = refl
event_way M end.ClientReadFault k s h is = refl
event_way M (end.AuthorityFault request) k s h is = refl
event_way M why k s h is = absurd is

-- of a frame that is no request
way_of : (way : CutWay) (cause why : ℕ → End) (k : ℕ) → cause ≡ why → cut_way (cause k) ≡ way → cut_way (why k) ≡ way
way_of way cause why k same is = subst (λ (w : ℕ → End). cut_way (w k) ≡ way) same is

body_way : (key version : ℤ) (d : Decoded) (why : ℕ → End) (k : ℕ) → body_cause key version d ≡ Some why → cut_way (why k) ≡ OfFrame
body_way key version (AllItems items) why k e = absurd cc
body_way key version (BadAt place) why k e = let same : (λ n. end.BadBody n key version place) ≡ why = cc in way_of OfFrame (λ n. end.BadBody n key version place) why k same refl
body_way key version (TooManyAt place) why k e = let same : (λ n. end.TooManyEntries n place) ≡ why = cc in way_of OfFrame (λ n. end.TooManyEntries n place) why k same refl

frame_way : (told other headless : Bool) (key version : ℤ) (d : Decoded) (why : ℕ → End) (k : ℕ)
    → (if told then None else if other then Some (λ n. end.UnsupportedApi n key version) else if headless then Some (λ n. end.BadHead n) else body_cause key version d) ≡ Some why → cut_way (why k) ≡ OfFrame
frame_way true other headless key version d why k e = absurd cc
frame_way false true headless key version d why k e = let same : (λ n. end.UnsupportedApi n key version) ≡ why = cc in way_of OfFrame (λ n. end.UnsupportedApi n key version) why k same refl
frame_way false false true key version d why k e = let same : (λ n. end.BadHead n) ≡ why = cc in way_of OfFrame (λ n. end.BadHead n) why k same refl
frame_way false false false key version d why k e = body_way key version d why k e

-- of an answer whose body can't be read
answer_way : (key version : ℤ) (d : Decoded) (why : ℕ → End) (k : ℕ) → answer_cause key version d ≡ Some why → cut_way (why k) ≡ OfAnswer
answer_way key version (AllItems items) why k e = absurd cc
answer_way key version (BadAt place) why k e = let same : (λ n. end.BrokerBadBody n key version) ≡ why = cc in way_of OfAnswer (λ n. end.BrokerBadBody n key version) why k same refl
answer_way key version (TooManyAt place) why k e = let same : (λ n. end.BrokerBadBody n key version) ≡ why = cc in way_of OfAnswer (λ n. end.BrokerBadBody n key version) why k same refl

-- of a request that fails
FailsInWay : Status → Type 0
FailsInWay status = (why : ℕ → End) (k : ℕ) → status ≡ Fails why → cut_way (why k) ≡ OfStatus

fails_in_way : (cause : ℕ → End) → ((k : ℕ) → cut_way (cause k) ≡ OfStatus) → FailsInWay (Fails cause)
unfolding FailsInWay
fails_in_way cause is why k e = let same : cause ≡ why = cc in way_of OfStatus cause why k same (is k)

sent_way : (b : Bool) (frame : List ℕ) (message : Contents) (main : Bool) (size : ℕ) → FailsInWay (if b then sent_for frame message main else grown_past size)
unfolding FailsInWay
sent_way true frame message main size why k e = absurd cc
sent_way false frame message main size why k e = fails_in_way (λ n. end.GrownPast n size) (λ n. refl) why k e

done_way : (b : Bool) (response : List ℕ) (size : ℕ) → FailsInWay (if b then Done response else grown_past size)
unfolding FailsInWay
done_way true response size why k e = absurd cc
done_way false response size why k e = fails_in_way (λ n. end.GrownPast n size) (λ n. refl) why k e

completed_way : (silent : Bool) (frame body : List ℕ) → FailsInWay (if silent then Done [] else responded frame body)
unfolding FailsInWay
completed_way true frame body why k e = absurd cc
completed_way false frame body why k e = done_way (nat_le (4 + length body) most_out) (sized (request_id frame ++ body)) (4 + length body) why k e

filter_way : (filter : ℕ) (why : Reason) (k : ℕ) → cut_way (filter_end filter why k) ≡ OfStatus
filter_way filter (reason.Code code) k = refl
filter_way filter (reason.NodeOutOfRange node) k = refl
filter_way filter (reason.NameTooLong length) k = refl

shut_way : (shut : ShutCause) (k : ℕ) → cut_way (shut_end shut k) ≡ OfStatus
shut_way (cause.Filter filter why) k = filter_way filter why k
shut_way cause.AskBudget k = refl

outcome_way : (frame : List ℕ) (o : Outcome) → FailsInWay (outcome_status frame o)
unfolding FailsInWay
outcome_way frame (Needs (ask.Broker message main)) why k e = sent_way (nat_le (message_size frame message) most_out) frame message main (message_size frame message) why k e
outcome_way frame (Needs (ask.Hold filter key)) why k e = absurd cc
outcome_way frame (Completed response) why k e = completed_way (is_silent frame) frame (response_body response) why k e
outcome_way frame (Shuts shut) why k e = fails_in_way (shut_end shut) (shut_way shut) why k e
outcome_way frame (NeverEnds filter) why k e = fails_in_way (λ n. end.NoMemory) (λ n. refl) why k e

status_way : (told : Bool) (frame : List ℕ) (o : Outcome) → FailsInWay (if told then Done (versions_told frame) else outcome_status frame o)
unfolding FailsInWay
status_way true frame o why k e = absurd cc
status_way false frame o why k e = outcome_way frame o why k e

module _ (chain : List Turn) (limit : ℕ) where
  abbrev M : Meaning
  M = chained chain limit

  frame_end : (s : State) (h : Entry) (k : ℕ) (why : End) → IsCutByFrame M s h k why → cut_way why ≡ OfFrame
  frame_end s h k why f =
      ap cut_way f.end_is
      ∙ frame_way (is_told_versions f.frame) (not (is_supported (request_key f.frame) (request_version f.frame))) (not (has_client_id f.frame)) (request_key f.frame) (request_version f.frame) (request_decoded f.frame) f.cause k f.no_request

  answer_end : (s : State) (h : Entry) (k : ℕ) (why : End) → IsCutByAnswer M s h k why → cut_way why ≡ OfAnswer
  answer_end s h k why f = ap cut_way f.end_is ∙ answer_way (request_key f.due.1.before) (request_version f.due.1.before) (answer_decoded f.due.1.before _) f.cause k f.unreadable

  status_end : (t : State) (k : ℕ) (why : End) → IsCutByStatus M t k why → cut_way why ≡ OfStatus
  unfolding FailsInWay
  status_end t k why f = ap cut_way f.end_is ∙ status_way (is_told_versions f.request.frame) f.request.frame (chain_outcome chain f.request.frame f.request.given) f.cause k f.fails

  module _ (s : State) (h : Entry) (t : State) (k : ℕ) (why : End) where
    abbrev InWay : CutWay → Type 0
    InWay way = IsCutInWay M way s h t k why

    own_way : CutComesOf M why k s h ⊎ IsCutByFrame M s h k why ⊎ IsCutByAnswer M s h k why ⊎ IsCutByStatus M t k why → InWay (cut_way why)
    own_way (inl f) = subst InWay (sym (event_way M why k s h f)) f
    own_way (inr (inl f)) = subst InWay (sym (frame_end s h k why f)) f
    own_way (inr (inr (inl f))) = subst InWay (sym (answer_end s h k why f)) f
    own_way (inr (inr (inr f))) = subst InWay (sym (status_end t k why f)) f

  pub own_way_origin : (hs : List Entry) (s : State) (k : ℕ) (why : End) → CutOrigin M hs s k why → OwnWayOrigin M hs s k why
  own_way_origin hs s k why o = record { origin = o; way = own_way o.moment.before o.moment.entry o.moment.behind k why o.comes }
