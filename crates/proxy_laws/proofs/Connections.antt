-- What a client gets for its request in a connection under a chain of lawful filters.
use Rattle.std.proofs.Common.{◌≡◌, ◌∙◌, ap, refl, sym, subst, ℕ, ◌+◌, nat_le, Bool, true, false, not, if◌then◌else◌, List, [], ◌∷◌, ◌++◌, length, drop, append_assoc, append-nil, ℤ, Option, Some, None, IsTrue, MatchBool, arith}
use Rattle.std.specs.List.{All}
use Rattle.std.proofs.lemmas.List.{get_or-drop}
use Rattle.kp_edge.specs.declared.end.End.TheVariants as end
use Rattle.kp_schema.specs.declared.dir.Dir.{Dir}
use Rattle.kp_schema.specs.declared.dir.Dir.TheVariants as dir
use Rattle.kp_schema.specs.Messages.{is_supported}
use Rattle.wire_types.specs.Numbers.{int16}
use Rattle.tree_spelling.specs.declared.primitive.Primitive.{Primitive}
use Rattle.tree_spelling.specs.Shape.{message_shape}
use Rattle.tree_spelling.specs.Laws.{AreBytes}
use Rattle.tree_spelling.specs.Body.{Contents, IsTree}
use Rattle.tree_spelling.specs.Spelling.{spelling, AreInRange}
use Rattle.tree_spelling.specs.Decoded.{Decoded, decoded, AllItems, BadAt, TooManyAt}
use Rattle.tree_spelling.proofs.Decoding.{decoded_is_spelled}
use Rattle.framing.specs.Frames.{sized}
use Rattle.framing.specs.CorrelationIds.{request_id}
use Rattle.framing.specs.Heads.{has_client_id, client_id_spelled, request_body, client_id_length}
use Rattle.framing.specs.RequestStarts.{request_key, request_version}
use Rattle.filter_core.specs.Acks.{has_acks_zero}
use Rattle.filter_core.specs.Decision.{Turn}
use Rattle.filter_core.specs.Inputs.{IsWholeRequest, IsResponseTo}
use Rattle.filter_core.specs.Laws.{AnswersRequest, IsLawful}
use Rattle.side_requests.specs.declared.ask.Ask.TheVariants as ask
use Rattle.filter_chain.specs.declared.outside.Outside as chains
use Rattle.filter_chain.specs.Outcomes.{Outcome, Needs, Completed, Shuts, NeverEnds, run}
use Rattle.conn_rules.specs.Meaning.{Meaning, Ask, ToBroker, Hold, Waits, Done}
use Rattle.conn_rules.specs.State.{Outside, Body, NoResponse, Verdict, ListedSend}
use Rattle.conn_core.specs.Requests.{request_of, request_decoded, is_silent, is_told_versions, versions_told, body_cause, frame_cause, answer_cause, response_decoded, response_read, items_read}
use Rattle.conn_core.specs.Chained.{taken_as, given_behind, given_to, most_out, grown_past, message_size, sent_for, responded, response_body, outcome_status, chain_outcome, chained}
use Rattle.conn_core.proofs.Lasting.{given_later, done_is_completed}
use Rattle.proxy_laws.specs.Coming.{MayBeGiven, MayHaveComeBehind, MayHaveCome}
use Rattle.proxy_laws.specs.LawfulChains.{IsNeedOf}
use Rattle.proxy_laws.specs.Awaited.{IsAwaited, AwaitedBehind, AreAwaited, IsGivenAsAwaited, IsAwaitedSend}
use Rattle.proxy_laws.specs.OwnResponses.{IsResponseFrame, DoneWithOwnResponse, IsMessageFor, IsMessageSend, SendsWholeMessages, AllComeToAnEnd}
use Rattle.proxy_laws.proofs.Requests.{own_response, whole_messages, one_main_send, comes_to_an_end}
use Rattle.proxy_laws.proofs.Supported.{supported_fits, key_again, version_again}

-- ---- bodies that are read are trees

tree_of : (key version : ℤ) (d : Dir) (bytes : List ℕ) → AreBytes bytes → (items : List Primitive) → decoded (message_shape key version d) bytes ≡ AllItems items → IsTree (record { key = key; version = version; dir = d; items = items })
tree_of key version d bytes small items e =
    let v = ((decoded_is_spelled (message_shape key version d) bytes small).0 items).0 e in
    record { value = v.0; is = v.1; in_range = subst AreInRange (sym v.1) v.2.readable.in_range }

tree_read : (key version : ℤ) (d : Dir) (bytes : List ℕ) → AreBytes bytes → (items : List Primitive) → decoded (message_shape key version d) bytes ≡ AllItems items
    → IsTree (record { key = key; version = version; dir = d; items = items_read (decoded (message_shape key version d) bytes) })
tree_read key version d bytes small items e =
    subst (λ x. IsTree (record { key = key; version = version; dir = d; items = items_read x })) (sym e) (tree_of key version d bytes small items e)

no_body_cause : (key version : ℤ) (d : Decoded) → body_cause key version d ≡ None → (items : List Primitive) × (d ≡ AllItems items)
no_body_cause key version (AllItems items) e = (items, refl)
no_body_cause key version (BadAt place) e = absurd cc
no_body_cause key version (TooManyAt place) e = absurd cc

no_answer_cause : (key version : ℤ) (d : Decoded) → answer_cause key version d ≡ None → (items : List Primitive) × (d ≡ AllItems items)
no_answer_cause key version (AllItems items) e = (items, refl)
no_answer_cause key version (BadAt place) e = absurd cc
no_answer_cause key version (TooManyAt place) e = absurd cc

drop_small : (n : ℕ) (bytes : List ℕ) → AreBytes bytes → AreBytes (drop n bytes)
drop_small n bytes small i = omega (arith, get_or-drop n bytes i 0, small (n + i))

-- ---- a client's request is whole, and supported

no_cause : (frame : List ℕ) (told served client : Bool) → told ≡ false
    → (if told then None else if not served then Some (λ k. end.UnsupportedApi k (request_key frame) (request_version frame)) else if not client then Some (λ k. end.BadHead k) else body_cause (request_key frame) (request_version frame) (request_decoded frame)) ≡ None
    → (served ≡ true) × (body_cause (request_key frame) (request_version frame) (request_decoded frame) ≡ None)
no_cause frame true served client t e = absurd cc
no_cause frame false false client t e = absurd cc
no_cause frame false true false t e = absurd cc
no_cause frame false true true t e = (refl, e)

module _ (frame : List ℕ) (small : AreBytes frame) (is_request : frame_cause frame ≡ None) (not_told : is_told_versions frame ≡ false) where
  parts : (is_supported (request_key frame) (request_version frame) ≡ true) × (body_cause (request_key frame) (request_version frame) (request_decoded frame) ≡ None)
  parts = no_cause frame (is_told_versions frame) (is_supported (request_key frame) (request_version frame)) (has_client_id frame) not_told is_request

  pub whole_request : IsWholeRequest (request_of frame)
  whole_request =
      let d = no_body_cause (request_key frame) (request_version frame) (request_decoded frame) parts.1 in
      record {
        tree = tree_read (request_key frame) (request_version frame) dir.Request (request_body frame) (drop_small (client_id_length frame) (drop 8 frame) (drop_small 8 frame small)) d.0 d.1;
        dir_is = refl;
      }

  pub supported_request : IsTrue (is_supported (request_key frame) (request_version frame))
  supported_request = parts.0

-- ---- what is read of an answer is a response to its message

read_response : (message : Contents) (bytes : List ℕ) → AreBytes bytes → answer_cause message.key message.version (response_decoded message.key message.version bytes) ≡ None → IsResponseTo message (response_read message bytes)
read_response message bytes small e =
    let d = no_answer_cause message.key message.version (response_decoded message.key message.version bytes) e in
    record { tree = tree_read message.key message.version dir.Response bytes small d.0 d.1; of = record { key_is = refl; version_is = refl; dir_is = refl } }

cause_again : (key version a b : ℤ) (bytes : List ℕ) → key ≡ a → version ≡ b → answer_cause key version (response_decoded key version bytes) ≡ None → answer_cause a b (response_decoded a b bytes) ≡ None
cause_again key version a b bytes e f h = subst (λ v. answer_cause a v (response_decoded a v bytes) ≡ None) f (subst (λ k. answer_cause k version (response_decoded k version bytes) ≡ None) e h)

readable_response : (message : Contents) (bytes : List ℕ) → IsTrue (is_supported message.key message.version) → AreBytes bytes
    → answer_cause (request_key (int16 message.key ++ int16 message.version)) (request_version (int16 message.key ++ int16 message.version)) (response_decoded (request_key (int16 message.key ++ int16 message.version)) (request_version (int16 message.key ++ int16 message.version)) bytes) ≡ None
    → IsResponseTo message (response_read message bytes)
readable_response message bytes supported small e =
    let fits = supported_fits message.key message.version supported in
    let before = int16 message.key ++ int16 message.version in
    read_response message bytes small (cause_again (request_key before) (request_version before) message.key message.version bytes (key_again message.key message.version fits.0) (version_again message.key message.version fits.1) e)

status_of : (chain : List Turn) (frame : List ℕ) (told : Bool) (o : Outcome) → told ≡ false → (if told then Done (versions_told frame) else outcome_status frame o) ≡ outcome_status frame o
status_of chain frame true o e = absurd cc
status_of chain frame false o e = refl

-- ---- what was given is what may have come

come_one_more : (chain : List Turn) (request : Contents) (start came : List chains.Outside) (x : chains.Outside) → MayHaveComeBehind chain request start came → MayBeGiven (run chain request (start ++ came)) x → MayHaveComeBehind chain request start (came ++ x ∷ [])
come_one_more chain request start [] x h may = (subst (λ l. MayBeGiven (run chain request l) x) (append-nil start) may, tt)
come_one_more chain request start (y ∷ came) x h may =
    (h.0, come_one_more chain request (start ++ y ∷ []) came x h.1 (subst (λ l. MayBeGiven (run chain request l) x) (sym (append_assoc start (y ∷ []) came)) may))

supported_need : (chain : List Turn) (request message : Contents) (main : Bool) → IsTrue (is_supported request.key request.version) → IsNeedOf chain request (ask.Broker message main) → IsTrue (is_supported message.key message.version)
supported_need chain request message true supported need = subst (λ k. IsTrue (is_supported k message.version)) (sym need.same_key) (subst (λ v. IsTrue (is_supported request.key v)) (sym need.same_version) supported)
supported_need chain request message false supported need = need.supported

whole_need : (chain : List Turn) (request : Contents) (main : Bool) (message : Contents) → IsNeedOf chain request (ask.Broker message main) → IsWholeRequest message
whole_need chain request true message need = need.is_request
whole_need chain request false message need = need.is_request

not_false : (b : Bool) → not b ≡ false → b ≡ true
not_false true e = refl
not_false false e = absurd cc

module _ (chain : List Turn) (limit : ℕ) (frame : List ℕ) where
  abbrev M : Meaning
  M = chained chain limit

  awaited_sent : (message : Contents) (main b : Bool) (size : ℕ) (x : Outside) → IsAwaited M (if b then sent_for frame message main else grown_past size) x → IsAwaited M (sent_for frame message main) x
  awaited_sent message main true size x h = h
  awaited_sent message main false size x h = absurd h

  nothing_awaited : (silent b : Bool) (size : ℕ) (response : List ℕ) (x : Outside) → IsAwaited M (if silent then Done [] else if b then Done response else grown_past size) x → ⊥
  nothing_awaited true b size response x h = h
  nothing_awaited false true size response x h = h
  nothing_awaited false false size response x h = h

  meets_message : (message : Contents) (main : Bool) (x : Outside) → IsTrue (is_supported message.key message.version) → IsAwaited M (sent_for frame message main) x → MayBeGiven (Needs (ask.Broker message main)) (taken_as (Needs (ask.Broker message main)) x)
  meets_message message main (Body bytes) supported h = readable_response message bytes supported h.1 h.2
  meets_message message main NoResponse supported h = not_false (has_acks_zero message) h
  meets_message message main (Verdict bytes) supported h = absurd h

  meets_hold : (filter : ℕ) (key : List ℕ) (x : Outside) → IsAwaited M (outcome_status frame (Needs (ask.Hold filter key))) x → MayBeGiven (Needs (ask.Hold filter key)) (taken_as (Needs (ask.Hold filter key)) x)
  meets_hold filter key (Body bytes) h = absurd h
  meets_hold filter key NoResponse h = absurd h
  meets_hold filter key (Verdict bytes) h = tt

  meets : (o : Outcome) (x : Outside) → ((message : Contents) (main : Bool) → o ≡ Needs (ask.Broker message main) → IsTrue (is_supported message.key message.version)) → IsAwaited M (outcome_status frame o) x → MayBeGiven o (taken_as o x)
  meets (Needs (ask.Broker message main)) x supported h =
      meets_message message main x (supported message main refl) (awaited_sent message main (nat_le (message_size frame message) most_out) (message_size frame message) x h)
  meets (Needs (ask.Hold filter key)) x supported h = meets_hold filter key x h
  meets (Completed response) x supported h =
      absurd (nothing_awaited (is_silent frame) (nat_le (4 + length (response_body response)) most_out) (4 + length (response_body response)) (sized (request_id frame ++ response_body response)) x h)
  meets (Shuts cause) x supported h = absurd h
  meets (NeverEnds filter) x supported h = absurd h

  module _ (lawful : All IsLawful chain) (small : AreBytes frame) (is_request : frame_cause frame ≡ None) (not_told : is_told_versions frame ≡ false) where
    abbrev request : Contents
    request = request_of frame

    whole : IsWholeRequest request
    whole = whole_request frame small is_request not_told

    needs_supported : (came : List chains.Outside) → MayHaveCome chain request came → (message : Contents) (main : Bool) → run chain request came ≡ Needs (ask.Broker message main) → IsTrue (is_supported message.key message.version)
    needs_supported came may message main e = supported_need chain request message main (supported_request frame small is_request not_told) (whole_messages chain lawful request came (ask.Broker message main) whole may e)

    come_from : (before : List Outside) (came : List chains.Outside) → given_to chain request before ≡ came → (xs : List Outside) → MayHaveCome chain request came → AwaitedBehind M frame before xs → MayHaveCome chain request (given_behind chain request came xs)
    come_from before came same [] may h = may
    come_from before came same (x ∷ xs) may h =
        let o = run chain request came in
        let y = taken_as o x in
        let awaited : IsAwaited M (outcome_status frame o) x =
        subst (λ l. IsAwaited M (outcome_status frame (run chain request l)) x) same (subst (λ s. IsAwaited M s x) (status_of chain frame (is_told_versions frame) (run chain request (given_to chain request before)) not_told) h.0) in
        come_from (before ++ x ∷ []) (came ++ y ∷ []) (given_later chain request before (x ∷ []) [] ∙ ap (λ l. given_behind chain request l (x ∷ [])) same) xs
        (come_one_more chain request [] came y may (meets o x (needs_supported came may) awaited)) h.1

    pub given_come : (given : List Outside) → AreAwaited M frame given → MayHaveCome chain request (given_to chain request given)
    given_come given h = come_from [] [] refl given tt h

    responded_frame : (body : List ℕ) (b : Bool) (size : ℕ) (response : List ℕ) → (if b then Done (sized (request_id frame ++ body)) else grown_past size) ≡ Done response → response ≡ sized (request_id frame ++ body)
    responded_frame body true size response e = cc
    responded_frame body false size response e = absurd (let z : grown_past size ≡ Done response = e in cc)

    own_frame : (came : Option Contents) (response : List ℕ) → AnswersRequest request came → has_acks_zero request ≡ false → responded frame (response_body came) ≡ Done response → IsResponseFrame frame response
    own_frame None response answers loud e = absurd (let z : true ≡ false = sym answers ∙ loud in cc)
    own_frame (Some body) response answers loud e = (body, answers, responded_frame (spelling body.items) (nat_le (4 + length (spelling body.items)) most_out) (4 + length (spelling body.items)) response e)

    own_or_silent : (silent : Bool) (came : Option Contents) (response : List ℕ) → is_silent frame ≡ silent → AnswersRequest request came
        → (if silent then Done [] else responded frame (response_body came)) ≡ Done response → MatchBool silent (response ≡ []) (IsResponseFrame frame response)
    own_or_silent true came response is answers e = cc
    own_or_silent false came response is answers e = own_frame came response answers is e

    own_completed : (given : List Outside) (response : List ℕ) → AreAwaited M frame given → outcome_status frame (chain_outcome chain frame given) ≡ Done response → MatchBool (is_silent frame) (response ≡ []) (IsResponseFrame frame response)
    own_completed given response awaited e =
        let d = done_is_completed frame (chain_outcome chain frame given) response e in
        own_or_silent (is_silent frame) d.0 response refl (own_response chain lawful request (given_to chain request given) d.0 whole (given_come given awaited) d.1) (sym (ap (outcome_status frame) d.1) ∙ e)

    pub message_for : (given : List Outside) (message : Contents) (main : Bool) → AreAwaited M frame given → chain_outcome chain frame given ≡ Needs (ask.Broker message main) → IsMessageFor chain frame message main
    message_for given message main awaited e =
        let may = given_come given awaited in
        let need = whole_messages chain lawful request (given_to chain request given) (ask.Broker message main) whole may e in
        record { whole = whole_need chain request main message need; supported = needs_supported (given_to chain request given) may message main e; need = need }

  own_either : (lawful : All IsLawful chain) (small : AreBytes frame) (is_request : frame_cause frame ≡ None) (given : List Outside) → AreAwaited M frame given → (response : List ℕ) → (told : Bool) → is_told_versions frame ≡ told
      → (if told then Done (versions_told frame) else outcome_status frame (chain_outcome chain frame given)) ≡ Done response
      → MatchBool told (response ≡ versions_told frame) (MatchBool (is_silent frame) (response ≡ []) (IsResponseFrame frame response))
  own_either lawful small is_request given awaited response true is e = cc
  own_either lawful small is_request given awaited response false is e = own_completed lawful small is_request is given response awaited e

pub done_with_own_response : (chain : List Turn) (limit : ℕ) → All IsLawful chain → DoneWithOwnResponse chain limit
done_with_own_response chain limit lawful r response fair e = own_either chain limit r.frame lawful fair.bytes fair.is_request r.given fair.awaited response (is_told_versions r.frame) refl e

-- ---- what goes to the broker

waits_is_needed : (frame : List ℕ) (message : Contents) (main b : Bool) (size : ℕ) (question : Ask) → (if b then sent_for frame message main else grown_past size) ≡ Waits question → sent_for frame message main ≡ Waits question
waits_is_needed frame message main true size question e = e
waits_is_needed frame message main false size question e = absurd (let z : grown_past size ≡ Waits question = e in cc)

done_waits : (silent b : Bool) (size : ℕ) (response : List ℕ) (question : Ask) → (if silent then Done [] else if b then Done response else grown_past size) ≡ Waits question → ⊥
done_waits true b size response question e = let z : Done [] ≡ Waits question = e in cc
done_waits false true size response question e = let z : Done response ≡ Waits question = e in cc
done_waits false false size response question e = let z : grown_past size ≡ Waits question = e in cc

-- the parts of the send of a message
record IsSentAs (frame : List ℕ) (message : Contents) (before behind : List ℕ) (main responds asked : Bool) : Type 0 where
  before_is : before ≡ int16 message.key ++ int16 message.version
  behind_is : behind ≡ client_id_spelled frame ++ spelling message.items
  main_is : main ≡ asked
  responds_is : responds ≡ not (has_acks_zero message)

parts_of : (frame : List ℕ) (message : Contents) (asked : Bool) (before behind : List ℕ) (main responds : Bool) → sent_for frame message asked ≡ Waits (ToBroker before behind main responds) → IsSentAs frame message before behind main responds asked
parts_of frame message asked before behind main responds e =
    let z : Waits (ToBroker (int16 message.key ++ int16 message.version) (client_id_spelled frame ++ spelling message.items) asked (not (has_acks_zero message))) ≡ Waits (ToBroker before behind main responds) = e in
    record { before_is = cc; behind_is = cc; main_is = cc; responds_is = cc }

record IsNeeding (frame : List ℕ) (o : Outcome) (before behind : List ℕ) (main responds : Bool) : Type 0 where
  message : Contents
  asked : Bool
  needs : o ≡ Needs (ask.Broker message asked)
  parts : IsSentAs frame message before behind main responds asked

needing : (frame : List ℕ) (o : Outcome) (before behind : List ℕ) (main responds : Bool) → outcome_status frame o ≡ Waits (ToBroker before behind main responds) → IsNeeding frame o before behind main responds
needing frame (Needs (ask.Broker message asked)) before behind main responds e =
    record {
      message = message;
      asked = asked;
      needs = refl;
      parts = parts_of frame message asked before behind main responds (waits_is_needed frame message asked (nat_le (message_size frame message) most_out) (message_size frame message) (ToBroker before behind main responds) e);
    }
needing frame (Needs (ask.Hold filter key)) before behind main responds e = absurd (let z : Waits (Hold key) ≡ Waits (ToBroker before behind main responds) = e in cc)
needing frame (Completed response) before behind main responds e =
    absurd (done_waits (is_silent frame) (nat_le (4 + length (response_body response)) most_out) (4 + length (response_body response)) (sized (request_id frame ++ response_body response)) (ToBroker before behind main responds) e)
needing frame (Shuts cause) before behind main responds e = absurd cc
needing frame (NeverEnds filter) before behind main responds e = absurd cc

module _ (chain : List Turn) (limit : ℕ) (lawful : All IsLawful chain) where
  message_send : (frame : List ℕ) (d : ListedSend) (given : List Outside) → IsGivenAsAwaited (chained chain limit) (record { frame = frame; given = given }) → is_told_versions frame ≡ false
      → outcome_status frame (chain_outcome chain frame given) ≡ Waits (ToBroker d.before d.behind d.main d.responds) → IsMessageSend chain frame d
  message_send frame d given fair not_told e =
      let n = needing frame (chain_outcome chain frame given) d.before d.behind d.main d.responds e in
      record {
        message = n.message;
        is_for = subst (IsMessageFor chain frame n.message) (sym n.parts.main_is) (message_for chain limit frame lawful fair.bytes fair.is_request not_told given n.message n.asked fair.awaited n.needs);
        before_is = n.parts.before_is;
        behind_is = n.parts.behind_is;
        responds_is = n.parts.responds_is;
      }

  message_if : (frame : List ℕ) (d : ListedSend) (given : List Outside) → IsGivenAsAwaited (chained chain limit) (record { frame = frame; given = given }) → (told : Bool) → is_told_versions frame ≡ told
      → (if told then Done (versions_told frame) else outcome_status frame (chain_outcome chain frame given)) ≡ Waits (ToBroker d.before d.behind d.main d.responds) → IsMessageSend chain frame d
  message_if frame d given fair true is e = absurd (let z : Done (versions_told frame) ≡ Waits (ToBroker d.before d.behind d.main d.responds) = e in cc)
  message_if frame d given fair false is e = message_send frame d given fair is e

  pub sends_whole_messages : SendsWholeMessages chain limit
  sends_whole_messages frame given d send = message_if frame d given send.request (is_told_versions frame) refl send.waits

  -- ---- a request has one main send

  main_needed : (frame : List ℕ) (given : List Outside) (d : ListedSend) → IsAwaitedSend (chained chain limit) frame given d → is_told_versions frame ≡ false → d.main ≡ true
      → (message : Contents) × (chain_outcome chain frame given ≡ Needs (ask.Broker message true))
  main_needed frame given d send not_told main =
      let status : outcome_status frame (chain_outcome chain frame given) ≡ Waits (ToBroker d.before d.behind d.main d.responds) = sym (status_of chain frame (is_told_versions frame) (chain_outcome chain frame given) not_told) ∙ send.waits in
      let n = needing frame (chain_outcome chain frame given) d.before d.behind d.main d.responds status in
      (n.message, n.needs ∙ ap (λ b. Needs (ask.Broker n.message b)) (sym n.parts.main_is ∙ main))

  waits_is_request : (frame : List ℕ) (given : List Outside) (d : ListedSend) (told : Bool) → is_told_versions frame ≡ told
      → (if told then Done (versions_told frame) else outcome_status frame (chain_outcome chain frame given)) ≡ Waits (ToBroker d.before d.behind d.main d.responds) → is_told_versions frame ≡ false
  waits_is_request frame given d true is e = absurd (let z : Done (versions_told frame) ≡ Waits (ToBroker d.before d.behind d.main d.responds) = e in cc)
  waits_is_request frame given d false is e = is

  -- what more was given stands behind
  in_front : (message : Contents) (given : List Outside) (before : List chains.Outside) → (more : List chains.Outside) × (given_behind chain message before given ≡ before ++ more)
  in_front message [] before = ([], sym (append-nil before))
  in_front message (x ∷ given) before =
      let y = taken_as (run chain message before) x in
      let r = in_front message given (before ++ y ∷ []) in
      (y ∷ r.0, r.1 ∙ append_assoc before (y ∷ []) r.0)

  pub no_second_main : (frame : List ℕ) (given : List Outside) (x : Outside) (more : List Outside) (d f : ListedSend) → IsAwaitedSend (chained chain limit) frame given d → IsAwaitedSend (chained chain limit) frame (given ++ x ∷ more) f
      → d.main ≡ true → f.main ≡ true → ⊥
  no_second_main frame given x more d f first second main again =
      let not_told = waits_is_request frame given d (is_told_versions frame) refl first.waits in
      let request = request_of frame in
      let came = given_to chain request given in
      let y = taken_as (run chain request came) x in
      let rest = in_front request more (came ++ y ∷ []) in
      let list : given_to chain request (given ++ x ∷ more) ≡ came ++ y ∷ rest.0 = given_later chain request given (x ∷ more) [] ∙ rest.1 ∙ append_assoc came (y ∷ []) rest.0 in
      let small = first.request.bytes in
      let is_request = first.request.is_request in
      let may = given_come chain limit frame lawful small is_request not_told (given ++ x ∷ more) second.request.awaited in
      let a = main_needed frame given d first not_told main in
      let b = main_needed frame (given ++ x ∷ more) f second not_told again in
      one_main_send chain lawful request came y rest.0 a.0 b.0 (whole_request frame small is_request not_told) (subst (MayHaveCome chain request) list may) a.1 (ap (run chain request) (sym list) ∙ b.1)

  pub all_come_to_an_end : AllComeToAnEnd chain limit
  all_come_to_an_end r filter fair not_told e =
      comes_to_an_end chain lawful (request_of r.frame) (given_to chain (request_of r.frame) r.given) filter (whole_request r.frame fair.bytes fair.is_request not_told) (given_come chain limit r.frame lawful fair.bytes fair.is_request not_told r.given fair.awaited) e
