-- A response stays as it is, whatever more comes.
use Rattle.std.proofs.Common.{◌≡◌, ℕ, Bool, true, false, if◌then◌else◌, List, [], ◌∷◌, ◌++◌, Option, refl, sym, ap, ◌∙◌, append-nil, append_assoc, length, ◌+◌, nat_le}
use Rattle.tree_spelling.specs.Body.{Contents}
use Rattle.framing.specs.Frames.{sized}
use Rattle.framing.specs.CorrelationIds.{request_id}
use Rattle.api_versions.specs.Refusal.{refusal_body}
use Rattle.filter_core.specs.Decision.{Turn}
use Rattle.side_requests.specs.declared.ask.Ask.TheVariants as ask
use Rattle.filter_chain.specs.declared.outside.Outside as chains
use Rattle.filter_chain.specs.Outcomes.{Outcome, Needs, Completed, Shuts, NeverEnds, run}
use Rattle.filter_chain.proofs.Fronts.{done_stays}
use Rattle.conn_rules.specs.Meaning.{Done, CarriesId, Lasting}
use Rattle.conn_rules.specs.State.{Outside}
use Rattle.conn_core.specs.Requests.{request_of, is_silent, is_told_versions, versions_told}
use Rattle.conn_core.specs.Chained.{taken_as, given_behind, given_to, most_out, grown_past, sent_for, responded, response_body, message_size, outcome_status, chain_outcome, chained}
use Rattle.conn_core.proofs.Silence.{told_is_loud}

module _ (chain : List Turn) (request : Contents) where
  pub given_later : (given more : List Outside) (before : List chains.Outside) → given_behind chain request before (given ++ more) ≡ given_behind chain request (given_behind chain request before given) more
  given_later [] more before = refl
  given_later (x ∷ given) more before = given_later given more (before ++ taken_as (run chain request before) x ∷ [])

  -- what came before stays in front
  in_front : (given : List Outside) (before : List chains.Outside) → (more : List chains.Outside) × (given_behind chain request before given ≡ before ++ more)
  in_front [] before = ([], sym (append-nil before))
  in_front (x ∷ given) before =
      let y = taken_as (run chain request before) x in
      let r = in_front given (before ++ y ∷ []) in
      (y ∷ r.0, r.1 ∙ append_assoc before (y ∷ []) r.0)

  completed_stays : (given more : List Outside) (response : Option Contents) → run chain request (given_to chain request given) ≡ Completed response → run chain request (given_to chain request (given ++ more)) ≡ Completed response
  completed_stays given more response e =
      let before = given_to chain request given in
      let r = in_front more before in
      ap (run chain request) (given_later given more [] ∙ r.1) ∙ done_stays chain request before r.0 response e

-- ---- only a request that its chain completed is done

message_waits : (frame : List ℕ) (message : Contents) (main b : Bool) (size : ℕ) (response : List ℕ) → (if b then sent_for frame message main else grown_past size) ≡ Done response → ⊥
message_waits frame message main true size response e = absurd (let z : sent_for frame message main ≡ Done response = e in cc)
message_waits frame message main false size response e = absurd (let z : grown_past size ≡ Done response = e in cc)

pub done_is_completed : (frame : List ℕ) (o : Outcome) (response : List ℕ) → outcome_status frame o ≡ Done response → (came : Option Contents) × (o ≡ Completed came)
done_is_completed frame (Needs (ask.Broker message main)) response e = absurd (message_waits frame message main (nat_le (message_size frame message) most_out) (message_size frame message) response e)
done_is_completed frame (Needs (ask.Hold filter key)) response e = absurd cc
done_is_completed frame (Completed came) response e = (came, refl)
done_is_completed frame (Shuts cause) response e = absurd cc
done_is_completed frame (NeverEnds filter) response e = absurd cc

outcome_stays : (chain : List Turn) (frame : List ℕ) (given more : List Outside) (response : List ℕ) → outcome_status frame (chain_outcome chain frame given) ≡ Done response → outcome_status frame (chain_outcome chain frame (given ++ more)) ≡ Done response
outcome_stays chain frame given more response e =
    let d = done_is_completed frame (chain_outcome chain frame given) response e in
    ap (outcome_status frame) (completed_stays chain (request_of frame) given more d.0 d.1) ∙ sym (ap (outcome_status frame) d.1) ∙ e

stays : (told : Bool) (chain : List Turn) (frame : List ℕ) (given more : List Outside) (response : List ℕ)
    → (if told then Done (versions_told frame) else outcome_status frame (chain_outcome chain frame given)) ≡ Done response
    → (if told then Done (versions_told frame) else outcome_status frame (chain_outcome chain frame (given ++ more))) ≡ Done response
stays true chain frame given more response e = e
stays false chain frame given more response e = outcome_stays chain frame given more response e

-- ---- a silent request has no response, and any other one's has its own correlation id

completed_silent : (frame : List ℕ) (silent : Bool) (body response : List ℕ) → silent ≡ true → (if silent then Done [] else responded frame body) ≡ Done response → response ≡ []
completed_silent frame true body response s e = cc
completed_silent frame false body response s e = absurd cc

silence : (told : Bool) (chain : List Turn) (frame : List ℕ) (given : List Outside) (response : List ℕ) → is_told_versions frame ≡ told → is_silent frame ≡ true
    → (if told then Done (versions_told frame) else outcome_status frame (chain_outcome chain frame given)) ≡ Done response → response ≡ []
silence true chain frame given response t s e = absurd (let z : false ≡ true = sym (told_is_loud frame t) ∙ s in cc)
silence false chain frame given response t s e =
    let d = done_is_completed frame (chain_outcome chain frame given) response e in
    completed_silent frame (is_silent frame) (response_body d.0) response s (sym (ap (outcome_status frame) d.1) ∙ e)

responded_id : (frame body : List ℕ) (b : Bool) (size : ℕ) (response : List ℕ) → (if b then Done (sized (request_id frame ++ body)) else grown_past size) ≡ Done response → CarriesId frame response
responded_id frame body true size response e = (body, let z : response ≡ sized (request_id frame ++ body) = cc in z)
responded_id frame body false size response e = absurd (let z : grown_past size ≡ Done response = e in cc)

completed_id : (frame : List ℕ) (silent : Bool) (body response : List ℕ) → silent ≡ false → (if silent then Done [] else responded frame body) ≡ Done response → CarriesId frame response
completed_id frame true body response s e = absurd cc
completed_id frame false body response s e = responded_id frame body (nat_le (4 + length body) most_out) (4 + length body) response e

own_id : (told : Bool) (chain : List Turn) (frame : List ℕ) (given : List Outside) (response : List ℕ) → is_silent frame ≡ false
    → (if told then Done (versions_told frame) else outcome_status frame (chain_outcome chain frame given)) ≡ Done response → CarriesId frame response
own_id true chain frame given response s e = (refusal_body, let z : response ≡ sized (request_id frame ++ refusal_body) = cc in z)
own_id false chain frame given response s e =
    let d = done_is_completed frame (chain_outcome chain frame given) response e in
    completed_id frame (is_silent frame) (response_body d.0) response s (sym (ap (outcome_status frame) d.1) ∙ e)

pub chain_lasts : (chain : List Turn) (limit : ℕ) → Lasting (chained chain limit)
chain_lasts chain limit =
    record {
      stays = λ frame. stays (is_told_versions frame) chain frame;
      silence = λ frame given response s e. silence (is_told_versions frame) chain frame given response refl s e;
      own_id = λ frame given response s e. own_id (is_told_versions frame) chain frame given response s e;
    }
