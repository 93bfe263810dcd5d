-- Why `Addresses` keeps the laws of a filter.
use Rattle.std.specs.Prelude.{◌≡◌, ℕ, ◌+◌, ◌≤◌, ℤ, pos, negsuc, ◌-ℤ◌, Bool, true, false, if◌then◌else◌, List, [], ◌∷◌, length, Option, Some, None, option_map, IfSome, FitsSigned, nat_lt, cond}
use Rattle.std.specs.Int.{w32}
use Rattle.std.proofs.Common.{refl, subst, arith, rules}
use Rattle.std.proofs.lemmas.Bool.Decides.{nat_tests}
use Rattle.tree_spelling.specs.Body.{Contents}
use Rattle.node_ports.specs.Ports.{place_within}
use Rattle.filter_core.specs.declared.input.Input.{Input}
use Rattle.filter_core.specs.declared.input.Input.TheVariants.{Response, NoResponse, Verdict}
use Rattle.filter_core.specs.declared.reason.Reason.TheVariants.{NodeOutOfRange}
use Rattle.filter_core.specs.Decision.{Decision, Forward, Side, Return, Shut}
use Rattle.filter_core.specs.Inputs.{IsResponseTo, MayComeFor}
use Rattle.filter_core.specs.Laws.{IsForward, IsLast, IsLawful, IsSentOnAs, AnswersRequest, ForwardsOnce, EndsAfterSix, ForwardsTheSame, QuestionsAreAnswered, ReturnsAnAnswer}
use Rattle.filter_core.specs.Lawful.{sent_on_itself}
use Rattle.address_rewrite.specs.Nodes.{NodeAddress}
use Rattle.address_rewrite.specs.Addresses.{names_nodes, client_port, moved_to, advertised_by, first_stray, addressed, unless_stray, addressed_back, addresses_by, port_behind}
use Rattle.address_rewrite.specs.AddressedTrees.{AddressFits, mapped_tree}

-- the host can be said in a message, and each port is a TCP port
pub record CanBeSpelled (host : List ℕ) (ports : ℤ → Option ℕ) : Type 0 where
  pub host_fits : length host ≤ 255
  pub ports_fit : (node : ℤ) → IfSome (ports node) (λ port. port ≤ 65535)

place_fits : (port count : ℕ) (distance : ℤ) → port + count ≤ 65535 → IfSome (option_map (λ k. port + 1 + k) (place_within count distance)) (λ (p : ℕ). p ≤ 65535)
place_fits port count (pos k) fits =
    elim (nat_lt k count) as (λ b. nat_lt k count ≡ b → IfSome (option_map (λ j. port + 1 + j) (cond b (Some k) None)) (λ (p : ℕ). p ≤ 65535)) [
      | true ↦ λ within. grind (arith, nat_tests)
      | false ↦ λ within. tt
    ] refl
place_fits port count (negsuc k) fits = tt

pub can_be_spelled : (host : List ℕ) (port : ℕ) (first : ℤ) (count : ℕ) → length host ≤ 255 → port + count ≤ 65535 → CanBeSpelled host (port_behind port first count)
can_be_spelled host port first count host_fits ports_fit =
    record { host_fits = host_fits; ports_fit = λ node. place_fits port count (node -ℤ first) ports_fit }

-- ---- what goes back is a response to the request

port32 : (port : ℕ) → port ≤ 65535 → FitsSigned w32 (pos port)
port32 port h = search rules

moved_fits : (host : List ℕ) (address : NodeAddress) (port : Option ℕ) → length host ≤ 255 → IfSome port (λ p. p ≤ 65535) → AddressFits address → AddressFits (moved_to host address port)
moved_fits host address None h p fits = fits
moved_fits host address (Some port) h p fits = (fits.0, (omega (arith, h), (port32 port p, tt)))

client_fits : (ports : ℤ → Option ℕ) (node : ℤ) → ((n : ℤ) → IfSome (ports n) (λ p. p ≤ 65535)) → IfSome (client_port ports node) (λ p. p ≤ 65535)
client_fits ports (pos n) h = h (pos n)
client_fits ports (negsuc n) h = tt

module _ (host : List ℕ) (ports : ℤ → Option ℕ) (spelled : CanBeSpelled host ports) where
  advertised_fits : (address : NodeAddress) → AddressFits address → AddressFits (advertised_by host ports address)
  advertised_fits address = moved_fits host address (client_port ports address.node) spelled.host_fits (client_fits ports address.node spelled.ports_fit)

  pub addressed_answers : (request response : Contents) → IsResponseTo request response → IsResponseTo request (addressed host ports response)
  addressed_answers request response h =
      record { tree = mapped_tree (advertised_by host ports) advertised_fits response h.tree; of = record { key_is = h.of.key_is; version_is = h.of.version_is; dir_is = h.of.dir_is } }

  -- ---- it returns or shuts

  unless_last : (stray : Option ℤ) (response : Contents) → IsLast (unless_stray stray response)
  unless_last None response = tt
  unless_last (Some node) response = tt

  response_last : (b : Bool) (response : Contents) → IsLast (if b then unless_stray (first_stray ports response.items) (addressed host ports response) else Return (Some response))
  response_last true response = unless_last (first_stray ports response.items) (addressed host ports response)
  response_last false response = tt

  back_last : (input : Input) → IsLast (addressed_back host ports input)
  back_last (Response response) = response_last (names_nodes response) response
  back_last NoResponse = tt
  back_last (Verdict verdict) = tt

  -- ---- what it returns

  unless_returns : (stray : Option ℤ) (request new : Contents) (response : Option Contents) → IsResponseTo request new → unless_stray stray new ≡ Return response → AnswersRequest request response
  unless_returns None request new response h is =
      let z : Return (Some new) ≡ Return response = is in
      let e : Some new ≡ response = cc in
      subst (AnswersRequest request) e h
  unless_returns (Some node) request new response h is = absurd (let z : Shut (NodeOutOfRange node) ≡ Return response = is in cc)

  response_returns : (b : Bool) (request came : Contents) (response : Option Contents) → IsResponseTo request came
      → (if b then unless_stray (first_stray ports came.items) (addressed host ports came) else Return (Some came)) ≡ Return response → AnswersRequest request response
  response_returns true request came response h is = unless_returns (first_stray ports came.items) request (addressed host ports came) response (addressed_answers request came h) is
  response_returns false request came response h is =
      let z : Return (Some came) ≡ Return response = is in
      let e : Some came ≡ response = cc in
      subst (AnswersRequest request) e h

  back_returns : (request : Contents) (input : Input) (response : Option Contents) → MayComeFor request input → addressed_back host ports input ≡ Return response → AnswersRequest request response
  back_returns request (Response came) response may is = response_returns (names_nodes came) request came response may is
  back_returns request NoResponse response may is =
      let z : Return None ≡ Return response = is in
      let e : None ≡ response = cc in
      subst (AnswersRequest request) e may
  back_returns request (Verdict verdict) response may is = absurd may

  -- ---- the laws

  no_forward : (decision : Decision) → IsLast decision → IsForward decision → ⊥
  no_forward (Forward message) last forward = last
  no_forward (Return response) last forward = forward
  no_forward (Shut reason) last forward = forward
  no_forward decision last forward = forward

  never_forward : (input : Input) → IsForward (addressed_back host ports input) → ⊥
  never_forward input = no_forward (addressed_back host ports input) (back_last input)

  forwards_once_there : ForwardsOnce (addresses_by host ports)
  forwards_once_there request [] next more r i first again = never_forward next again
  forwards_once_there request (x ∷ xs) next more r i first again = never_forward x again

  ends_soon_there : EndsAfterSix (addresses_by host ports)
  ends_soon_there request [] r i six = absurd (omega arith)
  ends_soon_there request (x ∷ xs) r i six = back_last x

  forwards_same_there : ForwardsTheSame (addresses_by host ports)
  forwards_same_there request [] message r i e = subst (IsSentOnAs request) (let z : Forward request ≡ Forward message = e in cc) (sent_on_itself request r)
  forwards_same_there request (x ∷ xs) message r i e = absurd (subst IsLast e (back_last x))

  asks_nothing : QuestionsAreAnswered (addresses_by host ports)
  asks_nothing request [] message r i e = absurd (let z : Forward request ≡ Side message = e in cc)
  asks_nothing request (x ∷ xs) message r i e = absurd (subst IsLast e (back_last x))

  returns_answers : ReturnsAnAnswer (addresses_by host ports)
  returns_answers request [] response r i e = absurd (let z : Forward request ≡ Return response = e in cc)
  returns_answers request (x ∷ xs) response r i e = back_returns request x response i.0 e

  pub addresses_lawful : IsLawful (addresses_by host ports)
  addresses_lawful =
      record {
        forwards_once = forwards_once_there;
        ends_after_six = ends_soon_there;
        forwards_the_same = forwards_same_there;
        questions_are_answered = asks_nothing;
        returns_an_answer = returns_answers;
      }
