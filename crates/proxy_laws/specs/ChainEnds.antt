-- The origins of the cuts of a connection whose requests pass through a chain of filters. Each end of a cut comes in one way.
use Rattle.std.specs.Prelude.{ℕ, List}
use Rattle.kp_edge.specs.declared.end.End.{End}
use Rattle.kp_edge.specs.declared.end.End.TheVariants as end
use Rattle.conn_rules.specs.Meaning.{Meaning}
use Rattle.conn_rules.specs.State.{State}
use Rattle.conn_rules.specs.History.{Entry}
use Rattle.conn_rules.specs.Origins.{CutComesOf, IsCutByFrame, IsCutByAnswer, IsCutByStatus, CutOrigin}

-- A cut comes of an event alone, of a client's frame that is no request, of an answer whose body can't be read, or of a request
-- that fails.
pub data CutWay : Type 0 where
  OfEvent : CutWay
  OfFrame : CutWay
  OfAnswer : CutWay
  OfStatus : CutWay
  NoWay : CutWay

-- Which way it is, by the end, as in docs/ENDS.md. Only a filter that has no end makes a request fail of want of memory.
abbrev pub cut_way : End → CutWay
cut_way end.Ended = OfEvent
cut_way (end.ClientTorn rest) = OfEvent
cut_way (end.BadSize at size) = OfEvent
cut_way (end.BadHead request) = OfFrame
cut_way (end.UnsupportedApi request key version) = OfFrame
cut_way (end.BadBody request key version at) = OfFrame
cut_way (end.TooManyEntries request at) = OfFrame
cut_way end.ClientReadFault = OfEvent
cut_way (end.FilterShut request filter code) = OfStatus
cut_way (end.NodeOutOfRange request node) = OfStatus
cut_way (end.NameTooLong request length) = OfStatus
cut_way (end.GrownPast request size) = OfStatus
cut_way (end.AskBudget request) = OfStatus
cut_way (end.BrokerBadBody request key version) = OfAnswer
cut_way (end.AuthorityFault request) = OfEvent
cut_way end.NoMemory = OfStatus
cut_way _ = NoWay

-- The entry brings the cut in this way.
abbrev pub IsCutInWay : Meaning → CutWay → (before : State) → Entry → (behind : State) → ℕ → End → Type 0
IsCutInWay M OfEvent s h t k why = CutComesOf M why k s h
IsCutInWay M OfFrame s h t k why = IsCutByFrame M s h k why
IsCutInWay M OfAnswer s h t k why = IsCutByAnswer M s h k why
IsCutInWay M OfStatus s h t k why = IsCutByStatus M t k why
IsCutInWay M NoWay s h t k why = ⊥

-- The cut has an origin, and came in the way of its end.
pub record OwnWayOrigin (M : Meaning) (hs : List Entry) (s : State) (k : ℕ) (why : End) : Type 0 where
  pub origin : CutOrigin M hs s k why
  pub way : IsCutInWay M (cut_way why) origin.moment.before origin.moment.entry origin.moment.behind k why
