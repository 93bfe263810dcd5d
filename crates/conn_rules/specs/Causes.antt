-- Why a connection ends or has ended. The cut stands at a request; death and halt end what is behind the proxy and all
-- that it does; over is what the client's writer was told.
use Rattle.std.specs.Prelude.{ℕ, zero, suc, ◌==◌, nat_lt, ◌||◌, Bool, true, is_some, if◌then◌else◌, Option, Some, None}
use Rattle.kp_edge.specs.declared.end.End.{End}
use Rattle.kp_edge.specs.declared.end.End.TheVariants as end
use Rattle.conn_rules.specs.declared.causes.Causes.{Causes}

abbrev pub no_causes : Causes
no_causes = record { cut = None; death = None; halt = None; over = None }

-- the first cause stays
abbrev pub first_cause : Option End → End → Option End
first_cause None why = Some why
first_cause (Some before) why = Some before

-- a request whose number is less than the cut's, or any where there is no cut
abbrev pub below : Option (ℕ × End) → ℕ → Bool
below None k = true
below (Some cut) k = nat_lt k cut.0

-- the cut's cause, where the cut stands at this request
abbrev pub cut_cause : Option (ℕ × End) → ℕ → Option End
cut_cause None k = None
cut_cause (Some cut) k = if cut.0 == k then Some cut.1 else None

-- a cut at a lesser request replaces the one that stands
abbrev pub with_cut : ℕ → End → Causes → Causes
with_cut k why c = record c { cut = if below c.cut k then Some (k, why) else c.cut }

abbrev pub with_death : End → Causes → Causes
with_death why c = record c { death = first_cause c.death why }

abbrev pub with_halt : End → Causes → Causes
with_halt why c = record c { halt = first_cause c.halt why }

abbrev pub with_told : End → Causes → Causes
with_told why c = record c { over = Some why }

-- no client frame is taken any more
abbrev pub are_ending : Causes → Bool
are_ending c = is_some c.cut || is_some c.death || is_some c.halt || is_some c.over

-- no broker frame is taken any more
abbrev pub are_dead : Causes → Bool
are_dead c = is_some c.death || is_some c.halt || is_some c.over

-- nothing is done any more but to tell why
abbrev pub are_still : Causes → Bool
are_still c = is_some c.halt || is_some c.over

-- the causes that the ends of the two streams are
abbrev pub client_ended : ℕ → End
client_ended zero = end.Ended
client_ended (suc n) = end.ClientTorn (suc n)

abbrev pub broker_ended : ℕ → ℕ → End
broker_ended zero waiting = end.BrokerEnd waiting
broker_ended (suc n) waiting = end.BrokerTorn (suc n)

-- the client's end behind so many requests; a death before it stays the cause
abbrev pub after_client_end : ℕ → ℕ → Causes → Causes
after_client_end requests rest c = if is_some c.death then c else with_cut requests (client_ended rest) c
