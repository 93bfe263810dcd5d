-- What an end that the client's writer was told says of the responses.
use Rattle.std.specs.Prelude.{◌≡◌, ℕ, Bool, true, false, List, slice_get, Some, None, ◌⊎◌}
use Rattle.kp_edge.specs.declared.end.End.{End}
use Rattle.kp_edge.specs.declared.end.End.TheVariants as end
use Rattle.conn_rules.specs.Meaning.{Meaning, Fails}
use Rattle.conn_rules.specs.State.{Outside, State}
use Rattle.conn_rules.specs.Causes.{cut_cause}
use Rattle.conn_rules.specs.Steps.{response_in}

-- The cut stands at the next request, the first that isn't passed, with this end. All requests before it are passed.
pub record IsCutNext (why : End) (s : State) : Type 0 where
  pub not_halted : s.causes.halt ≡ None
  pub cut : s.causes.cut ≡ Some (s.passed, why)

-- The connection died of this end. The next request, if there is one, has no response, and no cut stands at it.
pub record IsDeathNext (M : Meaning) (why : End) (s : State) : Type 0 where
  pub not_halted : s.causes.halt ≡ None
  pub not_cut : cut_cause s.causes.cut s.passed ≡ None
  pub no_response : response_in M (slice_get s.requests s.passed) ≡ None
  pub death : s.causes.death ≡ Some why

-- What comes next is this end. That of a halt comes before all else.
abbrev pub IsEndNext : Meaning → End → State → Type 0
IsEndNext M why s = (s.causes.halt ≡ Some why) ⊎ IsCutNext why s ⊎ IsDeathNext M why s

-- an end of the client's stream: the stream came whole or torn, a size in it is outside the limits, or a read had a fault
abbrev pub is_client_stream_end : End → Bool
is_client_stream_end end.Ended = true
is_client_stream_end (end.ClientTorn rest) = true
is_client_stream_end (end.BadSize at size) = true
is_client_stream_end end.ClientReadFault = true
is_client_stream_end _ = false

-- No request fails by an end of the client's stream.
pub record FailsByOwnEnds (M : Meaning) : Type 0 where
  pub status : (frame : List ℕ) (given : List Outside) (why : ℕ → End) (k : ℕ) → M.status frame given ≡ Fails why → is_client_stream_end (why k) ≡ false
  pub unreadable : (before body : List ℕ) (why : ℕ → End) (k : ℕ) → M.unreadable before body ≡ Some why → is_client_stream_end (why k) ≡ false
