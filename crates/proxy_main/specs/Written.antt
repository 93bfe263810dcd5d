-- A script that is read piece by piece, while its answers are written.
use Rattle.std.specs.Prelude.{◌≡◌, ℕ, ◌+◌, ◌-◌, ◌<◌, ◌≤◌, List, [], ◌∷◌, ◌++◌, length, drop, Option, Some, Result, Ok, Err, IfOk, ◌⊎◌}
use Rattle.proxy_main.specs.Output.{Appends, AppendsFront}
use Rattle.proxy_main.specs.Scripts.{Script, IsBad, ReadSoFar, as_text, script_limit, piece_limit}
use Rattle.proxy_main.specs.Replayed.{Answered, CountsRequests, Replays}
use Rattle.proxy_main.specs.declared.status.Status.{Status}
use Rattle.proxy_main.specs.declared.status.Status.TheVariants as status
use Rattle.conn_rules.specs.Meaning.{Meaning}
use Rattle.conn_rules.specs.State.{State}
use Rattle.proxy_main.specs.Progress.{Begins, HasRead}
use Rattle.proxy_main.specs.declared.replay.Replay.{Replay}
use Rattle.proxy_main.specs.declared.stop.Stop.{Stop}
use Rattle.proxy_main.specs.declared.stop.Stop.TheVariants as stop

-- these lines were answered; of the text, what still waits was not written
pub record Waiting (M : Meaning) (lines : List (List ℕ)) (waits : List ℕ) (before after : Option (List ℕ)) : Type 0 where
  pub text : List ℕ
  pub written : List ℕ
  pub answered : Answered M lines text
  pub parts : text ≡ written ++ waits
  pub appends : Appends before written after

-- the answers that waited were written
pub record Flushes {C L : Type 0} (old : Replay C L) (before : Option (List ℕ)) (new : Replay C L) (after : Option (List ℕ)) : Type 0 where
  pub none_waits : new.answers ≡ []
  pub station : new.station ≡ old.station
  pub partial : new.partial.items ≡ old.partial.items
  pub lines : new.lines ≡ old.lines
  pub steps : new.steps ≡ old.steps
  pub appends : Appends before old.answers after

-- the refusal was put behind the answers, or memory ran out
abbrev pub Refuses : List ℕ → List ℕ → List ℕ → Status → Type 0
Refuses old why new s = ((s ≡ status.Refused) × (new ≡ old ++ why)) ⊎ ((s ≡ status.NoMemory) × (new ≡ old))

-- what waits was written, or a write failed in it
abbrev pub WritesOut : List ℕ → Status → Option (List ℕ) → Option (List ℕ) → Status → Type 0
WritesOut waits s before after result = ((result ≡ s) × Appends before waits after) ⊎ ((result ≡ status.OutputFault) × AppendsFront before waits after)

-- Why it stopped in what was seen so far: a line that ends in the new bytes is outside the grammar, a
-- write failed, or memory ran out. The lines before were answered.
pub record StopsAtLine {C L : Type 0} (M : Meaning) (begun : ℕ) (known seen : List ℕ) (x : Replay C L) (before after : Option (List ℕ)) : Type 0 where
  pub lines : List (List ℕ)
  pub bad : List ℕ
  pub not_ended : length known ≤ length (as_text lines) + length bad
  pub begins : Begins seen (lines ++ bad ∷ [])
  pub is_bad : IsBad bad
  pub count : x.lines ≡ length lines
  pub waiting : Waiting M lines x.answers before after
  pub counted : CountsRequests M begun x.steps waiting.answered

pub record StopsWriting (M : Meaning) (seen : List ℕ) (before after : Option (List ℕ)) : Type 0 where
  pub lines : List (List ℕ)
  pub missing : List ℕ
  pub begins : Begins seen lines
  pub waiting : Waiting M lines missing before after

pub record StopsForMemory {C L : Type 0} (M : Meaning) (seen : List ℕ) (x : Replay C L) (before after : Option (List ℕ)) : Type 0 where
  pub lines : List (List ℕ)
  pub begins : Begins seen lines
  pub waiting : Waiting M lines x.answers before after

abbrev pub StopsReading : {C L : Type 0} → Meaning → ℕ → (known seen : List ℕ) → Replay C L → Option (List ℕ) → Option (List ℕ) → Stop → Type 0
StopsReading M begun known seen x before after stop.BadLine = StopsAtLine M begun known seen x before after
StopsReading M begun known seen x before after stop.TooLong = ⊥
StopsReading M begun known seen x before after stop.Input = ⊥
StopsReading M begun known seen x before after stop.Output = StopsWriting M seen before after
StopsReading M begun known seen x before after stop.NoMemory = StopsForMemory M seen x before after

-- How the reading of a whole script ends.
pub record EndsWhole {C L : Type 0} (M : Meaning) (begun : ℕ) (script : List ℕ) (x : Replay C L) (left before after : Option (List ℕ)) : Type 0 where
  pub lines : List (List ℕ)
  pub script_is : Script script lines
  pub within : length script ≤ script_limit
  pub all : left ≡ Some []
  pub waiting : Waiting M lines x.answers before after
  pub counted : CountsRequests M begun x.steps waiting.answered

pub record EndsAtLine {C L : Type 0} (M : Meaning) (begun : ℕ) (most : ℕ) (script : List ℕ) (x : Replay C L) (left before after : Option (List ℕ)) : Type 0 where
  pub lines : List (List ℕ)
  pub bad : List ℕ
  pub others : List (List ℕ)
  pub so_far : ReadSoFar most script left
  pub not_ended : length so_far.before ≤ length (as_text lines) + length bad
  pub script_is : Script script (lines ++ bad ∷ others)
  pub is_bad : IsBad bad
  pub count : x.lines ≡ length lines
  pub waiting : Waiting M lines x.answers before after
  pub counted : CountsRequests M begun x.steps waiting.answered

pub record EndsTooLong {C L : Type 0} (M : Meaning) (begun : ℕ) (script : List ℕ) (x : Replay C L) (before after : Option (List ℕ)) : Type 0 where
  pub lines : List (List ℕ)
  pub script_is : Script script lines
  pub beyond : script_limit < length script
  pub waiting : Waiting M lines x.answers before after
  pub counted : CountsRequests M begun x.steps waiting.answered

-- at a front of its lines, while so much of the text waits
pub record EndsEarly (M : Meaning) (script waits : List ℕ) (before after : Option (List ℕ)) : Type 0 where
  pub lines : List (List ℕ)
  pub others : List (List ℕ)
  pub script_is : Script script (lines ++ others)
  pub waiting : Waiting M lines waits before after

-- a read failed, and no answer waits
pub record EndsAtInput {C L : Type 0} (M : Meaning) (begun : ℕ) (script : List ℕ) (x : Replay C L) (before after : Option (List ℕ)) : Type 0 where
  pub early : EndsEarly M script [] before after
  pub counted : CountsRequests M begun x.steps early.waiting.answered

abbrev pub ReadEnds : {C L : Type 0} → Meaning → ℕ → (most : ℕ) (script : List ℕ) → Replay C L → Option (List ℕ) → Option (List ℕ) → Option (List ℕ) → Result (Unit {0}) Stop → Type 0
ReadEnds M begun most script x left before after (Ok done) = EndsWhole M begun script x left before after
ReadEnds M begun most script x left before after (Err stop.BadLine) = EndsAtLine M begun most script x left before after
ReadEnds M begun most script x left before after (Err stop.TooLong) = EndsTooLong M begun script x before after
ReadEnds M begun most script x left before after (Err stop.Input) = EndsAtInput M begun script x before after
ReadEnds M begun most script x left before after (Err stop.Output) = (missing : List ℕ) × EndsEarly M script missing before after
ReadEnds M begun most script x left before after (Err stop.NoMemory) = EndsEarly M script x.answers before after

-- One read at most took the next bytes, and as many as were told.
pub record OneRead (most : ℕ) (coming : List ℕ) (left : Option (List ℕ)) (result : Result ℕ Stop) : Type 0 where
  pub taken : ℕ
  pub within : taken ≤ length coming
  pub short : taken ≤ most
  pub unread_is : left ≡ Some (drop taken coming)
  pub told : IfOk result (λ count. count ≡ taken)

abbrev pub ReadsOnce : ℕ → Option (List ℕ) → Option (List ℕ) → Result ℕ Stop → Type 0
ReadsOnce most before left result = (coming : List ℕ) → before ≡ Some coming → OneRead most coming left result

-- all that was written
pub record Concluded (M : Meaning) (script : List ℕ) (left first after : Option (List ℕ)) (begun now : ℕ) (s : Status) : Type 0 where
  pub written : List ℕ
  pub appends : Appends first written after
  pub replays : Replays M script left written begun now s

abbrev pub Concludes : {C L : Type 0} → Replay C L → Result (Unit {0}) Stop → Option (List ℕ) → Option (List ℕ) → Status → Type 0
Concludes x read before after s = (M : Meaning) (begun : ℕ) (script : List ℕ) (left first : Option (List ℕ)) → ReadEnds M begun piece_limit script x left first before read → Concluded M script left first after begun x.steps s

module _ {C L : Type 0} (meaning : C → Meaning) (stands : C → State → Type 0) where
  -- so much was read, and all of its answers but those that wait were written
  pub record HasWritten (M : Meaning) (begun : ℕ) (x : Replay C L) (before after : Option (List ℕ)) (read : List ℕ) : Type 0 where
    pub text : List ℕ
    pub written : List ℕ
    pub reading : HasRead meaning stands M begun x read text
    pub parts : text ≡ written ++ x.answers
    pub appends : Appends before written after

  -- the answers that waited were written, or wait still
  abbrev pub WaitsOrWritten : Replay C L → Option (List ℕ) → Replay C L → Option (List ℕ) → Type 0
  WaitsOrWritten old now new after = (M : Meaning) (begun : ℕ) (first : Option (List ℕ)) (read : List ℕ) → HasWritten M begun old first now read → HasWritten M begun new first after read

  -- the bytes were taken
  abbrev pub TakesAll : Replay C L → Option (List ℕ) → List ℕ → Replay C L → Option (List ℕ) → Type 0
  TakesAll old now bytes new after = (M : Meaning) (begun : ℕ) (first : Option (List ℕ)) (read : List ℕ) → HasWritten M begun old first now read → HasWritten M begun new first after (read ++ bytes)

  abbrev pub TakeStops : Replay C L → Option (List ℕ) → List ℕ → Replay C L → Option (List ℕ) → Stop → Type 0
  TakeStops old now bytes new after why = (M : Meaning) (begun : ℕ) (first : Option (List ℕ)) (read : List ℕ) → HasWritten M begun old first now read → StopsReading M begun read (read ++ bytes) new first after why

  abbrev pub ReadsAll : ℕ → Replay C L → Option (List ℕ) → Option (List ℕ) → Replay C L → Option (List ℕ) → Option (List ℕ) → Result (Unit {0}) Stop → Type 0
  ReadsAll most old coming before new left after result = (M : Meaning) (begun : ℕ) (script : List ℕ) → coming ≡ Some script → HasWritten M begun old before before [] → ReadEnds M begun most script new left before after result

  -- so much of the script was read, and so many bytes may still come
  pub record Coming (M : Meaning) (begun : ℕ) (x : Replay C L) (script : List ℕ) (left before after : Option (List ℕ)) (allowed : ℕ) : Type 0 where
    pub read : List ℕ
    pub rest : List ℕ
    pub parts : script ≡ read ++ rest
    pub unread_is : left ≡ Some rest
    pub allowed_is : length read + allowed ≡ script_limit
    pub running : HasWritten M begun x before after read

  -- one read further; without a byte all of the script was read
  abbrev pub TurnEnds : Meaning → ℕ → (most : ℕ) (script : List ℕ) → Replay C L → Option (List ℕ) → Option (List ℕ) → Option (List ℕ) → ℕ → Result ℕ Stop → Type 0
  TurnEnds M begun most script x left before after allowed (Ok count) = (next : Coming M begun x script left before after (allowed - count)) × (count ≡ 0 → next.rest ≡ [])
  TurnEnds M begun most script x left before after allowed (Err why) = ReadEnds M begun most script x left before after (Err why)

  abbrev pub Turns : ℕ → Replay C L → Option (List ℕ) → Option (List ℕ) → ℕ → Replay C L → Option (List ℕ) → Option (List ℕ) → Result ℕ Stop → Type 0
  Turns most old coming before allowed new left after result = (M : Meaning) (begun : ℕ) (script : List ℕ) (first : Option (List ℕ)) → Coming M begun old script coming first before allowed → TurnEnds M begun most script new left first after allowed result
