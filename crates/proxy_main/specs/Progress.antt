-- A script that is read as its bytes come.
use Rattle.std.specs.Prelude.{◌≡◌, ℕ, ◌+◌, ◌≤◌, List, [], ◌∷◌, ◌++◌, length, take, All}
use Rattle.proxy_main.specs.Scripts.{Lines, as_text, HasNoBreak, with_last, IsBad, line_limit}
use Rattle.proxy_main.specs.Replayed.{Answered, CountsRequests}
use Rattle.proxy_main.specs.Played.{Play}
use Rattle.conn_rules.specs.Meaning.{Meaning, Lasting}
use Rattle.conn_rules.specs.State.{State}
use Rattle.session.specs.Calls.{Link}
use Rattle.proxy_main.specs.declared.replay.Replay.{Replay}

-- the text begins with these lines, each ended by byte 10
pub record Begins (text : List ℕ) (lines : List (List ℕ)) : Type 0 where
  pub behind : List ℕ
  pub whole : text ≡ as_text lines ++ behind
  pub each : All HasNoBreak lines

module _ {C : Type 0} (meaning : C → Meaning) (stands : C → State → Type 0) where
  -- the station's streams are those of the play, and its connection stands for the play's state
  pub record IsAt (M : Meaning) (station : Link C) (p : Play) : Type 0 where
    pub meaning_is : meaning station.connection ≡ M
    pub stands_for : stands station.connection p.state
    pub client : station.client ≡ p.client
    pub broker : station.broker ≡ p.broker

module _ {C L : Type 0} (meaning : C → Meaning) (stands : C → State → Type 0) where
  -- these lines were answered by this text, and so many steps were counted as the work of their requests is
  pub record HasAnswered (M : Meaning) (begun : ℕ) (x : Replay C L) (lines : List (List ℕ)) (text : List ℕ) : Type 0 where
    pub lasting : Lasting M
    pub answered : Answered M lines text
    pub is_at : IsAt meaning stands M x.station answered.last
    pub count : x.lines ≡ length lines
    pub counted : CountsRequests M begun x.steps answered

  -- All lines that end in what was read were answered. The rest is kept, up to one byte past a line's limit.
  pub record HasRead (M : Meaning) (begun : ℕ) (x : Replay C L) (read text : List ℕ) : Type 0 where
    pub ended : List (List ℕ)
    pub last : List ℕ
    pub cut : Lines read ended last
    pub answered : HasAnswered M begun x ended text
    pub partial : x.partial.items ≡ take (line_limit + 1) last

  -- one line more was answered, and its answer waits to be written
  abbrev pub AnswersLine : Replay C L → List ℕ → Replay C L → Type 0
  AnswersLine old line new = (M : Meaning) (begun : ℕ) (lines : List (List ℕ)) (text : List ℕ) → HasAnswered M begun old lines text → (more : List ℕ) × HasAnswered M begun new (lines ++ line ∷ []) (text ++ more) × (new.answers ≡ old.answers ++ more)

  -- a piece more was read
  abbrev pub Advances : Replay C L → List ℕ → Replay C L → Type 0
  Advances old piece new = (M : Meaning) (begun : ℕ) (read text : List ℕ) → HasRead M begun old read text → (more : List ℕ) × HasRead M begun new (read ++ piece) (text ++ more) × (new.answers ≡ old.answers ++ more)

  -- a line ended with the piece and its byte 10, and was answered
  abbrev pub EndsLine : Replay C L → List ℕ → Replay C L → Type 0
  EndsLine old piece new = HasNoBreak piece → Advances old (piece ++ 10 ∷ []) new

  -- A line that ends in what was read is no line, and it had not ended before. The lines before it are answered.
  pub record Stumble (M : Meaning) (begun : ℕ) (before read text : List ℕ) (new : Replay C L) : Type 0 where
    pub lines : List (List ℕ)
    pub bad : List ℕ
    pub not_ended : length before ≤ length (as_text lines) + length bad
    pub begins : Begins read (lines ++ bad ∷ [])
    pub is_bad : IsBad bad
    pub answered : HasAnswered M begun new lines text

  abbrev pub EndsBadly : Replay C L → List ℕ → Replay C L → Type 0
  EndsBadly old piece new = HasNoBreak piece → (M : Meaning) (begun : ℕ) (read text : List ℕ) → HasRead M begun old read text → Stumble M begun read (read ++ (piece ++ 10 ∷ [])) text new

  abbrev pub Stumbles : Replay C L → List ℕ → Replay C L → Type 0
  Stumbles old piece new = (M : Meaning) (begun : ℕ) (read text : List ℕ) → HasRead M begun old read text → Stumble M begun read (read ++ piece) text new

  -- all was read, and the last line was answered too
  pub record Finished (M : Meaning) (begun : ℕ) (read text : List ℕ) (old new : Replay C L) : Type 0 where
    pub ended : List (List ℕ)
    pub last : List ℕ
    pub cut : Lines read ended last
    pub more : List ℕ
    pub answered : HasAnswered M begun new (with_last ended last) (text ++ more)
    pub pending : new.answers ≡ old.answers ++ more

  abbrev pub Finishes : Replay C L → Replay C L → Type 0
  Finishes old new = (M : Meaning) (begun : ℕ) (read text : List ℕ) → HasRead M begun old read text → Finished M begun read text old new

  -- the last line is no line
  pub record FinishedBadly (M : Meaning) (begun : ℕ) (read text : List ℕ) (new : Replay C L) : Type 0 where
    pub ended : List (List ℕ)
    pub last : List ℕ
    pub cut : Lines read ended last
    pub bad : with_last ended last ≡ ended ++ last ∷ []
    pub is_bad : IsBad last
    pub answered : HasAnswered M begun new ended text

  abbrev pub FinishesBadly : Replay C L → Replay C L → Type 0
  FinishesBadly old new = (M : Meaning) (begun : ℕ) (read text : List ℕ) → HasRead M begun old read text → FinishedBadly M begun read text new
