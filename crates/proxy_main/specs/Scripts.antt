-- A script as text: its lines, and its limits.
use Rattle.std.specs.Prelude.{◌≡◌, ℕ, ◌≤◌, nat_lt, ◌==◌, false, if◌then◌else◌, Option, Some, List, [], ◌∷◌, ◌++◌, flat_map, length, take, All, codes, decimal}
use Rattle.std.specs.List.{list_any}
use Rattle.transcript.specs.declared.line.Line.{Line}
use Rattle.transcript.specs.Lines.{Spells}

-- the most bytes of a script, and of a line without its byte 10
abbrev pub script_limit : ℕ
script_limit = 1073741824

abbrev pub line_limit : ℕ
line_limit = 268435456

-- the most bytes of a script that are read at a time
abbrev pub piece_limit : ℕ
piece_limit = 65536

-- These lines, each ended by its byte 10.
abbrev pub as_text : List (List ℕ) → List ℕ
as_text lines = flat_map (λ l. l ++ 10 ∷ []) lines

abbrev pub HasNoBreak : List ℕ → Type 0
HasNoBreak bytes = list_any (λ b. b == 10) bytes ≡ false

-- the text is these lines, each ended by byte 10, and a last part that isn't ended
pub record Lines (text : List ℕ) (ended : List (List ℕ)) (last : List ℕ) : Type 0 where
  pub whole : text ≡ as_text ended ++ last
  pub each : All HasNoBreak ended
  pub last_part : HasNoBreak last

-- a last line that isn't ended counts where it isn't empty
abbrev pub with_last : List (List ℕ) → List ℕ → List (List ℕ)
with_last ended [] = ended
with_last ended (b ∷ bs) = ended ++ (b ∷ bs) ∷ []

-- the lines that are read of a script: all of them, or those that end within the limit
pub record Script (text : List ℕ) (lines : List (List ℕ)) : Type 0 where
  pub ended : List (List ℕ)
  pub last : List ℕ
  pub cut : Lines (take script_limit text) ended last
  pub lines_are : lines ≡ (if nat_lt script_limit (length text) then ended else with_last ended last)

-- So much of a script was read: a part within the limit, and behind it one piece. The rest is still to come.
pub record ReadSoFar (most : ℕ) (script : List ℕ) (left : Option (List ℕ)) : Type 0 where
  pub before : List ℕ
  pub piece : List ℕ
  pub rest : List ℕ
  pub parts : script ≡ before ++ (piece ++ rest)
  pub unread_is : left ≡ Some rest
  pub within : length before ≤ script_limit
  pub short : length piece ≤ most

-- the text of a line
pub record IsLineText (text : List ℕ) (l : Line) : Type 0 where
  pub within : length text ≤ line_limit
  pub spelled : Spells l text

-- the text of no line: it is too long, or outside the grammar
abbrev pub IsBad : List ℕ → Type 0
IsBad text = (l : Line) → IsLineText text l → ⊥

-- what is written of a text that is no line, by its number from 1 on, and of a script that is too long
abbrev pub bad_line_text : ℕ → List ℕ
bad_line_text n = codes "bad line " ++ decimal n ++ codes "\n"

abbrev pub too_long_text : List ℕ
too_long_text = codes "too-long\n"

-- each of the texts is that of the line in its place
abbrev pub AreLineTexts : List (List ℕ) → List Line → Type 0
AreLineTexts [] [] = Unit {0}
AreLineTexts [] (l ∷ ls) = ⊥
AreLineTexts (t ∷ ts) [] = ⊥
AreLineTexts (t ∷ ts) (l ∷ ls) = IsLineText t l × AreLineTexts ts ls
