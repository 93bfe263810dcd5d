-- What `check` and `plan` make of a file: their words, and the text that they write, by their status.
use Rattle.std.specs.Prelude.{◌≡◌, ℕ, Bool, false, ◌==◌, List, [], ◌∷◌, codes, Option}
use Rattle.kp_edge.specs.Files.{Content, Untold, Absent, Holds}
use Rattle.config_answers.specs.ConfigAnswers.{config_answer}
use Rattle.config_answers.specs.declared.asked.Asked.{Asked}
use Rattle.config_answers.specs.declared.asked.Asked.TheVariants.{Check, Plan}
use Rattle.config_answers.specs.declared.answer.ConfigAnswer.{ConfigAnswer}
use Rattle.config_answers.specs.declared.answer.ConfigAnswer.TheVariants as answer
use Rattle.proxy_main.specs.Output.{Appends, AppendsFront}
use Rattle.proxy_main.specs.declared.status.Status.{Status}
use Rattle.proxy_main.specs.declared.status.Status.TheVariants as status

-- the word of each command on a configuration
abbrev pub asked_word : Asked → List ℕ
asked_word Check = codes "check"
asked_word Plan = codes "plan"

-- a word that begins with `-`, which names no file
abbrev pub begins_with_dash : List ℕ → Bool
begins_with_dash [] = false
begins_with_dash (b ∷ bs) = b == 45

-- the words of such a command: its word, and the name of a file
pub record IsFileCommand (words : List (List ℕ)) (asked : Asked) (name : List ℕ) : Type 0 where
  pub words_are : words ≡ asked_word asked ∷ name ∷ []
  pub names_file : begins_with_dash name ≡ false

-- the words of no such command
abbrev pub IsNoFileCommand : List (List ℕ) → Type 0
IsNoFileCommand words = (asked : Asked) (name : List ℕ) → IsFileCommand words asked name → ⊥

-- A file can hold these bytes, as far as the files tell. They tell of one that isn't there that it holds none.
abbrev pub CanHold : Content → List ℕ → Type 0
CanHold Untold bytes = Unit {0}
CanHold Absent bytes = ⊥
CanHold (Holds whole) bytes = bytes ≡ whole

-- the answer to all the bytes that the file holds
pub record IsAnswerTo (asked : Asked) (content : Content) (found : ConfigAnswer) : Type 0 where
  pub whole : List ℕ
  pub can_hold : CanHold content whole
  pub found_is : found ≡ config_answer asked whole

-- the text of an answer
abbrev pub written_text : ConfigAnswer → List ℕ
written_text (answer.Holds text) = text
written_text (answer.Refused text) = text

-- the answer was written whole
pub record WritesAnswer (asked : Asked) (content : Content) (before after : Option (List ℕ)) (found : ConfigAnswer) : Type 0 where
  pub answers : IsAnswerTo asked content found
  pub appends : Appends before (written_text found) after

-- a front of the answer was
pub record WritesFrontOfAnswer (asked : Asked) (content : Content) (before after : Option (List ℕ)) : Type 0 where
  pub found : ConfigAnswer
  pub answers : IsAnswerTo asked content found
  pub appends : AppendsFront before (written_text found) after

-- What was written of a file with this content, by the status: what was asked of a configuration that holds (0), why it is
-- refused (1), a front of either (4), and nothing where memory ran out (5) or the read of the file failed (6).
abbrev pub AnswersFile : Asked → Content → Option (List ℕ) → Option (List ℕ) → Status → Type 0
AnswersFile asked content before after status.Done = (text : List ℕ) × WritesAnswer asked content before after (answer.Holds text)
AnswersFile asked content before after status.Refused = (text : List ℕ) × WritesAnswer asked content before after (answer.Refused text)
AnswersFile asked content before after status.OutputFault = WritesFrontOfAnswer asked content before after
AnswersFile asked content before after status.NoMemory = after ≡ before
AnswersFile asked content before after status.FilesFault = after ≡ before
AnswersFile asked content before after _ = ⊥
