-- The words of a command, and the numbers of its statuses.
use Rattle.std.specs.Prelude.{◌≡◌, ℕ, List, [], ◌∷◌, ◌++◌, codes}
use Rattle.proxy_main.specs.declared.status.Status.{Status}
use Rattle.proxy_main.specs.declared.status.Status.TheVariants.{Done, Refused, Usage, InputFault, OutputFault, NoMemory, FilesFault, BindFault, ThreadFault}

-- the one line that is written where the words are faulty
abbrev pub usage : List ℕ
usage = codes "usage: kproxy replay [CONFIG CLUSTER] | check CONFIG | plan CONFIG | serve CONFIG | broker HOST PORT | load SEED N" ++ 10 ∷ []

-- the command on a script: the lone word `replay`
abbrev pub IsReplay : List (List ℕ) → Type 0
IsReplay words = words ≡ codes "replay" ∷ []

abbrev pub status_number : Status → ℕ
status_number Done = 0
status_number Refused = 1
status_number Usage = 2
status_number InputFault = 3
status_number OutputFault = 4
status_number NoMemory = 5
status_number FilesFault = 6
status_number BindFault = 7
status_number ThreadFault = 8
