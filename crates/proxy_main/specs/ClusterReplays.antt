-- What `replay` makes of a cluster of a configuration file: its words, and what is written.
use Rattle.std.specs.Prelude.{◌≡◌, ℕ, false, List, [], ◌∷◌, codes, Option, ◌⊎◌}
use Rattle.kp_edge.specs.Files.{Content}
use Rattle.config_answers.specs.ClusterAnswers.{cluster_answer, IsServed}
use Rattle.config_answers.specs.declared.cluster.ClusterAnswer.{ClusterAnswer}
use Rattle.config_answers.specs.declared.cluster.ClusterAnswer.TheVariants.{Found, Refused}
use Rattle.proxy_main.specs.DefaultPlan.{cluster_meaning}
use Rattle.proxy_main.specs.FileAnswers.{CanHold, IsNoFileCommand, begins_with_dash}
use Rattle.proxy_main.specs.Replayed.{ReplaysInput}
use Rattle.proxy_main.specs.Written.{WritesOut}
use Rattle.proxy_main.specs.declared.status.Status.{Status}
use Rattle.proxy_main.specs.declared.status.Status.TheVariants as status

-- the words of `replay` on a cluster: its word, the name of a file, and that of a cluster
pub record IsClusterReplay (words : List (List ℕ)) (file cluster : List ℕ) : Type 0 where
  pub words_are : words ≡ codes "replay" ∷ file ∷ cluster ∷ []
  pub names_file : begins_with_dash file ≡ false
  pub names_cluster : begins_with_dash cluster ≡ false

-- the words of no such command
abbrev pub IsNoClusterReplay : List (List ℕ) → Type 0
IsNoClusterReplay words = (file cluster : List ℕ) → IsClusterReplay words file cluster → ⊥

-- the words name no file
abbrev pub NamesNoFile : List (List ℕ) → Type 0
NamesNoFile words = IsNoFileCommand words × IsNoClusterReplay words

-- the answer to all the bytes that the file holds
pub record IsFoundIn (content : Content) (cluster : List ℕ) (found : ClusterAnswer) : Type 0 where
  pub whole : List ℕ
  pub can_hold : CanHold content whole
  pub found_is : found ≡ cluster_answer cluster whole

-- The script on the input was replayed over the cluster's chain. Where there is no such cluster, the line that says why
-- was written, no input was read, and no step was counted.
abbrev pub ReplaysFound : ClusterAnswer → (coming left before after : Option (List ℕ)) (begun now : ℕ) → Status → Type 0
ReplaysFound (Found plan) coming left before after begun now s = ReplaysInput (cluster_meaning plan) coming left before after begun now s
ReplaysFound (Refused line) coming left before after begun now s = (left ≡ coming) × (now ≡ begun) × WritesOut line status.Refused before after s

-- as the file says, whose plan of that cluster is valid and has no prefix
pub record ReplaysFile (content : Content) (cluster : List ℕ) (coming left before after : Option (List ℕ)) (begun now : ℕ) (s : Status) : Type 0 where
  pub found : ClusterAnswer
  pub is_found : IsFoundIn content cluster found
  pub served : IsServed found
  pub replays : ReplaysFound found coming left before after begun now s

-- The file wasn't read whole, or memory ran out. Nothing was written or counted, and no input was read.
pub record LeavesAll (coming left before after : Option (List ℕ)) (begun now : ℕ) (s : Status) : Type 0 where
  pub status_is : (s ≡ status.FilesFault) ⊎ (s ≡ status.NoMemory)
  pub unread : left ≡ coming
  pub unwritten : after ≡ before
  pub uncounted : now ≡ begun

abbrev pub ReplaysCluster : Content → List ℕ → (coming left before after : Option (List ℕ)) (begun now : ℕ) → Status → Type 0
ReplaysCluster content cluster coming left before after begun now s =
    ReplaysFile content cluster coming left before after begun now s ⊎ LeavesAll coming left before after begun now s
