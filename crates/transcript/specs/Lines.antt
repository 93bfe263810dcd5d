use Rattle.std.specs.Prelude.{◌≡◌, ℕ, ◌^◌, ◌<◌, ◌≤◌, List, ◌++◌, length, codes}
use Rattle.std.specs.Str.Parse.{IsNumeral, digits_value}
use Rattle.transcript.specs.Hex.{SpellsBytes}
use Rattle.transcript.specs.declared.line.Line.{Line}
use Rattle.transcript.specs.declared.line.Line.TheVariants.{Client, Broker, ClientEnd, BrokerEnd, Send, Emit, Pick, Done, FaultClientRead, FaultClientWrite, FaultBrokerRead, FaultBrokerWrite, FaultAuthority}

-- the text stands for the number: 1 to 20 digits, zeros in front or not, for a number below the limit
pub record SpellsNumber (limit n : ℕ) (text : List ℕ) : Type 0 where
  pub digits : IsNumeral 10 text
  pub few : length text ≤ 20
  pub value : digits_value 10 text ≡ n
  pub below : n < limit

-- the most bytes of a verdict
abbrev pub most_verdict : ℕ
most_verdict = 8388608

-- the words behind `done`: the request, the number of its ask and the verdict
pub record SpellsDone (request index : ℕ) (verdict text : List ℕ) : Type 0 where
  pub first : List ℕ
  pub second : List ℕ
  pub third : List ℕ
  pub words : text ≡ first ++ codes " " ++ second ++ codes " " ++ third
  pub request_is : SpellsNumber (2 ^ 64) request first
  pub index_is : SpellsNumber (2 ^ 32) index second
  pub verdict_is : SpellsBytes verdict third
  pub within : length verdict ≤ most_verdict

-- the text spells the line
abbrev pub Spells : Line → List ℕ → Type 0
Spells (Client bytes) text = (word : List ℕ) × (text ≡ codes "client " ++ word) × SpellsBytes bytes word
Spells (Broker bytes) text = (word : List ℕ) × (text ≡ codes "broker " ++ word) × SpellsBytes bytes word
Spells ClientEnd text = text ≡ codes "client-end"
Spells BrokerEnd text = text ≡ codes "broker-end"
Spells Send text = text ≡ codes "send"
Spells Emit text = text ≡ codes "emit"
Spells Pick text = text ≡ codes "pick"
Spells (Done request index verdict) text = (words : List ℕ) × (text ≡ codes "done " ++ words) × SpellsDone request index verdict words
Spells FaultClientRead text = text ≡ codes "fault client-read"
Spells FaultClientWrite text = text ≡ codes "fault client-write"
Spells FaultBrokerRead text = text ≡ codes "fault broker-read"
Spells FaultBrokerWrite text = text ≡ codes "fault broker-write"
Spells (FaultAuthority request) text = (word : List ℕ) × (text ≡ codes "fault authority " ++ word) × SpellsNumber (2 ^ 64) request word
