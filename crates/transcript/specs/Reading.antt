-- Reading as a function on lists: what each function of the code answers, but for memory.
use Rattle.std.specs.Prelude.{◌≡◌, ℕ, ◌+◌, ◌*◌, ◌^◌, ◌==◌, nat_lt, nat_le, ◌&&◌, List, [], length, take, drop, codes, if◌then◌else◌, Option, Some, None, Result, Ok, Err, position}
use Rattle.std.specs.Option.{option_map}
use Rattle.std.specs.Result.{result_ok}
use Rattle.std.specs.Str.{bytes_eq, all_ascii_digits}
use Rattle.std.specs.Str.Parse.{digits_value}
use Rattle.hex.specs.Hex.{decode_of}
use Rattle.transcript.specs.Lines.{most_verdict}
use Rattle.transcript.specs.declared.line.Line.{Line}
use Rattle.transcript.specs.declared.line.Line.TheVariants.{Client, Broker, ClientEnd, BrokerEnd, Send, Emit, Pick, Done, FaultClientRead, FaultClientWrite, FaultBrokerRead, FaultBrokerWrite, FaultAuthority}
use Rattle.transcript.specs.declared.line.LineFault.{LineFault}
use Rattle.transcript.specs.declared.line.LineFault.TheVariants.{BadLine, NoMemory}

-- the result is what reading gives, unless memory ran out
abbrev pub IsReadAs : {X : Type 0} → Result X LineFault → Option X → Type 0
IsReadAs (Ok x) read = read ≡ Some x
IsReadAs (Err BadLine) read = read ≡ None
IsReadAs (Err NoMemory) read = Unit {0}

-- the number that a word of digits stands for, below the limit
unfoldable pub number_of : ℕ → List ℕ → Option ℕ
number_of limit word =
    if (nat_lt 0 (length word) && nat_le (length word) 20) && (all_ascii_digits word && nat_lt (digits_value 10 word) limit)
    then Some (digits_value 10 word) else None

-- the bytes that a word stands for
unfoldable pub bytes_of : List ℕ → Option (List ℕ)
bytes_of word =
    if bytes_eq word (codes "-") then Some []
    else if length word == 0 then None
    else result_ok (decode_of word)

-- the word up to the first space, and what stands behind it
unfoldable pub word_of : List ℕ → Option (List ℕ × List ℕ)
word_of text = option_map (λ i. (take i text, drop (i + 1) text)) (position (λ c. c == 32) text)

-- what follows a front
abbrev pub rest_after : List ℕ → List ℕ → Option (List ℕ)
rest_after front text = if bytes_eq (take (length front) text) front then Some (drop (length front) text) else None

-- goes on with the value if there is one
infixl 10 ◌>>=◌
abbrev pub ◌>>=◌ : {A B : Type 0} → Option A → (A → Option B) → Option B
(Some x) >>= f = f x
None >>= f = None

-- what is read of the value, or else of the rest
abbrev pub read_or : {A B : Type 0} → Option A → (A → Option B) → Option B → Option B
read_or (Some x) f other = f x
read_or None f other = other

-- the line that a text without bytes and numbers spells
unfoldable pub bare_of : List ℕ → Option Line
bare_of text =
    if bytes_eq text (codes "client-end") then Some ClientEnd
    else if bytes_eq text (codes "broker-end") then Some BrokerEnd
    else if bytes_eq text (codes "send") then Some Send
    else if bytes_eq text (codes "emit") then Some Emit
    else if bytes_eq text (codes "pick") then Some Pick
    else if bytes_eq text (codes "fault client-read") then Some FaultClientRead
    else if bytes_eq text (codes "fault client-write") then Some FaultClientWrite
    else if bytes_eq text (codes "fault broker-read") then Some FaultBrokerRead
    else if bytes_eq text (codes "fault broker-write") then Some FaultBrokerWrite
    else None

-- the bytes of an answer of the authority
unfoldable pub verdict_of : List ℕ → Option (List ℕ)
verdict_of word = if nat_lt (2 * most_verdict) (length word) then None else bytes_of word

-- the line that these words behind `done` spell
unfoldable pub done_of : List ℕ → Option Line
done_of text = do
  first ← word_of text
  second ← word_of first.1
  request ← number_of (2 ^ 64) first.0
  index ← number_of (2 ^ 32) second.0
  verdict ← verdict_of second.1
  Some (Done request index verdict)

-- the line that a text spells
unfoldable pub line_of : List ℕ → Option Line
line_of text =
    read_or (bare_of text) (λ line. Some line)
    (read_or (rest_after (codes "client ") text) (λ word. option_map Client (bytes_of word))
    (read_or (rest_after (codes "broker ") text) (λ word. option_map Broker (bytes_of word))
    (read_or (rest_after (codes "done ") text) done_of
    (read_or (rest_after (codes "fault authority ") text) (λ word. option_map FaultAuthority (number_of (2 ^ 64) word)) None))))
