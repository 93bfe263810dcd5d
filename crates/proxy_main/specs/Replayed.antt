-- What `replay` makes of a script: the text that it writes, by its status.
use Rattle.std.specs.Prelude.{◌≡◌, ℕ, ◌+◌, ◌<◌, ◌≤◌, List, [], ◌∷◌, ◌++◌, flat_map, map, length, Option, Some, ◌⊎◌}
use Rattle.conn_rules.specs.History.{Entry, IsHistory, out, sent, IsInOrder, AreFirst}
use Rattle.conn_rules.specs.Meaning.{Meaning}
use Rattle.conn_rules.specs.Work.{total_work}
use Rattle.conn_rules.specs.Told.{IsEndNext}
use Rattle.kp_edge.specs.declared.end.End.{End}
use Rattle.framing.specs.Cuts.{Cuts}
use Rattle.session.specs.declared.peer.Peer.TheVariants as peer
use Rattle.session.specs.Streams.{IsStreamOf}
use Rattle.session.specs.Peers.{least_size, most_size}
use Rattle.transcript.specs.declared.line.Line.{Line}
use Rattle.transcript.specs.declared.answer.Answer.{Answer}
use Rattle.proxy_main.specs.Played.{Play, opening_play, ArePlayed, stream_in, printed, shown_to_client, shown_to_broker}
use Rattle.proxy_main.specs.Scripts.{Script, AreLineTexts, IsBad, ReadSoFar, as_text, script_limit, piece_limit, bad_line_text, too_long_text}
use Rattle.proxy_main.specs.Output.{Appends, AppendsFront}
use Rattle.proxy_main.specs.Words.{usage}
use Rattle.proxy_main.specs.declared.status.Status.{Status}
use Rattle.proxy_main.specs.declared.status.Status.TheVariants as status

-- The requests are the first frames of the client's stream, however it came in pieces.
abbrev pub AreFirstOfStream : List (List ℕ) → List ℕ → Type 0
AreFirstOfStream requests bytes =
    (frames : List (List ℕ)) (tail : List ℕ) → Cuts (least_size peer.Client) (most_size peer.Client) bytes frames tail → AreFirst requests frames

-- These lines were answered, and this is the text. The frames that were handed on are the first of each peer's stream.
-- What the answers show the client and the broker is all that they were sent. The client was sent the responses to its
-- passed requests, in order, each under its own correlation id. The end that was told comes next behind them.
pub record Answered (M : Meaning) (lines : List (List ℕ)) (text : List ℕ) : Type 0 where
  pub script : List Line
  pub answers : List Answer
  pub history : List Entry
  pub last : Play
  pub texts : AreLineTexts lines script
  pub played : ArePlayed M opening_play script answers history last
  pub text_is : text ≡ printed answers
  pub is_history : IsHistory M history last.state
  pub client : IsStreamOf (stream_in peer.Client script) history last.client
  pub broker : IsStreamOf (stream_in peer.Broker script) history last.broker
  pub shown : flat_map shown_to_client answers ≡ out history
  pub shown_sends : flat_map shown_to_broker answers ≡ sent history
  pub in_order : IsInOrder M history last.state
  pub told : (why : End) → last.state.causes.over ≡ Some why → IsEndNext M why last.state
  pub own_requests : AreFirstOfStream (map (λ r. r.frame) last.state.requests) (stream_in peer.Client script)

-- From one count of steps to the other there are as many as the work of all requests, with all that they were given.
abbrev pub CountsRequests : (M : Meaning) {lines : List (List ℕ)} {text : List ℕ} (begun now : ℕ) → Answered M lines text → Type 0
CountsRequests M begun now answered = now ≡ begun + total_work M answered.last.state

-- the script as a whole was answered, and so many steps were counted
pub record Whole (M : Meaning) (script text : List ℕ) (begun now : ℕ) : Type 0 where
  pub lines : List (List ℕ)
  pub script_is : Script script lines
  pub within : length script ≤ script_limit
  pub answered : Answered M lines text
  pub counted : CountsRequests M begun now answered

-- the lines of a front of the script were answered
pub record Front (M : Meaning) (script text : List ℕ) : Type 0 where
  pub lines : List (List ℕ)
  pub others : List (List ℕ)
  pub script_is : Script script (lines ++ others)
  pub answered : Answered M lines text

-- the same, with the steps that were counted
pub record CountedFront (M : Meaning) (script text : List ℕ) (begun now : ℕ) : Type 0 where
  pub front : Front M script text
  pub counted : CountsRequests M begun now front.answered

-- The lines before the first bad one were answered, and it is named by its number. Nothing was read after
-- the piece in which it ended.
pub record BadLine (M : Meaning) (script : List ℕ) (left : Option (List ℕ)) (text : List ℕ) (begun now : ℕ) : Type 0 where
  pub lines : List (List ℕ)
  pub bad : List ℕ
  pub others : List (List ℕ)
  pub script_is : Script script (lines ++ bad ∷ others)
  pub is_bad : IsBad bad
  pub so_far : ReadSoFar piece_limit script left
  pub not_ended : length so_far.before ≤ length (as_text lines) + length bad
  pub answers : List ℕ
  pub answered : Answered M lines answers
  pub counted : CountsRequests M begun now answered
  pub text_is : text ≡ answers ++ bad_line_text (length lines + 1)

-- the lines that end within the limit were answered, and the script is longer
pub record TooLong (M : Meaning) (script text : List ℕ) (begun now : ℕ) : Type 0 where
  pub lines : List (List ℕ)
  pub script_is : Script script lines
  pub beyond : script_limit < length script
  pub answers : List ℕ
  pub answered : Answered M lines answers
  pub counted : CountsRequests M begun now answered
  pub text_is : text ≡ answers ++ too_long_text

-- a text that replay could go on from, or end with
abbrev pub IsTextOf : Meaning → List ℕ → Option (List ℕ) → List ℕ → (begun now : ℕ) → Type 0
IsTextOf M script left text begun now = Front M script text ⊎ BadLine M script left text begun now ⊎ TooLong M script text begun now

-- written is a front of such a text
pub record CutShort (M : Meaning) (script : List ℕ) (left : Option (List ℕ)) (written : List ℕ) (begun now : ℕ) : Type 0 where
  pub text : List ℕ
  pub missing : List ℕ
  pub text_of : IsTextOf M script left text begun now
  pub front : text ≡ written ++ missing

-- What was written of a script of which this is still to come, by the status. From the count of steps when it began to the
-- count now there are as many as the requests' work, but where memory ran out or a write failed.
abbrev pub Replays : Meaning → List ℕ → Option (List ℕ) → List ℕ → (begun now : ℕ) → Status → Type 0
Replays M script left written begun now status.Done = Whole M script written begun now
Replays M script left written begun now status.Refused = BadLine M script left written begun now ⊎ TooLong M script written begun now
Replays M script left written begun now status.InputFault = CountedFront M script written begun now
Replays M script left written begun now status.OutputFault = CutShort M script left written begun now
Replays M script left written begun now status.NoMemory = Front M script written
Replays _ script left written begun now _ = ⊥

-- the statuses that replay ends with
abbrev pub IsStatusOfReplay : Status → Type 0
IsStatusOfReplay status.Usage = ⊥
IsStatusOfReplay status.FilesFault = ⊥
IsStatusOfReplay status.BindFault = ⊥
IsStatusOfReplay status.ThreadFault = ⊥
IsStatusOfReplay _ = Unit {0}

-- A script on an input was replayed. Where the input tells what is to come and the output what it took, what was written
-- has its cause in the script, and so have the steps that were counted. At most the limit of a script and one piece of it
-- were read, and all of it at status 0.
pub record ReplaysInput (M : Meaning) (coming left before after : Option (List ℕ)) (begun now : ℕ) (s : Status) : Type 0 where
  pub text : (script : List ℕ) → coming ≡ Some script → (written : List ℕ) × Appends before written after × Replays M script left written begun now s
  pub status_is : IsStatusOfReplay s
  pub so_far : (script : List ℕ) → coming ≡ Some script → ReadSoFar piece_limit script left
  pub all_read : s ≡ status.Done → (script : List ℕ) → coming ≡ Some script → left ≡ Some []

-- the line on the usage was written, or a front of it
abbrev pub RefusesWords : Status → Option (List ℕ) → Option (List ℕ) → Type 0
RefusesWords status.Usage before after = Appends before usage after
RefusesWords status.OutputFault before after = AppendsFront before usage after
RefusesWords _ before after = ⊥
