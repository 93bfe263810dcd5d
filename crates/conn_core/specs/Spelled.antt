-- What is passed unchanged goes on byte by byte as it came.
use Rattle.std.specs.Prelude.{◌≡◌, ◌≤◌, ℕ, false, List, ◌++◌, length, take, drop, None}
use Rattle.wire_types.specs.Numbers.{int16}
use Rattle.tree_spelling.specs.Laws.{AreBytes}
use Rattle.tree_spelling.specs.Spelling.{spelling}
use Rattle.framing.specs.RequestStarts.{request_key, request_version}
use Rattle.framing.specs.Heads.{client_id_spelled}
use Rattle.conn_core.specs.Requests.{is_told_versions, frame_cause, answer_decoded, answer_cause, request_of, items_read}

-- The parts of which the message of a request is made are those of the request's own frame, but for the correlation id.
abbrev pub PassesAsItCame : Type 0
PassesAsItCame =
    (frame : List ℕ) → AreBytes frame → 8 ≤ length frame → frame_cause frame ≡ None → is_told_versions frame ≡ false
    → (int16 (request_of frame).key ++ int16 (request_of frame).version ≡ take 4 frame) × (client_id_spelled frame ++ spelling (request_of frame).items ≡ drop 8 frame)

-- The body of an answer that can be read is the spelling of its items.
abbrev pub AnswersPassAsTheyCame : Type 0
AnswersPassAsTheyCame =
    (before body : List ℕ) → AreBytes body → answer_cause (request_key before) (request_version before) (answer_decoded before body) ≡ None
    → spelling (items_read (answer_decoded before body)) ≡ body
