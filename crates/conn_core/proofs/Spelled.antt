-- What is passed unchanged goes on byte by byte as it came.
use Rattle.std.proofs.Common.{◌≡◌, ℕ, zero, suc, ◌+◌, ◌≤◌, ◌<◌, Bool, true, false, if◌then◌else◌, not, List, ◌++◌, length, take, drop, get_or, ℤ, Some, None, refl, sym, ap, ◌∙◌, arith}
use Rattle.std.specs.Int.{w16, from_be_bytes, cast_signed, cast_unsigned}
use Rattle.std.proofs.lemmas.List.{get_or-drop, get_or-take, get_or_past, length-take-le, length-drop, take-append-drop}
use Rattle.std.proofs.lemmas.Nat.{be_bytes_2}
use Rattle.std.proofs.lemmas.Int.{of_z-to_z}
use Rattle.std.proofs.Math.Seq.{take-add}
use Rattle.kp_edge.specs.declared.end.End.TheVariants as end
use Rattle.kp_schema.specs.declared.dir.Dir.TheVariants as dir
use Rattle.kp_schema.specs.Messages.{is_supported}
use Rattle.wire_types.specs.Numbers.{int16}
use Rattle.tree_spelling.specs.declared.primitive.Primitive.{Primitive}
use Rattle.tree_spelling.specs.Shape.{Shape, message_shape}
use Rattle.tree_spelling.specs.Laws.{AreBytes}
use Rattle.tree_spelling.specs.Spelling.{spelling}
use Rattle.tree_spelling.specs.Decoded.{Decoded, decoded, AllItems, BadAt, TooManyAt}
use Rattle.tree_spelling.proofs.Decoding.{decoded_is_spelled}
use Rattle.framing.specs.Heads.{has_client_id, request_body, client_id_length, client_id_spelled}
use Rattle.framing.specs.RequestStarts.{request_key, request_version}
use Rattle.conn_core.specs.Requests.{is_told_versions, body_cause, request_decoded, items_read, answer_decoded, answer_cause}
use Rattle.conn_core.specs.Spelled.{PassesAsItCame, AnswersPassAsTheyCame}

-- ---- bodies

spelled_again : (s : Shape) (bytes : List ℕ) (items : List Primitive) → AreBytes bytes → decoded s bytes ≡ AllItems items → spelling items ≡ bytes
spelled_again s bytes items small e =
    let v = ((decoded_is_spelled s bytes small).0 items).0 e in
    sym (v.2.bytes_are ∙ ap spelling (sym v.1))

read_again : (s : Shape) (bytes : List ℕ) → AreBytes bytes → (d : Decoded) → decoded s bytes ≡ d → (items : List Primitive) → d ≡ AllItems items → spelling (items_read d) ≡ bytes
read_again s bytes small d is items e = ap (λ x. spelling (items_read x)) e ∙ spelled_again s bytes items small (is ∙ e)

no_body_cause : (key version : ℤ) (d : Decoded) → body_cause key version d ≡ None → (items : List Primitive) × (d ≡ AllItems items)
no_body_cause key version (AllItems items) e = (items, refl)
no_body_cause key version (BadAt place) e = absurd cc
no_body_cause key version (TooManyAt place) e = absurd cc

no_answer_cause : (key version : ℤ) (d : Decoded) → answer_cause key version d ≡ None → (items : List Primitive) × (d ≡ AllItems items)
no_answer_cause key version (AllItems items) e = (items, refl)
no_answer_cause key version (BadAt place) e = absurd cc
no_answer_cause key version (TooManyAt place) e = absurd cc

pub answers_pass : AnswersPassAsTheyCame
answers_pass before body small e =
    let d = no_answer_cause (request_key before) (request_version before) (answer_decoded before body) e in
    read_again (message_shape (request_key before) (request_version before) dir.Response) body small (answer_decoded before body) refl d.0 d.1

-- ---- heads

drop_small : (n : ℕ) (bytes : List ℕ) → AreBytes bytes → AreBytes (drop n bytes)
drop_small n bytes small i = omega (arith, get_or-drop n bytes i 0, small (n + i))

-- the two bytes of a number spell it
int16_again : (bytes : List ℕ) → AreBytes bytes → length bytes ≡ 2 → int16 (cast_signed w16 (from_be_bytes w16 bytes)) ≡ bytes
int16_again bytes small two =
    let m : from_be_bytes w16 bytes < 65536 = omega (arith, small 0, small 1) in
    be_bytes_2 bytes (cast_unsigned w16 (cast_signed w16 (from_be_bytes w16 bytes))) two small (of_z-to_z w16 (from_be_bytes w16 bytes) m)

two_small : (bytes : List ℕ) → AreBytes bytes → 2 ≤ length bytes → (i : ℕ) → get_or (take 2 bytes) i 0 < 256
two_small bytes small long zero = omega (arith, get_or-take 2 bytes 0 0 (omega arith), small 0)
two_small bytes small long (suc zero) = omega (arith, get_or-take 2 bytes 1 0 (omega arith), small 1)
two_small bytes small long (suc (suc i)) = omega (arith, get_or_past (take 2 bytes) (suc (suc i)) 0 (omega (arith, length-take-le 2 bytes long)))

first_two : (bytes : List ℕ) → AreBytes bytes → 2 ≤ length bytes → int16 (cast_signed w16 (from_be_bytes w16 (take 2 bytes))) ≡ take 2 bytes
first_two bytes small long = int16_again (take 2 bytes) (two_small bytes small long) (length-take-le 2 bytes long)

start_again : (frame : List ℕ) → AreBytes frame → 8 ≤ length frame → int16 (request_key frame) ++ int16 (request_version frame) ≡ take 4 frame
start_again frame small long =
    ap (λ x. x ++ int16 (request_version frame)) (first_two frame small (omega (arith, long))) ∙ ap (λ x. take 2 frame ++ x) (first_two (drop 2 frame) (drop_small 2 frame small) (omega (arith, long, length-drop 2 frame))) ∙ sym (take-add 2 2 frame)

-- ---- requests

-- a frame that is a request, by the three tests before its body
headed : (frame : List ℕ) (told served client : Bool) → told ≡ false → (if told then None else if not served then Some (λ k. end.UnsupportedApi k (request_key frame) (request_version frame)) else if not client then Some (λ k. end.BadHead k) else body_cause (request_key frame) (request_version frame) (request_decoded frame)) ≡ None → body_cause (request_key frame) (request_version frame) (request_decoded frame) ≡ None
headed frame true served client t e = absurd cc
headed frame false false client t e = absurd cc
headed frame false true false t e = absurd cc
headed frame false true true t e = e

pub passes_as_it_came : PassesAsItCame
passes_as_it_came frame small long e told =
    let h = headed frame (is_told_versions frame) (is_supported (request_key frame) (request_version frame)) (has_client_id frame) told e in
    let d = no_body_cause (request_key frame) (request_version frame) (request_decoded frame) h in
    let behind = drop 8 frame in
    let body = read_again (message_shape (request_key frame) (request_version frame) dir.Request) (request_body frame) (drop_small (client_id_length frame) behind (drop_small 8 frame small)) (request_decoded frame) refl d.0 d.1 in
    (start_again frame small long, ap (λ z. client_id_spelled frame ++ z) body ∙ take-append-drop (client_id_length frame) behind)
