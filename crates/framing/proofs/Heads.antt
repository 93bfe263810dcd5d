-- What the head of a request is, and where its parts stand.
use Rattle.std.proofs.Common.{◌≡◌, ℕ, ◌+◌, ◌-◌, ◌≤◌, List, ◌++◌, length, drop, Option, Some, None, refl, sym, ap, ◌∙◌, arith, ℤ, pos}
use Rattle.std.proofs.lemmas.List.{length-append, length-drop, drop-drop, take_at, drop_at}
use Rattle.wire_types.specs.Numbers.{int16}
use Rattle.wire_types.specs.Strings.{string, IsString}
use Rattle.wire_types.specs.Reading.{Reading, Reads, unread}
use Rattle.framing.specs.declared.request_head.RequestHead.{RequestHead}
use Rattle.framing.specs.Heads.{Starts, IsRequest, EndsAt}

-- a STRING was read behind the first eight bytes
pub record ReadsText (frame : List ℕ) (old new : Reading) (text : Option (List ℕ)) : Type 0 where
  pub bytes : old.bytes ≡ drop 8 frame
  pub at : old.at ≡ 0
  pub reads : Reads old (string text) new

-- behind the start stand the text and the body
pub text_then_body : (frame : List ℕ) (old new : Reading) (text : Option (List ℕ)) → ReadsText frame old new text → drop 8 frame ≡ string text ++ drop (8 + new.at) frame
text_then_body frame old new text r =
    let front : unread old ≡ drop 8 frame = rw (r.at, r.bytes) refl in
    let behind : unread new ≡ drop (8 + new.at) frame = rw (r.reads.same, r.bytes) (drop-drop new.at 8 frame) in
    sym front ∙ r.reads.spelled ∙ ap (λ (x : List ℕ). string text ++ x) behind

pub is_request : (frame body : List ℕ) (head : RequestHead) (old new : Reading) → Starts frame head.key head.version head.correlation_id (drop 8 frame) → ReadsText frame old new head.client_id → IsString head.client_id → body ≡ drop (8 + new.at) frame → IsRequest frame head body
is_request frame body head old new start r fits e =
    let rest : drop 8 frame ≡ string head.client_id ++ body = text_then_body frame old new head.client_id r ∙ ap (λ (x : List ℕ). string head.client_id ++ x) (sym e) in
    record { starts = rw (← rest) start; is_string = fits }

pub ends_at : (frame : List ℕ) (old new : Reading) (text : Option (List ℕ)) → 8 ≤ length frame → ReadsText frame old new text → EndsAt frame (8 + new.at) text
ends_at frame old new None long r = tt
ends_at frame old new (Some text) long r =
    let place : new.at ≡ 2 + length text = rw r.reads.place (omega (arith, r.at, length-append (int16 (pos (length text))) text)) in
    let front : drop 8 frame ≡ (int16 (pos (length text)) ++ text) ++ drop (8 + new.at) frame = text_then_body frame old new (Some text) r in
    let behind : drop 10 frame ≡ text ++ drop (8 + new.at) frame = sym (drop-drop 2 8 frame) ∙ ap (drop 2) front in
    let room : 8 + new.at ≤ length frame = omega (arith, place, ap length front, length-drop 8 frame, length-append (int16 (pos (length text)) ++ text) (drop (8 + new.at) frame), length-append (int16 (pos (length text))) text) in
    let begin : (8 + new.at) - length text ≡ 10 = omega (arith, place) in
    let count : (8 + new.at) - 10 ≡ length text = omega (arith, place) in
    (omega (arith, place), room, rw (begin, count, behind) (take_at text (drop (8 + new.at) frame) (length text) refl))

rest_is : (frame : List ℕ) (key version correlation_id : ℤ) (rest : List ℕ) → Starts frame key version correlation_id rest → drop 8 frame ≡ rest
rest_is frame key version correlation_id rest s = ap (drop 8) s.spelled

same_behind : (text x y : List ℕ) → text ++ x ≡ text ++ y → x ≡ y
same_behind text x y e =
    sym (drop_at text x (length text) refl) ∙ ap (drop (length text)) e ∙ drop_at text y (length text) refl

-- what the reader stood at, where the frame is a request
pub stood_at : (frame : List ℕ) (old new : Reading) (text : Option (List ℕ)) (head : RequestHead) (body : List ℕ) → ReadsText frame old new text → IsRequest frame head body → unread old ≡ string head.client_id ++ body
stood_at frame old new text head body r q =
    let front : unread old ≡ drop 8 frame = rw (r.at, r.bytes) refl in
    front ∙ rest_is frame head.key head.version head.correlation_id (string head.client_id ++ body) q.starts

-- the body that follows the text is the request's
pub same_body : (frame : List ℕ) (old new : Reading) (text : Option (List ℕ)) (head : RequestHead) (body : List ℕ) → ReadsText frame old new text → IsRequest frame head body → text ≡ head.client_id → drop (8 + new.at) frame ≡ body
same_body frame old new text head body r q e =
    let both : string head.client_id ++ drop (8 + new.at) frame ≡ string head.client_id ++ body =
    ap (λ (t : Option (List ℕ)). string t ++ drop (8 + new.at) frame) (sym e) ∙ sym (text_then_body frame old new text r) ∙ rest_is frame head.key head.version head.correlation_id (string head.client_id ++ body) q.starts in
    same_behind (string head.client_id) (drop (8 + new.at) frame) body both

some_is : (a b : ℤ × ℤ × ℤ) → Some a ≡ Some b → a ≡ b
some_is a b e = cc

pub same_numbers : (a b : ℤ × ℤ × ℤ) → Some a ≡ Some b → (a.0 ≡ b.0) × (a.1 ≡ b.1) × (a.2 ≡ b.2)
same_numbers a b e =
    let same : a ≡ b = some_is a b e in
    (ap (λ (t : ℤ × ℤ × ℤ). t.0) same, ap (λ (t : ℤ × ℤ × ℤ). t.1) same, ap (λ (t : ℤ × ℤ × ℤ). t.2) same)
