-- What the front of a stream is.
use Rattle.std.proofs.Common.{◌≡◌, ℕ, ◌+◌, ◌<◌, ◌≤◌, ◌^◌, List, ◌++◌, length, take, drop, sym, ap, ◌∙◌, append_assoc, arith, ℤ, pos, w32, to_z, of_z, FitsSigned}
use Rattle.std.proofs.lemmas.Int.{to_z-of_z}
use Rattle.std.proofs.lemmas.List.{length-take, length-drop, take-append-drop, drop-drop}
use Rattle.wire_types.specs.Numbers.{int32}
use Rattle.framing.specs.Frames.{sized, IsFrame, BeginsFrame}
use Rattle.framing.specs.Feed.{Feed}
use Rattle.framing.specs.Answers.{TakesFrame}

-- the `n` bytes behind the size
abbrev pub frame_of : ℕ → List ℕ → List ℕ
frame_of n bytes = take n (drop 4 bytes)

length-frame_of : (n : ℕ) (bytes : List ℕ) → 4 + n ≤ length bytes → length (frame_of n bytes) ≡ n
length-frame_of n bytes h = omega (arith, length-take n (drop 4 bytes), length-drop 4 bytes)

-- where the size says n and n bytes stand behind it, they are a frame
pub frame_is_sized : (n : ℕ) (bytes : List ℕ) (size : ℤ) → 4 + n ≤ length bytes → size ≡ pos n → bytes ≡ int32 size ++ drop 4 bytes → bytes ≡ sized (frame_of n bytes) ++ drop (4 + n) bytes
frame_is_sized n bytes size h e spelled =
    let len = length-frame_of n bytes h in
    let size-is : int32 size ≡ int32 (pos (length (frame_of n bytes))) = ap int32 (e ∙ ap pos (sym len)) in
    let behind : drop 4 bytes ≡ frame_of n bytes ++ drop (4 + n) bytes = sym (take-append-drop n (drop 4 bytes)) ∙ ap (λ (r : List ℕ). frame_of n bytes ++ r) (drop-drop n 4 bytes) in
    spelled ∙ ap (λ (front : List ℕ). front ++ drop 4 bytes) size-is ∙ ap (λ (r : List ℕ). int32 (pos (length (frame_of n bytes))) ++ r) behind ∙ sym (append_assoc (int32 (pos (length (frame_of n bytes)))) (frame_of n bytes) (drop (4 + n) bytes))

-- what is known of the front where the code takes a frame
pub record Fronts (least most : ℕ) (bytes : List ℕ) (n : ℕ) : Type 0 where
  pub is_frame : IsFrame least most (frame_of n bytes)
  pub len : length (frame_of n bytes) ≡ n
  pub front : bytes ≡ sized (frame_of n bytes) ++ drop (4 + n) bytes

pub fronts : (least most n : ℕ) (bytes : List ℕ) (size : ℤ) → FitsSigned w32 size → 4 + n ≤ length bytes → (to_z w32 (of_z w32 size) ≡ pos n) × (n < 2 ^ 31) × (least ≤ n) × (n ≤ most) → bytes ≡ int32 size ++ drop 4 bytes → Fronts least most bytes n
fronts least most n bytes size fits h allowed spelled =
    let len' = length-frame_of n bytes h in
    record {
      is_frame = record { not_short = omega (arith, len', allowed.2); not_long = omega (arith, len', allowed.3); sayable = omega (arith, len', allowed.1) };
      len = len';
      front = frame_is_sized n bytes size h (sym (to_z-of_z w32 size fits) ∙ allowed.0) spelled;
    }

pub begins_frame : (least most n : ℕ) (bytes : List ℕ) → Fronts least most bytes n → BeginsFrame least most bytes
begins_frame least most n bytes f = record { frame = frame_of n bytes; is_frame = f.is_frame; behind = drop (4 + n) bytes; front = f.front }

pub takes_frame : (old new : Feed) (n : ℕ) (frame : List ℕ) → Fronts old.least old.most old.rest n → frame ≡ frame_of n old.rest → new ≡ record old { at = old.at + 4 + n; rest = drop (4 + n) old.rest } → TakesFrame old frame new
takes_frame old new n frame f e after' =
    rw (e, after') (record {
      is_frame = f.is_frame;
      front = f.front;
      after = ap (λ (k : ℕ). record old { at = old.at + 4 + k; rest = drop (4 + n) old.rest }) (sym f.len);
    })
