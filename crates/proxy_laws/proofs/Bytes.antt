-- Frames of a stream of bytes are bytes.
use Rattle.std.proofs.Common.{sym, subst, ℕ, ◌+◌, ◌<◌, List, [], ◌∷◌, ◌++◌, length, append_assoc, inl, inr, pos, arith}
use Rattle.std.specs.List.{All, flat_map}
use Rattle.std.proofs.lemmas.List.{get_or_append_left, get_or-append-add, get_or_past}
use Rattle.std.proofs.lemmas.List.Elements.{All-nil, All-cons}
use Rattle.wire_types.specs.Numbers.{int32}
use Rattle.tree_spelling.specs.Laws.{AreBytes}
use Rattle.framing.specs.Frames.{sized}
use Rattle.proxy_laws.proofs.Lists.{less_or_not}

first_bytes : (xs ys : List ℕ) → AreBytes (xs ++ ys) → AreBytes xs
first_bytes xs ys small i = elim (less_or_not i (length xs)) [
  | inl less ↦ subst (λ n. n < 256) (get_or_append_left xs ys 0 i less) (small i)
  | inr past ↦ subst (λ n. n < 256) (sym (get_or_past xs i 0 past)) (omega arith)
]

last_bytes : (xs ys : List ℕ) → AreBytes (xs ++ ys) → AreBytes ys
last_bytes xs ys small i = subst (λ n. n < 256) (get_or-append-add xs ys i 0) (small (length xs + i))

pub frames_are_bytes : (frames : List (List ℕ)) (rest : List ℕ) → AreBytes (flat_map sized frames ++ rest) → All AreBytes frames
frames_are_bytes [] rest small = All-nil AreBytes
frames_are_bytes (f ∷ fs) rest small =
    let all : AreBytes (sized f ++ (flat_map sized fs ++ rest)) = subst AreBytes (append_assoc (sized f) (flat_map sized fs) rest) small in
    All-cons AreBytes f fs
    (last_bytes (int32 (pos (length f))) f (first_bytes (sized f) (flat_map sized fs ++ rest) all))
    (frames_are_bytes fs rest (last_bytes (sized f) (flat_map sized fs ++ rest) all))
