-- A stream with a piece more, with a frame put back, and at its end.
use Rattle.std.proofs.Common.{◌≡◌, ℕ, ◌+◌, ◌<◌, Bool, true, false, List, [], ◌∷◌, ◌++◌, length, Option, Some, None, Result, Ok, Err, inl, refl, sym, ap, ◌∙◌, append_assoc, length-append, arith}
use Rattle.std.specs.Prelude.{MatchBool, IsSome}
use Rattle.kp_edge.specs.declared.no_memory.NoMemory.{NoMemory}
use Rattle.framing.specs.Frames.{sized}
use Rattle.framing.specs.Feed.{Feed}
use Rattle.conn_rules.specs.History.{Entry}
use Rattle.session.specs.declared.peer.Peer.{Peer}
use Rattle.session.specs.declared.told.Told.{Told}
use Rattle.session.specs.Streams.{Stream, with_piece}
use Rattle.session.specs.Sides.{put_back}
use Rattle.session.specs.Pushes.{IsPush}
use Rattle.session.specs.Calls.{IsPiece, TakesPiece}

pub from_open : (b : Bool) (P Q : Type 0) → b ≡ false → Q → MatchBool b P Q
from_open true P Q e q = cc
from_open false P Q e q = q

pub is_some_of : {A : Type 0} (o : Option A) (x : A) → o ≡ Some x → IsSome o
is_some_of None x e = cc
is_some_of (Some y) x e = refl

pub nonempty : (xs : List ℕ) → (xs ≡ [] → ⊥) → 0 < length xs
nonempty [] h = absurd (h refl)
nonempty (x ∷ xs) h = omega arith

put_back_then : (kept : Option (List ℕ)) (rest piece : List ℕ) → put_back kept (rest ++ piece) ≡ put_back kept rest ++ piece
put_back_then None rest piece = refl
put_back_then (Some frame) rest piece = sym (append_assoc (sized frame) rest piece)

pub none_kept : (kept : Option (List ℕ)) (rest : List ℕ) → kept ≡ None → put_back kept rest ≡ rest
none_kept None rest e = refl
none_kept (Some frame) rest e = cc

-- a stream, by what a side keeps of it
abbrev pub side_stream : Peer → Option (List ℕ) → Feed → (bad_told ended end_told : Bool) → Stream
side_stream p kept feed b e t = record { peer = p; came = feed.at + length feed.rest; rest = put_back kept feed.rest; bad_told = b; ended = e; end_told = t }

pub with_piece_is : (p : Peer) (kept : Option (List ℕ)) (old new : Feed) (piece : List ℕ) (b e t : Bool) → new ≡ record old { rest = old.rest ++ piece } → side_stream p kept new b e t ≡ with_piece piece (side_stream p kept old b e t)
with_piece_is p kept old new piece b e t is =
    let came : old.at + length (old.rest ++ piece) ≡ old.at + length old.rest + length piece = omega (arith, length-append old.rest piece) in
    let rest : put_back kept (old.rest ++ piece) ≡ put_back kept old.rest ++ piece = put_back_then kept old.rest piece in
    ap (λ f. side_stream p kept f b e t) is ∙ rw (came, rest) refl

pub takes_piece : (before : Stream) (piece : List ℕ) (hs : List Entry) (result : Result Told NoMemory) (after : Stream) → before.ended ≡ false → IsPush (with_piece piece before) hs result after → IsPiece before piece hs result after
takes_piece before piece hs result after runs push = from_open before.ended _ (TakesPiece before piece hs result after) runs (takes result push)
  where
    takes : (result : Result Told NoMemory) → IsPush (with_piece piece before) hs result after → TakesPiece before piece hs result after
    takes (Ok answered) push = push
    takes (Err e) push = inl push
