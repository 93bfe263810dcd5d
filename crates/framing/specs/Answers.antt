-- What is said of one answer of a framer.
use Rattle.std.specs.Prelude.{◌≡◌, ℕ, ◌+◌, ℤ, List, ◌++◌, length, Result, Ok, Err}
use Rattle.framing.specs.declared.next.Next.{Next}
use Rattle.framing.specs.declared.next.Next.TheVariants.{Frame, Wait, BadSize}
use Rattle.framing.specs.Frames.{sized, IsFrame}
use Rattle.framing.specs.Feed.{Feed}

-- the frame was at the front behind its size, and is there no more
pub record TakesFrame (old : Feed) (frame : List ℕ) (new : Feed) : Type 0 where
  pub is_frame : IsFrame old.least old.most frame
  pub front : old.rest ≡ sized frame ++ new.rest
  pub after : new ≡ record old { at = old.at + 4 + length frame; rest = new.rest }

-- a fact of a frame that was given
abbrev pub IfFrame : {E : Type 0} → Result Next E → (List ℕ → Type 0) → Type 0
IfFrame (Ok (Frame frame)) P = P frame
IfFrame _ _ = Unit {0}

-- a fact for every answer but a frame
abbrev pub UnlessFrame : {E : Type 0} → Result Next E → Type 0 → Type 0
UnlessFrame (Ok (Frame frame)) P = Unit {0}
UnlessFrame (Ok Wait) P = P
UnlessFrame (Ok (BadSize at size)) P = P
UnlessFrame (Err e) P = P

-- a fact of a bad size that was given
abbrev pub IfBadSize : {E : Type 0} → Result Next E → (ℕ → ℤ → Type 0) → Type 0
IfBadSize (Ok (BadSize at size)) P = P at size
IfBadSize _ _ = Unit {0}
