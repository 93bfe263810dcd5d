-- What a framer was fed and what it gave, over all its calls. A call that changed nothing has no event.
use Rattle.std.specs.Prelude.{◌≡◌, ℕ, List, [], ◌∷◌, ◌++◌}
use Rattle.framing.specs.Feed.{Feed}
use Rattle.framing.specs.Answers.{TakesFrame}

pub data FramerEvent : Type 0 where
  fed : List ℕ → FramerEvent
  taken : List ℕ → FramerEvent

-- a piece stands behind the rest, and a frame is taken off its front
abbrev pub FramerStep : Feed → FramerEvent → Feed → Type 0
FramerStep old (fed piece) new = new ≡ record old { rest = old.rest ++ piece }
FramerStep old (taken frame) new = TakesFrame old frame new

abbrev pub IsFramerHistory : Feed → List FramerEvent → Feed → Type 0
IsFramerHistory start [] end = start ≡ end
IsFramerHistory start (event ∷ events) end = (next : Feed) × FramerStep start event next × IsFramerHistory next events end

-- what a framer holds at the start of a stream
abbrev pub fresh_feed : ℕ → ℕ → Feed
fresh_feed least most = record { least = least; most = most; at = 0; rest = [] }

-- all that was fed
abbrev pub stream : List FramerEvent → List ℕ
stream [] = []
stream (fed piece ∷ events) = piece ++ stream events
stream (taken frame ∷ events) = stream events

-- all that was given
abbrev pub given : List FramerEvent → List (List ℕ)
given [] = []
given (fed piece ∷ events) = given events
given (taken frame ∷ events) = frame ∷ given events
