-- What a framer taken is the cut of what it was fed.
use Rattle.std.proofs.Common.{◌≡◌, ℕ, ◌+◌, List, [], ◌∷◌, ◌++◌, length, All, subst, sym, ap, ◌∙◌, append_assoc, arith, pos}
use Rattle.std.specs.List.{flat_map, AllByRecursion}
use Rattle.std.proofs.lemmas.List.{length-append, append-nil}
use Rattle.std.proofs.lemmas.List.Concat.{flat_map-cons}
use Rattle.std.proofs.lemmas.List.Elements.{All-from_recursion}
use Rattle.wire_types.specs.Numbers.{int32}
use Rattle.framing.specs.Frames.{sized, IsFrame, IsTail}
use Rattle.framing.specs.Cuts.{Cuts}
use Rattle.framing.specs.Feed.{Feed}
use Rattle.framing.specs.Answers.{TakesFrame}
use Rattle.framing.specs.FramerHistory.{FramerEvent, fed, taken, IsFramerHistory, fresh_feed, stream, given}

-- what a run leaves of what stood at its start
record Leaves (start : Feed) (events : List FramerEvent) (end : Feed) : Type 0 where
  whole : start.rest ++ stream events ≡ flat_map sized (given events) ++ end.rest
  each : AllByRecursion (IsFrame start.least start.most) (given events)
  place : end.at ≡ start.at + length (flat_map sized (given events))

after_piece : (start : Feed) (piece : List ℕ) (events : List FramerEvent) (end : Feed) → Leaves (record start { rest = start.rest ++ piece }) events end → Leaves start (fed piece ∷ events) end
after_piece start piece events end more =
    record { whole = sym (append_assoc start.rest piece (stream events)) ∙ more.whole; each = more.each; place = more.place }

after_frame : (start next : Feed) (frame : List ℕ) (events : List FramerEvent) (end : Feed) → TakesFrame start frame next → Leaves (record start { at = start.at + 4 + length frame; rest = next.rest }) events end → Leaves start (taken frame ∷ events) end
after_frame start next frame events end took more =
    record {
      whole = ap (λ (x : List ℕ). x ++ stream events) took.front ∙ append_assoc (sized frame) next.rest (stream events) ∙ ap (λ (x : List ℕ). sized frame ++ x) more.whole
          ∙ sym (append_assoc (sized frame) (flat_map sized (given events)) end.rest) ∙ ap (λ (x : List ℕ). x ++ end.rest) (sym (flat_map-cons sized frame (given events)));
      each = (took.is_frame, more.each);
      place = omega (arith, more.place, ap length (flat_map-cons sized frame (given events)), length-append (sized frame) (flat_map sized (given events)), length-append (int32 (pos (length frame))) frame);
    }

leaves : (start : Feed) (events : List FramerEvent) (end : Feed) → IsFramerHistory start events end → Leaves start events end
leaves start [] end same =
    subst (λ (end : Feed). Leaves start [] end) same (record { whole = append-nil start.rest; each = tt; place = omega arith })
leaves start (fed piece ∷ events) end run =
    after_piece start piece events end (subst (λ (next : Feed). Leaves next events end) run.1 (leaves run.0 events end run.2))
leaves start (taken frame ∷ events) end run =
    after_frame start run.0 frame events end run.1 (subst (λ (next : Feed). Leaves next events end) run.1.after (leaves run.0 events end run.2))

pub place : (least most : ℕ) (events : List FramerEvent) (end : Feed) → IsFramerHistory (fresh_feed least most) events end → end.at ≡ length (flat_map sized (given events))
place least most events end run = omega (arith, (leaves (fresh_feed least most) events end run).place)

pub so_far : (least most : ℕ) (events : List FramerEvent) (end : Feed) → IsFramerHistory (fresh_feed least most) events end → stream events ≡ flat_map sized (given events) ++ end.rest
so_far least most events end run = (leaves (fresh_feed least most) events end run).whole

pub each : (least most : ℕ) (events : List FramerEvent) (end : Feed) → IsFramerHistory (fresh_feed least most) events end → All (IsFrame least most) (given events)
each least most events end run = All-from_recursion (IsFrame least most) (given events) (leaves (fresh_feed least most) events end run).each

pub all : (least most : ℕ) (events : List FramerEvent) (end : Feed) → IsFramerHistory (fresh_feed least most) events end → IsTail least most end.rest → Cuts least most (stream events) (given events) end.rest
all least most events end run tail = record { whole = so_far least most events end run; each = each least most events end run; tail_is = tail }
