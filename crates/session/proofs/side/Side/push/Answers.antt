use Rattle.std.proofs.Common.{refl, sym, ◌≡◌, ◌∙◌, ap, subst, Some, ◌++◌, inl, inr}
use Rattle.session.specs.declared.receipt.Receipt.TheVariants as receipt
use Rattle.session.specs.Peers.{frame_receipt}
use Rattle.framing.specs.Frames.{sized}
use Rattle.session.specs.Streams.{with_rest}
use Rattle.session.specs.Sides.{stream_of}
use Rattle.session.proofs.Pieces.{none_kept, is_some_of}
use Rattle.session.proofs.Handing.{handing_none, handing_more, pushed_full, pushed_lost, pushed_kept, pushed_all, or_false, or_true}
use Rattle.session.proofs.side.Side.push.Goals as goal

pub loop-frame-init : goal.loop-frame-init
loop-frame-init g c = handing_none g.C.Connection.meaning g.C.Connection.stands _ _ _

pub loop-frame-preserved-in-Accepted : goal.loop-frame-preserved-in-Accepted
loop-frame-preserved-in-Accepted g c =
    let next = rw c.in-Ok-Frame.field-0-is at c.in-Ok-Frame.ensures.next in
    let f = c.in-Accepted.ensures.follows in
    handing_more g.C.Connection.meaning g.C.Connection.stands _ _ _ _ _ (stream_of c.next.new.self) c.loop-frame.refused c.next.new.self.peer c.in-Ok-Frame.frame f.0 receipt.Accepted _ _ _ c.loop-frame.invariant next.0 next.1 refl f.1 f.2 f.3 refl _ (or_false c.loop-frame.refused)

pub loop-frame-preserved : goal.loop-frame-preserved
loop-frame-preserved g c =
    let next = rw c.in-Ok-Frame.field-0-is at c.in-Ok-Frame.ensures.next in
    let f = c.in-Refused.ensures.follows in
    handing_more g.C.Connection.meaning g.C.Connection.stands _ _ _ _ _ (stream_of c.next.new.self) c.loop-frame.refused c.next.new.self.peer c.in-Ok-Frame.frame f.0 receipt.Refused _ _ _ c.loop-frame.invariant next.0 next.1 refl f.1 f.2 f.3 refl _ (or_true c.loop-frame.refused)

pub returns-in-Full : goal.returns-in-Full
returns-in-Full g c =
    let next = rw c.in-Ok-Frame.field-0-is at c.in-Ok-Frame.ensures.next in
    let f = c.in-Full.ensures.follows in
    let later = c.next.new.self in
    let back = c.in-Full.ensures.back in
    let none = none_kept later.kept later.framer.rest c.next.ensures.none in
    pushed_full g.C.Connection.meaning g.C.Connection.stands _ _ _ _ _ (stream_of later) _ c.loop-frame.refused later.peer c.in-Ok-Frame.frame f.0 _ _ _ c.loop-frame.invariant next.0 next.1 refl f.1 f.2 (subst (λ x. frame_receipt later.peer f.0 ≡ Some (receipt.Full x)) back f.3)
    (ap (λ xs. with_rest xs (stream_of later)) (ap (λ x. sized x ++ later.framer.rest) back ∙ ap (λ xs. sized c.in-Ok-Frame.frame ++ xs) (sym none)))

pub returns-in-NoMemory : goal.returns-in-NoMemory
returns-in-NoMemory g c =
    let next = rw c.in-Ok-Frame.field-0-is at c.in-Ok-Frame.ensures.next in
    let f = c.in-NoMemory.ensures.follows in
    pushed_lost g.C.Connection.meaning g.C.Connection.stands _ _ _ _ _ (stream_of c.next.new.self) c.loop-frame.refused c.next.new.self.peer c.in-Ok-Frame.frame f.0 _ _ _ _ c.loop-frame.invariant next.0 next.1 refl f.1 f.2 f.3

pub returns-in-Ok-Wait : goal.returns-in-Ok-Wait
returns-in-Ok-Wait g c =
    let next = rw c.in-Ok-Wait.field-0-is at c.in-Ok-Wait.ensures.next in
    pushed_all g.C.Connection.meaning g.C.Connection.stands _ _ _ _ (stream_of c.loop-frame.self) (stream_of c.next.new.self) _ c.loop-frame.refused _ _ _ c.loop-frame.invariant (inl next.0) next.1 c.tell_tail.ensures.told c.tell_tail.ensures.after c.piece_told.ensures

pub returns-in-Ok-BadSize : goal.returns-in-Ok-BadSize
returns-in-Ok-BadSize g c =
    let next = rw c.in-Ok-BadSize.field-0-is at c.in-Ok-BadSize.ensures.next in
    let told = c.tell_tail-in-Ok-BadSize.ensures in
    pushed_all g.C.Connection.meaning g.C.Connection.stands _ _ _ _ (stream_of c.loop-frame.self) (stream_of c.next.new.self) _ c.loop-frame.refused _ _ _ c.loop-frame.invariant (inr (is_some_of _ _ next.1)) next.2 told.told told.after c.piece_told-in-Ok-BadSize.ensures

pub returns-in-Err : goal.returns-in-Err
returns-in-Err g c =
    let next = c.in-Err.ensures.next in
    pushed_kept g.C.Connection.meaning g.C.Connection.stands _ _ _ _ (stream_of c.loop-frame.self) (stream_of c.next.new.self) c.loop-frame.refused _ _ _ c.loop-frame.invariant next.0 next.1 c.out_of_memory.ensures
