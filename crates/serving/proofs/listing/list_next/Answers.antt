use Rattle.std.proofs.Common.{◌≡◌, ◌∙◌, ap, sym, subst, Bool, ◌||◌}
use Rattle.conn_rules.specs.State.{NoResponse}
use Rattle.serving.specs.declared.slot.Slot.{Slot}
use Rattle.serving.specs.declared.slot.Stage.TheVariants as stage
use Rattle.serving.specs.Slots.{GoesOn}
use Rattle.serving.proofs.Choices.{if_true, if_false}
use Rattle.serving.proofs.listing.list_next.Goals.{then-slot, else-slot}
use Rattle.serving.proofs.listing.list_next.Goals as goal

pub returns-then-responds-clause-lists : goal.returns-then-responds-clause-lists
returns-then-responds-clause-lists g c =
    let some = c.in-Some.ensures.some in
    let m : Bool = c.in-Some.message.main in
    let old = c.args.slot.now in
    let mid = c.unlisted.new.self in
    let main : c.if-slot.slot ≡ (mid.main_listed || m) = elim c.if-slot.branch [
      | then-slot w ↦ w.slot-is ∙ (w.if-slot.true ∙ ap (λ b. b || m) (sym w.if-slot.true))
      | else-slot w ↦ w.slot-is ∙ ap (λ b. b || m) (sym w.if-slot.false)
    ] in
    record {
      message = c.in-Some.message;
      run = c.in-Some.run';
      was = some.0;
      may = some.1;
      window = c.in_ok-list.ensures;
      goes = if_true _ _ c.in-Some.message.responds c.if-responds.true
          (ap (λ b. record mid { main_listed = b; stage = stage.Listed c.in-Some.run' }) main
          ∙ ap (λ (s : Slot g.row.S-Run.Denot). record s { main_listed = s.main_listed || m; stage = stage.Listed c.in-Some.run' }) some.2);
    }

pub returns-in_ok-go_on-clause-lists : goal.returns-in_ok-go_on-clause-lists
returns-in_ok-go_on-clause-lists g c =
    let some = c.in-Some.ensures.some in
    let m : Bool = c.in-Some.message.main in
    let mid = c.unlisted.new.self in
    let main : c.if-slot.slot ≡ (mid.main_listed || m) = elim c.if-slot.branch [
      | then-slot w ↦ w.slot-is ∙ (w.if-slot.true ∙ ap (λ b. b || m) (sym w.if-slot.true))
      | else-slot w ↦ w.slot-is ∙ ap (λ b. b || m) (sym w.if-slot.false)
    ] in
    let before = ap (λ b. record mid { main_listed = b }) main ∙ ap (λ (s : Slot g.row.S-Run.Denot). record s { main_listed = s.main_listed || m }) some.2 in
    record {
      message = c.in-Some.message;
      run = c.in-Some.run';
      was = some.0;
      may = some.1;
      window = c.in_ok-list.ensures;
      goes = if_false _ _ c.in-Some.message.responds c.if-responds.false
          (subst (λ s. GoesOn (g.S.Service.meaning c.args.service.now) (g.S.Service.stands c.args.service.now) c.in-Some.run' NoResponse s c.go_on.new.slot) before c.in_ok-go_on.ensures.right);
    }
