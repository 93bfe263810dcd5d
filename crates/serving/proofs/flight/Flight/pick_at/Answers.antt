use Rattle.std.proofs.Common.{◌≡◌, ◌∙◌, ap, sym, subst, refl, Some, true, false, slice_get, length, ◌<◌, arith}
use Rattle.std.proofs.lemmas.Option.{slice_get-get_or, slice_get_within}
use Rattle.serving.specs.Slots.{is_unpicked}
use Rattle.serving.proofs.Places.{set_same}
use Rattle.serving.proofs.flight.Flight.pick_at.Goals as goal

pub returns-in-None-pick : goal.returns-in-None-pick
returns-in-None-pick g c =
    let items = c.args.self.now.slots.items in
    let there : slice_get items c.args.place ≡ Some c.in-Some.slot.now = slice_get-get_or items c.args.place c.in-Some.slot.now (let lt : c.args.place < length items = omega (arith, c.in-Some.ensures.variant.0 refl) in lt) ∙ ap (λ x. Some x) (sym c.in-Some.ensures.value) in
    ((record { limit_is = refl; count = refl; held = refl; requests = refl; causes = refl; free = refl; sends = refl }, rw c.in-None-pick.ensures.0 (set_same items c.args.place c.in-Some.slot.now there)), λ slot is. let same : c.in-Some.slot.now ≡ slot = (let e : Some c.in-Some.slot.now ≡ Some slot = sym there ∙ is in cc) in subst (λ x. is_unpicked x.stage ≡ false) same c.in-None-pick.ensures.1)

pub returns-in-None : goal.returns-in-None
returns-in-None g c = ((record { limit_is = refl; count = refl; held = refl; requests = refl; causes = refl; free = refl; sends = refl }, refl), λ slot is. let within : c.args.place < length c.args.self.now.slots.items = slice_get_within c.args.self.now.slots.items c.args.place slot is in let never : false ≡ true = c.in-None.ensures.variant.1 (omega (arith, within)) in cc)
