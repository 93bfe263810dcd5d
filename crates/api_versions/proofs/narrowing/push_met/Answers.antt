use Rattle.std.proofs.Common.{◌≡◌, ◌∷◌, [], Some, ap, ◌∙◌, rules, FitsSigned, w16, to_z, of_z}
use Rattle.std.proofs.lemmas.Int.{to_z-of_z}
use Rattle.tree_spelling.specs.declared.primitive.Primitive.TheVariants.{Int16}
use Rattle.api_versions.specs.Narrowing.{known_in, supported_range, with_items}
use Rattle.api_versions.proofs.Entries.{three_pushed}
use Rattle.api_versions.proofs.narrowing.push_met.Goals as goal

pub loop-key-preserved-in_ok-push-3 : goal.loop-key-preserved-in_ok-push-3
loop-key-preserved-in_ok-push-3 c =
    let key-fits : FitsSigned w16 c.in-Some.key = search rules in
    let least-fits : FitsSigned w16 c.in-Some.least = search rules in
    let greatest-fits : FitsSigned w16 c.in-Some.greatest = search rules in
    let from-fits : FitsSigned w16 c.in-Some-met.least = search rules in
    let to-fits : FitsSigned w16 c.in-Some-met.greatest = search rules in
    let key : to_z w16 (of_z w16 c.in-Some.key) ≡ c.in-Some.key = to_z-of_z w16 c.in-Some.key key-fits in
    let least : to_z w16 (of_z w16 c.in-Some.least) ≡ c.in-Some.least = to_z-of_z w16 c.in-Some.least least-fits in
    let greatest : to_z w16 (of_z w16 c.in-Some.greatest) ≡ c.in-Some.greatest = to_z-of_z w16 c.in-Some.greatest greatest-fits in
    let from : to_z w16 (of_z w16 c.in-Some-met.least) ≡ c.in-Some-met.least = to_z-of_z w16 c.in-Some-met.least from-fits in
    let to : to_z w16 (of_z w16 c.in-Some-met.greatest) ≡ c.in-Some-met.greatest = to_z-of_z w16 c.in-Some-met.greatest to-fits in
    let first = c.in_ok-push.ensures ∙ ap (λ z. with_items c.loop-key.out (Int16 z ∷ [])) key in
    let second = c.in_ok-push-2.ensures ∙ ap (λ z. with_items c.push.new.out (Int16 z ∷ [])) from in
    let third = c.in_ok-push-3.ensures ∙ ap (λ z. with_items c.push-in-Some-met.new.out (Int16 z ∷ [])) to in
    let met : Some (c.in-Some-met.least, c.in-Some-met.greatest) ≡ known_in (supported_range c.in-Some.key) c.in-Some.least c.in-Some.greatest = c.in-Some-met.ensures ∙ ap (λ z. known_in (supported_range z) (to_z w16 (of_z w16 c.in-Some.least)) (to_z w16 (of_z w16 c.in-Some.greatest))) key ∙ ap (λ z. known_in (supported_range c.in-Some.key) z (to_z w16 (of_z w16 c.in-Some.greatest))) least ∙ ap (λ z. known_in (supported_range c.in-Some.key) c.in-Some.least z) greatest in
    three_pushed c.loop-key.out c.push.new.out c.push-in-Some-met.new.out c.push-in-Some-met-2.new.out c.in-Some.key c.in-Some.least c.in-Some.greatest c.in-Some-met.least c.in-Some-met.greatest c.loop-key.rest.now c.in-Some.behind.now first second third met c.in-Some.ensures ∙ c.loop-key.invariant
