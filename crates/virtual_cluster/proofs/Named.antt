-- The first plan that passes a test, by its number.
use Rattle.std.proofs.Common.{◌≡◌, ℕ, ◌<◌, Bool, true, false, cond, List, length, All, Option, Some, None, ◌∙◌, sym, ap, subst, inl, inr, arith}
use Rattle.virtual_cluster.specs.declared.plan.ClusterPlan.{ClusterPlan}
use Rattle.virtual_cluster.specs.Limits.{IsValid}
use Rattle.std.specs.Prelude.{nat_lt, slice_get}
use Rattle.std.specs.List.{find, position_from, position_or_len}
use Rattle.std.proofs.lemmas.Bool.{cases_Bool}
use Rattle.std.proofs.lemmas.Bool.Decides.{nat_tests}
use Rattle.std.proofs.lemmas.List.Folds.{find_at}
use Rattle.std.proofs.lemmas.Option.{slice_get_past, slice_get_within, get_or_from_slice_get}
use Rattle.std.proofs.lemmas.Iterator.Adapters.{position_from-zero}

module _ {X : Type 0} (p : X → Bool) (xs : List X) where
  abbrev place : ℕ
  place = position_or_len p xs

  pub found_at : (n : ℕ) → position_from p 0 xs ≡ Some n → (n < length xs) × (find p xs ≡ slice_get xs n)
  found_at n is =
      elim (cases_Bool (nat_lt place (length xs))) [
        | inl within ↦
            let same : Some place ≡ Some n = ap (λ b. cond b (Some place) None) (sym within) ∙ position_from-zero p xs ∙ is in
            let here : place ≡ n = cc in
            (rw (← here) (grind (arith, nat_tests)), find_at p xs ∙ ap (slice_get xs) here)
        | inr past ↦
            let none : None ≡ Some n = ap (λ b. cond b (Some place) None) (sym past) ∙ position_from-zero p xs ∙ is in
            absurd cc
      ]

  pub found_nowhere : position_from p 0 xs ≡ None → find p xs ≡ None
  found_nowhere is =
      elim (cases_Bool (nat_lt place (length xs))) [
        | inl within ↦
            let some : Some place ≡ None = ap (λ b. cond b (Some place) None) (sym within) ∙ position_from-zero p xs ∙ is in
            absurd cc
        | inr past ↦ find_at p xs ∙ slice_get_past xs place (grind (arith, nat_tests))
      ]

-- a plan of a valid list is valid
pub valid_there : (plans : List ClusterPlan) (n : ℕ) (plan : ClusterPlan) → All IsValid plans → slice_get plans n ≡ Some plan → IsValid plan
valid_there plans n plan all there = subst IsValid (get_or_from_slice_get plans n plan plan there) (all n plan (slice_get_within plans n plan there))
