-- One byte past the limit of a configuration.
use Rattle.std.proofs.Common.{◌≡◌, ℕ, zero, suc, ◌+◌, ◌≤◌, true, List, [], ◌∷◌, length, take, refl, ap, arith, inl, inr}
use Rattle.std.specs.Prelude.{nat_lt, if◌then◌else◌}
use Rattle.std.proofs.lemmas.List.{length-take}
use Rattle.std.proofs.lemmas.Bool.{cases_Bool}
use Rattle.std.proofs.lemmas.Bool.Decides.{nat_tests}
use Rattle.proxy_config.specs.Meant.{meant_by}
use Rattle.config_answers.specs.ConfigAnswers.{config_answer, answer_of_meant, config_limit}
use Rattle.config_answers.specs.ClusterAnswers.{cluster_answer, cluster_meant}
use Rattle.config_answers.specs.declared.asked.Asked.{Asked}

take_all : (n : ℕ) (xs : List ℕ) → length xs ≤ n → take n xs ≡ xs
take_all zero [] few = refl
take_all zero (x ∷ xs) few = absurd (omega arith)
take_all (suc n) [] few = refl
take_all (suc n) (x ∷ xs) few = ap (λ ys. x ∷ ys) (take_all n xs (omega arith))

same_beyond : {A : Type 0} (long : A) (read : List ℕ → A) (whole : List ℕ)
    → (if nat_lt config_limit (length (take (config_limit + 1) whole)) then long else read (take (config_limit + 1) whole)) ≡ (if nat_lt config_limit (length whole) then long else read whole)
same_beyond long read whole =
    elim (cases_Bool (nat_lt config_limit (length whole))) [
      | inl past ↦
          let front : nat_lt config_limit (length (take (config_limit + 1) whole)) ≡ true = rw (length-take (config_limit + 1) whole) (grind (arith, nat_tests)) in
          rw (past, front) refl
      | inr short ↦
          let few : length whole ≤ config_limit + 1 = grind (arith, nat_tests) in
          rw (take_all (config_limit + 1) whole few) refl
    ]

pub same_answer : (asked : Asked) (whole : List ℕ) → config_answer asked (take (config_limit + 1) whole) ≡ config_answer asked whole
unfolding config_answer
same_answer asked whole = same_beyond _ (λ bytes. answer_of_meant asked (meant_by bytes)) whole

pub same_cluster : (name whole : List ℕ) → cluster_answer name (take (config_limit + 1) whole) ≡ cluster_answer name whole
unfolding cluster_answer
same_cluster name whole = same_beyond _ (λ bytes. cluster_meant name (meant_by bytes)) whole
