-- Lists in a text, cut at their first comma.
use Rattle.std.proofs.Common.{◌≡◌, ℕ, ◌+◌, ◌<◌, ◌≤◌, zero, suc, true, false, not, ◌==◌, List, [], ◌∷◌, length, take, drop, refl, ap, sym, ◌∙◌, arith, add-one, Option, Some, None, Bor, inl, inr}
use Rattle.std.specs.Prelude.{position}
use Rattle.std.specs.List.{prefix_len}
use Rattle.std.proofs.lemmas.Bool.{cases_Bool}
use Rattle.std.proofs.lemmas.Bool.Decides.{nat_tests}
use Rattle.proxy_config.specs.Texts.{comma_parts}

-- how much of a list is still to be read, with one for its end
abbrev pub still : Option (Bor (List ℕ)) → ℕ
still None = 0
still (Some text) = 1 + length text.now

-- how many bytes stand before the first comma
abbrev pub before_comma : List ℕ → ℕ
before_comma text = prefix_len (λ c. not (c == 44)) text

comma_cut : (text : List ℕ) (k : ℕ) → before_comma text ≡ k → k < length text → comma_parts text ≡ take k text ∷ comma_parts (drop (suc k) text)
comma_cut [] k is lt = absurd (omega arith)
comma_cut (c ∷ cs) zero is lt =
    elim (cases_Bool (c == 44)) [
      | inl comma ↦ rw comma refl
      | inr other ↦ absurd (omega (arith, rw other at is))
    ]
comma_cut (c ∷ cs) (suc k) is lt =
    elim (cases_Bool (c == 44)) [
      | inl comma ↦ absurd (omega (arith, rw comma at is))
      | inr other ↦ rw (other, comma_cut cs k (omega (arith, rw other at is)) (omega arith)) refl
    ]

comma_none : (text : List ℕ) → length text ≤ before_comma text → comma_parts text ≡ text ∷ []
comma_none [] none = refl
comma_none (c ∷ cs) none =
    elim (cases_Bool (c == 44)) [
      | inl comma ↦ absurd (omega (arith, rw comma at none))
      | inr other ↦ rw (other, comma_none cs (omega (arith, rw other at none))) refl
    ]

comma_at : (text : List ℕ) (i : ℕ) → position (λ c. c == 44) text ≡ Some i → (before_comma text ≡ i) × (i < length text)
comma_at text i found = grind (arith, nat_tests)

comma_nowhere : (text : List ℕ) → position (λ c. c == 44) text ≡ None → length text ≤ before_comma text
comma_nowhere text none = grind (arith, nat_tests)

-- the first comma ends the first part
pub part_before : (text : List ℕ) (i : ℕ) → position (λ c. c == 44) text ≡ Some i → comma_parts text ≡ take i text ∷ comma_parts (drop (i + 1) text)
part_before text i found =
    let at = comma_at text i found in
    rw (add-one i) (comma_cut text i at.0 at.1)

-- without a comma there is one part
pub one_part : (text : List ℕ) → position (λ c. c == 44) text ≡ None → comma_parts text ≡ text ∷ []
one_part text none = comma_none text (comma_nowhere text none)
