-- Words of digits: what reads as a number, and that nothing else does.
use Rattle.std.proofs.Common.{◌≡◌, ◌≢◌, ℕ, ◌<◌, ◌≤◌, ◌^◌, ◌⊎◌, inl, inr, true, false, List, length, refl, sym, ◌∙◌, ap, arith, Option, Some, None, Result, Ok, Err, get_or}
use Rattle.std.specs.Result.{result_ok}
use Rattle.std.specs.Str.{IsUtf8, all_ascii_digits}
use Rattle.std.specs.Str.Parse.{digits_value, ParsesUnsigned}
use Rattle.std.proofs.lemmas.Bool.{cases_Bool}
use Rattle.std.proofs.lemmas.Bool.Decides.{nat_tests}
use Rattle.std.proofs.lemmas.Fmt.{IsAscii-from_digits}
use Rattle.std.proofs.lemmas.Str.{IsUtf8-from_ascii}
use Rattle.std.proofs.lemmas.Str.Parse.{IsNumeralModel, numerals_by_value, tells_all_ascii_digits, parse_plain}
use Rattle.transcript.specs.Reading.{number_of}

pub own : IsNumeralModel (λ ds. all_ascii_digits ds ≡ true) (digits_value 10)
own = numerals_by_value (λ ds. all_ascii_digits ds ≡ true) tells_all_ascii_digits

-- what is no text has something else than digits
pub no_digits : (word : List ℕ) → ¬ (IsUtf8 word) → all_ascii_digits word ≡ false
no_digits word none =
    elim (cases_Bool (all_ascii_digits word)) [
      | inl digits ↦ absurd (none (IsUtf8-from_ascii word (IsAscii-from_digits word (own.to word digits))))
      | inr other ↦ other
    ]

-- a word that is too long or has something else than digits is no number
pub number_of-other : (limit : ℕ) (word : List ℕ) → (20 < length word) ⊎ (all_ascii_digits word ≡ false) → number_of limit word ≡ None
unfolding number_of
number_of-other limit word (inl long) = grind (arith, nat_tests)
number_of-other limit word (inr other) = grind (arith, nat_tests)

-- a word of digits is a number where it isn't empty, nor too long, and its value is below the limit
pub number_of-digits : (limit : ℕ) (word : List ℕ) → all_ascii_digits word ≡ true → 0 < length word → length word ≤ 20 → digits_value 10 word < limit
    → number_of limit word ≡ Some (digits_value 10 word)
unfolding number_of
number_of-digits limit word digits some few below = grind (arith, nat_tests)

-- one that reads as a number is that
pub number_of-Some : (limit n : ℕ) (word : List ℕ) → number_of limit word ≡ Some n
    → (all_ascii_digits word ≡ true) × (0 < length word) × (length word ≤ 20) × (digits_value 10 word < limit) × (digits_value 10 word ≡ n)
unfolding number_of
number_of-Some limit n word read = grind (arith, nat_tests)

none_unless : {X : Type 0} (o : Option X) → ((x : X) → o ≡ Some x → ⊥) → o ≡ None
none_unless None never = refl
none_unless (Some x) never = absurd (never x refl)

-- what `parse` gives of a word without a sign that isn't too long
pub parsed : {E : Type 0} (k : ℕ) (word : List ℕ) (r : Result ℕ E) → ParsesUnsigned k 10 word r → get_or word 0 0 ≢ 43 → length word ≤ 20
    → result_ok r ≡ number_of (2 ^ k) word
parsed {E} k word (Ok n) h unsigned few =
    let p = parse_plain own {E = E} k word (Ok n) h unsigned in
    ap (λ (m : ℕ). Some m) p.1 ∙ sym (number_of-digits (2 ^ k) word p.0.0 p.0.1 few p.0.2)
parsed {E} k word (Err e) h unsigned few =
    let p = parse_plain own {E = E} k word (Err e) h unsigned in
    sym (none_unless (number_of (2 ^ k) word) (λ n read. let facts = number_of-Some (2 ^ k) n word read in p (facts.0, facts.1, facts.3)))

pub ruleset number_facts = (no_digits, number_of-other, parsed)
