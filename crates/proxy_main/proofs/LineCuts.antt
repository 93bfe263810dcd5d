-- A script's text in pieces: what its lines are so far.
use Rattle.std.proofs.Common.{◌≡◌, ℕ, zero, suc, ◌+◌, ◌==◌, ◌-◌, ◌<◌, ◌≤◌, min, Bool, true, false, ◌||◌, List, [], ◌∷◌, ◌++◌, length, get_or, take, Some, None, Vec, Global, vec_len, sym, ◌∙◌, ap, subst, refl, arith, append_assoc}
use Rattle.std.specs.Prelude.{slice_index}
use Rattle.std.specs.List.{flat_map, list_any}
use Rattle.std.proofs.lemmas.Grind.{flat_map-append}
use Rattle.std.proofs.lemmas.List.Folds.{list_any-append}
use Rattle.std.proofs.lemmas.List.Elements.{All-append, All-cons, All-nil}
use Rattle.std.proofs.lemmas.List.{take_min, take_more}
use Rattle.std.proofs.lemmas.Bool.{eqb-true, eq-eqb}
use Rattle.memchr.specs.Find.{IsFirstByte, is_byte}
use Rattle.std.proofs.Math.Seq.{take-append-add}
use Rattle.proxy_main.specs.Scripts.{HasNoBreak, Lines, with_last, IsLineText, IsBad, line_limit}
use Rattle.proxy_main.specs.Progress.{Begins}
use Rattle.proxy_main.proofs.Lists.{append_nil}

abbrev pub joined : List (List ℕ) → List ℕ
joined lines = flat_map (λ l. l ++ 10 ∷ []) lines

pub no_break_append : (a b : List ℕ) → HasNoBreak a → HasNoBreak b → HasNoBreak (a ++ b)
no_break_append a b p q = list_any-append (λ x. x == 10) a b ∙ ap (λ x. x || list_any (λ x. x == 10) b) p ∙ q

-- a piece without a break
pub lines_longer : (text : List ℕ) (ended : List (List ℕ)) (last piece : List ℕ) → Lines text ended last → HasNoBreak piece → Lines (text ++ piece) ended (last ++ piece)
lines_longer text ended last piece cut quiet =
    record {
      whole = ap (λ xs. xs ++ piece) cut.whole ∙ append_assoc (joined ended) last piece;
      each = cut.each;
      last_part = no_break_append last piece cut.last_part quiet;
    }

-- a piece that ends the last line
pub lines_ended : (text : List ℕ) (ended : List (List ℕ)) (last piece : List ℕ) → Lines text ended last → HasNoBreak piece → Lines (text ++ (piece ++ 10 ∷ [])) (ended ++ (last ++ piece) ∷ []) []
lines_ended text ended last piece cut quiet =
    let one : joined ((last ++ piece) ∷ []) ≡ (last ++ piece) ++ 10 ∷ [] = append_nil _ in
    let all : joined (ended ++ (last ++ piece) ∷ []) ≡ joined ended ++ ((last ++ piece) ++ 10 ∷ []) = flat_map-append (λ l. l ++ 10 ∷ []) ended ((last ++ piece) ∷ []) ∙ ap (λ xs. joined ended ++ xs) one in
    record {
      whole = ap (λ xs. xs ++ (piece ++ 10 ∷ [])) cut.whole ∙ append_assoc (joined ended) last (piece ++ 10 ∷ []) ∙ ap (λ xs. joined ended ++ xs) (sym (append_assoc last piece (10 ∷ []))) ∙ sym all ∙ sym (append_nil _);
      each = All-append HasNoBreak ended ((last ++ piece) ∷ []) cut.each (All-cons HasNoBreak (last ++ piece) [] (no_break_append last piece cut.last_part quiet) (All-nil HasNoBreak));
      last_part = refl;
    }

pub begins : (text : List ℕ) (ended : List (List ℕ)) (last : List ℕ) → Lines text ended last → Begins text ended
begins text ended last cut = record { behind = last; whole = cut.whole; each = cut.each }

pub begins_longer : (text more : List ℕ) (lines : List (List ℕ)) → Begins text lines → Begins (text ++ more) lines
begins_longer text more lines b =
    record { behind = b.behind ++ more; whole = ap (λ xs. xs ++ more) b.whole ∙ append_assoc (joined lines) b.behind more; each = b.each }

pub nothing_kept : (n : ℕ) (xs : List ℕ) → 0 < n → take n xs ≡ [] → xs ≡ []
nothing_kept n [] low e = refl
nothing_kept zero (x ∷ xs) low e = absurd (omega arith)
nothing_kept (suc n) (x ∷ xs) low e = cc

-- what is kept of a line that goes on
pub clipped : (n : ℕ) (old piece : List ℕ) → length old ≤ n → old ++ take (min (n - length old) (length piece)) piece ≡ take n (old ++ piece)
clipped n old piece le =
    let e : length old + (n - length old) ≡ n = omega arith in
    ap (λ xs. old ++ xs) (take_min (n - length old) piece) ∙ sym (take-append-add old piece (n - length old)) ∙ ap (λ k. take k (old ++ piece)) e

pub clipped_again : (n : ℕ) (a b : List ℕ) → take n (take n a ++ b) ≡ take n (a ++ b)
clipped_again zero a b = refl
clipped_again (suc n) [] b = refl
clipped_again (suc n) (x ∷ xs) b = ap (λ ys. x ∷ ys) (clipped_again n xs b)

pub length_clipped : (n : ℕ) (xs : List ℕ) → length (take n xs) ≤ n
length_clipped zero xs = omega arith
length_clipped (suc n) [] = omega arith
length_clipped (suc n) (x ∷ xs) = let h : length (take n xs) ≤ n = length_clipped n xs in omega arith

-- a line that is kept with no more than its limit is kept whole
pub kept_whole : (n : ℕ) (xs : List ℕ) → length (take (suc n) xs) ≤ n → take (suc n) xs ≡ xs
kept_whole n [] le = refl
kept_whole zero (x ∷ xs) le = absurd (omega arith)
kept_whole (suc n) (x ∷ xs) le = let h : length (take (suc n) xs) ≤ n = omega arith in ap (λ ys. x ∷ ys) (kept_whole n xs h)

-- what says nothing as it is kept says nothing as it came
pub bad_kept : (text : List ℕ) → IsBad (take (line_limit + 1) text) → IsBad text
bad_kept text bad l says =
    let whole : take (line_limit + 1) text ≡ text = take_within line_limit text says.within in
    bad l (subst (λ t. IsLineText t l) (sym whole) says)
  where
    take_within : (n : ℕ) (xs : List ℕ) → length xs ≤ n → take (suc n) xs ≡ xs
    take_within n [] le = refl
    take_within zero (x ∷ xs) le = absurd (omega arith)
    take_within (suc n) (x ∷ xs) le = let h : length xs ≤ n = omega arith in ap (λ ys. x ∷ ys) (take_within n xs h)

-- no byte before place e is a break
none_before : (bytes : List ℕ) (e : ℕ) → ((j : ℕ) → j < e → (slice_index bytes j == 10) ≡ true → ⊥) → HasNoBreak (take e bytes)
none_before bytes zero h = refl
none_before [] (suc e) h = refl
none_before (x ∷ xs) (suc e) h =
    let later : HasNoBreak (take e xs) = none_before xs e (λ j lt is. h (suc j) (omega arith) is) in
    not_first (x == 10) (h 0 (omega arith)) later
  where
    not_first : (b : Bool) → (b ≡ true → ⊥) → HasNoBreak (take e xs) → (b || list_any (λ y. y == 10) (take e xs)) ≡ false
    not_first true n l = absurd (n refl)
    not_first false n l = l

-- the first break: what stands before it, and what ends with it
pub record FirstBreak (bytes : List ℕ) (e : ℕ) : Type 0 where
  pub quiet : HasNoBreak (take e bytes)
  pub ends : take (e + 1) bytes ≡ take e bytes ++ 10 ∷ []
  pub within : e < length bytes

pub first_break : (bytes : List ℕ) (e : ℕ) → IsFirstByte (is_byte 10) bytes (Some e) → FirstBreak bytes e
first_break bytes e found =
    let is : get_or bytes e 0 ≡ 10 = eqb-true _ _ found.1 in
    record {
      quiet = none_before bytes e (λ j lt. found.0.before j (omega arith) lt);
      ends = take_more bytes e 0 found.0.high ∙ ap (λ x. take e bytes ++ x ∷ []) is;
      within = found.0.high;
    }

pub no_break : (bytes : List ℕ) → IsFirstByte (is_byte 10) bytes None → HasNoBreak bytes
no_break bytes none = subst HasNoBreak (take_all bytes) (none_before bytes (length bytes) (λ j lt. none j (omega arith) lt))
  where
    take_all : (xs : List ℕ) → take (length xs) xs ≡ xs
    take_all [] = refl
    take_all (x ∷ xs) = ap (λ ys. x ∷ ys) (take_all xs)

pub take_whole : (xs : List ℕ) → take (length xs) xs ≡ xs
take_whole [] = refl
take_whole (x ∷ xs) = ap (λ ys. x ∷ ys) (take_whole xs)

pub empty_vec : (v : Vec ℕ Global) (b : Bool) → b ≡ (vec_len v == 0) → b ≡ true → v.items ≡ []
empty_vec v b is e = no_length v.items (sym v.ok.0 ∙ eqb-true _ _ (sym is ∙ e))
  where
    no_length : (xs : List ℕ) → length xs ≡ 0 → xs ≡ []
    no_length [] h = refl
    no_length (x ∷ xs) h = absurd (omega arith)

pub full_vec : (v : Vec ℕ Global) (b : Bool) → b ≡ (vec_len v == 0) → b ≡ false → v.items ≡ [] → ⊥
full_vec v b is e nothing = let h : (vec_len v == 0) ≡ true = eq-eqb _ _ (v.ok.0 ∙ ap length nothing) in cc

pub with_last_is : (ended : List (List ℕ)) (last : List ℕ) → (last ≡ [] → ⊥) → with_last ended last ≡ ended ++ last ∷ []
with_last_is ended [] h = absurd (h refl)
with_last_is ended (b ∷ bs) h = refl
