-- What was spelled is read again, and no spelling begins another one.
use Rattle.std.proofs.Common.{◌≡◌, ℕ, ◌<◌, ◌≤◌, ◌^◌, false, ltb, List, ◌++◌, length, take, drop, Some, None, refl, sym, ap, ◌∙◌, append_assoc, arith, ℤ, pos, negsuc, FitsSigned, rules}
use Rattle.std.specs.Int.{w8, w16, w32, w64, cast_unsigned, cast_signed, to_be_bytes, from_be_bytes}
use Rattle.std.proofs.lemmas.Bool.{le-ltb}
use Rattle.std.proofs.lemmas.List.{length-append, take_at, drop_at}
use Rattle.std.proofs.lemmas.Nat.{from_be_bytes-to_be_bytes_2, from_be_bytes-to_be_bytes_4, from_be_bytes-to_be_bytes_8}
use Rattle.std.proofs.lemmas.Int.{to_z-of_z}
use Rattle.std.proofs.Math.Facts.{Fits-of_z}
use Rattle.wire_types.specs.Numbers.{int8, int16, int32, int64, number_at, int16_at, int32_at}
use Rattle.wire_types.specs.Strings.{string, IsString}
use Rattle.wire_types.specs.Lengths.{byte_string, IsByteString, array_count, IsCount}
use Rattle.wire_types.specs.OneSpelling.{OneSpelling}

-- ---- numbers

below16 : (z : ℤ) → FitsSigned w16 z → cast_unsigned w16 z < 2 ^ 16
below16 z fits = (Fits-of_z fits).fits

below32 : (z : ℤ) → FitsSigned w32 z → cast_unsigned w32 z < 2 ^ 32
below32 z fits = (Fits-of_z fits).fits

pub int16_at-int16 : (z : ℤ) (rest : List ℕ) → FitsSigned w16 z → int16_at (int16 z ++ rest) ≡ Some z
int16_at-int16 z rest fits =
    let long : ltb (length (int16 z ++ rest)) 2 ≡ false = le-ltb _ _ (omega (arith, length-append (int16 z) rest)) in
    let back : from_be_bytes w16 (int16 z) ≡ cast_unsigned w16 z = from_be_bytes-to_be_bytes_2 (cast_unsigned w16 z) (below16 z fits) in
    rw long (ap Some (ap (cast_signed w16) back ∙ to_z-of_z w16 z fits))

pub int32_at-int32 : (z : ℤ) (rest : List ℕ) → FitsSigned w32 z → int32_at (int32 z ++ rest) ≡ Some z
int32_at-int32 z rest fits =
    let long : ltb (length (int32 z ++ rest)) 4 ≡ false = le-ltb _ _ (omega (arith, length-append (int32 z) rest)) in
    let back : from_be_bytes w32 (int32 z) ≡ cast_unsigned w32 z = from_be_bytes-to_be_bytes_4 (cast_unsigned w32 z) (below32 z fits) in
    rw long (ap Some (ap (cast_signed w32) back ∙ to_z-of_z w32 z fits))

some_is : (a b : ℤ) → Some a ≡ Some b → a ≡ b
some_is a b e = cc

pos_is : (a b : ℕ) → pos a ≡ pos b → a ≡ b
pos_is a b e = cc

pub one_int16 : OneSpelling int16 (FitsSigned w16)
one_int16 a b x y p q e =
    (some_is a b (sym (int16_at-int16 a x p) ∙ ap int16_at e ∙ int16_at-int16 b y q), ap (drop 2) e)

pub one_int32 : OneSpelling int32 (FitsSigned w32)
one_int32 a b x y p q e =
    (some_is a b (sym (int32_at-int32 a x p) ∙ ap int32_at e ∙ int32_at-int32 b y q), ap (drop 4) e)

-- ---- texts

fits_null : FitsSigned w16 (negsuc 0)
fits_null = search rules

fits_length : (bytes : List ℕ) → length bytes ≤ 32767 → FitsSigned w16 (pos (length bytes))
fits_length bytes h = search rules

-- lists of one length that stand in front are one
same_front : (a b x y : List ℕ) → length a ≡ length b → a ++ x ≡ b ++ y → (a ≡ b) × (x ≡ y)
same_front a b x y len e = (
  sym (take_at a x (length a) refl) ∙ ap (take (length a)) e ∙ take_at b y (length a) (sym len),
  sym (drop_at a x (length a) refl) ∙ ap (drop (length a)) e ∙ drop_at b y (length a) (sym len),
)

null_is_no_text : (b x y : List ℕ) → length b ≤ 32767 → int16 (negsuc 0) ++ x ≡ string (Some b) ++ y → ⊥
null_is_no_text b x y h e =
    let one = one_int16 (negsuc 0) (pos (length b)) x (b ++ y) fits_null (fits_length b h) (e ∙ append_assoc (int16 (pos (length b))) b y) in
    let apart : negsuc 0 ≡ pos (length b) = one.0 in
    cc

pub one_string : OneSpelling string IsString
one_string None None x y p q e = (refl, (one_int16 (negsuc 0) (negsuc 0) x y fits_null fits_null e).1)
one_string None (Some b) x y p q e = absurd (null_is_no_text b x y q e)
one_string (Some a) None x y p q e = absurd (null_is_no_text a y x p (sym e))
one_string (Some a) (Some b) x y p q e =
    let e' : int16 (pos (length a)) ++ (a ++ x) ≡ int16 (pos (length b)) ++ (b ++ y) = sym (append_assoc (int16 (pos (length a))) a x) ∙ e ∙ append_assoc (int16 (pos (length b))) b y in
    let one = one_int16 (pos (length a)) (pos (length b)) (a ++ x) (b ++ y) (fits_length a p) (fits_length b q) e' in
    let len : length a ≡ length b = pos_is _ _ one.0 in
    let same = same_front a b x y len one.1 in
    (ap Some same.0, same.1)

-- ---- the other numbers

below8 : (z : ℤ) → FitsSigned w8 z → cast_unsigned w8 z < 2 ^ 8
below8 z fits = (Fits-of_z fits).fits

below64 : (z : ℤ) → FitsSigned w64 z → cast_unsigned w64 z < 2 ^ 64
below64 z fits = (Fits-of_z fits).fits

one_byte : (n : ℕ) → n < 2 ^ 8 → from_be_bytes w8 (to_be_bytes w8 n) ≡ n
one_byte n h = omega arith

int8_at-int8 : (z : ℤ) (rest : List ℕ) → FitsSigned w8 z → number_at w8 (int8 z ++ rest) ≡ Some z
int8_at-int8 z rest fits =
    let long : ltb (length (int8 z ++ rest)) 1 ≡ false = le-ltb _ _ (omega (arith, length-append (int8 z) rest)) in
    let back : from_be_bytes w8 (int8 z) ≡ cast_unsigned w8 z = one_byte (cast_unsigned w8 z) (below8 z fits) in
    rw long (ap Some (ap (cast_signed w8) back ∙ to_z-of_z w8 z fits))

int64_at-int64 : (z : ℤ) (rest : List ℕ) → FitsSigned w64 z → number_at w64 (int64 z ++ rest) ≡ Some z
int64_at-int64 z rest fits =
    let long : ltb (length (int64 z ++ rest)) 8 ≡ false = le-ltb _ _ (omega (arith, length-append (int64 z) rest)) in
    let back : from_be_bytes w64 (int64 z) ≡ cast_unsigned w64 z = from_be_bytes-to_be_bytes_8 (cast_unsigned w64 z) (below64 z fits) in
    rw long (ap Some (ap (cast_signed w64) back ∙ to_z-of_z w64 z fits))

pub one_int8 : OneSpelling int8 (FitsSigned w8)
one_int8 a b x y p q e =
    (some_is a b (sym (int8_at-int8 a x p) ∙ ap (number_at w8) e ∙ int8_at-int8 b y q), ap (drop 1) e)

pub one_int64 : OneSpelling int64 (FitsSigned w64)
one_int64 a b x y p q e =
    (some_is a b (sym (int64_at-int64 a x p) ∙ ap (number_at w64) e ∙ int64_at-int64 b y q), ap (drop 8) e)

-- ---- bytes and counts

fits_no_length : FitsSigned w32 (negsuc 0)
fits_no_length = search rules

fits_count : (n : ℕ) → n ≤ 2147483647 → FitsSigned w32 (pos n)
fits_count n h = search rules

no_bytes_are_null : (b x y : List ℕ) → length b ≤ 2147483647 → int32 (negsuc 0) ++ x ≡ byte_string (Some b) ++ y → ⊥
no_bytes_are_null b x y h e =
    let one = one_int32 (negsuc 0) (pos (length b)) x (b ++ y) fits_no_length (fits_count (length b) h) (e ∙ append_assoc (int32 (pos (length b))) b y) in
    let apart : negsuc 0 ≡ pos (length b) = one.0 in
    cc

pub one_byte_string : OneSpelling byte_string IsByteString
one_byte_string None None x y p q e = (refl, (one_int32 (negsuc 0) (negsuc 0) x y fits_no_length fits_no_length e).1)
one_byte_string None (Some b) x y p q e = absurd (no_bytes_are_null b x y q e)
one_byte_string (Some a) None x y p q e = absurd (no_bytes_are_null a y x p (sym e))
one_byte_string (Some a) (Some b) x y p q e =
    let e' : int32 (pos (length a)) ++ (a ++ x) ≡ int32 (pos (length b)) ++ (b ++ y) = sym (append_assoc (int32 (pos (length a))) a x) ∙ e ∙ append_assoc (int32 (pos (length b))) b y in
    let one = one_int32 (pos (length a)) (pos (length b)) (a ++ x) (b ++ y) (fits_count (length a) p) (fits_count (length b) q) e' in
    let len : length a ≡ length b = pos_is _ _ one.0 in
    let same = same_front a b x y len one.1 in
    (ap Some same.0, same.1)

no_count_is_null : (n : ℕ) (x y : List ℕ) → n ≤ 2147483647 → int32 (negsuc 0) ++ x ≡ int32 (pos n) ++ y → ⊥
no_count_is_null n x y h e =
    let one = one_int32 (negsuc 0) (pos n) x y fits_no_length (fits_count n h) e in
    let apart : negsuc 0 ≡ pos n = one.0 in
    cc

pub one_array_count : OneSpelling array_count IsCount
one_array_count None None x y p q e = (refl, (one_int32 (negsuc 0) (negsuc 0) x y fits_no_length fits_no_length e).1)
one_array_count None (Some b) x y p q e = absurd (no_count_is_null b x y q e)
one_array_count (Some a) None x y p q e = absurd (no_count_is_null a y x p (sym e))
one_array_count (Some a) (Some b) x y p q e =
    let one = one_int32 (pos a) (pos b) x y (fits_count a p) (fits_count b q) e in
    let same : a ≡ b = pos_is a b one.0 in
    (ap Some same, one.1)
