-- A supported key and version are INT16 numbers, and are read again as they are spelled.
use Rattle.std.proofs.Common.{◌≡◌, ◌∙◌, ap, refl, subst, ℕ, ℤ, pos, Bool, true, false, ◌&&◌, ◌||◌, nat_lt, List, [], ◌∷◌, ◌++◌, map, arith, FitsSigned, IsTrue}
use Rattle.std.specs.List.{list_all}
use Rattle.std.specs.Ordering.{int_eq}
use Rattle.std.specs.Int.{w16, from_be_bytes, cast_signed, cast_unsigned}
use Rattle.std.proofs.lemmas.Bool.Decides.{Decides-int_eq, nat_tests}
use Rattle.std.proofs.lemmas.Nat.{from_be_bytes-to_be_bytes_2}
use Rattle.std.proofs.lemmas.Int.{to_z-of_z}
use Rattle.std.proofs.Math.Facts.{Fits-of_z}
use Rattle.wire_types.specs.Numbers.{int16}
use Rattle.kp_schema.specs.Field.{is_between}
use Rattle.kp_schema.specs.Message.{Message}
use Rattle.kp_schema.specs.Messages.{messages, versions_of, supported_versions, is_one_of, is_supported}
use Rattle.framing.specs.RequestStarts.{request_key, request_version}

abbrev has_small_numbers : Message → Bool
has_small_numbers m = nat_lt m.key 32768 && nat_lt m.greatest 32768

both : (a b : Bool) → (a && b) ≡ true → (a ≡ true) × (b ≡ true)
both true true e = (refl, refl)
both true false e = (refl, e)
both false true e = (e, refl)
both false false e = (e, e)

small_fits : (n : ℕ) → nat_lt n 32768 ≡ true → FitsSigned w16 (pos n)
small_fits n e = grind (arith, nat_tests)

between_fits : (least greatest : ℕ) (version : ℤ) → nat_lt greatest 32768 ≡ true → is_between (pos least) (pos greatest) version ≡ true → FitsSigned w16 version
between_fits least greatest version small e = grind (arith, nat_tests)

row_fits : (m : Message) (key version : ℤ) → has_small_numbers m ≡ true → (int_eq (pos m.key) key && is_between (pos m.least) (pos m.greatest) version) ≡ true → FitsSigned w16 key × FitsSigned w16 version
row_fits m key version small e =
    let s = both (nat_lt m.key 32768) (nat_lt m.greatest 32768) small in
    let h = both (int_eq (pos m.key) key) (is_between (pos m.least) (pos m.greatest) version) e in
    (subst (FitsSigned w16) ((Decides-int_eq (pos m.key) key).0 h.0) (small_fits m.key s.0), between_fits m.least m.greatest version s.1 h.1)

either_fits : (P : Type 0) (a b : Bool) → (a ≡ true → P) → (b ≡ true → P) → (a || b) ≡ true → P
either_fits P true b f g e = f refl
either_fits P false b f g e = g e

one_fits : (ms : List Message) (key version : ℤ) → list_all has_small_numbers ms ≡ true → is_one_of (map versions_of ms) key version ≡ true → FitsSigned w16 key × FitsSigned w16 version
one_fits [] key version small e = absurd cc
one_fits (m ∷ ms) key version small e =
    let s = both (has_small_numbers m) (list_all has_small_numbers ms) small in
    either_fits (FitsSigned w16 key × FitsSigned w16 version) (int_eq (pos m.key) key && is_between (pos m.least) (pos m.greatest) version) (is_one_of (map versions_of ms) key version)
    (row_fits m key version s.0) (one_fits ms key version s.1) e

all_small : list_all has_small_numbers messages ≡ true
unfolding messages
all_small = refl

pub supported_fits : (key version : ℤ) → IsTrue (is_supported key version) → FitsSigned w16 key × FitsSigned w16 version
unfolding is_supported supported_versions
supported_fits key version e = one_fits messages key version all_small e

int16_again : (z : ℤ) → FitsSigned w16 z → cast_signed w16 (from_be_bytes w16 (int16 z)) ≡ z
int16_again z fits = ap (λ n. cast_signed w16 n) (from_be_bytes-to_be_bytes_2 (cast_unsigned w16 z) (Fits-of_z fits).fits) ∙ to_z-of_z w16 z fits

pub key_again : (key version : ℤ) → FitsSigned w16 key → request_key (int16 key ++ int16 version) ≡ key
key_again key version fits = int16_again key fits

pub version_again : (key version : ℤ) → FitsSigned w16 version → request_version (int16 key ++ int16 version) ≡ version
version_again key version fits = int16_again version fits
