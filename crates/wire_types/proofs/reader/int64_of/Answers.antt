use Rattle.std.proofs.Common.{◌≡◌, ℕ, ◌<◌, ◌^◌, length, get_or, List, ℤ, ap, ◌∙◌, arith, of_z, to_z, w64}
use Rattle.std.specs.Int.{to_be_bytes, from_be_bytes}
use Rattle.std.proofs.lemmas.Nat.{be_bytes_8}
use Rattle.std.proofs.lemmas.Int.{of_z-to_z}
use Rattle.wire_types.proofs.reader.int64_of.Goals as goal

-- the bytes that a number was read from are its spelling
spelled_again : (bs : List ℕ) (z : ℤ) → length bs ≡ 8 → ((i : ℕ) → get_or bs i 0 < 256) → z ≡ to_z w64 (from_be_bytes w64 bs) → to_be_bytes w64 (of_z w64 (to_z w64 (of_z w64 z))) ≡ bs
spelled_again bs z len small e =
    let below : from_be_bytes w64 bs < 2 ^ 64 = omega (arith, small 0, small 1, small 2, small 3, small 4, small 5, small 6, small 7) in
    let back : of_z w64 (to_z w64 (from_be_bytes w64 bs)) ≡ from_be_bytes w64 bs = of_z-to_z w64 (from_be_bytes w64 bs) below in
    be_bytes_8 bs _ len small (ap (λ x. of_z w64 (to_z w64 (of_z w64 x))) e ∙ ap (λ n. of_z w64 (to_z w64 n)) back ∙ back)

pub returns : goal.returns
returns c =
    spelled_again c.args.bytes.now c.from_be_bytes.result c.requires (λ i. (c.type_inv.bytes i).fits) c.from_be_bytes.ensures
