-- The part of a frame that an item was read from.
use Rattle.std.proofs.Common.{◌≡◌, ℕ, ◌+◌, ◌-◌, ◌≤◌, List, ◌++◌, length, take, drop, pos, Option, None, Some, refl, sym, ap, ◌∙◌, append_assoc, arith}
use Rattle.std.specs.Prelude.{slice_range}
use Rattle.std.specs.Option.{option_copied}
use Rattle.std.proofs.lemmas.List.{length-append, drop-drop, take_at, drop_at}
use Rattle.wire_types.specs.Reading.{Reading, Reads, unread}
use Rattle.wire_types.specs.Numbers.{int16, int32}
use Rattle.wire_types.specs.Strings.{string}
use Rattle.wire_types.specs.Lengths.{byte_string}
use Rattle.tree_spelling.specs.Primitives.{spelled}
use Rattle.tree_codec.specs.declared.found.Found.{Found}
use Rattle.tree_codec.specs.declared.found.Found.TheVariants.{Int8, Int16, Int32, Int64, Boolean, Text, Binary, Count}
use Rattle.tree_codec.specs.Found.{primitive_of, IsPartBefore, EndsAtPlace}

part_is : (front part rest bytes : List ℕ) (at end : ℕ) → drop at bytes ≡ (front ++ part) ++ rest → end ≡ at + length (front ++ part) → slice_range bytes (end - length part) end ≡ part
part_is front part rest bytes at end e is =
    let len = length-append front part in
    let begin : end - length part ≡ at + length front = omega (arith, len) in
    let size : end - (at + length front) ≡ length part = omega (arith, len) in
    let there : drop (at + length front) bytes ≡ part ++ rest = sym (drop-drop (length front) at bytes) ∙ ap (drop (length front)) (e ∙ append_assoc front part rest) ∙ drop_at front (part ++ rest) (length front) refl in
    ap (λ i. take (end - i) (drop i bytes)) begin ∙ ap (λ n. take n (drop (at + length front) bytes)) size ∙ ap (take (length part)) there ∙ take_at part rest (length part) refl

-- a text is the part of the frame before the place behind it
part_before : (front part bytes : List ℕ) (old new : Reading) → Reads old (front ++ part) new → old.bytes ≡ bytes → new.at ≤ length bytes → IsPartBefore bytes new.at (Some part)
part_before front part bytes old new reads same within =
    let there : drop old.at bytes ≡ (front ++ part) ++ unread new = ap (drop old.at) (sym same) ∙ reads.spelled in
    (omega (arith, reads.place, length-append front part), within, part_is front part (unread new) bytes old.at new.at there reads.place)

text_before : (text : Option (List ℕ)) (bytes : List ℕ) (old new : Reading) → Reads old (string text) new → old.bytes ≡ bytes → new.at ≤ length bytes → IsPartBefore bytes new.at text
text_before None bytes old new reads same within = tt
text_before (Some text) bytes old new reads same within =
    part_before (int16 (pos (length text))) text bytes old new reads same within

binary_before : (found : Option (List ℕ)) (bytes : List ℕ) (old new : Reading) → Reads old (byte_string found) new → old.bytes ≡ bytes → new.at ≤ length bytes → IsPartBefore bytes new.at found
binary_before None bytes old new reads same within = tt
binary_before (Some found) bytes old new reads same within =
    part_before (int32 (pos (length found))) found bytes old new reads same within

pub ends_there : (found : Found) (bytes : List ℕ) (old new : Reading) → Reads old (spelled (primitive_of found)) new → old.bytes ≡ bytes → new.at ≤ length bytes → EndsAtPlace bytes new.at found
ends_there (Text text) bytes old new reads same within = text_before (option_copied text) bytes old new reads same within
ends_there (Binary found) bytes old new reads same within = binary_before (option_copied found) bytes old new reads same within
ends_there (Int8 number) bytes old new reads same within = tt
ends_there (Int16 number) bytes old new reads same within = tt
ends_there (Int32 number) bytes old new reads same within = tt
ends_there (Int64 number) bytes old new reads same within = tt
ends_there (Boolean byte) bytes old new reads same within = tt
ends_there (Count entries) bytes old new reads same within = tt
