-- The item of a kind that bytes begin with, as a function of them.
use Rattle.std.proofs.Common.{◌≡◌, ℕ, zero, suc, ◌+◌, ◌<◌, ◌≤◌, ◌^◌, Bool, true, false, ltb, leb, cond, List, [], ◌∷◌, ◌++◌, length, take, drop, get_or, ℤ, pos, negsuc, Option, Some, None, refl, sym, ap, ◌∙◌, append_assoc, arith, subst, FitsSigned, length-append, rules}
use mir.Val.{bits}
use Rattle.std.specs.Prelude.{slice_get}
use Rattle.std.specs.Option.{option_map}
use Rattle.std.specs.Int.{Width, w8, w16, w32, w64, byte_len, cast_signed, cast_unsigned, to_be_bytes, from_be_bytes}
use Rattle.std.proofs.lemmas.Bool.{ltb-true, ltb-false, leb-true, leb-false, false≢true}
use Rattle.std.proofs.lemmas.List.{length-take, length-drop, length-take-le, get_or-take, get_or_past, take-append-drop}
use Rattle.std.proofs.lemmas.Nat.{be_bytes_2, be_bytes_4, be_bytes_8}
use Rattle.std.proofs.lemmas.Int.{of_z-to_z}
use Rattle.std.proofs.Math.Facts.{sfits_to_z}
use Rattle.kp_schema.specs.declared.kind.Kind.{Kind}
use Rattle.kp_schema.specs.declared.kind.Kind.TheVariants as kinds
use Rattle.wire_types.specs.Numbers.{int8, int16, int32, int64, number_at}
use Rattle.wire_types.proofs.Spellings.{int16_at-int16, int32_at-int32}
use Rattle.tree_spelling.specs.declared.primitive.Primitive.{Primitive}
use Rattle.tree_spelling.specs.declared.primitive.Primitive.TheVariants.{Int8, Int16, Int32, Int64, Boolean, Text, Binary, Count}
use Rattle.tree_spelling.specs.Primitives.{spelled, IsInRange}
use Rattle.tree_spelling.specs.Laws.{AreBytes}
use Rattle.tree_spelling.specs.Agenda.{is_kind}
use Rattle.tree_spelling.specs.Decoded.{bytes_behind, count_said, first_item}

-- ---- numbers

-- where a number stands there are enough bytes for it
long_enough : (w : Width) (bytes : List ℕ) (z : ℤ) (b : Bool) → ltb (length bytes) (byte_len w) ≡ b → cond b None (Some (cast_signed w (from_be_bytes w bytes))) ≡ Some z → (byte_len w ≤ length bytes) × (z ≡ cast_signed w (from_be_bytes w bytes))
long_enough w bytes z true t e = absurd cc
long_enough w bytes z false t e = (ltb-false (length bytes) (byte_len w) t, cc)

too_short : (w : Width) (bytes : List ℕ) (b : Bool) → ltb (length bytes) (byte_len w) ≡ b → cond b None (Some (cast_signed w (from_be_bytes w bytes))) ≡ None → length bytes < byte_len w
too_short w bytes true t e = ltb-true (length bytes) (byte_len w) t
too_short w bytes false t e = absurd cc

small_by : (n : ℕ) (bytes : List ℕ) → AreBytes bytes → (i : ℕ) (b : Bool) → ltb i n ≡ b → get_or (take n bytes) i 0 < 256
small_by n bytes small i true t = omega (arith, get_or-take n bytes i 0 (ltb-true i n t), small i)
small_by n bytes small i false t =
    let past : length (take n bytes) ≤ i = omega (arith, ltb-false i n t, length-take n bytes) in
    omega (arith, get_or_past (take n bytes) i 0 past)

taken_small : (n : ℕ) (bytes : List ℕ) → AreBytes bytes → AreBytes (take n bytes)
taken_small n bytes small i = small_by n bytes small i (ltb i n) refl

-- the bytes begin with the spelling of this number, which takes n bytes
abbrev IsNumber : (w : Width) → ℕ → List ℕ → ℤ → Type 0
IsNumber w n bytes z = FitsSigned w z × (bytes ≡ to_be_bytes w (cast_unsigned w z) ++ drop n bytes)

is_number : (w : Width) (n : ℕ) (bytes : List ℕ) (z : ℤ) → from_be_bytes w bytes < 2 ^ bits w → z ≡ cast_signed w (from_be_bytes w bytes) → to_be_bytes w (from_be_bytes w bytes) ≡ take n bytes → IsNumber w n bytes z
is_number w n bytes z below e front =
    let is : to_be_bytes w (cast_unsigned w z) ≡ take n bytes = ap (λ number. to_be_bytes w (cast_unsigned w number)) e ∙ ap (to_be_bytes w) (of_z-to_z w (from_be_bytes w bytes) below) ∙ front in
    (subst (FitsSigned w) (sym e) (sfits_to_z (record { fits = below })), sym (take-append-drop n bytes) ∙ ap (λ f. f ++ drop n bytes) (sym is))

first_of_8 : (bytes : List ℕ) → AreBytes bytes → 1 ≤ length bytes → to_be_bytes w8 (from_be_bytes w8 bytes) ≡ take 1 bytes
first_of_8 [] small h = absurd (omega arith)
first_of_8 (b ∷ bytes) small h =
    let s : b < 256 = small 0 in
    ap (λ x. x ∷ []) (omega arith)

first_of_16 : (bytes : List ℕ) → AreBytes bytes → 2 ≤ length bytes → to_be_bytes w16 (from_be_bytes w16 bytes) ≡ take 2 bytes
first_of_16 bytes small h =
    let same : from_be_bytes w16 bytes ≡ from_be_bytes w16 (take 2 bytes) = omega (arith, get_or-take 2 bytes 0 0 (omega arith), get_or-take 2 bytes 1 0 (omega arith)) in
    be_bytes_2 (take 2 bytes) (from_be_bytes w16 bytes) (length-take-le 2 bytes h) (taken_small 2 bytes small) same

first_of_32 : (bytes : List ℕ) → AreBytes bytes → 4 ≤ length bytes → to_be_bytes w32 (from_be_bytes w32 bytes) ≡ take 4 bytes
first_of_32 bytes small h =
    let same : from_be_bytes w32 bytes ≡ from_be_bytes w32 (take 4 bytes) = omega (arith, get_or-take 4 bytes 0 0 (omega arith), get_or-take 4 bytes 1 0 (omega arith), get_or-take 4 bytes 2 0 (omega arith), get_or-take 4 bytes 3 0 (omega arith)) in
    be_bytes_4 (take 4 bytes) (from_be_bytes w32 bytes) (length-take-le 4 bytes h) (taken_small 4 bytes small) same

first_of_64 : (bytes : List ℕ) → AreBytes bytes → 8 ≤ length bytes → to_be_bytes w64 (from_be_bytes w64 bytes) ≡ take 8 bytes
first_of_64 bytes small h =
    let same : from_be_bytes w64 bytes ≡ from_be_bytes w64 (take 8 bytes) = omega (arith, get_or-take 8 bytes 0 0 (omega arith), get_or-take 8 bytes 1 0 (omega arith), get_or-take 8 bytes 2 0 (omega arith), get_or-take 8 bytes 3 0 (omega arith), get_or-take 8 bytes 4 0 (omega arith), get_or-take 8 bytes 5 0 (omega arith), get_or-take 8 bytes 6 0 (omega arith), get_or-take 8 bytes 7 0 (omega arith)) in
    be_bytes_8 (take 8 bytes) (from_be_bytes w64 bytes) (length-take-le 8 bytes h) (taken_small 8 bytes small) same

below_8 : (bytes : List ℕ) → AreBytes bytes → from_be_bytes w8 bytes < 2 ^ 8
below_8 bytes small = omega (arith, small 0)

below_16 : (bytes : List ℕ) → AreBytes bytes → from_be_bytes w16 bytes < 2 ^ 16
below_16 bytes small = omega (arith, small 0, small 1)

below_32 : (bytes : List ℕ) → AreBytes bytes → from_be_bytes w32 bytes < 2 ^ 32
below_32 bytes small = omega (arith, small 0, small 1, small 2, small 3)

below_64 : (bytes : List ℕ) → AreBytes bytes → from_be_bytes w64 bytes < 2 ^ 64
below_64 bytes small = omega (arith, small 0, small 1, small 2, small 3, small 4, small 5, small 6, small 7)

number8 : (bytes : List ℕ) (z : ℤ) → AreBytes bytes → number_at w8 bytes ≡ Some z → IsNumber w8 1 bytes z
number8 bytes z small e =
    let l = long_enough w8 bytes z (ltb (length bytes) 1) refl e in
    is_number w8 1 bytes z (below_8 bytes small) l.1 (first_of_8 bytes small l.0)

number16 : (bytes : List ℕ) (z : ℤ) → AreBytes bytes → number_at w16 bytes ≡ Some z → IsNumber w16 2 bytes z
number16 bytes z small e =
    let l = long_enough w16 bytes z (ltb (length bytes) 2) refl e in
    is_number w16 2 bytes z (below_16 bytes small) l.1 (first_of_16 bytes small l.0)

number32 : (bytes : List ℕ) (z : ℤ) → AreBytes bytes → number_at w32 bytes ≡ Some z → IsNumber w32 4 bytes z
number32 bytes z small e =
    let l = long_enough w32 bytes z (ltb (length bytes) 4) refl e in
    is_number w32 4 bytes z (below_32 bytes small) l.1 (first_of_32 bytes small l.0)

number64 : (bytes : List ℕ) (z : ℤ) → AreBytes bytes → number_at w64 bytes ≡ Some z → IsNumber w64 8 bytes z
number64 bytes z small e =
    let l = long_enough w64 bytes z (ltb (length bytes) 8) refl e in
    is_number w64 8 bytes z (below_64 bytes small) l.1 (first_of_64 bytes small l.0)

-- ---- bytes behind a length

-- the bytes behind their length, as they stand there
taken_behind : (size n : ℕ) (bytes : List ℕ) → size + n ≤ length bytes → (length (take n (drop size bytes)) ≡ n) × (drop size bytes ≡ take n (drop size bytes) ++ drop n (drop size bytes))
taken_behind size n bytes h =
    (length-take-le n (drop size bytes) (omega (arith, length-drop size bytes)), sym (take-append-drop n (drop size bytes)))

-- the number in front of it was a length
abbrev IsBehind : Width → List ℕ → Option (List ℕ) → Type 0
IsBehind w bytes None = FitsSigned w (negsuc 0) × (more : List ℕ) × (bytes ≡ to_be_bytes w (cast_unsigned w (negsuc 0)) ++ more)
IsBehind w bytes (Some text) = FitsSigned w (pos (length text)) × (more : List ℕ) × (bytes ≡ to_be_bytes w (cast_unsigned w (pos (length text))) ++ (text ++ more))

some_text : (size n : ℕ) (bytes : List ℕ) (text : Option (List ℕ)) (b : Bool) → leb (size + n) (length bytes) ≡ b → cond b (Some (Some (take n (drop size bytes)))) None ≡ Some text → (size + n ≤ length bytes) × (text ≡ Some (take n (drop size bytes)))
some_text size n bytes text true t e = (leb-true (size + n) (length bytes) t, cc)
some_text size n bytes text false t e = absurd cc

longer : (w : Width) (size n : ℕ) (bytes : List ℕ) → FitsSigned w (pos n) → bytes ≡ to_be_bytes w (cast_unsigned w (pos n)) ++ drop size bytes → size + n ≤ length bytes → IsBehind w bytes (Some (take n (drop size bytes)))
longer w size n bytes fits e h =
    let b = taken_behind size n bytes h in
    let len : n ≡ length (take n (drop size bytes)) = sym b.0 in
    (subst (λ (m : ℕ). FitsSigned w (pos m)) len fits, drop n (drop size bytes), e ∙ ap (λ m. to_be_bytes w (cast_unsigned w (pos m)) ++ drop size bytes) len ∙ ap (λ z. to_be_bytes w (cast_unsigned w (pos (length (take n (drop size bytes))))) ++ z) b.1)

-- a number that is found stands there
abbrev Numbered : Width → ℕ → List ℕ → Type 0
Numbered w size bytes = (z : ℤ) → number_at w bytes ≡ Some z → IsNumber w size bytes z

behind : (w : Width) (size : ℕ) (bytes : List ℕ) (o : Option ℤ) (text : Option (List ℕ)) → Numbered w size bytes → number_at w bytes ≡ o → bytes_behind size o bytes ≡ Some text → IsBehind w bytes text
behind w size bytes None text numbered o e = absurd cc
behind w size bytes (Some (pos n)) text numbered o e =
    let t = some_text size n bytes text (leb (size + n) (length bytes)) refl e in
    let z = numbered (pos n) o in
    subst (IsBehind w bytes) (sym t.1) (longer w size n bytes z.0 z.1 t.0)
behind w size bytes (Some (negsuc zero)) text numbered o e =
    let null : text ≡ None = cc in
    let z = numbered (negsuc zero) o in
    subst (IsBehind w bytes) (sym null) (z.0, drop size bytes, z.1)
behind w size bytes (Some (negsuc (suc below))) text numbered o e = absurd cc

-- ---- what is found is spelled

-- the bytes begin with this item of this kind
pub record BeginsWithItem (kind : Kind) (bytes : List ℕ) (item : Primitive) : Type 0 where
  pub is : is_kind kind item ≡ true
  pub in_range : IsInRange item
  pub more : List ℕ
  pub spelled_first : bytes ≡ spelled item ++ more

mapped_some : {A : Type 0} (f : A → Primitive) (o : Option A) (item : Primitive) → option_map f o ≡ Some item → (x : A) × (o ≡ Some x) × (item ≡ f x)
mapped_some f None item e = absurd cc
mapped_some f (Some x) item e = (x, refl, cc)

found_number : (kind : Kind) (f : ℤ → Primitive) (w : Width) (n : ℕ) (bytes : List ℕ) (item : Primitive) → Numbered w n bytes → ((z : ℤ) → FitsSigned w z → (is_kind kind (f z) ≡ true) × IsInRange (f z) × (spelled (f z) ≡ to_be_bytes w (cast_unsigned w z))) → option_map f (number_at w bytes) ≡ Some item → BeginsWithItem kind bytes item
found_number kind f w n bytes item numbered made e =
    let m = mapped_some f (number_at w bytes) item e in
    let z = numbered m.0 m.1 in
    let g = made m.0 z.0 in
    subst (BeginsWithItem kind bytes) (sym m.2) (record { is = g.0; in_range = g.1; more = drop n bytes; spelled_first = z.1 ∙ ap (λ a. a ++ drop n bytes) (sym g.2) })

byte_found : (bytes : List ℕ) (item : Primitive) → AreBytes bytes → option_map Boolean (slice_get bytes 0) ≡ Some item → BeginsWithItem kinds.Bool bytes item
byte_found [] item small e = absurd cc
byte_found (b ∷ bytes) item small e =
    let is : item ≡ Boolean b = cc in
    subst (BeginsWithItem kinds.Bool (b ∷ bytes)) (sym is) (record { is = refl; in_range = small 0; more = bytes; spelled_first = refl })

text_is : (bytes : List ℕ) (text : Option (List ℕ)) → IsBehind w16 bytes text → BeginsWithItem kinds.Str bytes (Text text)
text_is bytes None h = record { is = refl; in_range = tt; more = h.1; spelled_first = h.2 }
text_is bytes (Some text) h =
    let fits : FitsSigned w16 (pos (length text)) = h.0 in
    record { is = refl; in_range = omega arith; more = h.1; spelled_first = h.2 ∙ sym (append_assoc (int16 (pos (length text))) text h.1) }

binary_is : (bytes : List ℕ) (found : Option (List ℕ)) → IsBehind w32 bytes found → BeginsWithItem kinds.Bytes bytes (Binary found)
binary_is bytes None h = record { is = refl; in_range = tt; more = h.1; spelled_first = h.2 }
binary_is bytes (Some found) h =
    let fits : FitsSigned w32 (pos (length found)) = h.0 in
    record { is = refl; in_range = omega arith; more = h.1; spelled_first = h.2 ∙ sym (append_assoc (int32 (pos (length found))) found h.1) }

count_is : (bytes : List ℕ) (o : Option ℤ) (count : Option ℕ) → Numbered w32 4 bytes → number_at w32 bytes ≡ o → count_said o ≡ Some count → BeginsWithItem kinds.Array bytes (Count count)
count_is bytes None count numbered o e = absurd cc
count_is bytes (Some (pos n)) count numbered o e =
    let is : count ≡ Some n = cc in
    let z = numbered (pos n) o in
    let fits : FitsSigned w32 (pos n) = z.0 in
    subst (λ (c : Option ℕ). BeginsWithItem kinds.Array bytes (Count c)) (sym is) (record { is = refl; in_range = omega arith; more = drop 4 bytes; spelled_first = z.1 })
count_is bytes (Some (negsuc zero)) count numbered o e =
    let is : count ≡ None = cc in
    let z = numbered (negsuc zero) o in
    subst (λ (c : Option ℕ). BeginsWithItem kinds.Array bytes (Count c)) (sym is) (record { is = refl; in_range = tt; more = drop 4 bytes; spelled_first = z.1 })
count_is bytes (Some (negsuc (suc below))) count numbered o e = absurd cc

pub found_is_first : (kind : Kind) (bytes : List ℕ) (item : Primitive) → AreBytes bytes → first_item kind bytes ≡ Some item → BeginsWithItem kind bytes item
found_is_first kinds.I8 bytes item small e =
    found_number kinds.I8 Int8 w8 1 bytes item (λ z. number8 bytes z small) (λ z fits. (refl, fits, refl)) e
found_is_first kinds.I16 bytes item small e =
    found_number kinds.I16 Int16 w16 2 bytes item (λ z. number16 bytes z small) (λ z fits. (refl, fits, refl)) e
found_is_first kinds.I32 bytes item small e =
    found_number kinds.I32 Int32 w32 4 bytes item (λ z. number32 bytes z small) (λ z fits. (refl, fits, refl)) e
found_is_first kinds.I64 bytes item small e =
    found_number kinds.I64 Int64 w64 8 bytes item (λ z. number64 bytes z small) (λ z fits. (refl, fits, refl)) e
found_is_first kinds.Bool bytes item small e = byte_found bytes item small e
found_is_first kinds.Str bytes item small e =
    let m = mapped_some Text (bytes_behind 2 (number_at w16 bytes) bytes) item e in
    subst (BeginsWithItem kinds.Str bytes) (sym m.2) (text_is bytes m.0 (behind w16 2 bytes (number_at w16 bytes) m.0 (λ z. number16 bytes z small) refl m.1))
found_is_first kinds.Bytes bytes item small e =
    let m = mapped_some Binary (bytes_behind 4 (number_at w32 bytes) bytes) item e in
    subst (BeginsWithItem kinds.Bytes bytes) (sym m.2) (binary_is bytes m.0 (behind w32 4 bytes (number_at w32 bytes) m.0 (λ z. number32 bytes z small) refl m.1))
found_is_first kinds.Array bytes item small e =
    let m = mapped_some Count (count_said (number_at w32 bytes)) item e in
    subst (BeginsWithItem kinds.Array bytes) (sym m.2) (count_is bytes (number_at w32 bytes) m.0 (λ z. number32 bytes z small) refl m.1)

-- ---- what is spelled is found

mapped_none : {A : Type 0} (f : A → Primitive) (o : Option A) → option_map f o ≡ None → o ≡ None
mapped_none f None e = refl
mapped_none f (Some x) e = absurd cc

none_number : (w : Width) (bytes spelling more : List ℕ) → length spelling ≡ byte_len w → bytes ≡ spelling ++ more → number_at w bytes ≡ None → ⊥
none_number w bytes spelling more len is e =
    let short : length bytes < byte_len w = too_short w bytes (ltb (length bytes) (byte_len w)) refl e in
    omega (arith, ap length is, length-append spelling more)

-- no text stands where none is found
none_behind : (size n : ℕ) (bytes text more front : List ℕ) (b : Bool) → length front ≡ size → bytes ≡ front ++ (text ++ more) → n ≡ length text → leb (size + n) (length bytes) ≡ b → cond b (Some (Some (take n (drop size bytes)))) None ≡ None → ⊥
none_behind size n bytes text more front true len is same t e = absurd cc
none_behind size n bytes text more front false len is same t e =
    omega (arith, leb-false (size + n) (length bytes) t, ap length is, length-append front (text ++ more), length-append text more)

no_text_there : (size n : ℕ) (w : Width) (bytes text more front : List ℕ) (o : Option ℤ) → length front ≡ size → bytes ≡ front ++ (text ++ more) → number_at w bytes ≡ o → number_at w bytes ≡ Some (pos (length text)) → bytes_behind size o bytes ≡ None → ⊥
no_text_there size n w bytes text more front None len is o found e = cc
no_text_there size n w bytes text more front (Some (pos m)) len is o found e =
    let same : m ≡ length text = cc in
    none_behind size m bytes text more front (leb (size + m) (length bytes)) len is same refl e
no_text_there size n w bytes text more front (Some (negsuc m)) len is o found e = cc

null_there : (size : ℕ) (w : Width) (bytes : List ℕ) → number_at w bytes ≡ Some (negsuc 0) → bytes_behind size (number_at w bytes) bytes ≡ None → ⊥
null_there size w bytes found e =
    let e' : Some None ≡ None = rw found at e in
    cc

count_there : (bytes : List ℕ) (z : ℤ) (count : Option ℕ) → number_at w32 bytes ≡ Some z → count_said (Some z) ≡ Some count → count_said (number_at w32 bytes) ≡ None → ⊥
count_there bytes z count found is e =
    let e' : count_said (Some z) ≡ None = rw found at e in
    let no : Some count ≡ None = sym is ∙ e' in
    cc

null16 : FitsSigned w16 (negsuc 0)
null16 = search rules

null32 : FitsSigned w32 (negsuc 0)
null32 = search rules

length16 : (n : ℕ) → n ≤ 32767 → FitsSigned w16 (pos n)
length16 n h = search rules

length32 : (n : ℕ) → n ≤ 2147483647 → FitsSigned w32 (pos n)
length32 n h = search rules

pub none_is_first : (kind : Kind) (bytes : List ℕ) → first_item kind bytes ≡ None → (item : Primitive) (more : List ℕ) → is_kind kind item ≡ true → IsInRange item → bytes ≡ spelled item ++ more → ⊥
none_is_first kinds.I8 bytes e (Int8 z) more k i is = none_number w8 bytes (int8 z) more refl is (mapped_none Int8 (number_at w8 bytes) e)
none_is_first kinds.I16 bytes e (Int16 z) more k i is = none_number w16 bytes (int16 z) more refl is (mapped_none Int16 (number_at w16 bytes) e)
none_is_first kinds.I32 bytes e (Int32 z) more k i is = none_number w32 bytes (int32 z) more refl is (mapped_none Int32 (number_at w32 bytes) e)
none_is_first kinds.I64 bytes e (Int64 z) more k i is = none_number w64 bytes (int64 z) more refl is (mapped_none Int64 (number_at w64 bytes) e)
none_is_first kinds.Bool [] e (Boolean b) more k i is = absurd cc
none_is_first kinds.Bool (c ∷ bytes) e (Boolean b) more k i is = absurd cc
none_is_first kinds.Str bytes e (Text None) more k i is =
    null_there 2 w16 bytes (ap (number_at w16) is ∙ int16_at-int16 (negsuc 0) more null16) (mapped_none Text (bytes_behind 2 (number_at w16 bytes) bytes) e)
none_is_first kinds.Str bytes e (Text (Some text)) more k i is =
    let there : bytes ≡ int16 (pos (length text)) ++ (text ++ more) = is ∙ append_assoc (int16 (pos (length text))) text more in
    no_text_there 2 (length text) w16 bytes text more (int16 (pos (length text))) (number_at w16 bytes) refl there refl (ap (number_at w16) there ∙ int16_at-int16 (pos (length text)) (text ++ more) (length16 (length text) i)) (mapped_none Text (bytes_behind 2 (number_at w16 bytes) bytes) e)
none_is_first kinds.Bytes bytes e (Binary None) more k i is =
    null_there 4 w32 bytes (ap (number_at w32) is ∙ int32_at-int32 (negsuc 0) more null32) (mapped_none Binary (bytes_behind 4 (number_at w32 bytes) bytes) e)
none_is_first kinds.Bytes bytes e (Binary (Some found)) more k i is =
    let there : bytes ≡ int32 (pos (length found)) ++ (found ++ more) = is ∙ append_assoc (int32 (pos (length found))) found more in
    no_text_there 4 (length found) w32 bytes found more (int32 (pos (length found))) (number_at w32 bytes) refl there refl (ap (number_at w32) there ∙ int32_at-int32 (pos (length found)) (found ++ more) (length32 (length found) i)) (mapped_none Binary (bytes_behind 4 (number_at w32 bytes) bytes) e)
none_is_first kinds.Array bytes e (Count None) more k i is =
    count_there bytes (negsuc 0) None (ap (number_at w32) is ∙ int32_at-int32 (negsuc 0) more null32) refl (mapped_none Count (count_said (number_at w32 bytes)) e)
none_is_first kinds.Array bytes e (Count (Some n)) more k i is =
    count_there bytes (pos n) (Some n) (ap (number_at w32) is ∙ int32_at-int32 (pos n) more (length32 n i)) refl (mapped_none Count (count_said (number_at w32 bytes)) e)
none_is_first kind bytes e item more k i is = absurd (false≢true k)
