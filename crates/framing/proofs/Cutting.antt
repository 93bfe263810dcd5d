-- A stream is cut in one way, whatever the pieces.
use Rattle.std.proofs.Common.{◌≡◌, ℕ, zero, suc, ◌+◌, ◌<◌, ◌≤◌, ◌^◌, ◌⊎◌, inl, inr, false, ltb, List, [], ◌∷◌, ◌++◌, length, get_or, take, drop, All, true, Option, Some, subst, refl, sym, ap, ◌∙◌, append_assoc, arith, ℤ, pos, negsuc, w32, to_z, of_z, FitsSigned}
use Rattle.std.specs.Prelude.{IsSome}
use Rattle.std.specs.Int.{cast_signed, from_be_bytes, to_be_bytes}
use Rattle.std.specs.List.{flat_map, AllByRecursion}
use Rattle.std.proofs.lemmas.Bool.{cases_lt, lt-ltb, le-ltb}
use Rattle.std.proofs.lemmas.Int.{to_z_pos, to_z-of_z, of_z-to_z}
use Rattle.std.proofs.Math.Facts.{sfits_to_z}
use Rattle.std.proofs.lemmas.List.{length-append, length-take, take-append-drop, take_at, drop_at, get_or-take, get_or_past, get_or_append_left}
use Rattle.std.proofs.lemmas.List.Concat.{flat_map-cons}
use Rattle.std.proofs.lemmas.List.Elements.{All-append, All-nil, All-cons, recursion_from_All, All-drop}
use Rattle.std.proofs.lemmas.Grind.{flat_map-append}
use Rattle.std.proofs.lemmas.Nat.{be_bytes_4, from_be_bytes-to_be_bytes_4}
use Rattle.wire_types.specs.Numbers.{int32}
use Rattle.framing.specs.Frames.{sized, IsFrame, BeginsFrame, IsTail, size_at, bad_size, outside}
use Rattle.framing.specs.Cuts.{Cuts}
use Rattle.framing.proofs.Fronts.{fronts, begins_frame}

-- ---- the size at the front

pub size_at-sized : (frame behind : List ℕ) → length frame < 2 ^ 31 → size_at (sized frame ++ behind) ≡ Some (pos (length frame))
size_at-sized frame behind h =
    let long : ltb (length (sized frame ++ behind)) 4 ≡ false = le-ltb _ _ (omega (arith, length-append (sized frame) behind, length-append (int32 (pos (length frame))) frame)) in
    let back : from_be_bytes w32 (int32 (pos (length frame))) ≡ length frame = from_be_bytes-to_be_bytes_4 (length frame) (omega arith) in
    rw long (ap Some (ap (cast_signed w32) back ∙ to_z_pos w32 (length frame) (omega arith)))

length-sized : (frame behind : List ℕ) → length (sized frame ++ behind) ≡ 4 + length frame + length behind
length-sized frame behind = omega (arith, length-append (sized frame) behind, length-append (int32 (pos (length frame))) frame)

some_pos_is : (a b : ℕ) → Some (pos a) ≡ Some (pos b) → a ≡ b
some_pos_is a b e = cc

-- one frame is at the front
one_frame : (f g x y : List ℕ) → length f < 2 ^ 31 → length g < 2 ^ 31 → sized f ++ x ≡ sized g ++ y → (f ≡ g) × (x ≡ y)
one_frame f g x y p q e =
    let len : length f ≡ length g = some_pos_is _ _ (sym (size_at-sized f x p) ∙ ap size_at e ∙ size_at-sized g y q) in
    let behind : f ++ x ≡ g ++ y = ap (drop 4) e in (
      sym (take_at f x (length f) refl) ∙ ap (take (length f)) behind ∙ take_at g y (length f) (sym len),
      sym (drop_at f x (length f) refl) ∙ ap (drop (length f)) behind ∙ drop_at g y (length f) (sym len),
    )

-- ---- a frame, or a tail

some_false : (least most n : ℕ) → least ≤ n → n ≤ most → IsSome (outside least most (Some (pos n))) → ⊥
some_false least most n p q h =
    let a : ltb n least ≡ false = le-ltb _ _ p in
    let b : ltb most n ≡ false = le-ltb _ _ q in
    let wrong = rw (a, b) at h in
    cc

pub not_both : (least most : ℕ) (bytes : List ℕ) → IsTail least most bytes → BeginsFrame least most bytes → ⊥
not_both least most bytes (inl (inl short)) b = omega (arith, ap length b.front, length-sized b.frame b.behind)
not_both least most bytes (inl (inr cut)) b =
    let same : cut.size ≡ length b.frame = some_pos_is _ _ (sym cut.size_is ∙ ap size_at b.front ∙ size_at-sized b.frame b.behind b.is_frame.sayable) in
    omega (arith, ap length b.front, length-sized b.frame b.behind, same, cut.missing)
not_both least most bytes (inr bad) b =
    let s : size_at bytes ≡ Some (pos (length b.frame)) = ap size_at b.front ∙ size_at-sized b.frame b.behind b.is_frame.sayable in
    some_false least most (length b.frame) b.is_frame.not_short b.is_frame.not_long (subst (λ (o : Option ℤ). IsSome (outside least most o)) s bad)

-- the bytes are their first four, read as a number, and the others
spelled : (bytes : List ℕ) → All (λ b. b < 256) bytes → 4 ≤ length bytes → (z : ℤ) × (size_at bytes ≡ Some z) × FitsSigned w32 z × (bytes ≡ int32 z ++ drop 4 bytes)
spelled bytes small long =
    let front : List ℕ = take 4 bytes in
    let len : length (take 4 bytes) ≡ 4 = omega (arith, length-take 4 bytes) in
    let byte : (i : ℕ) → get_or (take 4 bytes) i 0 < 256 = λ i. elim (cases_lt i 4) [
      | inl lt ↦ rw (get_or-take 4 bytes i 0 lt) (small i 0 (omega arith))
      | inr le ↦ rw (get_or_past (take 4 bytes) i 0 (omega (arith, len))) (omega arith)
    ] in
    let below : from_be_bytes w32 bytes < 2 ^ 32 = omega (arith, small 0 0 (omega arith), small 1 0 (omega arith), small 2 0 (omega arith), small 3 0 (omega arith)) in
    let short : ltb (length bytes) 4 ≡ false = le-ltb _ _ long in
    let same : from_be_bytes w32 bytes ≡ from_be_bytes w32 (take 4 bytes) = rw (get_or-take 4 bytes 0 0 (omega arith), get_or-take 4 bytes 1 0 (omega arith), get_or-take 4 bytes 2 0 (omega arith), get_or-take 4 bytes 3 0 (omega arith)) refl in
    let back : of_z w32 (to_z w32 (from_be_bytes w32 bytes)) ≡ from_be_bytes w32 bytes = of_z-to_z w32 (from_be_bytes w32 bytes) below in
    let front : int32 (to_z w32 (from_be_bytes w32 bytes)) ≡ take 4 bytes = ap (to_be_bytes w32) back ∙ be_bytes_4 (take 4 bytes) (from_be_bytes w32 bytes) len byte same in
    (to_z w32 (from_be_bytes w32 bytes), rw short refl, sfits_to_z (record { fits = below }), sym (take-append-drop 4 bytes) ∙ ap (λ (f : List ℕ). f ++ drop 4 bytes) (sym front))

-- what a size says of the bytes behind it
front_by_size : (least most : ℕ) (bytes : List ℕ) (z : ℤ) → 4 ≤ length bytes → size_at bytes ≡ Some z → FitsSigned w32 z → bytes ≡ int32 z ++ drop 4 bytes → BeginsFrame least most bytes ⊎ IsTail least most bytes
front_by_size least most bytes (negsuc n) long e fits front = inr (inr (rw e refl))
front_by_size least most bytes (pos n) long e fits front =
    elim (cases_lt n least) [
      | inl below ↦ inr (inr (rw (e, lt-ltb n least below) refl))
      | inr not_short ↦ elim (cases_lt most n) [
        | inl above ↦ inr (inr (rw (e, le-ltb n least not_short, lt-ltb most n above) refl))
        | inr not_long ↦ elim (cases_lt (length bytes) (4 + n)) [
          | inl missing ↦ inr (inl (inr (record { size = n; size_is = e; not_short = not_short; not_long = not_long; missing = missing })))
          | inr whole ↦ inl (begins_frame least most n bytes (fronts least most n bytes (pos n) fits whole (to_z-of_z w32 (pos n) fits, fits.sfits, not_short, not_long) front))
        ]
      ]
    ]

pub frame_or_tail : (least most : ℕ) (bytes : List ℕ) → All (λ byte. byte < 256) bytes → BeginsFrame least most bytes ⊎ IsTail least most bytes
frame_or_tail least most bytes small =
    elim (cases_lt (length bytes) 4) [
      | inl short ↦ inr (inl (inl short))
      | inr long ↦ let s = spelled bytes small long in front_by_size least most bytes s.0 long s.1 s.2 s.3
    ]

-- ---- the cut of a stream

nothing_before : (least most : ℕ) (frame : List ℕ) (frames : List (List ℕ)) (tail rest : List ℕ) → IsFrame least most frame → IsTail least most tail → tail ≡ flat_map sized (frame ∷ frames) ++ rest → ⊥
nothing_before least most frame frames tail rest f t e =
    not_both least most tail t (record { frame = frame; is_frame = f; behind = flat_map sized frames ++ rest; front = e ∙ ap (λ (x : List ℕ). x ++ rest) (flat_map-cons sized frame frames) ∙ append_assoc (sized frame) (flat_map sized frames) rest })

one_cut_by : (least most : ℕ) (frames others : List (List ℕ)) (tail rest : List ℕ) → AllByRecursion (IsFrame least most) frames → AllByRecursion (IsFrame least most) others → IsTail least most tail → IsTail least most rest
    → flat_map sized frames ++ tail ≡ flat_map sized others ++ rest → (frames ≡ others) × (tail ≡ rest)
one_cut_by least most [] [] tail rest a b t u e = (refl, e)
one_cut_by least most [] (g ∷ gs) tail rest a b t u e = absurd (nothing_before least most g gs tail rest b.0 t e)
one_cut_by least most (f ∷ fs) [] tail rest a b t u e = absurd (nothing_before least most f fs rest tail a.0 u (sym e))
one_cut_by least most (f ∷ fs) (g ∷ gs) tail rest a b t u e =
    let e' : sized f ++ (flat_map sized fs ++ tail) ≡ sized g ++ (flat_map sized gs ++ rest) =
    sym (append_assoc (sized f) (flat_map sized fs) tail) ∙ ap (λ (x : List ℕ). x ++ tail) (sym (flat_map-cons sized f fs)) ∙ e ∙ ap (λ (x : List ℕ). x ++ rest) (flat_map-cons sized g gs) ∙ append_assoc (sized g) (flat_map sized gs) rest in
    let first = one_frame f g (flat_map sized fs ++ tail) (flat_map sized gs ++ rest) a.0.sayable b.0.sayable e' in
    let others = one_cut_by least most fs gs tail rest a.1 b.1 t u first.1 in
    let head : f ≡ g = first.0 in
    let heads : fs ≡ gs = others.0 in
    (cc, others.1)

pub one_cut : (least most : ℕ) (stream : List ℕ) (frames others : List (List ℕ)) (tail rest : List ℕ) → Cuts least most stream frames tail → Cuts least most stream others rest → (frames ≡ others) × (tail ≡ rest)
one_cut least most stream frames others tail rest a b =
    one_cut_by least most frames others tail rest (recursion_from_All (IsFrame least most) frames a.each) (recursion_from_All (IsFrame least most) others b.each) a.tail_is b.tail_is (sym a.whole ∙ b.whole)

pub cut_in_pieces : (least most : ℕ) (stream piece : List ℕ) (frames more : List (List ℕ)) (tail rest : List ℕ) → Cuts least most stream frames tail → Cuts least most (tail ++ piece) more rest → Cuts least most (stream ++ piece) (frames ++ more) rest
cut_in_pieces least most stream piece frames more tail rest a b =
    record {
      whole = ap (λ (x : List ℕ). x ++ piece) a.whole ∙ append_assoc (flat_map sized frames) tail piece ∙ ap (λ (x : List ℕ). flat_map sized frames ++ x) b.whole
          ∙ sym (append_assoc (flat_map sized frames) (flat_map sized more) rest) ∙ ap (λ (x : List ℕ). x ++ rest) (sym (flat_map-append sized frames more));
      each = All-append (IsFrame least most) frames more a.each b.each;
      tail_is = b.tail_is;
    }

-- frames at the front of a stream are the first of its cut
first_by : (least most : ℕ) (given frames : List (List ℕ)) (rest tail : List ℕ) → AllByRecursion (IsFrame least most) given → AllByRecursion (IsFrame least most) frames → IsTail least most tail → flat_map sized given ++ rest ≡ flat_map sized frames ++ tail → (others : List (List ℕ)) × (frames ≡ given ++ others)
first_by least most [] frames rest tail a b t e = (frames, refl)
first_by least most (f ∷ fs) [] rest tail a b t e = absurd (nothing_before least most f fs tail rest a.0 t (sym e))
first_by least most (f ∷ fs) (g ∷ gs) rest tail a b t e =
    let e' : sized f ++ (flat_map sized fs ++ rest) ≡ sized g ++ (flat_map sized gs ++ tail) =
    sym (append_assoc (sized f) (flat_map sized fs) rest) ∙ ap (λ (x : List ℕ). x ++ rest) (sym (flat_map-cons sized f fs)) ∙ e ∙ ap (λ (x : List ℕ). x ++ tail) (flat_map-cons sized g gs) ∙ append_assoc (sized g) (flat_map sized gs) tail in
    let first = one_frame f g (flat_map sized fs ++ rest) (flat_map sized gs ++ tail) a.0.sayable b.0.sayable e' in
    let others = first_by least most fs gs rest tail a.1 b.1 t first.1 in
    let head : f ≡ g = first.0 in
    let behind : gs ≡ fs ++ others.0 = others.1 in
    (others.0, cc)

pub first_frames_of_a_cut : (least most : ℕ) (stream : List ℕ) (given frames : List (List ℕ)) (rest tail : List ℕ) → All (IsFrame least most) given → stream ≡ flat_map sized given ++ rest → Cuts least most stream frames tail → (others : List (List ℕ)) × (frames ≡ given ++ others)
first_frames_of_a_cut least most stream given frames rest tail each whole cut =
    first_by least most given frames rest tail (recursion_from_All (IsFrame least most) given each) (recursion_from_All (IsFrame least most) frames cut.each) cut.tail_is (sym whole ∙ cut.whole)

-- a frame before a stream that is cut
one_more : (least most : ℕ) (stream frame behind : List ℕ) (frames : List (List ℕ)) (tail : List ℕ) → IsFrame least most frame → stream ≡ sized frame ++ behind → Cuts least most behind frames tail → Cuts least most stream (frame ∷ frames) tail
one_more least most stream frame behind frames tail f e c =
    record {
      whole = e ∙ ap (λ (x : List ℕ). sized frame ++ x) c.whole ∙ sym (append_assoc (sized frame) (flat_map sized frames) tail) ∙ ap (λ (x : List ℕ). x ++ tail) (sym (flat_map-cons sized frame frames));
      each = All-cons (IsFrame least most) frame frames f c.each;
      tail_is = c.tail_is;
    }

-- a frame at the front leaves bytes, and fewer of them
behind_is : (stream frame behind : List ℕ) → stream ≡ sized frame ++ behind → behind ≡ drop (4 + length frame) stream
behind_is stream frame behind e =
    sym (drop_at (sized frame) behind (4 + length frame) (omega (arith, length-append (int32 (pos (length frame))) frame))) ∙ ap (drop (4 + length frame)) (sym e)

-- a stream with at most so many bytes
cut_within : (fuel least most : ℕ) (stream : List ℕ) → length stream ≤ fuel → All (λ byte. byte < 256) stream → (frames : List (List ℕ)) × (tail : List ℕ) × Cuts least most stream frames tail
cut_within zero least most stream le small = ([], stream, record { whole = refl; each = All-nil (IsFrame least most); tail_is = inl (inl (omega arith)) })
cut_within (suc fuel) least most stream le small =
    elim (frame_or_tail least most stream small) [
      | inr tail ↦ ([], stream, record { whole = refl; each = All-nil (IsFrame least most); tail_is = tail })
      | inl b ↦
          let less : length b.behind ≤ fuel = omega (arith, ap length b.front, length-sized b.frame b.behind) in
          let bytes : All (λ byte. byte < 256) b.behind = rw (behind_is stream b.frame b.behind b.front) (All-drop (λ byte. byte < 256) (4 + length b.frame) stream small) in
          let more = cut_within fuel least most b.behind less bytes in
          (b.frame ∷ more.0, more.1, one_more least most stream b.frame b.behind more.0 more.1 b.is_frame b.front more.2)
    ]

pub each_stream_has_a_cut : (least most : ℕ) (stream : List ℕ) → All (λ byte. byte < 256) stream → (frames : List (List ℕ)) × (tail : List ℕ) × Cuts least most stream frames tail
each_stream_has_a_cut least most stream small = cut_within (length stream) least most stream (omega arith) small

-- ---- a bad size

bad_is_whole : (least most : ℕ) (bytes : List ℕ) (size : ℤ) → bad_size least most bytes ≡ Some size → 4 ≤ length bytes
bad_is_whole least most bytes size e =
    elim (cases_lt (length bytes) 4) [
      | inl short ↦ let none : ltb (length bytes) 4 ≡ true = lt-ltb _ _ short in let absurd_size = rw none at e in absurd cc
      | inr long ↦ long
    ]

pub bad_size_stays : (least most : ℕ) (bytes piece : List ℕ) (size : ℤ) → bad_size least most bytes ≡ Some size → bad_size least most (bytes ++ piece) ≡ Some size
bad_size_stays least most bytes piece size e =
    let long = bad_is_whole least most bytes size e in
    let here : ltb (length bytes) 4 ≡ false = le-ltb _ _ long in
    let there : ltb (length (bytes ++ piece)) 4 ≡ false = le-ltb _ _ (omega (arith, length-append bytes piece)) in
    let same : from_be_bytes w32 (bytes ++ piece) ≡ from_be_bytes w32 bytes = rw (get_or_append_left bytes piece 0 0 (omega arith), get_or_append_left bytes piece 0 1 (omega arith), get_or_append_left bytes piece 0 2 (omega arith), get_or_append_left bytes piece 0 3 (omega arith)) refl in
    let size_same : size_at (bytes ++ piece) ≡ size_at bytes = rw (here, there, same) refl in
    ap (outside least most) size_same ∙ e
