-- A response narrowed item by item is the one narrowed entry by entry.
use Rattle.std.proofs.Common.{◌≡◌, ℕ, ℤ, ◌+◌, ◌*◌, List, [], ◌∷◌, ◌++◌, length, take, drop, Option, Some, None, refl, sym, ap, ◌∙◌, append_assoc, arith}
use Rattle.std.specs.Option.{option_map}
use Rattle.std.specs.List.{flat_map, filter_map}
use Rattle.std.proofs.lemmas.List.{take_at, drop_at}
use Rattle.tree_spelling.specs.declared.primitive.Primitive.{Primitive}
use Rattle.tree_spelling.specs.declared.primitive.Primitive.TheVariants.{Int16, Count}
use Rattle.tree_spelling.specs.Shape.{Shape}
use Rattle.tree_spelling.specs.Value.{Value, items_of}
use Rattle.tree_spelling.specs.Body.{Contents}
use Rattle.api_versions.specs.Narrowing.{entry_shape, versions_shape, narrow_entry, narrowed, known_in, supported_range, range_items, range_count, known_items, known_count, narrowed_items, with_items}

abbrev flat : List (Value entry_shape) → List Primitive
flat es = flat_map (items_of entry_shape) es

flat_length : (es : List (Value entry_shape)) → length (flat es) ≡ length es * 3
flat_length [] = refl
flat_length (e ∷ es) = omega (arith, flat_length es)

abbrev entry_in : ℤ → Option (ℤ × ℤ) → Option (Value entry_shape)
entry_in key m = option_map (λ (range : ℤ × ℤ). (key, (range.0, (range.1, tt)))) m

abbrev put_first : Option (Value entry_shape) → List (Value entry_shape) → List (Value entry_shape)
put_first None es = es
put_first (Some e) es = e ∷ es

items_first : (key : ℤ) (m : Option (ℤ × ℤ)) (es : List (Value entry_shape)) (xs : List Primitive) → xs ≡ flat es → range_items key m ++ xs ≡ flat (put_first (entry_in key m) es)
items_first key None es xs h = h
items_first key (Some r) es xs h = ap (λ zs. Int16 key ∷ (Int16 r.0 ∷ (Int16 r.1 ∷ zs))) h

count_first : (key : ℤ) (m : Option (ℤ × ℤ)) (es : List (Value entry_shape)) (n : ℕ) → n ≡ length es → range_count m + n ≡ length (put_first (entry_in key m) es)
count_first key None es n h = omega arith
count_first key (Some r) es n h = omega arith

kept_first : (o : Option (Value entry_shape)) (e : Value entry_shape) (es : List (Value entry_shape)) → narrow_entry e ≡ o → filter_map narrow_entry (e ∷ es) ≡ put_first o (filter_map narrow_entry es)
kept_first None e es h = rw h refl
kept_first (Some x) e es h = rw h refl

known_items-flat : (es : List (Value entry_shape)) → known_items (flat es) ≡ flat (filter_map narrow_entry es)
known_items-flat [] = refl
known_items-flat (e ∷ es) =
    items_first e.0 (known_in (supported_range e.0) e.1.0 e.1.1.0) (filter_map narrow_entry es) (known_items (flat es)) (known_items-flat es) ∙ ap flat (sym (kept_first (narrow_entry e) e es refl))

known_count-flat : (es : List (Value entry_shape)) → known_count (flat es) ≡ length (filter_map narrow_entry es)
known_count-flat [] = refl
known_count-flat (e ∷ es) =
    count_first e.0 (known_in (supported_range e.0) e.1.0 e.1.1.0) (filter_map narrow_entry es) (known_count (flat es)) (known_count-flat es) ∙ ap length (sym (kept_first (narrow_entry e) e es refl))

narrowed_some : (rest : Shape) (error : ℤ) (es : List (Value entry_shape)) (w : Value rest) → narrowed_items (items_of (versions_shape rest) (error, (Some es, w))) ≡ items_of (versions_shape rest) (narrowed rest (error, (Some es, w)))
narrowed_some rest error es w =
    let tail = items_of rest w in
    let front : take (length es * 3) (flat es ++ items_of rest w) ≡ flat es = take_at (flat es) tail (length es * 3) (flat_length es) in
    let behind : drop (length es * 3) (flat es ++ items_of rest w) ≡ items_of rest w = drop_at (flat es) tail (length es * 3) (flat_length es) in
    ap (λ (xs : List Primitive). Int16 error ∷ (Count (Some (known_count xs)) ∷ (known_items xs ++ drop (length es * 3) (flat es ++ items_of rest w)))) front ∙ ap (λ (xs : List Primitive). Int16 error ∷ (Count (Some (known_count (flat es))) ∷ (known_items (flat es) ++ xs))) behind ∙ ap (λ n. Int16 error ∷ (Count (Some n) ∷ (known_items (flat es) ++ items_of rest w))) (known_count-flat es) ∙ ap (λ (xs : List Primitive). Int16 error ∷ (Count (Some (length (filter_map narrow_entry es))) ∷ (xs ++ items_of rest w))) (known_items-flat es)

narrowed_each : (rest : Shape) (error : ℤ) (o : Option (List (Value entry_shape))) (w : Value rest) → narrowed_items (items_of (versions_shape rest) (error, (o, w))) ≡ items_of (versions_shape rest) (narrowed rest (error, (o, w)))
narrowed_each rest error None w = refl
narrowed_each rest error (Some es) w = narrowed_some rest error es w

pub narrowed_is : (rest : Shape) (value : Value (versions_shape rest)) (items : List Primitive) → items ≡ items_of (versions_shape rest) value → narrowed_items items ≡ items_of (versions_shape rest) (narrowed rest value)
narrowed_is rest value items h = ap narrowed_items h ∙ narrowed_each rest value.0 value.1.0 value.1.1

pub with_one : (b : Contents) (x : Primitive) (xs : List Primitive) → with_items (with_items b (x ∷ [])) xs ≡ with_items b (x ∷ xs)
with_one b x xs = ap (λ (ys : List Primitive). record b { items = ys }) (append_assoc b.items (x ∷ []) xs)

pub three_pushed : (b0 b1 b2 b3 : Contents) (key least greatest from to : ℤ) (items rest : List Primitive) → b1 ≡ with_items b0 (Int16 key ∷ []) → b2 ≡ with_items b1 (Int16 from ∷ []) → b3 ≡ with_items b2 (Int16 to ∷ []) → Some (from, to) ≡ known_in (supported_range key) least greatest → items ≡ Int16 key ∷ (Int16 least ∷ (Int16 greatest ∷ rest)) → with_items b3 (known_items rest) ≡ with_items b0 (known_items items)
three_pushed b0 b1 b2 b3 key least greatest from to items rest e1 e2 e3 m i =
    let more = known_items rest in
    ap (λ (b : Contents). with_items b more) e3 ∙ with_one b2 (Int16 to) more ∙ ap (λ (b : Contents). with_items b (Int16 to ∷ more)) e2 ∙ with_one b1 (Int16 from) (Int16 to ∷ more) ∙ ap (λ (b : Contents). with_items b (Int16 from ∷ (Int16 to ∷ more))) e1 ∙ with_one b0 (Int16 key) (Int16 from ∷ (Int16 to ∷ more)) ∙ ap (λ (o : Option (ℤ × ℤ)). with_items b0 (range_items key o ++ known_items rest)) m ∙ ap (λ xs. with_items b0 (known_items xs)) (sym i)
