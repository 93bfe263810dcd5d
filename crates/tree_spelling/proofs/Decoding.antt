-- Bytes are decoded to what they spell.
use Rattle.std.proofs.Common.{◌≡◌, ℕ, zero, suc, ◌+◌, ◌<◌, ◌≤◌, Bool, true, false, ltb, cond, List, [], ◌∷◌, ◌++◌, length, drop, Option, Some, None, refl, sym, ap, ◌∙◌, arith, subst}
use Rattle.std.proofs.lemmas.Bool.{ltb-true, ltb-false}
use Rattle.std.proofs.lemmas.List.{length-append, length-drop, get_or-drop, drop_at}
use Rattle.kp_schema.specs.declared.kind.Kind.{Kind}
use Rattle.tree_spelling.specs.declared.primitive.Primitive.{Primitive}
use Rattle.tree_spelling.specs.declared.primitive.Primitive.TheVariants.{Count}
use Rattle.tree_spelling.specs.Primitives.{spelled, IsInRange, entries_of, total_entries}
use Rattle.tree_spelling.specs.Shape.{Shape}
use Rattle.tree_spelling.specs.Value.{items_of}
use Rattle.tree_spelling.specs.Spelling.{spelling, IsBadAt, HasTooManyAt, max_entries}
use Rattle.tree_spelling.specs.Laws.{AreBytes, SpellItems, DecodedIsSpelled}
use Rattle.tree_spelling.specs.Agenda.{is_next, next_kind, after, settled, ItemsReadSoFar, IsStuck}
use Rattle.tree_spelling.specs.Decoded.{Decoded, AllItems, BadAt, TooManyAt, Further, first_item, read_all, read_next, read_field, read_items, decoded}
use Rattle.tree_spelling.proofs.Fronts.{next_comes, item_takes}
use Rattle.tree_spelling.proofs.Faults.{stuck_is_bad, too_many, all_read, nothing_read, one_more}
use Rattle.tree_spelling.proofs.OneValue.{one_value, one_fault}
use Rattle.tree_spelling.proofs.Endings.{has_next, kind_is_next, next_is_kind, nothing_to_come, byte_too_many}
use Rattle.tree_spelling.proofs.FirstItems.{found_is_first, none_is_first}

-- what bytes are decoded to is what they spell
abbrev IsDecoding : Shape → List ℕ → Decoded → Type 0
IsDecoding s bytes (AllItems items) = SpellItems s bytes items
IsDecoding s bytes (BadAt place) = IsBadAt s bytes place
IsDecoding s bytes (TooManyAt place) = HasTooManyAt s bytes place

-- what goes on behind an item is right for fewer than n bytes
abbrev IsRight : ℕ → Shape → List ℕ → Further → Type 0
IsRight n s bytes further =
    (items : List Primitive) (todo : List Shape) (rest : List ℕ) → AreBytes rest → ItemsReadSoFar s bytes items todo rest → length rest < n → IsDecoding s bytes (further todo items rest)

-- ---- the end

read_to_end : (s : Shape) (bytes : List ℕ) (items : List Primitive) (todo : List Shape) (rest : List ℕ) → ItemsReadSoFar s bytes items todo rest → next_kind todo ≡ None → IsDecoding s bytes (read_all items rest)
read_to_end s bytes items todo [] r next = all_read s bytes items todo [] r (nothing_to_come s bytes items todo [] r next) refl
read_to_end s bytes items todo (b ∷ rest) r next =
    byte_too_many s bytes items todo (b ∷ rest) (length (spelling items)) r refl next (omega arith)

-- ---- an item

-- an item that brings no entry passes no limit
passes : (s : Shape) (bytes : List ℕ) (items : List Primitive) (todo : List Shape) (rest more : List ℕ) (item : Primitive) → ItemsReadSoFar s bytes items todo rest → is_next todo item ≡ true → IsInRange item → rest ≡ spelled item ++ more → max_entries < total_entries items + entries_of item → HasTooManyAt s bytes (length (spelling items))
passes s bytes items todo rest more (Count (Some n)) r next range is over =
    too_many s bytes items todo rest r (record { entries = n; behind = more; next = next; in_range = range; read = is; passes = over })
passes s bytes items todo rest more item r next range is over = absurd (omega (arith, r.readable.within_limit))

drop_small : (n : ℕ) (bytes : List ℕ) → AreBytes bytes → AreBytes (drop n bytes)
drop_small n bytes small i = omega (arith, get_or-drop n bytes i 0, small (n + i))

item_passed : (n : ℕ) (s : Shape) (bytes : List ℕ) (further : Further) → IsRight n s bytes further → (items : List Primitive) (todo u : List Shape) (rest : List ℕ) (item : Primitive) → AreBytes rest → ItemsReadSoFar s bytes items todo rest → length rest < suc n → is_next todo item ≡ true → IsInRange item → (more : List ℕ) → rest ≡ spelled item ++ more → after todo item ≡ Some u → (b : Bool) → ltb max_entries (total_entries items + entries_of item) ≡ b → IsDecoding s bytes (cond b (TooManyAt (length (spelling items))) (further (settled u) (items ++ item ∷ []) (drop (length (spelled item)) rest)))
item_passed n s bytes further right items todo u rest item small r short next range more is a true t =
    passes s bytes items todo rest more item r next range is (ltb-true max_entries (total_entries items + entries_of item) t)
item_passed n s bytes further right items todo u rest item small r short next range more is a false t =
    let behind : drop (length (spelled item)) rest ≡ more = ap (drop (length (spelled item))) is ∙ drop_at (spelled item) more (length (spelled item)) refl in
    let there : rest ≡ spelled item ++ drop (length (spelled item)) rest = is ∙ ap (λ z. spelled item ++ z) (sym behind) in
    let few : total_entries items + entries_of item ≤ max_entries = ltb-false max_entries (total_entries items + entries_of item) t in
    let shorter : length (drop (length (spelled item)) rest) < n = omega (arith, item_takes item, length-drop (length (spelled item)) rest, ap length is, length-append (spelled item) more) in
    right (items ++ item ∷ []) (settled u) (drop (length (spelled item)) rest) (drop_small (length (spelled item)) rest small) (one_more s bytes items todo u rest (drop (length (spelled item)) rest) item r a range there few) shorter

item_found : (n : ℕ) (s : Shape) (bytes : List ℕ) (further : Further) → IsRight n s bytes further → (items : List Primitive) (todo : List Shape) (rest : List ℕ) (kind : Kind) (o : Option Primitive) → AreBytes rest → ItemsReadSoFar s bytes items todo rest → length rest < suc n → next_kind todo ≡ Some kind → first_item kind rest ≡ o → IsDecoding s bytes (read_next further todo items rest o)
item_found n s bytes further right items todo rest kind None small r short next e =
    let stuck : IsStuck todo rest = λ item more is i there. none_is_first kind rest e item more (next_is_kind todo kind item next is) i there in
    stuck_is_bad s bytes items todo rest r stuck (λ f _. has_next todo kind next f)
item_found n s bytes further right items todo rest kind (Some item) small r short next e =
    let first = found_is_first kind rest item small e in
    let is = kind_is_next todo kind item next first.is in
    let a = next_comes todo item is in
    rw a.1 (item_passed n s bytes further right items todo a.0 rest item small r short is first.in_range first.more first.spelled_first a.1 (ltb max_entries (total_entries items + entries_of item)) refl)

field_read : (n : ℕ) (s : Shape) (bytes : List ℕ) (further : Further) → IsRight n s bytes further → (items : List Primitive) (todo : List Shape) (rest : List ℕ) (o : Option Kind) → AreBytes rest → ItemsReadSoFar s bytes items todo rest → length rest < suc n → next_kind todo ≡ o → IsDecoding s bytes (read_field further o todo items rest)
field_read n s bytes further right items todo rest None small r short e = read_to_end s bytes items todo rest r e
field_read n s bytes further right items todo rest (Some kind) small r short e =
    item_found n s bytes further right items todo rest kind (first_item kind rest) small r short e refl

all_right : (n : ℕ) (s : Shape) (bytes : List ℕ) → IsRight n s bytes (read_items n)
all_right zero s bytes items todo rest small r short = absurd (omega arith)
all_right (suc n) s bytes items todo rest small r short =
    field_read n s bytes (read_items n) (all_right n s bytes) items todo rest (next_kind todo) small r short refl

is_decoding : (s : Shape) (bytes : List ℕ) → AreBytes bytes → IsDecoding s bytes (decoded s bytes)
is_decoding s bytes small = all_right (suc (length bytes)) s bytes [] (settled (s ∷ [])) bytes small (nothing_read s bytes) (omega arith)

-- ---- nothing else is

only_items : (s : Shape) (bytes : List ℕ) (d : Decoded) (items : List Primitive) → IsDecoding s bytes d → SpellItems s bytes items → d ≡ AllItems items
only_items s bytes (AllItems xs) items h g =
    let same : h.0 ≡ g.0 = one_value s h.0 g.0 h.2.readable.in_range g.2.readable.in_range (sym h.2.bytes_are ∙ g.2.bytes_are) in
    ap AllItems (h.1 ∙ ap (items_of s) same ∙ sym g.1)
only_items s bytes (BadAt place) items h g = absurd (h.unspelled g.0 g.2)
only_items s bytes (TooManyAt place) items h g = absurd (h.unspelled g.0 g.2)

only_bad : (s : Shape) (bytes : List ℕ) (d : Decoded) (place : ℕ) → IsDecoding s bytes d → IsBadAt s bytes place → d ≡ BadAt place
only_bad s bytes (AllItems xs) place h g = absurd (g.unspelled h.0 h.2)
only_bad s bytes (BadAt other) place h g = ap BadAt ((one_fault s bytes other place).0 h g)
only_bad s bytes (TooManyAt other) place h g = absurd ((one_fault s bytes place other).2 g h)

only_too_many : (s : Shape) (bytes : List ℕ) (d : Decoded) (place : ℕ) → IsDecoding s bytes d → HasTooManyAt s bytes place → d ≡ TooManyAt place
only_too_many s bytes (AllItems xs) place h g = absurd (g.unspelled h.0 h.2)
only_too_many s bytes (BadAt other) place h g = absurd ((one_fault s bytes other place).2 h g)
only_too_many s bytes (TooManyAt other) place h g = ap TooManyAt ((one_fault s bytes other place).1 h g)

pub decoded_is_spelled : DecodedIsSpelled
decoded_is_spelled s bytes small =
    let d = is_decoding s bytes small in (
      λ items. (λ e. subst (IsDecoding s bytes) e d, λ h. only_items s bytes (decoded s bytes) items d h),
      λ place. (λ e. subst (IsDecoding s bytes) e d, λ h. only_bad s bytes (decoded s bytes) place d h),
      λ place. (λ e. subst (IsDecoding s bytes) e d, λ h. only_too_many s bytes (decoded s bytes) place d h),
    )
