-- One step of the decoder: an item more, or the fault of the bytes.
use Rattle.std.proofs.Common.{◌≡◌, ℕ, ℤ, ◌+◌, ◌<◌, ◌≤◌, true, false, List, [], ◌∷◌, ◌++◌, length, Option, Some, None, is_some, refl, sym, ap, ◌∙◌, append-nil, length-append, arith, subst}
use Rattle.std.specs.Option.{option_and_then}
use Rattle.kp_schema.specs.declared.kind.Kind.{Kind}
use Rattle.wire_types.specs.Reading.{Reading, Reads, unread}
use Rattle.tree_spelling.specs.declared.primitive.Primitive.{Primitive}
use Rattle.tree_spelling.specs.declared.primitive.Primitive.TheVariants.{Count}
use Rattle.tree_spelling.specs.Primitives.{spelled, IsInRange, entries_of, total_entries}
use Rattle.kp_schema.specs.declared.dir.Dir.{Dir}
use Rattle.tree_spelling.specs.Shape.{Shape, message_shape}
use Rattle.tree_spelling.specs.Value.{Value}
use Rattle.tree_spelling.specs.Body.{IsTree}
use Rattle.tree_spelling.specs.Building.{kind_to_come}
use Rattle.tree_spelling.specs.Spelling.{spelling, AreInRange, IsSpelledBy, IsBadAt, HasTooManyAt, max_entries}
use Rattle.tree_spelling.specs.Agenda.{is_kind, is_next, next_kind, after, passed, settled, ItemsReadSoFar, IsStuck, IsTooMany}
use Rattle.tree_spelling.proofs.Coming.{passed-append, value_of}
use Rattle.tree_spelling.proofs.Blanks.{total-append, in_range-one}
use Rattle.tree_spelling.proofs.Fronts.{next_comes, spelling-append}
use Rattle.tree_spelling.proofs.Endings.{has_next, kind_is_next, next_is_kind, is_settled, none_next, nothing_to_come}
use Rattle.tree_spelling.proofs.Faults.{stuck_is_bad, too_many, all_read, one_more}
use Rattle.tree_codec.specs.declared.decode_fault.DecodeFault.{DecodeFault}
use Rattle.tree_codec.specs.declared.decode_fault.DecodeFault.TheVariants.{NotSpelled, TooManyEntries, NoMemory}
use Rattle.tree_codec.specs.Faults.{IsFaultOf, NoneIsSpelled}
use Rattle.tree_codec.specs.Decoding.{AreItemsOf, HasFault}
use Rattle.tree_spelling.specs.Laws.{AreBytes}
use Rattle.tree_spelling.specs.Decoded.{decoded, AllItems}
use Rattle.tree_spelling.proofs.Decoding.{decoded_is_spelled}

-- ---- faults

pub unreadable : (s : Shape) (bytes : List ℕ) (xs : List Primitive) (todo : List Shape) (rest : List ℕ) (kind : Kind) → ItemsReadSoFar s bytes xs todo rest → next_kind todo ≡ Some kind → NoneIsSpelled kind rest → IsBadAt s bytes (length (spelling xs))
unreadable s bytes xs todo rest kind r next none =
    let stuck : IsStuck todo rest = λ item behind n i e. none item behind (next_is_kind todo kind item next n) i e in
    stuck_is_bad s bytes xs todo rest r stuck (λ e _. has_next todo kind next e)

pub passes_limit : (s : Shape) (bytes : List ℕ) (xs : List Primitive) (todo : List Shape) (old new : Reading) (kind : Kind) (item : Primitive) (entries : ℕ) → ItemsReadSoFar s bytes xs todo (unread old) → old.at ≡ length (spelling xs) → next_kind todo ≡ Some kind → is_kind kind item ≡ true → IsInRange item → Reads old (spelled item) new → entries ≡ total_entries xs → max_entries < entries + entries_of item → HasTooManyAt s bytes old.at
passes_limit s bytes xs todo old new kind (Count (Some n)) entries r place next is range reads counted over =
    let many : IsTooMany todo xs (unread old) = record {
      entries = n;
      behind = unread new;
      next = kind_is_next todo kind (Count (Some n)) next is;
      in_range = range;
      read = reads.spelled;
      passes = omega arith;
    } in
    subst (HasTooManyAt s bytes) (sym place) (too_many s bytes xs todo (unread old) r many)
passes_limit s bytes xs todo old new kind item entries r place next is range reads counted over = absurd (omega arith)

-- ---- an item more

pub item_read : (s : Shape) (bytes : List ℕ) (xs : List Primitive) (todo : List Shape) (old new : Reading) (kind : Kind) (item : Primitive) → ItemsReadSoFar s bytes xs todo (unread old) → next_kind todo ≡ Some kind → is_kind kind item ≡ true → IsInRange item → Reads old (spelled item) new → total_entries xs + entries_of item ≤ max_entries → (u : List Shape) × (after todo item ≡ Some u) × ItemsReadSoFar s bytes (xs ++ (item ∷ [])) (settled u) (unread new)
item_read s bytes xs todo old new kind item r next is range reads few =
    let a = next_comes todo item (kind_is_next todo kind item next is) in
    (a.0, a.1, one_more s bytes xs todo a.0 (unread old) (unread new) item r a.1 range reads.spelled few)

pub place_after : (xs : List Primitive) (old new : Reading) (item : Primitive) → old.at ≡ length (spelling xs) → Reads old (spelled item) new → new.at ≡ length (spelling (xs ++ (item ∷ [])))
place_after xs old new item place reads =
    omega (arith, reads.place, place, ap length (spelling-append xs (item ∷ [])), length-append (spelling xs) (spelling (item ∷ [])), ap length (append-nil (spelled item)))

pub entries_after : (xs : List Primitive) (item : Primitive) (entries more : ℕ) → entries ≡ total_entries xs → more ≡ entries_of item → entries + more ≡ total_entries (xs ++ (item ∷ []))
entries_after xs item entries more e f = omega (arith, total-append xs (item ∷ []))

-- ---- the end

no_bytes : (rest : List ℕ) → length rest ≤ 0 → rest ≡ []
no_bytes [] h = refl
no_bytes (b ∷ rest) h = absurd (omega arith)

pub read_whole : (s : Shape) (bytes : List ℕ) (xs : List Primitive) (todo : List Shape) (rest : List ℕ) → ItemsReadSoFar s bytes xs todo rest → next_kind todo ≡ None → length rest ≤ 0 → AreItemsOf s bytes xs
read_whole s bytes xs todo rest r next few =
    let v = all_read s bytes xs todo rest r (nothing_to_come s bytes xs todo rest r next) (no_bytes rest few) in
    record { value = v.0; items_are = v.1; spelled = v.2 }

-- ---- the whole

pub only_memory : (s : Shape) (bytes : List ℕ) (fault : DecodeFault) → IsFaultOf s bytes fault → (v : Value s) → IsSpelledBy s v bytes → fault ≡ NoMemory
only_memory s bytes (NotSpelled at) h v spells = absurd (h.unspelled v spells)
only_memory s bytes (TooManyEntries at) h v spells = absurd (h.unspelled v spells)
only_memory s bytes NoMemory h v spells = refl

pub whole_body : (key version : ℤ) (dir : Dir) (bytes : List ℕ) (xs : List Primitive) (size : ℕ) → AreItemsOf (message_shape key version dir) bytes xs → size ≡ length bytes → (size ≡ length (spelling xs)) × IsTree (record { key = key; version = version; dir = dir; items = xs })
whole_body key version dir bytes xs size h e = (
  e ∙ ap length (h.spelled.bytes_are ∙ ap spelling (sym h.items_are)),
  record {
    value = h.value;
    is = h.items_are;
    in_range = subst AreInRange (sym h.items_are) h.spelled.readable.in_range;
  },
)

-- ---- building

pub one_put : (key version : ℤ) (dir : Dir) (xs ys : List Primitive) (todo after_it : List Shape) (item : Primitive) (size more : ℕ) → (size ≡ length (spelling xs)) × AreInRange xs × (passed (message_shape key version dir ∷ []) xs ≡ Some todo) → is_next todo item ≡ true → IsInRange item → more ≡ size + length (spelled item) → ys ≡ xs ++ (item ∷ []) → ((u : List Shape) → after todo item ≡ Some u → after_it ≡ settled u) → (more ≡ length (spelling ys)) × AreInRange ys × (passed (message_shape key version dir ∷ []) ys ≡ Some after_it)
one_put key version dir xs ys todo after_it item size more h next range grown e goes_on =
    let a = next_comes todo item next in
    let p : passed (message_shape key version dir ∷ []) (xs ++ (item ∷ [])) ≡ Some (settled a.0) = passed-append (message_shape key version dir ∷ []) xs (item ∷ []) ∙ ap (option_and_then (λ u. passed u (item ∷ []))) h.2 ∙ ap (option_and_then (λ u. passed u [])) a.1 in
    (omega (arith, h.0, ap (λ zs. length (spelling zs)) e, ap length (spelling-append xs (item ∷ [])), length-append (spelling xs) (spelling (item ∷ [])), ap length (append-nil (spelled item))), subst AreInRange (sym e) (in_range-one xs item h.1 range), ap (passed (message_shape key version dir ∷ [])) e ∙ p ∙ ap Some (sym (goes_on a.0 a.1)))

pub all_put : (key version : ℤ) (dir : Dir) (xs : List Primitive) (todo : List Shape) (size : ℕ) → (size ≡ length (spelling xs)) × AreInRange xs × (passed (message_shape key version dir ∷ []) xs ≡ Some todo) → next_kind todo ≡ None → (size ≡ length (spelling xs)) × IsTree (record { key = key; version = version; dir = dir; items = xs })
all_put key version dir xs todo size h none =
    let over : todo ≡ [] = sym (is_settled (message_shape key version dir ∷ []) xs todo h.2) ∙ none_next todo none in
    let v = value_of (message_shape key version dir) xs (h.2 ∙ ap Some over) in
    (h.0, record { value = v.0; is = sym v.1; in_range = h.1 })

pub not_some : {A : Type 0} (o : Option A) → is_some o ≡ false → o ≡ None
not_some None h = refl
not_some (Some x) h = absurd cc

pub to_come : (key version : ℤ) (dir : Dir) (xs : List Primitive) (todo : List Shape) → passed (message_shape key version dir ∷ []) xs ≡ Some todo → kind_to_come (record { key = key; version = version; dir = dir; items = xs }) ≡ next_kind todo
to_come key version dir xs todo h = ap (option_and_then next_kind) h

-- ---- what bytes are decoded to

pub items_decoded : (s : Shape) (bytes : List ℕ) (xs : List Primitive) → AreBytes bytes → AreItemsOf s bytes xs → decoded s bytes ≡ AllItems xs
items_decoded s bytes xs small h = ((decoded_is_spelled s bytes small).0 xs).1 (h.value, h.items_are, h.spelled)

pub fault_decoded : (s : Shape) (bytes : List ℕ) (fault : DecodeFault) → AreBytes bytes → IsFaultOf s bytes fault → HasFault (decoded s bytes) fault
fault_decoded s bytes (NotSpelled at) small h = ((decoded_is_spelled s bytes small).1 at).1 h
fault_decoded s bytes (TooManyEntries at) small h = ((decoded_is_spelled s bytes small).2 at).1 h
fault_decoded s bytes NoMemory small h = tt

-- ---- an item more, or the end
