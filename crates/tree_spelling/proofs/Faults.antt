-- Where bytes go wrong: what a reader knows that is stuck, or that has read everything.
use Rattle.std.proofs.Common.{◌≡◌, ℕ, ◌+◌, ◌<◌, ◌≤◌, true, List, [], ◌∷◌, ◌++◌, length, Option, Some, None, refl, sym, ap, ◌∙◌, inl, inr, append_assoc, append-nil, length-append, arith, subst}
use Rattle.std.specs.Option.{option_and_then}
use Rattle.kp_schema.specs.declared.kind.Kind.{Kind}
use Rattle.tree_spelling.specs.declared.primitive.Primitive.{Primitive}
use Rattle.tree_spelling.specs.declared.primitive.Primitive.TheVariants.{Count}
use Rattle.tree_spelling.specs.Primitives.{spelled, IsInRange, entries_of, total_entries}
use Rattle.tree_spelling.specs.Shape.{Shape}
use Rattle.tree_spelling.specs.Value.{Value, items_of}
use Rattle.tree_spelling.specs.Spelling.{spelling, AreInRange, AreReadable, IsSpelledBy, BeginsWith, LongestFront, IsNotSpelled, IsBadAt, HasTooManyAt, max_entries}
use Rattle.tree_spelling.specs.Agenda.{is_kind, after, passed, next_kind, is_of, is_next, settled, ItemsReadSoFar, IsStuck, IsTooMany}
use Rattle.tree_spelling.proofs.Coming.{passed-append, value_of}
use Rattle.tree_spelling.proofs.Blanks.{in_range-back, in_range-one, total-append, readable-front, is_front, first_items, whole_passes, front_passes}
use Rattle.tree_spelling.proofs.Fronts.{agree, one_item, item_takes, comes_is_next, next_comes, spelling-append, some_after, same_some}

-- an item that comes next, and that the rest begins with, passes the limit
abbrev IsBlocked : List Shape → List Primitive → List ℕ → Type 0
IsBlocked todo xs rest =
    (z : Primitive) (more : List ℕ) → is_next todo z ≡ true → IsInRange z → rest ≡ spelled z ++ more → max_entries < total_entries xs + entries_of z

-- the fronts that make sense are no longer than what was read
abbrev Within : List Primitive → List ℕ → List Primitive → List ℕ → Type 0
Within xs rest ys q = (zs : List Primitive) × (xs ≡ ys ++ zs) × (q ≡ spelling zs ++ rest)

longer_is_none : (s : Shape) (bytes : List ℕ) (xs ys : List Primitive) (todo w : List Shape) (rest q : List ℕ) (zs : List Primitive) → ItemsReadSoFar s bytes xs todo rest → IsBlocked todo xs rest → passed (s ∷ []) ys ≡ Some w → AreReadable ys → ys ≡ xs ++ zs → rest ≡ spelling zs ++ q → Within xs rest ys q
longer_is_none s bytes xs ys todo w rest q [] r blocked h readable e f =
    ([], sym (append-nil xs) ∙ sym e ∙ sym (append-nil ys), sym f)
longer_is_none s bytes xs ys todo w rest q (z ∷ zs) r blocked h readable e f =
    let h' : passed todo (z ∷ zs) ≡ Some w = sym (passed-append (s ∷ []) xs (z ∷ zs) ∙ ap (option_and_then (λ u. passed u (z ∷ zs))) r.come) ∙ ap (passed (s ∷ [])) (sym e) ∙ h in
    let a = some_after (after todo z) zs w h' in
    let all : AreReadable (xs ++ (z ∷ zs)) = subst AreReadable e readable in
    let back : AreInRange (z ∷ zs) = in_range-back xs (z ∷ zs) all.in_range in
    let f' : rest ≡ spelled z ++ (spelling zs ++ q) = f ∙ append_assoc (spelled z) (spelling zs) q in
    let over : max_entries < total_entries xs + entries_of z = blocked z (spelling zs ++ q) (comes_is_next todo z a.0 a.1) back.0 f' in
    let few : total_entries (xs ++ (z ∷ zs)) ≤ max_entries = all.within_limit in
    let t = total-append xs (z ∷ zs) in
    absurd (omega arith)

within : (s : Shape) (bytes : List ℕ) (xs : List Primitive) (todo : List Shape) (rest : List ℕ) → ItemsReadSoFar s bytes xs todo rest → IsBlocked todo xs rest → (ys : List Primitive) (q : List ℕ) → BeginsWith s bytes ys q → Within xs rest ys q
within s bytes xs todo rest r blocked ys q b =
    let v = b.first in
    let p = front_passes s v.0 ys v.1 v.2 in
    let readable : AreReadable ys = readable-front ys v.1 (subst AreReadable v.2 v.3) in
    elim (agree (s ∷ []) xs ys todo p.0 rest q r.come p.1 r.readable.in_range readable.in_range (sym r.bytes_are ∙ b.bytes_are)) [
      | inl h ↦ longer_is_none s bytes xs ys todo p.0 rest q h.0 r blocked p.1 readable h.1 h.2
      | inr h ↦ h
    ]

longest : (s : Shape) (bytes : List ℕ) (xs : List Primitive) (todo : List Shape) (rest : List ℕ) → ItemsReadSoFar s bytes xs todo rest → IsBlocked todo xs rest → LongestFront s bytes xs rest
longest s bytes xs todo rest r blocked = record {
  front = record { bytes_are = r.bytes_are; first = first_items s xs todo r.come r.readable };
  longest = λ ys q b.
      let w = within s bytes xs todo rest r blocked ys q b in
      omega (arith, ap length (ap spelling w.1 ∙ spelling-append ys w.0), length-append (spelling ys) (spelling w.0));
}

-- no value is spelled by what has more to come, or more to be read
nothing_left : (s : Shape) (v : Value s) (bytes : List ℕ) (xs zs : List Primitive) (todo : List Shape) (rest : List ℕ) → ItemsReadSoFar s bytes xs todo rest → (todo ≡ [] → rest ≡ [] → ⊥) → xs ≡ items_of s v ++ zs → [] ≡ spelling zs ++ rest → ⊥
nothing_left s v bytes xs [] todo rest r unfinished e f =
    let whole : xs ≡ items_of s v = e ∙ append-nil (items_of s v) in
    unfinished (same_some (sym r.come ∙ ap (passed (s ∷ [])) whole ∙ whole_passes s v)) (sym f)
nothing_left s v bytes xs (z ∷ zs) todo rest r unfinished e f =
    omega (arith, item_takes z, ap length f, length-append (spelled z) (spelling zs), length-append (spelled z ++ spelling zs) rest)

unspelled : (s : Shape) (bytes : List ℕ) (xs : List Primitive) (todo : List Shape) (rest : List ℕ) → ItemsReadSoFar s bytes xs todo rest → IsBlocked todo xs rest → (todo ≡ [] → rest ≡ [] → ⊥) → IsNotSpelled s bytes
unspelled s bytes xs todo rest r blocked unfinished v h =
    let b : BeginsWith s bytes (items_of s v) [] = record { bytes_are = h.bytes_are ∙ sym (append-nil (spelling (items_of s v))); first = (v, [], sym (append-nil (items_of s v)), h.readable) } in
    let w = within s bytes xs todo rest r blocked (items_of s v) [] b in
    nothing_left s v bytes xs w.0 todo rest r unfinished w.1 w.2

-- ---- stuck

pub stuck_is_bad : (s : Shape) (bytes : List ℕ) (xs : List Primitive) (todo : List Shape) (rest : List ℕ) → ItemsReadSoFar s bytes xs todo rest → IsStuck todo rest → (todo ≡ [] → rest ≡ [] → ⊥) → IsBadAt s bytes (length (spelling xs))
stuck_is_bad s bytes xs todo rest r stuck unfinished =
    let blocked : IsBlocked todo xs rest = λ z more n i e. absurd (stuck z more n i e) in
    record {
      unspelled = unspelled s bytes xs todo rest r blocked unfinished;
      items = xs;
      rest = rest;
      front = longest s bytes xs todo rest r blocked;
      place_is = refl;
      not_passed = λ p.
          let f = front_passes s p.value xs (Count (Some p.entries) ∷ p.more) p.next in
          let same : f.0 ≡ todo = same_some (sym f.1 ∙ r.come) in
          let a = some_after (after f.0 (Count (Some p.entries))) p.more [] f.2 in
          let next : is_next todo (Count (Some p.entries)) ≡ true = subst (λ (t : List Shape). is_next t (Count (Some p.entries)) ≡ true) same (comes_is_next f.0 (Count (Some p.entries)) a.0 a.1) in
          stuck (Count (Some p.entries)) p.behind next p.in_range p.read;
    }

-- ---- too many entries

kind_next : (o : Option Kind) (x : Primitive) → is_of o x ≡ true → (k : Kind) × (o ≡ Some k) × (is_kind k x ≡ true)
kind_next None x h = absurd cc
kind_next (Some k) x h = (k, refl, h)

pub same_next : (t : List Shape) (x y : Primitive) (p q : List ℕ) → is_next t x ≡ true → is_next t y ≡ true → IsInRange x → IsInRange y → spelled x ++ p ≡ spelled y ++ q → (x ≡ y) × (p ≡ q)
same_next t x y p q hx hy rx ry e =
    let kx = kind_next (next_kind t) x hx in
    let ky = kind_next (next_kind t) y hy in
    let same : ky.0 ≡ kx.0 = same_some (sym ky.1 ∙ kx.1) in
    one_item kx.0 x y p q kx.2 (subst (λ (k : Kind). is_kind k y ≡ true) same ky.2) rx ry e

none_next : (t : List Shape) (x : Primitive) → is_next t x ≡ true → t ≡ [] → ⊥
none_next t x h e =
    let h' : is_next [] x ≡ true = subst (λ (u : List Shape). is_next u x ≡ true) e h in
    cc

pub too_many : (s : Shape) (bytes : List ℕ) (xs : List Primitive) (todo : List Shape) (rest : List ℕ) → ItemsReadSoFar s bytes xs todo rest → IsTooMany todo xs rest → HasTooManyAt s bytes (length (spelling xs))
too_many s bytes xs todo rest r m =
    let count = Count (Some m.entries) in
    let next : is_next todo (Count (Some m.entries)) ≡ true = m.next in
    let blocked : IsBlocked todo xs rest = λ z more n i e.
    let one = same_next todo (Count (Some m.entries)) z m.behind more next n m.in_range i (sym m.read ∙ e) in
    subst (λ (y : Primitive). max_entries < total_entries xs + entries_of y) one.0 m.passes in
    let a = next_comes todo (Count (Some m.entries)) next in
    let come : passed (s ∷ []) (xs ++ (Count (Some m.entries) ∷ [])) ≡ Some (settled a.0) = passed-append (s ∷ []) xs (Count (Some m.entries) ∷ []) ∙ ap (option_and_then (λ u. passed u (Count (Some m.entries) ∷ []))) r.come ∙ ap (option_and_then (λ u. passed u [])) a.1 in
    let f = is_front s (xs ++ (Count (Some m.entries) ∷ [])) (settled a.0) come in
    record {
      unspelled = unspelled s bytes xs todo rest r blocked (λ e _. none_next todo (Count (Some m.entries)) next e);
      items = xs;
      rest = rest;
      front = longest s bytes xs todo rest r blocked;
      place_is = refl;
      passed = record {
        entries = m.entries;
        value = f.0;
        more = f.1;
        next = f.2 ∙ append_assoc xs (Count (Some m.entries) ∷ []) f.1;
        in_range = m.in_range;
        behind = m.behind;
        read = m.read;
        passes = m.passes;
      };
    }

-- ---- everything read

pub all_read : (s : Shape) (bytes : List ℕ) (xs : List Primitive) (todo : List Shape) (rest : List ℕ) → ItemsReadSoFar s bytes xs todo rest → todo ≡ [] → rest ≡ [] → (v : Value s) × (xs ≡ items_of s v) × IsSpelledBy s v bytes
all_read s bytes xs todo rest r e f =
    let v = value_of s xs (r.come ∙ ap Some e) in (
      v.0,
      sym v.1,
      record {
        bytes_are = r.bytes_are ∙ ap (λ z. spelling xs ++ z) f ∙ append-nil (spelling xs) ∙ ap spelling (sym v.1);
        readable = subst AreReadable (sym v.1) r.readable;
      },
    )

pub nothing_read : (s : Shape) (bytes : List ℕ) → ItemsReadSoFar s bytes [] (settled (s ∷ [])) bytes
nothing_read s bytes = record { come = refl; bytes_are = refl; readable = record { in_range = tt; within_limit = omega arith } }

-- one item more was read
pub one_more : (s : Shape) (bytes : List ℕ) (xs : List Primitive) (todo u : List Shape) (rest behind : List ℕ) (x : Primitive) → ItemsReadSoFar s bytes xs todo rest → after todo x ≡ Some u → IsInRange x → rest ≡ spelled x ++ behind → total_entries xs + entries_of x ≤ max_entries → ItemsReadSoFar s bytes (xs ++ (x ∷ [])) (settled u) behind
one_more s bytes xs todo u rest behind x r a i e few =
    let swap : spelling (xs ++ (x ∷ [])) ≡ spelling xs ++ spelled x = spelling-append xs (x ∷ []) ∙ ap (λ z. spelling xs ++ z) (append-nil (spelled x)) in
    record {
      come = passed-append (s ∷ []) xs (x ∷ []) ∙ ap (option_and_then (λ w. passed w (x ∷ []))) r.come ∙ ap (option_and_then (λ w. passed w [])) a;
      bytes_are = r.bytes_are ∙ ap (λ z. spelling xs ++ z) e ∙ sym (append_assoc (spelling xs) (spelled x) behind) ∙ ap (λ z. z ++ behind) (sym swap);
      readable = record {
        in_range = in_range-one xs x r.readable.in_range i;
        within_limit = omega (arith, total-append xs (x ∷ []), few);
      };
    }
