-- The kind that comes next, and what is known where none does.
use Rattle.std.proofs.Common.{◌≡◌, ℕ, ◌<◌, true, List, [], ◌∷◌, length, Some, None, refl, sym, ap, ◌∙◌, arith, subst}
use Rattle.kp_schema.specs.declared.kind.Kind.{Kind}
use Rattle.tree_spelling.specs.declared.primitive.Primitive.{Primitive}
use Rattle.tree_spelling.specs.Shape.{Shape, End, Plain, Array}
use Rattle.tree_spelling.specs.Spelling.{spelling, IsBadAt}
use Rattle.tree_spelling.specs.Agenda.{is_kind, is_of, is_next, next_kind, after, passed, settled, ItemsReadSoFar, IsStuck}
use Rattle.tree_spelling.proofs.Coming.{settled-again}
use Rattle.tree_spelling.proofs.Fronts.{some_after}
use Rattle.tree_spelling.proofs.Faults.{stuck_is_bad}

pub has_next : (todo : List Shape) (kind : Kind) → next_kind todo ≡ Some kind → todo ≡ [] → ⊥
has_next todo kind h e =
    let h' : next_kind [] ≡ Some kind = subst (λ (t : List Shape). next_kind t ≡ Some kind) e h in
    cc

pub kind_is_next : (todo : List Shape) (kind : Kind) (item : Primitive) → next_kind todo ≡ Some kind → is_kind kind item ≡ true → is_next todo item ≡ true
kind_is_next todo kind item h k = ap (λ o. is_of o item) h ∙ k

pub next_is_kind : (todo : List Shape) (kind : Kind) (item : Primitive) → next_kind todo ≡ Some kind → is_next todo item ≡ true → is_kind kind item ≡ true
next_is_kind todo kind item h k = sym (ap (λ o. is_of o item) h) ∙ k

pub is_settled : (t : List Shape) (xs : List Primitive) (u : List Shape) → passed t xs ≡ Some u → settled u ≡ u
is_settled t [] u h =
    let e : settled t ≡ u = cc in
    ap settled (sym e) ∙ settled-again t ∙ e
is_settled t (x ∷ xs) u h =
    let a = some_after (after t x) xs u h in
    is_settled a.0 xs u a.2

pub none_next : (t : List Shape) → next_kind t ≡ None → settled t ≡ []
none_next [] h = refl
none_next (End ∷ t) h = none_next t h
none_next (Plain k r ∷ t) h = absurd cc
none_next (Array e r ∷ t) h = absurd cc

pub nothing_to_come : (s : Shape) (bytes : List ℕ) (xs : List Primitive) (todo : List Shape) (rest : List ℕ) → ItemsReadSoFar s bytes xs todo rest → next_kind todo ≡ None → todo ≡ []
nothing_to_come s bytes xs todo rest r h =
    sym (is_settled (s ∷ []) xs todo r.come) ∙ none_next todo h

none_is_next : (todo : List Shape) (item : Primitive) → todo ≡ [] → is_next todo item ≡ true → ⊥
none_is_next todo item e h =
    let h' : is_next [] item ≡ true = subst (λ (t : List Shape). is_next t item ≡ true) e h in
    cc

pub byte_too_many : (s : Shape) (bytes : List ℕ) (xs : List Primitive) (todo : List Shape) (rest : List ℕ) (place : ℕ) → ItemsReadSoFar s bytes xs todo rest → place ≡ length (spelling xs) → next_kind todo ≡ None → 0 < length rest → IsBadAt s bytes place
byte_too_many s bytes xs todo rest place r p next some =
    let none = nothing_to_come s bytes xs todo rest r next in
    let stuck : IsStuck todo rest = λ item behind n i e. none_is_next todo item none n in
    subst (IsBadAt s bytes) (sym p) (stuck_is_bad s bytes xs todo rest r stuck (λ _ e. omega (arith, ap length e)))
