-- The levels of the arrays as a list of shapes.
use Rattle.std.proofs.Common.{◌≡◌, ◌≢◌, ℕ, zero, suc, ◌-◌, List, [], ◌∷◌, ◌++◌, refl, sym, ap, ◌∙◌, append_assoc, append-nil, arith}
use Rattle.tree_spelling.specs.Shape.{Shape, End}
use Rattle.tree_spelling.specs.Agenda.{settled, copies}
use Rattle.tree_codec.specs.declared.level.Level.{Level}
use Rattle.tree_codec.specs.Levels.{level_shapes, levels_below}

-- the newest level comes first
pub levels_below-push : (ls : List Level) (l : Level) → levels_below (ls ++ l ∷ []) ≡ level_shapes l ++ levels_below ls
levels_below-push [] l = sym (append-nil (level_shapes l))
levels_below-push (k ∷ ls) l =
    ap (λ z. z ++ level_shapes k) (levels_below-push ls l) ∙ append_assoc (level_shapes l) (levels_below ls) (level_shapes k)

-- where an entry has no field left, the next one begins
pub next_entry : (f e : Shape) (n : ℕ) (t : List Shape) → f ≡ End → n ≢ 0 → settled ((e ∷ copies (n - 1) e) ++ t) ≡ settled ((f ∷ copies n e) ++ t)
next_entry f e zero t h some = absurd (some refl)
next_entry f e (suc n) t h some =
    let less : suc n - 1 ≡ n = omega arith in
    ap (λ m. settled ((e ∷ copies m e) ++ t)) less ∙ ap (λ s. settled ((s ∷ copies (suc n) e) ++ t)) (sym h)
