-- That bytes tell the item that they begin with.
use Rattle.std.specs.Prelude.{◌≡◌, ℕ, List, ◌++◌}

-- no spelling begins another one: where bytes begin with two, the items are one, and so is what follows
abbrev pub OneSpelling : {A : Type 0} → (A → List ℕ) → (A → Type 0) → Type 0
OneSpelling {A} spelling IsSpelled = (a b : A) (x y : List ℕ) → IsSpelled a → IsSpelled b → spelling a ++ x ≡ spelling b ++ y → (a ≡ b) × (x ≡ y)
