-- What a sink took since.
use Rattle.std.specs.Prelude.{◌≡◌, List, ℕ, ◌++◌, Option, Some}

-- where the sink tells it: all these bytes more
abbrev pub Appends : Option (List ℕ) → List ℕ → Option (List ℕ) → Type 0
Appends before bytes after = (taken : List ℕ) → before ≡ Some taken → after ≡ Some (taken ++ bytes)

-- a front of these bytes
pub record AppendsFront (before : Option (List ℕ)) (bytes : List ℕ) (after : Option (List ℕ)) : Type 0 where
  pub front : List ℕ
  pub missing : List ℕ
  pub parts : bytes ≡ front ++ missing
  pub appends : Appends before front after
