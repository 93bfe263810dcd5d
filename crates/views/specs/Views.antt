-- A view is its body.
use Rattle.std.specs.Prelude.{◌≡◌, ℕ, ◌≤◌, ℤ, ◌⊎◌, List, [], ◌∷◌, Some}
use Rattle.std.specs.List.{AllByRecursion}
use Rattle.kp_schema.specs.declared.dir.Dir.{Dir}
use Rattle.tree_spelling.specs.Body.{Contents}
use Rattle.views.specs.declared.view_fault.ViewFault.{ViewFault}
use Rattle.views.specs.declared.view_fault.ViewFault.TheVariants.{WrongApi, Misplaced, TooLong, NoMemory}
use Rattle.views.specs.Format.{Format, Fields}
use Rattle.views.specs.Reading.{items_before}
use Rattle.views.specs.Fitting.{FitVersion, unfit_fields}
use Rattle.views.specs.Lengths.{first_excess}

-- the body of a view, by key, direction, version, format and fields
abbrev pub view_body : ℤ → Dir → ℤ → (format : Format) → Fields format → Contents
view_body key dir version format fields =
    record { key = key; version = version; dir = dir; items = items_before format fields [] }

abbrev pub IsAmong : ℕ → List ℕ → Type 0
IsAmong number [] = ⊥
IsAmong number (other ∷ others) = (number ≡ other) ⊎ IsAmong number others

-- the least of these numbers
pub record IsLeastOf (numbers : List ℕ) (number : ℕ) : Type 0 where
  pub is_one : IsAmong number numbers
  pub least : AllByRecursion (λ other. number ≤ other) numbers

-- why there is no body of a view
abbrev pub HasNoBody : ℤ → (format : Format) → Fields format → ViewFault → Type 0
HasNoBody version format fields WrongApi = ⊥
HasNoBody version format fields (Misplaced field) = IsLeastOf (unfit_fields format version fields) field
HasNoBody version format fields (TooLong len) =
    FitVersion format version fields × (first_excess (items_before format fields []) ≡ Some len)
HasNoBody version format fields NoMemory = Unit {0}
