-- What holds of each format.
use Rattle.std.specs.Prelude.{◌≡◌, ℤ, []}
use Rattle.views.specs.Format.{Format, Fields}
use Rattle.views.specs.Reading.{items_before}
use Rattle.views.specs.Fitting.{FitVersion}

-- Items are those of one view at most that fits the version. So the view of a view's body has the same fields.
abbrev pub ItemsHaveOneView : Type 0
ItemsHaveOneView =
    (format : Format) (version : ℤ) (x y : Fields format) → FitVersion format version x → FitVersion format version y → items_before format x [] ≡ items_before format y [] → x ≡ y
