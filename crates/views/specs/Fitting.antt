-- Whether each field is given exactly where its version has it.
use Rattle.std.specs.Prelude.{◌≡◌, ℕ, ◌+◌, ℤ, pos, Bool, true, false, List, [], ◌∷◌, ◌++◌, Option, Some, None, is_some}
use Rattle.std.specs.List.{flat_map, AllByRecursion}
use Rattle.kp_schema.specs.Field.{is_between}
use Rattle.views.specs.Format.{Format, Finished, Single, SingleIn, Several, SeveralIn, Fields}

-- whether a version is one of those from the first to the last, which have a field
unfoldable pub is_wanted : ℤ → ℤ → ℤ → Bool
is_wanted first last version = is_between first last version

unfoldable pub AllEntriesFit : {A : Type 0} → (A → Type 0) → Option (List A) → Type 0
AllEntriesFit P None = Unit {0}
AllEntriesFit P (Some entries) = AllByRecursion P entries

unfoldable pub FitsIfGiven : {A : Type 0} → (A → Type 0) → Option A → Type 0
FitsIfGiven P None = Unit {0}
FitsIfGiven P (Some x) = P x

-- each field is given that the version has, and no other
abbrev pub FitVersion : (format : Format) → ℤ → Fields format → Type 0
FitVersion Finished version fields = Unit {0}
FitVersion (Single kind more) version fields = FitVersion more version fields.1
FitVersion (SingleIn number first last kind more) version fields =
    (is_some fields.0 ≡ is_wanted (pos first) (pos last) version) × FitVersion more version fields.1
FitVersion (Several entry more) version fields =
    AllEntriesFit (FitVersion entry version) fields.0 × FitVersion more version fields.1
FitVersion (SeveralIn number first last entry more) version fields =
    (is_some fields.0 ≡ is_wanted (pos first) (pos last) version) × (FitsIfGiven (AllEntriesFit (FitVersion entry version)) fields.0 × FitVersion more version fields.1)

unfoldable pub is_same : Bool → Bool → Bool
is_same true true = true
is_same false false = true
is_same _ _ = false

-- this number, where it is that of a field that is given and not wanted, or wanted and not given
abbrev pub if_unfit : ℕ → Bool → List ℕ
if_unfit field true = []
if_unfit field false = field ∷ []

abbrev pub in_each_entry : {A : Type 0} → (A → List ℕ) → Option (List A) → List ℕ
in_each_entry f None = []
in_each_entry f (Some entries) = flat_map f entries

abbrev pub in_given : {A : Type 0} → (A → List ℕ) → Option A → List ℕ
in_given f None = []
in_given f (Some x) = f x

-- The numbers of the fields that don't fit the version, entry by entry.
abbrev pub unfit_fields : (format : Format) → ℤ → Fields format → List ℕ
unfit_fields Finished version fields = []
unfit_fields (Single kind more) version fields = unfit_fields more version fields.1
unfit_fields (SingleIn number first last kind more) version fields =
    if_unfit number (is_same (is_some fields.0) (is_wanted (pos first) (pos last) version)) ++ unfit_fields more version fields.1
unfit_fields (Several entry more) version fields =
    in_each_entry (unfit_fields entry version) fields.0 ++ unfit_fields more version fields.1
unfit_fields (SeveralIn number first last entry more) version fields =
    if_unfit number (is_same (is_some fields.0) (is_wanted (pos first) (pos last) version)) ++ (in_given (in_each_entry (unfit_fields entry version)) fields.0 ++ unfit_fields more version fields.1)
