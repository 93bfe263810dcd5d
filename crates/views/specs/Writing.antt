-- A body as it is made of a view, item by item.
use Rattle.std.specs.Prelude.{ℕ, ◌+◌, ℤ, pos, Bool, true, false, nat_lt, if◌then◌else◌, List, [], ◌∷◌, length, Option, Some, None, is_some}
use Rattle.tree_spelling.specs.declared.primitive.Primitive.{Primitive}
use Rattle.tree_spelling.specs.declared.primitive.Primitive.TheVariants.{Count}
use Rattle.tree_spelling.specs.Value.{leaf_item}
use Rattle.tree_spelling.specs.Body.{Contents}
use Rattle.tree_spelling.specs.Building.{with_next}
use Rattle.views.specs.Format.{Format, Finished, Single, SingleIn, Several, SeveralIn, Fields}
use Rattle.views.specs.Fitting.{is_same, is_wanted}
use Rattle.views.specs.Lengths.{excess}

-- what became of a body so far
pub data Draft : Type 0 where
  -- these items of it are there
  Begun : (body : Contents) → Draft
  -- this length was the first that can't be said
  Exceeded : (length : ℕ) → Draft
  -- this is the least number of a field that doesn't fit the version
  Unfit : (field : ℕ) → Draft

abbrev pub begun_with : Contents → Primitive → Option ℕ → Draft
begun_with body item None = Begun (with_next body item)
begun_with body item (Some len) = Exceeded len

-- the next item
unfoldable pub put_item : Primitive → Draft → Draft
put_item item (Begun body) = begun_with body item (excess item)
put_item item (Exceeded len) = Exceeded len
put_item item (Unfit field) = Unfit field

abbrev pub unfit_after : ℕ → Draft → Draft
unfit_after field (Begun body) = Unfit field
unfit_after field (Exceeded len) = Unfit field
unfit_after field (Unfit other) = Unfit (if nat_lt field other then field else other)

-- the field with this number is given or not, and wanted or not
unfoldable pub placed_field : ℕ → Bool → Draft → Draft
placed_field field true draft = draft
placed_field field false draft = unfit_after field draft

unfoldable pub put_if_given : {A : Type 0} → (A → Draft → Draft) → Option A → Draft → Draft
put_if_given f None draft = draft
put_if_given f (Some x) draft = f x draft

-- the field with this number, which the versions from the first to the last have: put where it is given
unfoldable pub put_field_in : {A : Type 0} → (A → Draft → Draft) → ℕ → ℤ → ℤ → ℤ → Option A → Draft → Draft
put_field_in f number first last version x draft =
    put_if_given f x (placed_field number (is_same (is_some x) (is_wanted first last version)) draft)

abbrev pub put_entries : {A : Type 0} → (A → Draft → Draft) → List A → Draft → Draft
put_entries f [] draft = draft
put_entries f (entry ∷ entries) draft = put_entries f entries (f entry draft)

unfoldable pub put_array : {A : Type 0} → (A → Draft → Draft) → Option (List A) → Draft → Draft
put_array f None draft = put_item (Count None) draft
put_array f (Some entries) draft = put_entries f entries (put_item (Count (Some (length entries))) draft)

-- the fields
abbrev pub put_fields : (format : Format) → ℤ → Fields format → Draft → Draft
put_fields Finished version fields draft = draft
put_fields (Single kind more) version fields draft =
    put_fields more version fields.1 (put_item (leaf_item kind fields.0) draft)
put_fields (SingleIn number first last kind more) version fields draft =
    put_fields more version fields.1 (put_field_in (λ x. put_item (leaf_item kind x)) number (pos first) (pos last) version fields.0 draft)
put_fields (Several entry more) version fields draft =
    put_fields more version fields.1 (put_array (put_fields entry version) fields.0 draft)
put_fields (SeveralIn number first last entry more) version fields draft =
    put_fields more version fields.1 (put_field_in (put_array (put_fields entry version)) number (pos first) (pos last) version fields.0 draft)
