-- The items of a view's fields, in reading order.
use Rattle.std.specs.Prelude.{List, [], ◌∷◌, length, Option, Some, None}
use Rattle.tree_spelling.specs.declared.primitive.Primitive.{Primitive}
use Rattle.tree_spelling.specs.declared.primitive.Primitive.TheVariants.{Count}
use Rattle.tree_spelling.specs.Value.{leaf_item}
use Rattle.views.specs.Format.{Format, Finished, Single, SingleIn, Several, SeveralIn, Fields}

-- what is given, before the rest; nothing if it is missing
unfoldable pub given_before : {A : Type 0} → (A → List Primitive → List Primitive) → Option A → List Primitive → List Primitive
given_before f None rest = rest
given_before f (Some x) rest = f x rest

abbrev pub entries_before : {A : Type 0} → (A → List Primitive → List Primitive) → List A → List Primitive → List Primitive
entries_before f [] rest = rest
entries_before f (entry ∷ entries) rest = f entry (entries_before f entries rest)

-- an array's count and its entries, before the rest
unfoldable pub array_before : {A : Type 0} → (A → List Primitive → List Primitive) → Option (List A) → List Primitive → List Primitive
array_before f None rest = Count None ∷ rest
array_before f (Some entries) rest = Count (Some (length entries)) ∷ entries_before f entries rest

-- the fields' items in reading order, before the rest
abbrev pub items_before : (format : Format) → Fields format → List Primitive → List Primitive
items_before Finished fields rest = rest
items_before (Single kind more) fields rest = leaf_item kind fields.0 ∷ items_before more fields.1 rest
items_before (SingleIn number first last kind more) fields rest =
    given_before (λ x behind. leaf_item kind x ∷ behind) fields.0 (items_before more fields.1 rest)
items_before (Several entry more) fields rest =
    array_before (items_before entry) fields.0 (items_before more fields.1 rest)
items_before (SeveralIn number first last entry more) fields rest =
    given_before (array_before (items_before entry)) fields.0 (items_before more fields.1 rest)
