-- A body that is copied item by item, but for some entries of an array.
use Rattle.std.specs.Prelude.{◌≡◌, ℕ, zero, suc, ◌+◌, Bool, false, if◌then◌else◌, List, [], ◌∷◌, ◌++◌, length, take, drop, slice_get, Option, Some, None, Result, MatchResult}
use Rattle.std.specs.List.{flat_map}
use Rattle.tree_spelling.specs.declared.primitive.Primitive.{Primitive}
use Rattle.tree_spelling.specs.declared.primitive.Primitive.TheVariants.{Count}
use Rattle.tree_spelling.specs.declared.edit_fault.EditFault.{EditFault}
use Rattle.tree_spelling.specs.Shape.{Shape}
use Rattle.tree_spelling.specs.Value.{Value, items_of}
use Rattle.tree_spelling.specs.Body.{Contents}
use Rattle.tree_spelling.specs.Retaining.{flagged}

-- the body with these items behind its own
abbrev pub followed_by : Contents → List Primitive → Contents
followed_by body items = record body { items = body.items ++ items }

-- whether the member with this number has a true flag
abbrev pub is_flag : Option Bool → Bool
is_flag None = false
is_flag (Some flag) = flag

abbrev pub flag_at : List Bool → ℕ → Bool
flag_at flags i = is_flag (slice_get flags i)

-- how many of so many members have one
abbrev pub flag_count : List Bool → ℕ → ℕ
flag_count flags zero = 0
flag_count flags (suc n) = flag_count flags n + (if flag_at flags n then 1 else 0)

-- What was copied and what is left to copy are the items of this value, and what follows them.
pub record IsCopied (shape : Shape) (more : List Primitive) (new : Value shape) (before after : Contents) (left : List Primitive) : Type 0 where
  pub copied : List Primitive
  pub after_is : after ≡ followed_by before copied
  pub items_are : copied ++ left ≡ items_of shape new ++ more

-- that value is there
abbrev pub IsFlagged : (shape : Shape) → List Primitive → Result (Value shape) EditFault → Contents → Contents → List Primitive → Type 0
IsFlagged shape more result before after left = MatchResult result (λ new. IsCopied shape more new before after left) (λ fault. ⊥)

-- the entries of the first `n` that have a true flag were copied
pub record AreCopied (entry : Shape) (entries : List (Value entry)) (flags : List Bool) (more : List Primitive) (n : ℕ) (before after : Contents) (left : List Primitive) : Type 0 where
  pub after_is : after ≡ followed_by before (flat_map (items_of entry) (flagged flags (take n entries)))
  pub rest_is : left ≡ flat_map (items_of entry) (drop n entries) ++ more

-- The array that these items begin with was copied with those entries alone that have a true flag.
abbrev pub ArrayIsCopied : (entry : Shape) → List Primitive → List Bool → Contents → Contents → List Primitive → Type 0
ArrayIsCopied entry (Count None ∷ more) flags before after left = (after ≡ followed_by before (Count None ∷ [])) × (left ≡ more)
ArrayIsCopied entry (Count (Some n) ∷ behind) flags before after left =
    (entries : List (Value entry)) (more : List Primitive) → length entries ≡ n → behind ≡ flat_map (items_of entry) entries ++ more
    → (after ≡ followed_by before (Count (Some (length (flagged flags entries))) ∷ flat_map (items_of entry) (flagged flags entries))) × (left ≡ more)
ArrayIsCopied entry _ flags before after left = ⊥

-- the items begin with no array
abbrev pub BeginsWithNoArray : List Primitive → Type 0
BeginsWithNoArray (Count n ∷ more) = ⊥
BeginsWithNoArray _ = Unit {0}
