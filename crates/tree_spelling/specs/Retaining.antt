-- A body with some entries of an array left out.
use Rattle.std.specs.Prelude.{ℕ, zero, suc, Bool, if◌then◌else◌, List, [], ◌∷◌, slice_get, slice_set, Option, Some, None, Result, Ok, Err}
use Rattle.std.specs.Option.{option_map}
use Rattle.tree_spelling.specs.declared.edit_fault.EditFault.{EditFault}
use Rattle.tree_spelling.specs.declared.edit_fault.EditFault.TheVariants.{NoSuch, WrongKind}
use Rattle.tree_spelling.specs.Shape.{Shape, End, Plain, Array}
use Rattle.tree_spelling.specs.Value.{Value}

-- with this done to the result, if there is one
abbrev pub within : {A B : Type 0} → (A → B) → Result A EditFault → Result B EditFault
within f (Ok x) = Ok (f x)
within f (Err fault) = Err fault

-- the members whose flag is true; a member without a flag goes
abbrev pub flagged : {A : Type 0} → List Bool → List A → List A
flagged flags [] = []
flagged [] (x ∷ xs) = []
flagged (flag ∷ flags) (x ∷ xs) = if flag then x ∷ flagged flags xs else flagged flags xs

-- an array with one entry changed, if that can be
abbrev pub entry_changed : {A : Type 0} → (A → Result A EditFault) → List A → ℕ → Option A → Result (Option (List A)) EditFault
entry_changed change entries i None = Err NoSuch
entry_changed change entries i (Some entry) = within (λ new. Some (slice_set entries i new)) (change entry)

-- The array itself loses entries if the path ends there, and else an array in the entry that the path goes on to. Null
-- stays null, and has no entry.
abbrev pub array_flagged : {A : Type 0} → (A → ℕ → List ℕ → Result A EditFault) → List Bool → Option (List A) → List ℕ → Result (Option (List A)) EditFault
array_flagged in_entry flags entries [] = Ok (option_map (flagged flags) entries)
array_flagged in_entry flags entries (i ∷ []) = Err NoSuch
array_flagged in_entry flags None (i ∷ field ∷ path) = Err NoSuch
array_flagged in_entry flags (Some entries) (i ∷ field ∷ path) = entry_changed (λ entry. in_entry entry field path) entries i (slice_get entries i)

-- a field that isn't an array has no entries to lose
abbrev pub no_array : {A : Type 0} → List ℕ → Result A EditFault
no_array [] = Err WrongKind
no_array (i ∷ path) = Err NoSuch

-- the value, from a field on
abbrev pub field_flagged : (shape : Shape) → Value shape → List Bool → ℕ → List ℕ → Result (Value shape) EditFault
field_flagged End value flags field path = Err NoSuch
field_flagged (Plain kind rest) value flags zero path = no_array path
field_flagged (Plain kind rest) value flags (suc field) path = within (λ w. (value.0, w)) (field_flagged rest value.1 flags field path)
field_flagged (Array entry rest) value flags zero path = within (λ array. (array, value.1)) (array_flagged (λ e. field_flagged entry e flags) flags value.0 path)
field_flagged (Array entry rest) value flags (suc field) path = within (λ w. (value.0, w)) (field_flagged rest value.1 flags field path)

-- the value with those entries alone of the array that the path names, or why there is no such array
abbrev pub value_flagged : (shape : Shape) → Value shape → List ℕ → List Bool → Result (Value shape) EditFault
value_flagged shape value [] flags = Err NoSuch
value_flagged shape value (field ∷ path) flags = field_flagged shape value flags field path
