-- What holds of the whole table, whatever rows are added to it. A test is computed over every row.
use Rattle.std.specs.Prelude.{ℕ, ℤ, pos, Bool, true, false, not, if◌then◌else◌, ◌&&◌, ◌||◌, ◌+◌, ◌==◌, nat_lt, nat_le, int_le, List, [], ◌∷◌, find, Option, Some, None, IsTrue, IfSome}
use Rattle.std.specs.List.{list_all}
use Rattle.kp_schema.specs.declared.dir.Dir.{Dir}
use Rattle.kp_schema.specs.declared.field.Field.{Field}
use Rattle.kp_schema.specs.declared.kind.Kind.{Kind}
use Rattle.kp_schema.specs.declared.kind.Kind.TheVariants.{Str, Array}
use Rattle.kp_schema.specs.declared.mark.Mark.{Mark}
use Rattle.kp_schema.specs.declared.mark.Mark.TheVariants.{Plain}
use Rattle.kp_schema.specs.Message.{Message}
use Rattle.kp_schema.specs.Messages.{messages, fields_of}

-- each key is less than all that follow it
abbrev pub are_rising : List Message → Bool
are_rising [] = true
are_rising (m ∷ ms) = list_all (λ n. nat_lt m.key n.key) ms && are_rising ms

-- every row of the table passes, in both directions
abbrev pub InEachRow : (Message → Field → Bool) → Type 0
InEachRow test = IsTrue (list_all (λ m. list_all (test m) m.request && list_all (test m) m.response) messages)

-- the rows of every message pass, in both directions
abbrev pub InEachMessage : (List Field → Bool) → Type 0
InEachMessage test = IsTrue (list_all (λ m. test m.request && test m.response) messages)

-- the fields of every version of every message pass
abbrev pub InEachVersion : (List Field → Bool) → Type 0
InEachVersion test = (key version : ℤ) (dir : Dir) → IfSome (fields_of key version dir) (λ fs. IsTrue (test fs))

-- a row's versions are some of its message's, the first not behind the last
abbrev pub has_versions_of : Message → Field → Bool
has_versions_of m f = int_le (pos m.least) f.from && int_le f.from f.to && int_le f.to (pos m.greatest)

abbrev pub is_text : Kind → Bool
is_text Str = true
is_text _ = false

abbrev pub is_array : Kind → Bool
is_array Array = true
is_array _ = false

abbrev pub is_plain : Mark → Bool
is_plain Plain = true
is_plain _ = false

-- a mark stands on a text alone
abbrev pub is_text_if_marked : Message → Field → Bool
is_text_if_marked m f = is_plain f.mark || is_text f.kind

-- each version that has the one has the other too
abbrev pub stays_within : Field → Field → Bool
stays_within inner outer = int_le outer.from inner.from && int_le inner.to outer.to

-- right behind an array lies the first field of its entries, one deeper and in all its versions;
-- behind any other field none lies deeper
abbrev pub is_followed_by : Field → List Field → Bool
is_followed_by f [] = not (is_array f.kind)
is_followed_by f (g ∷ gs) =
    if is_array f.kind then (g.depth == f.depth + 1) && stays_within f g else nat_le g.depth f.depth

abbrev pub deepen_at_arrays : List Field → Bool
deepen_at_arrays [] = true
deepen_at_arrays (f ∷ fs) = is_followed_by f fs && deepen_at_arrays fs

-- the nearest of the rows before a field that lies less deep; they are listed from the nearest on
abbrev pub parent_of : ℕ → List Field → Option Field
parent_of depth before = find (λ g. nat_lt g.depth depth) before

-- a field with no parent lies at depth 0; a parent is an array, one less deep, in each of its versions
abbrev pub lies_in : Option Field → Field → Bool
lies_in None f = f.depth == 0
lies_in (Some g) f = is_array g.kind && (f.depth == g.depth + 1) && stays_within f g

abbrev pub nest_behind : List Field → List Field → Bool
nest_behind before [] = true
nest_behind before (f ∷ fs) = lies_in (parent_of f.depth before) f && nest_behind (f ∷ before) fs

abbrev pub are_nested : List Field → Bool
are_nested fs = nest_behind [] fs
