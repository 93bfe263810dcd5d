-- Which bytes spell which value, and where bytes go wrong that spell none.
use Rattle.std.specs.Prelude.{◌≡◌, ℕ, ◌+◌, ◌<◌, ◌≤◌, List, ◌∷◌, ◌++◌, length, Some}
use Rattle.std.specs.List.{flat_map, AllByRecursion}
use Rattle.tree_spelling.specs.declared.primitive.Primitive.{Primitive}
use Rattle.tree_spelling.specs.declared.primitive.Primitive.TheVariants.{Count}
use Rattle.tree_spelling.specs.Primitives.{spelled, IsInRange, total_entries}
use Rattle.tree_spelling.specs.Shape.{Shape}
use Rattle.tree_spelling.specs.Value.{Value, items_of}

-- the items' spellings, one behind the other
abbrev pub spelling : List Primitive → List ℕ
spelling items = flat_map spelled items

-- each number is in the range of its type, and each length, or count, is one that can be said
abbrev pub AreInRange : List Primitive → Type 0
AreInRange items = AllByRecursion IsInRange items

-- how many array entries a body may have that is read
abbrev pub max_entries : ℕ
max_entries = 8388608

-- items that can be read as they are spelled
pub record AreReadable (items : List Primitive) : Type 0 where
  pub in_range : AreInRange items
  pub within_limit : total_entries items ≤ max_entries

-- the bytes spell this value, and it may be read
pub record IsSpelledBy (shape : Shape) (value : Value shape) (bytes : List ℕ) : Type 0 where
  pub bytes_are : bytes ≡ spelling (items_of shape value)
  pub readable : AreReadable (items_of shape value)

-- these items are the first of some value that may be read
abbrev pub AreFirstItems : Shape → List Primitive → Type 0
AreFirstItems shape items =
    (value : Value shape) × (more : List Primitive) × (items_of shape value ≡ items ++ more) × AreReadable (items_of shape value)

-- the bytes begin with the spelling of these items, which are the first of some value
pub record BeginsWith (shape : Shape) (bytes : List ℕ) (items : List Primitive) (rest : List ℕ) : Type 0 where
  pub bytes_are : bytes ≡ spelling items ++ rest
  pub first : AreFirstItems shape items

-- the longest front of the bytes that spells the first items of some value
pub record LongestFront (shape : Shape) (bytes : List ℕ) (items : List Primitive) (rest : List ℕ) : Type 0 where
  pub front : BeginsWith shape bytes items rest
  pub longest : (others : List Primitive) (left : List ℕ) → BeginsWith shape bytes others left → length (spelling others) ≤ length (spelling items)

-- behind these items some value has this count, which the rest begins with, and which passes the limit
-- together with the counts before
pub record PassesLimit (shape : Shape) (items : List Primitive) (rest : List ℕ) : Type 0 where
  pub entries : ℕ
  pub value : Value shape
  pub more : List Primitive
  pub next : items_of shape value ≡ items ++ (Count (Some entries) ∷ more)
  pub in_range : IsInRange (Count (Some entries))
  pub behind : List ℕ
  pub read : rest ≡ spelled (Count (Some entries)) ++ behind
  pub passes : max_entries < total_entries items + entries

-- no value that may be read is spelled by the bytes
abbrev pub IsNotSpelled : Shape → List ℕ → Type 0
IsNotSpelled shape bytes = (value : Value shape) → IsSpelledBy shape value bytes → ⊥

-- The bad place of bytes: they spell nothing, and the longest front that makes sense ends there. The
-- next item is a count that passes the limit, or it can't be read, or it is a byte too many.
pub record IsBadAt (shape : Shape) (bytes : List ℕ) (place : ℕ) : Type 0 where
  pub unspelled : IsNotSpelled shape bytes
  pub items : List Primitive
  pub rest : List ℕ
  pub front : LongestFront shape bytes items rest
  pub place_is : place ≡ length (spelling items)
  pub not_passed : PassesLimit shape items rest → ⊥

pub record HasTooManyAt (shape : Shape) (bytes : List ℕ) (place : ℕ) : Type 0 where
  pub unspelled : IsNotSpelled shape bytes
  pub items : List Primitive
  pub rest : List ℕ
  pub front : LongestFront shape bytes items rest
  pub place_is : place ≡ length (spelling items)
  pub passed : PassesLimit shape items rest
