-- What holds of the spelling, over every shape.
use Rattle.std.specs.Prelude.{◌≡◌, ◌<◌, ◌↔◌, ℕ, List, ◌++◌, get_or}
use Rattle.tree_spelling.specs.declared.primitive.Primitive.{Primitive}
use Rattle.tree_spelling.specs.Shape.{Shape}
use Rattle.tree_spelling.specs.Value.{Value, items_of}
use Rattle.tree_spelling.specs.Spelling.{spelling, AreInRange, IsSpelledBy, IsBadAt, HasTooManyAt}
use Rattle.tree_spelling.specs.Decoded.{decoded, AllItems, BadAt, TooManyAt}

-- bytes spell one value at most
abbrev pub EachValueHasOneSpelling : Type 0
EachValueHasOneSpelling =
    (shape : Shape) (a b : Value shape) → AreInRange (items_of shape a) → AreInRange (items_of shape b) → spelling (items_of shape a) ≡ spelling (items_of shape b) → a ≡ b

-- where bytes begin with the spellings of two values of one shape, these are one, and so is what follows
abbrev pub NoSpellingBeginsAnother : Type 0
NoSpellingBeginsAnother =
    (shape : Shape) (a b : Value shape) (x y : List ℕ) → AreInRange (items_of shape a) → AreInRange (items_of shape b) → spelling (items_of shape a) ++ x ≡ spelling (items_of shape b) ++ y → (a ≡ b) × (x ≡ y)

-- bytes have one bad place at most, and one of its two faults
abbrev pub FaultsAreOne : Type 0
FaultsAreOne =
    (shape : Shape) (bytes : List ℕ) (p q : ℕ) →
    (IsBadAt shape bytes p → IsBadAt shape bytes q → p ≡ q) × (HasTooManyAt shape bytes p → HasTooManyAt shape bytes q → p ≡ q) × (IsBadAt shape bytes p → HasTooManyAt shape bytes q → ⊥)

-- bytes that spell a value have none
abbrev pub SpelledHasNoFault : Type 0
SpelledHasNoFault =
    (shape : Shape) (value : Value shape) (bytes : List ℕ) (place : ℕ) → IsSpelledBy shape value bytes → (IsBadAt shape bytes place → ⊥) × (HasTooManyAt shape bytes place → ⊥)

-- each number is a byte
abbrev pub AreBytes : List ℕ → Type 0
AreBytes bytes = (i : ℕ) → get_or bytes i 0 < 256

-- these are the items of the value that the bytes spell
abbrev pub SpellItems : Shape → List ℕ → List Primitive → Type 0
SpellItems shape bytes items = (value : Value shape) × (items ≡ items_of shape value) × IsSpelledBy shape value bytes

-- What bytes are decoded to is all that they spell: the items of their value, or else their bad place and its fault.
abbrev pub DecodedIsSpelled : Type 0
DecodedIsSpelled =
    (shape : Shape) (bytes : List ℕ) → AreBytes bytes →
    ((items : List Primitive) → (decoded shape bytes ≡ AllItems items) ↔ SpellItems shape bytes items) × ((place : ℕ) → (decoded shape bytes ≡ BadAt place) ↔ IsBadAt shape bytes place) × ((place : ℕ) → (decoded shape bytes ≡ TooManyAt place) ↔ HasTooManyAt shape bytes place)
