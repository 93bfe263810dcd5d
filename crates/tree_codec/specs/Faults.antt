-- What a fault of the decoder says.
use Rattle.std.specs.Prelude.{◌≡◌, ℕ, List, ◌++◌, IsTrue}
use Rattle.kp_schema.specs.declared.kind.Kind.{Kind}
use Rattle.wire_types.specs.declared.read_fault.ReadFault.{ReadFault}
use Rattle.wire_types.specs.Reading.{place_of}
use Rattle.tree_spelling.specs.declared.primitive.Primitive.{Primitive}
use Rattle.tree_spelling.specs.Primitives.{spelled, IsInRange}
use Rattle.tree_spelling.specs.Shape.{Shape}
use Rattle.tree_spelling.specs.Spelling.{IsBadAt, HasTooManyAt}
use Rattle.tree_spelling.specs.Agenda.{is_kind}
use Rattle.tree_codec.specs.declared.decode_fault.DecodeFault.{DecodeFault}
use Rattle.tree_codec.specs.declared.decode_fault.DecodeFault.TheVariants.{NotSpelled, TooManyEntries, NoMemory}

-- the bytes go wrong there, in that way, if they are to spell a body of this shape
abbrev pub IsFaultOf : Shape → List ℕ → DecodeFault → Type 0
IsFaultOf shape bytes (NotSpelled at) = IsBadAt shape bytes at
IsFaultOf shape bytes (TooManyEntries at) = HasTooManyAt shape bytes at
IsFaultOf shape bytes NoMemory = Unit {0}

-- an item that can't be read isn't spelled where it begins
abbrev pub as_not_spelled : ReadFault → DecodeFault
as_not_spelled fault = NotSpelled (place_of fault)

-- the bytes that aren't read begin with no item of this kind
abbrev pub NoneIsSpelled : Kind → List ℕ → Type 0
NoneIsSpelled kind rest =
    (item : Primitive) (behind : List ℕ) → IsTrue (is_kind kind item) → IsInRange item → rest ≡ spelled item ++ behind → ⊥

abbrev pub IsNoMemory : DecodeFault → Type 0
IsNoMemory fault = fault ≡ NoMemory
