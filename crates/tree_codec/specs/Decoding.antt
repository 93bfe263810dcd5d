-- What the decoder has read.
use Rattle.std.specs.Prelude.{◌≡◌, ℕ, List, length}
use Rattle.wire_types.specs.Reading.{unread}
use Rattle.tree_spelling.specs.declared.primitive.Primitive.{Primitive}
use Rattle.tree_spelling.specs.Primitives.{total_entries}
use Rattle.tree_spelling.specs.Shape.{Shape}
use Rattle.tree_spelling.specs.Value.{Value, items_of}
use Rattle.tree_spelling.specs.Spelling.{spelling, IsSpelledBy}
use Rattle.tree_spelling.specs.Agenda.{ItemsReadSoFar}
use Rattle.tree_spelling.specs.Decoded.{Decoded, BadAt, TooManyAt}
use Rattle.tree_codec.specs.declared.decode_fault.DecodeFault.{DecodeFault}
use Rattle.tree_codec.specs.declared.decode_fault.DecodeFault.TheVariants.{NotSpelled, TooManyEntries, NoMemory}
use Rattle.tree_codec.specs.declared.item_reader.ItemReader.{ItemReader}
use Rattle.tree_codec.specs.Levels.{todo_of}

-- the items are those of the value that the bytes spell
pub record AreItemsOf (shape : Shape) (bytes : List ℕ) (items : List Primitive) : Type 0 where
  pub value : Value shape
  pub items_are : items ≡ items_of shape value
  pub spelled : IsSpelledBy shape value bytes

-- the reader has read these items of bytes that are to spell a value of this shape
pub record IsReaderOf (shape : Shape) (bytes : List ℕ) (items : List Primitive) (reader : ItemReader) : Type 0 where
  pub read : ItemsReadSoFar shape bytes items (todo_of reader.agenda) (unread reader.reader)
  pub frame : reader.reader.bytes ≡ bytes
  pub place : reader.reader.at ≡ length (spelling items)
  pub entries : reader.entries ≡ total_entries items

-- the fault that bytes have, by what they are decoded to
abbrev pub HasFault : Decoded → DecodeFault → Type 0
HasFault outcome (NotSpelled at) = outcome ≡ BadAt at
HasFault outcome (TooManyEntries at) = outcome ≡ TooManyAt at
HasFault outcome NoMemory = Unit {0}
