-- A body: which message's it is, and its items.
use Rattle.std.specs.Prelude.{◌≡◌, ℕ, ℤ, List}
use Rattle.kp_schema.specs.declared.dir.Dir.{Dir}
use Rattle.tree_spelling.specs.declared.primitive.Primitive.{Primitive}
use Rattle.tree_spelling.specs.Shape.{Shape, message_shape}
use Rattle.tree_spelling.specs.Value.{Value, items_of}
use Rattle.tree_spelling.specs.Spelling.{AreInRange, IsSpelledBy}

pub record Contents : Type 0 where
  pub key : ℤ
  pub version : ℤ
  pub dir : Dir
  pub items : List Primitive

abbrev pub body_shape : Contents → Shape
body_shape body = message_shape body.key body.version body.dir

-- the body is this tree
abbrev pub HasValue : (body : Contents) → Value (body_shape body) → Type 0
HasValue body value = body.items ≡ items_of (body_shape body) value

-- Each body is some tree with the fields of its version, and has a spelling: each number is in the range
-- of its type, and each length, or count, is one that can be said.
pub record IsTree (body : Contents) : Type 0 where
  pub value : Value (body_shape body)
  pub is : HasValue body value
  pub in_range : AreInRange body.items

-- a body of this message, by key, version and direction
pub record IsOf (key : ℤ) (version : ℤ) (dir : Dir) (body : Contents) : Type 0 where
  pub key_is : body.key ≡ key
  pub version_is : body.version ≡ version
  pub dir_is : body.dir ≡ dir

-- the body is the value that the bytes spell
pub record IsReadFrom (key : ℤ) (version : ℤ) (dir : Dir) (bytes : List ℕ) (body : Contents) : Type 0 where
  pub of : IsOf key version dir body
  pub value : Value (message_shape key version dir)
  pub items_are : body.items ≡ items_of (message_shape key version dir) value
  pub spelled : IsSpelledBy (message_shape key version dir) value bytes
