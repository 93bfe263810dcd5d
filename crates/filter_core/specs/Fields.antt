-- Definitions that go over a message's items, tied to the fields of its version.
use Rattle.std.specs.Prelude.{◌≡◌, ℤ, List}
use Rattle.kp_schema.specs.declared.dir.Dir.{Dir}
use Rattle.tree_spelling.specs.declared.primitive.Primitive.{Primitive}
use Rattle.tree_spelling.specs.Shape.{Shape, message_shape}
use Rattle.tree_spelling.specs.Value.{Value, items_of}

-- The message has these fields in this version, and what is read of the items of a tree is what the tree has there,
-- whatever its values are.
pub record ReadsFields {A : Type 0} (key version : ℤ) (dir : Dir) (shape : Shape) (read : List Primitive → A) (there : Value shape → A) : Type 0 where
  pub fields_are : message_shape key version dir ≡ shape
  pub reads : (value : Value shape) → read (items_of shape value) ≡ there value
