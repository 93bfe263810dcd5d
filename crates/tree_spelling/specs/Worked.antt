-- Bodies worked through by hand.
use Rattle.std.specs.Prelude.{◌≡◌, ℕ, List, [], ◌∷◌, pos, None, Some}
use Rattle.kp_schema.specs.declared.dir.Dir.TheVariants.{Request, Response}
use Rattle.tree_spelling.specs.declared.primitive.Primitive.TheVariants.{Int16, Count}
use Rattle.tree_spelling.specs.Shape.{message_shape}
use Rattle.tree_spelling.specs.Decoded.{decoded, AllItems, BadAt, TooManyAt}

-- a Heartbeat request of version 0: group "g", generation 1, member "m", and one byte more
abbrev pub heartbeat_and_a_byte : List ℕ
heartbeat_and_a_byte = 0 ∷ 1 ∷ 103 ∷ 0 ∷ 0 ∷ 0 ∷ 1 ∷ 0 ∷ 1 ∷ 109 ∷ 0 ∷ []

-- an ApiVersions response of version 0: no error, and versions 0 to 3 of key 0
abbrev pub versions_of_one : List ℕ
versions_of_one = 0 ∷ 0 ∷ 0 ∷ 0 ∷ 0 ∷ 1 ∷ 0 ∷ 0 ∷ 0 ∷ 0 ∷ 0 ∷ 3 ∷ []

pub record WorkedRows : Type 0 where
  -- the byte too many stands at place 10
  pub a_byte_too_many : decoded (message_shape (pos 12) (pos 0) Request) heartbeat_and_a_byte ≡ BadAt 10
  -- a Metadata request of version 1 with one entry more than may be read
  pub an_entry_too_many : decoded (message_shape (pos 3) (pos 1) Request) (0 ∷ 128 ∷ 0 ∷ 1 ∷ []) ≡ TooManyAt 0
  -- three entries, and none of them there
  pub no_entry_there : decoded (message_shape (pos 3) (pos 1) Request) (0 ∷ 0 ∷ 0 ∷ 3 ∷ []) ≡ BadAt 4
  -- -2 entries
  pub no_count : decoded (message_shape (pos 3) (pos 1) Request) (255 ∷ 255 ∷ 255 ∷ 254 ∷ []) ≡ BadAt 0
  -- null in place of the topics: all of them are asked for
  pub null_topics : decoded (message_shape (pos 3) (pos 1) Request) (255 ∷ 255 ∷ 255 ∷ 255 ∷ []) ≡ AllItems (Count None ∷ [])
  pub one_version : decoded (message_shape (pos 18) (pos 0) Response) versions_of_one ≡ AllItems (Int16 (pos 0) ∷ Count (Some 1) ∷ Int16 (pos 0) ∷ Int16 (pos 0) ∷ Int16 (pos 3) ∷ [])
