use Rattle.std.specs.Prelude.{◌≡◌, ℕ, ◌-◌, ◌<◌, List, ◌++◌, length, take}

-- a sink in memory that fails only where its room is used up
pub record Store : Type 0 where
  -- what was taken, in order
  pub taken : List ℕ
  -- how many more bytes it takes
  pub room : ℕ
  -- how many writes failed
  pub faults : ℕ

-- a store has no room for the piece: all of it is used up, and there are bytes to take
abbrev pub IsFullFor : Store → List ℕ → Type 0
IsFullFor store piece = (store.room ≡ 0) × (0 < length piece)

-- the store after a write that took the first n bytes of the piece
abbrev pub after_taking : Store → List ℕ → ℕ → Store
after_taking store piece n = record store { taken = store.taken ++ take n piece; room = store.room - n }
