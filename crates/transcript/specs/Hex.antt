use Rattle.std.specs.Prelude.{◌≡◌, ◌≢◌, ℕ, ◌⊎◌, List, [], ◌∷◌, codes, Ok}
use Rattle.hex.specs.Hex.{decode_of, encode_lower}

-- the text stands for the bytes: `-` for none, or else two hexadecimal digits for each, in either case
abbrev pub SpellsBytes : List ℕ → List ℕ → Type 0
SpellsBytes bytes text = ((bytes ≡ []) × (text ≡ codes "-")) ⊎ ((bytes ≢ []) × (decode_of text ≡ Ok bytes))

-- how bytes are printed: `-` for none, or else two lower case digits for each
abbrev pub hex_text : List ℕ → List ℕ
hex_text [] = codes "-"
hex_text (byte ∷ bytes) = encode_lower (byte ∷ bytes)
