-- The words of a command.
use Rattle.std.proofs.Common.{◌≡◌, ℕ, Bool, true, false, not, refl, List, [], ◌∷◌, map, length, slice_index_or, sym, ◌∙◌, ap, arith, String, Global}
use Rattle.std.specs.Prelude.{string_bytes, IsTrue, codes, get_or, ◌↔◌}
use Rattle.std.specs.Str.{bytes_eq}
use Rattle.std.proofs.lemmas.Slice.Eq.{bytes_eq-Decides}
use Rattle.proxy_main.specs.Words.{IsReplay}

pub lone_word : (words : List (String Global)) (w : String Global) (text : List ℕ) (r : Bool) → length words ≡ 1 → w ≡ slice_index_or words 0 w → text ≡ string_bytes w → r ≡ bytes_eq text (codes "replay") → IsTrue r ↔ IsReplay (map string_bytes words)
lone_word [] w text r len is text_is r_is = absurd (omega (arith, len))
lone_word (v ∷ []) w text r len is text_is r_is =
    let d = bytes_eq-Decides text (codes "replay") in (
      λ t. ap (λ x. x ∷ []) (ap string_bytes (sym is) ∙ sym text_is ∙ d.0 (sym r_is ∙ t)),
      λ e. r_is ∙ d.1 (text_is ∙ ap string_bytes is ∙ ap (λ xs. get_or xs 0 []) e),
    )
lone_word (v ∷ (u ∷ us)) w text r len is text_is r_is = absurd (omega (arith, len))

pub three_words : (words : List (String Global)) (w f c : String Global) (text file cluster : List ℕ) → length words ≡ 3
    → w ≡ slice_index_or words 0 w → f ≡ slice_index_or words 1 f → c ≡ slice_index_or words 2 c
    → text ≡ string_bytes w → file ≡ string_bytes f → cluster ≡ string_bytes c
    → map string_bytes words ≡ text ∷ (file ∷ (cluster ∷ []))
three_words [] w f c text file cluster len w_is f_is c_is t_is file_is cluster_is = absurd (omega (arith, len))
three_words (a ∷ []) w f c text file cluster len w_is f_is c_is t_is file_is cluster_is = absurd (omega (arith, len))
three_words (a ∷ (b ∷ [])) w f c text file cluster len w_is f_is c_is t_is file_is cluster_is = absurd (omega (arith, len))
three_words (a ∷ (b ∷ (d ∷ []))) w f c text file cluster len w_is f_is c_is t_is file_is cluster_is =
    let first : string_bytes a ≡ text = ap string_bytes (sym w_is) ∙ sym t_is in
    let second : string_bytes b ≡ file = ap string_bytes (sym f_is) ∙ sym file_is in
    let third : string_bytes d ≡ cluster = ap string_bytes (sym c_is) ∙ sym cluster_is in
    cc
three_words (a ∷ (b ∷ (d ∷ (e ∷ es)))) w f c text file cluster len w_is f_is c_is t_is file_is cluster_is = absurd (omega (arith, len))

-- a word that isn't another one is the same
pub not_other : (b r : Bool) → r ≡ not b → r ≡ false → b ≡ true
not_other true r r_is fails = refl
not_other false r r_is fails = cc
