use Rattle.std.proofs.Common.{rules, ◌≡◌, ◌∙◌, ap, refl, ℕ, List, [], ◌∷◌, ◌++◌, length, slice_index_or}
use Rattle.serving.proofs.frame.head_of.Goals as goal

abbrev four : List ℕ → List ℕ
four xs = slice_index_or xs 0 0 ∷ slice_index_or xs 1 0 ∷ slice_index_or xs 2 0 ∷ slice_index_or xs 3 0 ∷ []

four_is : (xs : List ℕ) → length xs ≡ 4 → four xs ≡ xs
four_is [] h = cc
four_is (a ∷ []) h = cc
four_is (a ∷ b ∷ []) h = cc
four_is (a ∷ b ∷ c ∷ []) h = cc
four_is (a ∷ b ∷ c ∷ d ∷ []) h = refl
four_is (a ∷ b ∷ c ∷ d ∷ e ∷ xs) h = cc

pub returns : goal.returns
returns c =
    let size : length c.args.size ≡ 4 = search rules in
    let before : length c.args.before ≡ 4 = search rules in
    let id : length c.args.id ≡ 4 = search rules in
    ap (λ xs. xs ++ four c.args.before ++ four c.args.id) (four_is c.args.size size)
    ∙ (ap (λ xs. c.args.size ++ xs ++ four c.args.id) (four_is c.args.before before)
    ∙ ap (λ xs. c.args.size ++ c.args.before ++ xs) (four_is c.args.id id))
