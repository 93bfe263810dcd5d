-- Where ids are listed they are asked about.
use Rattle.std.proofs.Common.{◌≡◌, refl, ℕ, List, [], ◌∷◌, length}
use Rattle.tree_spelling.specs.Body.{Contents}
use Rattle.filter_core.specs.Decision.{Side}
use Rattle.stock_filters.specs.GroupLive.{asked_about, group_question}

pub asks_about : (response : Contents) (ids : List (List ℕ)) (n : ℕ) → n ≡ length ids → (n ≡ 0 → ⊥) → asked_about response ids ≡ Side (group_question ids)
asks_about response [] n same some = absurd (some same)
asks_about response (id ∷ ids) n same some = refl
