-- A move of the filter inside is one of the filter around it.
use Rattle.std.proofs.Common.{◌≡◌, sym, subst, List, [], ◌∷◌, ◌++◌}
use Rattle.tree_spelling.specs.Body.{Contents}
use Rattle.filter_core.specs.declared.input.Input.{Input}
use Rattle.filter_core.specs.declared.moves.Move.{Move}
use Rattle.filter_core.specs.declared.moves.Move.TheVariants.{Forward, Side, Hold, Return, Shut}
use Rattle.filter_core.specs.Decision.{Decision, Turn, Makes}
use Rattle.any_filter.specs.declared.any_filter.AnyFilter.{AnyFilter}
use Rattle.any_filter.specs.declared.any_pending.AnyPending.{AnyPending}
use Rattle.any_filter.specs.AnyTurn.{any_turn, any_stands, move_with}

makes_with : {P : Type 0} (wrap : P → AnyPending) (before : P → Type 0) (after : AnyPending → Type 0) (decision : Decision) (made : Move P)
    → ((kept : P) → before kept → after (wrap kept)) → Makes before decision made → Makes after decision (move_with wrap made)
makes_with wrap before after decision (Forward message kept) keeps makes = (makes.0, keeps kept makes.1)
makes_with wrap before after decision (Side message kept) keeps makes = (makes.0, keeps kept makes.1)
makes_with wrap before after decision (Hold key kept) keeps makes = (makes.0, keeps kept makes.1)
makes_with wrap before after decision (Return response) keeps makes = makes
makes_with wrap before after decision (Shut reason) keeps makes = makes

-- the move on an input, where nothing but the first request is kept in mind
abbrev MovesFirst : {P : Type 0} → Turn → Input → Move P → Type 0
MovesFirst turn input made =
    (request : Contents) (inputs : List Input) → inputs ≡ [] → Makes (λ kept. inputs ++ input ∷ [] ≡ []) (turn request (inputs ++ input ∷ [])) made

abbrev AnyMoves : AnyFilter → AnyPending → Input → Move AnyPending → Type 0
AnyMoves filter pending input made =
    (request : Contents) (inputs : List Input) → any_stands filter pending request inputs
    → Makes (λ kept. any_stands filter kept request (inputs ++ input ∷ [])) (any_turn filter request (inputs ++ input ∷ [])) made

-- this filter, with such a pending value, stands for a request without inputs
pub record StandsFirst {P : Type 0} (wrap : P → AnyPending) (filter : AnyFilter) : Type 0 where
  pub first : (kept : P) (request : Contents) (inputs : List Input) → any_stands filter (wrap kept) request inputs → inputs ≡ []
  pub back : (kept : P) (request : Contents) (inputs : List Input) → inputs ≡ [] → any_stands filter (wrap kept) request inputs

pub resumed : {P : Type 0} (wrap : P → AnyPending) (filter here : AnyFilter) (pending : AnyPending) (kept : P) (input : Input) (made : Move P) (result : Move AnyPending)
    → filter ≡ here → pending ≡ wrap kept → StandsFirst wrap here → MovesFirst (any_turn here) input made → result ≡ move_with wrap made → AnyMoves filter pending input result
resumed wrap filter here pending kept input made result filter_is pending_is stands moves is =
    subst (λ f. AnyMoves f pending input result) (sym filter_is)
    (subst (λ p. AnyMoves here p input result) (sym pending_is)
    (subst (λ m. AnyMoves here (wrap kept) input m) (sym is)
    (λ request inputs there. makes_with wrap (λ kept. inputs ++ input ∷ [] ≡ []) (λ kept. any_stands here kept request (inputs ++ input ∷ [])) (any_turn here request (inputs ++ input ∷ [])) made
    (λ kept. stands.back kept request (inputs ++ input ∷ [])) (moves request inputs (stands.first kept request inputs there)))))
