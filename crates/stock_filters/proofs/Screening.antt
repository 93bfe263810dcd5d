-- What a filter of CreateTopics requests keeps stands for what it was given.
use Rattle.std.proofs.Common.{◌≡◌, ◌∙◌, ap, sym, subst, ℕ, ℤ, Bool, true, false, if◌then◌else◌, List, [], ◌∷◌, ◌++◌, Option, Some, None}
use Rattle.std.specs.Option.{option_map}
use Rattle.tree_spelling.specs.Body.{Contents}
use Rattle.filter_core.specs.declared.input.Input.{Input}
use Rattle.filter_core.specs.declared.moves.Move.{Move}
use Rattle.filter_core.specs.declared.moves.Move.TheVariants as move
use Rattle.filter_core.specs.Decision.{Decision, Return, Makes}
use Rattle.filter_core.specs.Responses.{response_given}
use Rattle.filter_core.specs.TwoTurns.{handed_back}
use Rattle.stock_filters.specs.declared.create_topics.Screened.{Screened}
use Rattle.stock_filters.specs.CreateTopics.{topic_names, with_refused, refused_names, go_on, screening, KeepsRefused, IsScreening}

-- the same move by another name of the decision
makes_as : {P : Type 0} (keeps others : P → Type 0) (D E : Decision) (made : Move P) → D ≡ E → ((pending : P) → keeps pending → others pending) → Makes keeps D made → Makes others E made
makes_as keeps others D E (move.Forward message pending) same h m = (sym same ∙ m.0, h pending m.1)
makes_as keeps others D E (move.Side message pending) same h m = (sym same ∙ m.0, h pending m.1)
makes_as keeps others D E (move.Hold key pending) same h m = (sym same ∙ m.0, h pending m.1)
makes_as keeps others D E (move.Return response) same h m = sym same ∙ m
makes_as keeps others D E (move.Shut reason) same h m = sym same ∙ m

module _ (acts : Contents → Bool) (question : Contents → Decision) (flags : Contents → Input → List Bool) (error : ℤ) where
  keeps_screening : (request : Contents) (answer : Input) (held : Option Contents) (refuses : Bool) (names : List (Option (List ℕ))) → KeepsRefused request (flags request answer) held refuses names
      → IsScreening acts question flags error held refuses names request (answer ∷ [])
  keeps_screening request answer (Some held) refuses names h = absurd h
  keeps_screening request answer None false names h =
      λ input. ap (λ b. Return (if b then response_given input else option_map (with_refused error (refused_names (flags request answer) (topic_names request))) (response_given input))) h
  keeps_screening request answer None true names h =
      λ input. ap (λ b. Return (if b then response_given input else option_map (with_refused error (refused_names (flags request answer) (topic_names request))) (response_given input))) h.0
      ∙ ap (λ ns. Return (option_map (with_refused error ns) (response_given input))) (sym h.1)

  going_on : (request : Contents) (answer : Input) (made : Move Screened) → acts request ≡ true
      → Makes (λ (p : Screened). KeepsRefused request (flags request answer) p.request p.refuses p.refused.items) (go_on error request (flags request answer)) made
      → Makes (λ (p : Screened). IsScreening acts question flags error p.request p.refuses p.refused.items request (answer ∷ [])) (screening acts question flags error request (answer ∷ [])) made
  going_on request answer made is m =
      makes_as (λ (p : Screened). KeepsRefused request (flags request answer) p.request p.refuses p.refused.items) (λ (p : Screened). IsScreening acts question flags error p.request p.refuses p.refused.items request (answer ∷ []))
      (go_on error request (flags request answer)) (screening acts question flags error request (answer ∷ [])) made
      (sym (ap (λ b. if b then go_on error request (flags request answer) else handed_back answer) is)) (λ p h. keeps_screening request answer p.request p.refuses p.refused.items h) m

  -- where it held the request
  pub held_resumes : (held request : Contents) (inputs : List Input) (answer : Input) (refuses : Bool) (names : List (Option (List ℕ))) (made : Move Screened)
      → IsScreening acts question flags error (Some held) refuses names request inputs
      → Makes (λ (p : Screened). KeepsRefused held (flags held answer) p.request p.refuses p.refused.items) (go_on error held (flags held answer)) made
      → Makes (λ (p : Screened). IsScreening acts question flags error p.request p.refuses p.refused.items request (inputs ++ answer ∷ [])) (screening acts question flags error request (inputs ++ answer ∷ [])) made
  held_resumes held request inputs answer refuses names made h m =
      let n = subst (λ (r : Contents). Makes (λ (p : Screened). KeepsRefused r (flags r answer) p.request p.refuses p.refused.items) (go_on error r (flags r answer)) made) h.2 m in
      subst (λ (xs : List Input). Makes (λ (p : Screened). IsScreening acts question flags error p.request p.refuses p.refused.items request (xs ++ answer ∷ [])) (screening acts question flags error request (xs ++ answer ∷ [])) made) (sym h.0) (going_on request answer made h.1 n)
