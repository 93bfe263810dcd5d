-- `topic-policy`: an authority says which topics of a CreateTopics request may be created.
use Rattle.std.specs.Prelude.{ℕ, pos, Bool, false, nat_eq, List, [], ◌∷◌, length, map, Option, Some}
use Rattle.std.proofs.Common.{rules}
use Rattle.tree_spelling.specs.declared.primitive.Primitive.{Primitive}
use Rattle.tree_spelling.specs.declared.primitive.Primitive.TheVariants.{Text, Count}
use Rattle.tree_spelling.specs.Spelling.{spelling}
use Rattle.tree_spelling.specs.Body.{Contents}
use Rattle.filter_core.specs.declared.input.Input.{Input}
use Rattle.filter_core.specs.declared.input.Input.TheVariants.{Verdict}
use Rattle.filter_core.specs.Decision.{Decision, HoldFor, Turn}
use Rattle.filter_core.specs.Laws.{IsLawful}
use Rattle.stock_filters.specs.CreateTopics.{topic_names, creates_topics, screening}
use Rattle.stock_filters.specs.ScreenLaws.{IsScreen, screening_lawful}

-- an array of STRING: the topics' names in order
abbrev pub name_items : List (Option (List ℕ)) → List Primitive
name_items names = Count (Some (length names)) ∷ map Text names

abbrev pub policy_question : Contents → Decision
policy_question request = HoldFor (spelling (name_items (topic_names request)))

-- a topic may be created exactly where its byte of the verdict is there, and is 0
abbrev pub allowed_flags : List (Option (List ℕ)) → List ℕ → List Bool
allowed_flags [] verdict = []
allowed_flags (name ∷ names) [] = false ∷ allowed_flags names []
allowed_flags (name ∷ names) (byte ∷ verdict) = nat_eq byte 0 ∷ allowed_flags names verdict

abbrev pub verdict_given : Input → List ℕ
verdict_given (Verdict verdict) = verdict
verdict_given input = []

abbrev pub policy_flags : Contents → Input → List Bool
policy_flags request input = allowed_flags (topic_names request) (verdict_given input)

-- the others are refused with TOPIC_AUTHORIZATION_FAILED (29)
abbrev pub topic_policy : Turn
topic_policy = screening creates_topics policy_question policy_flags (pos 29)

policy_screens : IsScreen creates_topics policy_question (pos 29)
policy_screens = record { creates = λ request is. is; known = λ request whole is. tt; fits = search rules }

pub topic_policy_lawful : IsLawful topic_policy
topic_policy_lawful = screening_lawful creates_topics policy_question policy_flags (pos 29) policy_screens
