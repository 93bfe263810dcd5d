-- How the logic stores what a read came to.
use Rattle.std.specs.Prelude.{◌≡◌, ℕ, Bool, true, false, List, ◌⊎◌, refl}
use Rattle.std.specs.Coded.{Coded, code_by, coded⊎, coded_list, coded_ℕ, coded_bool}
use mathlib.Core.Logic.{inl, inr}
use Rattle.kp_edge.specs.Source.{ReadOutcome, Bytes, AtEnd, Failure}

abbrev to_parts : ReadOutcome → List ℕ ⊎ Bool
to_parts (Bytes xs) = inl xs
to_parts AtEnd = inr true
to_parts Failure = inr false

abbrev from_parts : List ℕ ⊎ Bool → ReadOutcome
from_parts (inl xs) = Bytes xs
from_parts (inr true) = AtEnd
from_parts (inr false) = Failure

pub from_parts-to_parts : (r : ReadOutcome) → from_parts (to_parts r) ≡ r
from_parts-to_parts (Bytes xs) = refl
from_parts-to_parts AtEnd = refl
from_parts-to_parts Failure = refl

abbrev pub outcome_code : Coded ReadOutcome
outcome_code = code_by (List ℕ ⊎ Bool) (coded⊎ (coded_list coded_ℕ) coded_bool) to_parts from_parts from_parts-to_parts
