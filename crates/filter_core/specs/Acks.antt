-- Which requests get no response ("The Messages: Produce API").
use Rattle.std.specs.Prelude.{ℤ, pos, Bool, false, ◌&&◌, List, ◌∷◌, Option, Some, None}
use Rattle.std.specs.Ordering.{int_eq}
use Rattle.tree_spelling.specs.declared.primitive.Primitive.{Primitive}
use Rattle.tree_spelling.specs.declared.primitive.Primitive.TheVariants.{Int16}
use Rattle.tree_spelling.specs.Body.{Contents}

-- the second field of a Produce request is `acks`, an INT16
abbrev pub acks_in : List Primitive → Option ℤ
acks_in (transactional_id ∷ (Int16 acks ∷ items)) = Some acks
acks_in _ = None

abbrev pub is_zero : Option ℤ → Bool
is_zero None = false
is_zero (Some number) = int_eq number (pos 0)

-- whether a request is a Produce with acks 0, to which a broker says nothing
abbrev pub has_acks_zero : Contents → Bool
has_acks_zero request = int_eq request.key (pos 0) && is_zero (acks_in request.items)
