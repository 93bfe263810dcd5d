-- The fields of a Produce request ("The Messages: Produce API").
use Rattle.std.specs.Prelude.{ℤ, pos, Some}
use Rattle.kp_schema.specs.declared.dir.Dir.TheVariants.{Request}
use Rattle.kp_schema.specs.declared.kind.Kind.TheVariants as kinds
use Rattle.tree_spelling.specs.Shape.{Shape, End, Plain, Array}
use Rattle.tree_spelling.specs.Value.{Value}
use Rattle.filter_core.specs.Acks.{acks_in}
use Rattle.filter_core.specs.Fields.{ReadsFields}

-- index, records
abbrev pub asked_partition : Shape
asked_partition = Plain kinds.I32 (Plain kinds.Bytes End)

-- name, partitions
abbrev pub asked_topic : Shape
asked_topic = Plain kinds.Str (Array asked_partition End)

-- transactional_id, acks, timeout_ms, topics
abbrev pub produce_request : Shape
produce_request = Plain kinds.Str (Plain kinds.I16 (Plain kinds.I32 (Array asked_topic End)))

abbrev pub acks_of : Value produce_request → ℤ
acks_of request = request.1.0

-- in a Produce request of this version `acks_in` finds the field acks
abbrev pub FindsAcks : ℤ → Type 0
FindsAcks version = ReadsFields (pos 0) version Request produce_request acks_in (λ request. Some (acks_of request))
