use Rattle.std.proofs.Common.{◌≡◌, refl, ℤ, pos, Bool, true, false}
use Rattle.std.specs.Prelude.{IsTrue}
use Rattle.kp_schema.specs.Field.{is_between}
use Rattle.kp_schema.specs.Messages.{fields_of, messages, is_supported, supported_versions}
use Rattle.kp_schema.specs.Produce as Produce
use Rattle.filter_core.specs.ProduceFields.{FindsAcks}
use Rattle.filter_core.proofs.laws.acks_law.Goals as goal

finds_acks : (version : ℤ) (b : Bool) → is_between (pos 3) (pos 8) version ≡ b → IsTrue (is_supported (pos 0) version) → FindsAcks version
unfolding fields_of messages is_supported supported_versions Produce.request
finds_acks version true is supported = record { fields_are = rw is refl; reads = λ request. refl }
finds_acks version false is supported = absurd (let e : false ≡ true = rw is at supported in cc)

pub returns : goal.returns
returns c version supported = finds_acks version (is_between (pos 3) (pos 8) version) refl supported
