use Rattle.std.proofs.Common.{refl}
use Rattle.kp_schema.specs.Messages.{fields_of, messages}
use Rattle.kp_schema.specs.ApiVersions.{response}
use Rattle.api_versions.proofs.narrowing.versions_law.Goals as goal

pub returns-clause-v0 : goal.returns-clause-v0
unfolding fields_of messages response
returns-clause-v0 c = refl

pub returns-clause-v1 : goal.returns-clause-v1
unfolding fields_of messages response
returns-clause-v1 c = refl

pub returns-clause-v2 : goal.returns-clause-v2
unfolding fields_of messages response
returns-clause-v2 c = refl
