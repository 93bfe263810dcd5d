-- The computed tests, and what follows from them for each key and version.
use Rattle.std.proofs.Common.{refl}
use Rattle.kp_schema.specs.Laws.{are_nested, deepen_at_arrays}
use Rattle.kp_schema.specs.Messages.{fields_of, is_supported, messages, supported_versions}
use Rattle.kp_schema.proofs.Computed.{computed}
use Rattle.kp_schema.proofs.Found.{is_some-fields_of}
use Rattle.kp_schema.proofs.Versions.{pass_fields_among}
use Rattle.kp_schema.proofs.laws.table_laws.Goals as goal

pub returns-clause-keys_rise : goal.returns-clause-keys_rise
unfolding messages
returns-clause-keys_rise c = refl

pub returns-clause-supported : goal.returns-clause-supported
returns-clause-supported c = λ key version dir. is_some-fields_of key version dir

pub returns-clause-api_versions : goal.returns-clause-api_versions
unfolding messages is_supported supported_versions
returns-clause-api_versions c = refl

pub returns-clause-versions : goal.returns-clause-versions
returns-clause-versions c = computed.versions

pub returns-clause-marks : goal.returns-clause-marks
returns-clause-marks c = computed.marks

pub returns-clause-nested : goal.returns-clause-nested
returns-clause-nested c = computed.nested

pub returns-clause-depths : goal.returns-clause-depths
returns-clause-depths c = computed.depths

pub returns-clause-nested_in_version : goal.returns-clause-nested_in_version
unfolding fields_of
returns-clause-nested_in_version c =
    λ key version dir. pass_fields_among are_nested key version dir messages computed.nested_in_version

pub returns-clause-depths_in_version : goal.returns-clause-depths_in_version
unfolding fields_of
returns-clause-depths_in_version c =
    λ key version dir. pass_fields_among deepen_at_arrays key version dir messages computed.depths_in_version
