-- The worked bodies are computed.
use Rattle.std.proofs.Common.{refl}
use Rattle.kp_schema.specs.ApiVersions
use Rattle.kp_schema.specs.Heartbeat
use Rattle.kp_schema.specs.Metadata
use Rattle.kp_schema.specs.Messages.{messages, fields_of}
use Rattle.tree_spelling.specs.Worked.{WorkedRows}

pub computed : WorkedRows
unfolding fields_of messages Heartbeat.request Metadata.request ApiVersions.response
computed = record {
  a_byte_too_many = refl;
  an_entry_too_many = refl;
  no_entry_there = refl;
  no_count = refl;
  null_topics = refl;
  one_version = refl;
}
