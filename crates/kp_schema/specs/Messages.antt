-- The messages that are read, by rising key ("API Keys" of the protocol guide).
use Rattle.std.specs.Prelude.{ℤ, pos, Bool, ◌&&◌, List, [], ◌∷◌, map, find, Option, option_and_then}
use Rattle.std.specs.List.{list_any}
use Rattle.std.specs.Ordering.{int_eq}
use Rattle.kp_schema.specs.declared.dir.Dir.{Dir}
use Rattle.kp_schema.specs.declared.field.Field.{Field}
use Rattle.kp_schema.specs.ApiVersions
use Rattle.kp_schema.specs.CreateTopics
use Rattle.kp_schema.specs.DeleteTopics
use Rattle.kp_schema.specs.DescribeGroups
use Rattle.kp_schema.specs.Fetch
use Rattle.kp_schema.specs.FindCoordinator
use Rattle.kp_schema.specs.Heartbeat
use Rattle.kp_schema.specs.JoinGroup
use Rattle.kp_schema.specs.LeaveGroup
use Rattle.kp_schema.specs.ListGroups
use Rattle.kp_schema.specs.ListOffsets
use Rattle.kp_schema.specs.Metadata
use Rattle.kp_schema.specs.OffsetCommit
use Rattle.kp_schema.specs.OffsetFetch
use Rattle.kp_schema.specs.Produce
use Rattle.kp_schema.specs.SyncGroup
use Rattle.kp_schema.specs.Field.{is_between}
use Rattle.kp_schema.specs.Message.{Message, fields_at}

unfoldable pub messages : List Message
messages =
    Produce.message ∷
    Fetch.message ∷
    ListOffsets.message ∷
    Metadata.message ∷
    OffsetCommit.message ∷
    OffsetFetch.message ∷
    FindCoordinator.message ∷
    JoinGroup.message ∷
    Heartbeat.message ∷
    LeaveGroup.message ∷
    SyncGroup.message ∷
    DescribeGroups.message ∷
    ListGroups.message ∷
    ApiVersions.message ∷
    CreateTopics.message ∷
    DeleteTopics.message ∷
    []

-- an API's key, least and greatest version
abbrev pub versions_of : Message → ℤ × ℤ × ℤ
versions_of m = (pos m.key, pos m.least, pos m.greatest)

unfoldable pub supported_versions : List (ℤ × ℤ × ℤ)
supported_versions = map versions_of messages

-- whether one of these APIs has that key, and that version
abbrev pub is_one_of : List (ℤ × ℤ × ℤ) → ℤ → ℤ → Bool
is_one_of apis key version = list_any (λ api. int_eq api.0 key && is_between api.1 api.2 version) apis

-- whether that version of the API with that key is read
unfoldable pub is_supported : ℤ → ℤ → Bool
is_supported key version = is_one_of supported_versions key version

-- the fields of a message by its API's key, where that key and version are read
abbrev pub fields_among : List Message → ℤ → ℤ → Dir → Option (List Field)
fields_among ms key version dir =
    option_and_then (λ m. fields_at m dir version) (find (λ m. int_eq (pos m.key) key) ms)

unfoldable pub fields_of : ℤ → ℤ → Dir → Option (List Field)
fields_of key version dir = fields_among messages key version dir
