-- The tests of the laws, computed over every row. A message that is added joins the `unfolding` line.
use Rattle.std.proofs.Common.{◌≡◌, true, refl}
use Rattle.std.specs.List.{list_all}
use Rattle.kp_schema.specs.Laws.{InEachRow, InEachMessage, has_versions_of, is_text_if_marked, deepen_at_arrays, are_nested}
use Rattle.kp_schema.specs.Messages.{messages}
use Rattle.kp_schema.proofs.Versions.{pass}
use Rattle.kp_schema.specs.Produce
use Rattle.kp_schema.specs.Fetch
use Rattle.kp_schema.specs.ListOffsets
use Rattle.kp_schema.specs.Metadata
use Rattle.kp_schema.specs.OffsetCommit
use Rattle.kp_schema.specs.OffsetFetch
use Rattle.kp_schema.specs.FindCoordinator
use Rattle.kp_schema.specs.JoinGroup
use Rattle.kp_schema.specs.Heartbeat
use Rattle.kp_schema.specs.LeaveGroup
use Rattle.kp_schema.specs.SyncGroup
use Rattle.kp_schema.specs.DescribeGroups
use Rattle.kp_schema.specs.ListGroups
use Rattle.kp_schema.specs.ApiVersions
use Rattle.kp_schema.specs.CreateTopics
use Rattle.kp_schema.specs.DeleteTopics

pub record PassesAll : Type 0 where
  pub versions : InEachRow has_versions_of
  pub marks : InEachRow is_text_if_marked
  pub depths : InEachMessage deepen_at_arrays
  pub depths_in_version : list_all (pass deepen_at_arrays) messages ≡ true
  pub nested : InEachMessage are_nested
  pub nested_in_version : list_all (pass are_nested) messages ≡ true

pub computed : PassesAll
unfolding messages
    Produce.request Produce.response
    Fetch.request Fetch.response
    ListOffsets.request ListOffsets.response
    Metadata.request Metadata.response
    OffsetCommit.request OffsetCommit.response
    OffsetFetch.request OffsetFetch.response
    FindCoordinator.request FindCoordinator.response
    JoinGroup.request JoinGroup.response
    Heartbeat.request Heartbeat.response
    LeaveGroup.request LeaveGroup.response
    SyncGroup.request SyncGroup.response
    DescribeGroups.request DescribeGroups.response
    ListGroups.request ListGroups.response
    ApiVersions.request ApiVersions.response
    CreateTopics.request CreateTopics.response
    DeleteTopics.request DeleteTopics.response
computed = record {
  versions = refl;
  marks = refl;
  depths = refl;
  depths_in_version = refl;
  nested = refl;
  nested_in_version = refl;
}
