-- OffsetCommit (key 8, versions 2 to 7): "The Messages: OffsetCommit API" of the protocol guide.
use Rattle.std.specs.Prelude.{[], ◌∷◌, map, option_map}
use Rattle.group_api.specs.declared.offset_commit.OffsetCommitRequest.{OffsetCommitRequest}
use Rattle.group_api.specs.declared.offset_commit.OffsetCommitRequestPartition.{OffsetCommitRequestPartition}
use Rattle.group_api.specs.declared.offset_commit.OffsetCommitRequestTopic.{OffsetCommitRequestTopic}
use Rattle.group_api.specs.declared.offset_commit.OffsetCommitResponse.{OffsetCommitResponse}
use Rattle.group_api.specs.declared.offset_commit.OffsetCommitResponsePartition.{OffsetCommitResponsePartition}
use Rattle.group_api.specs.declared.offset_commit.OffsetCommitResponseTopic.{OffsetCommitResponseTopic}
use Rattle.views.specs.Format.{Format, Fields, format, int16_field, int32_field, int32_in, int64_field, int64_in, text_field, text_in, array_field}

unfoldable pub offset_commit_request_partition_format : Format
offset_commit_request_partition_format = format (
    int32_field ∷  -- index
    int64_field ∷  -- committed_offset
    int32_in 10 6 7 ∷  -- committed_leader_epoch
    text_field ∷  -- committed_metadata
    [])

unfoldable pub offset_commit_request_partition_fields : OffsetCommitRequestPartition → Fields offset_commit_request_partition_format
unfolding offset_commit_request_partition_format
offset_commit_request_partition_fields entry = (entry.index, (entry.committed_offset, (entry.committed_leader_epoch, (entry.committed_metadata, tt))))

unfoldable pub offset_commit_request_topic_format : Format
offset_commit_request_topic_format = format (
    text_field ∷  -- name
    array_field offset_commit_request_partition_format ∷  -- partitions
    [])

unfoldable pub offset_commit_request_topic_fields : OffsetCommitRequestTopic → Fields offset_commit_request_topic_format
unfolding offset_commit_request_topic_format
offset_commit_request_topic_fields entry = (entry.name, (option_map (map offset_commit_request_partition_fields) entry.partitions, tt))

abbrev pub offset_commit_request_format : Format
offset_commit_request_format = format (
    text_field ∷  -- group_id
    int32_field ∷  -- generation_id
    text_field ∷  -- member_id
    text_in 3 7 7 ∷  -- group_instance_id
    int64_in 4 2 4 ∷  -- retention_time_ms
    array_field offset_commit_request_topic_format ∷  -- topics
    [])

abbrev pub offset_commit_request_fields : OffsetCommitRequest → Fields offset_commit_request_format
offset_commit_request_fields view = (view.group_id, (view.generation_id, (view.member_id, (view.group_instance_id, (view.retention_time_ms, (option_map (map offset_commit_request_topic_fields) view.topics, tt))))))

unfoldable pub offset_commit_response_partition_format : Format
offset_commit_response_partition_format = format (
    int32_field ∷  -- index
    int16_field ∷  -- error_code
    [])

unfoldable pub offset_commit_response_partition_fields : OffsetCommitResponsePartition → Fields offset_commit_response_partition_format
unfolding offset_commit_response_partition_format
offset_commit_response_partition_fields entry = (entry.index, (entry.error_code, tt))

unfoldable pub offset_commit_response_topic_format : Format
offset_commit_response_topic_format = format (
    text_field ∷  -- name
    array_field offset_commit_response_partition_format ∷  -- partitions
    [])

unfoldable pub offset_commit_response_topic_fields : OffsetCommitResponseTopic → Fields offset_commit_response_topic_format
unfolding offset_commit_response_topic_format
offset_commit_response_topic_fields entry = (entry.name, (option_map (map offset_commit_response_partition_fields) entry.partitions, tt))

abbrev pub offset_commit_response_format : Format
offset_commit_response_format = format (
    int32_in 0 3 7 ∷  -- throttle_time_ms
    array_field offset_commit_response_topic_format ∷  -- topics
    [])

abbrev pub offset_commit_response_fields : OffsetCommitResponse → Fields offset_commit_response_format
offset_commit_response_fields view = (view.throttle_time_ms, (option_map (map offset_commit_response_topic_fields) view.topics, tt))
