-- ListOffsets (key 2, versions 1 to 5): "The Messages: ListOffsets API" of the protocol guide.
use Rattle.std.specs.Prelude.{[], ◌∷◌, map, option_map}
use Rattle.log_api.specs.declared.list_offsets.ListOffsetsRequest.{ListOffsetsRequest}
use Rattle.log_api.specs.declared.list_offsets.ListOffsetsRequestPartition.{ListOffsetsRequestPartition}
use Rattle.log_api.specs.declared.list_offsets.ListOffsetsRequestTopic.{ListOffsetsRequestTopic}
use Rattle.log_api.specs.declared.list_offsets.ListOffsetsResponse.{ListOffsetsResponse}
use Rattle.log_api.specs.declared.list_offsets.ListOffsetsResponsePartition.{ListOffsetsResponsePartition}
use Rattle.log_api.specs.declared.list_offsets.ListOffsetsResponseTopic.{ListOffsetsResponseTopic}
use Rattle.views.specs.Format.{Format, Fields, format, int8_in, int16_field, int32_field, int32_in, int64_field, text_field, array_field}

unfoldable pub list_offsets_request_partition_format : Format
list_offsets_request_partition_format = format (
    int32_field ∷  -- index
    int32_in 6 4 5 ∷  -- current_leader_epoch
    int64_field ∷  -- timestamp
    [])

unfoldable pub list_offsets_request_partition_fields : ListOffsetsRequestPartition → Fields list_offsets_request_partition_format
unfolding list_offsets_request_partition_format
list_offsets_request_partition_fields entry = (entry.index, (entry.current_leader_epoch, (entry.timestamp, tt)))

unfoldable pub list_offsets_request_topic_format : Format
list_offsets_request_topic_format = format (
    text_field ∷  -- name
    array_field list_offsets_request_partition_format ∷  -- partitions
    [])

unfoldable pub list_offsets_request_topic_fields : ListOffsetsRequestTopic → Fields list_offsets_request_topic_format
unfolding list_offsets_request_topic_format
list_offsets_request_topic_fields entry = (entry.name, (option_map (map list_offsets_request_partition_fields) entry.partitions, tt))

abbrev pub list_offsets_request_format : Format
list_offsets_request_format = format (
    int32_field ∷  -- replica_id
    int8_in 1 2 5 ∷  -- isolation_level
    array_field list_offsets_request_topic_format ∷  -- topics
    [])

abbrev pub list_offsets_request_fields : ListOffsetsRequest → Fields list_offsets_request_format
list_offsets_request_fields view = (view.replica_id, (view.isolation_level, (option_map (map list_offsets_request_topic_fields) view.topics, tt)))

unfoldable pub list_offsets_response_partition_format : Format
list_offsets_response_partition_format = format (
    int32_field ∷  -- index
    int16_field ∷  -- error_code
    int64_field ∷  -- timestamp
    int64_field ∷  -- offset
    int32_in 8 4 5 ∷  -- leader_epoch
    [])

unfoldable pub list_offsets_response_partition_fields : ListOffsetsResponsePartition → Fields list_offsets_response_partition_format
unfolding list_offsets_response_partition_format
list_offsets_response_partition_fields entry = (entry.index, (entry.error_code, (entry.timestamp, (entry.offset, (entry.leader_epoch, tt)))))

unfoldable pub list_offsets_response_topic_format : Format
list_offsets_response_topic_format = format (
    text_field ∷  -- name
    array_field list_offsets_response_partition_format ∷  -- partitions
    [])

unfoldable pub list_offsets_response_topic_fields : ListOffsetsResponseTopic → Fields list_offsets_response_topic_format
unfolding list_offsets_response_topic_format
list_offsets_response_topic_fields entry = (entry.name, (option_map (map list_offsets_response_partition_fields) entry.partitions, tt))

abbrev pub list_offsets_response_format : Format
list_offsets_response_format = format (
    int32_in 0 2 5 ∷  -- throttle_time_ms
    array_field list_offsets_response_topic_format ∷  -- topics
    [])

abbrev pub list_offsets_response_fields : ListOffsetsResponse → Fields list_offsets_response_format
list_offsets_response_fields view = (view.throttle_time_ms, (option_map (map list_offsets_response_topic_fields) view.topics, tt))
