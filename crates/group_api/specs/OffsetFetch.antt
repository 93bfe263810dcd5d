-- OffsetFetch (key 9, versions 1 to 5): "The Messages: OffsetFetch API" of the protocol guide.
use Rattle.std.specs.Prelude.{[], ◌∷◌, map, option_map}
use Rattle.group_api.specs.declared.offset_fetch.OffsetFetchRequest.{OffsetFetchRequest}
use Rattle.group_api.specs.declared.offset_fetch.OffsetFetchRequestTopic.{OffsetFetchRequestTopic}
use Rattle.group_api.specs.declared.offset_fetch.OffsetFetchResponse.{OffsetFetchResponse}
use Rattle.group_api.specs.declared.offset_fetch.OffsetFetchResponsePartition.{OffsetFetchResponsePartition}
use Rattle.group_api.specs.declared.offset_fetch.OffsetFetchResponseTopic.{OffsetFetchResponseTopic}
use Rattle.views.specs.Format.{Format, Fields, format, int16_field, int16_in, int32_field, int32_in, int64_field, text_field, array_field}
use Rattle.views.specs.Entries.{number_fields, number_format}

unfoldable pub offset_fetch_request_topic_format : Format
offset_fetch_request_topic_format = format (
    text_field ∷  -- name
    array_field number_format ∷  -- partition_indexes
    [])

unfoldable pub offset_fetch_request_topic_fields : OffsetFetchRequestTopic → Fields offset_fetch_request_topic_format
unfolding offset_fetch_request_topic_format
offset_fetch_request_topic_fields entry = (entry.name, (option_map (map number_fields) entry.partition_indexes, tt))

abbrev pub offset_fetch_request_format : Format
offset_fetch_request_format = format (
    text_field ∷  -- group_id
    array_field offset_fetch_request_topic_format ∷  -- topics
    [])

abbrev pub offset_fetch_request_fields : OffsetFetchRequest → Fields offset_fetch_request_format
offset_fetch_request_fields view = (view.group_id, (option_map (map offset_fetch_request_topic_fields) view.topics, tt))

unfoldable pub offset_fetch_response_partition_format : Format
offset_fetch_response_partition_format = format (
    int32_field ∷  -- index
    int64_field ∷  -- committed_offset
    int32_in 6 5 5 ∷  -- committed_leader_epoch
    text_field ∷  -- metadata
    int16_field ∷  -- error_code
    [])

unfoldable pub offset_fetch_response_partition_fields : OffsetFetchResponsePartition → Fields offset_fetch_response_partition_format
unfolding offset_fetch_response_partition_format
offset_fetch_response_partition_fields entry = (entry.index, (entry.committed_offset, (entry.committed_leader_epoch, (entry.metadata, (entry.error_code, tt)))))

unfoldable pub offset_fetch_response_topic_format : Format
offset_fetch_response_topic_format = format (
    text_field ∷  -- name
    array_field offset_fetch_response_partition_format ∷  -- partitions
    [])

unfoldable pub offset_fetch_response_topic_fields : OffsetFetchResponseTopic → Fields offset_fetch_response_topic_format
unfolding offset_fetch_response_topic_format
offset_fetch_response_topic_fields entry = (entry.name, (option_map (map offset_fetch_response_partition_fields) entry.partitions, tt))

abbrev pub offset_fetch_response_format : Format
offset_fetch_response_format = format (
    int32_in 0 3 5 ∷  -- throttle_time_ms
    array_field offset_fetch_response_topic_format ∷  -- topics
    int16_in 9 2 5 ∷  -- error_code
    [])

abbrev pub offset_fetch_response_fields : OffsetFetchResponse → Fields offset_fetch_response_format
offset_fetch_response_fields view = (view.throttle_time_ms, (option_map (map offset_fetch_response_topic_fields) view.topics, (view.error_code, tt)))
