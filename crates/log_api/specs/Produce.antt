-- Produce (key 0, versions 3 to 8): "The Messages: Produce API" of the protocol guide.
use Rattle.std.specs.Prelude.{[], ◌∷◌, map, option_map}
use Rattle.log_api.specs.declared.produce_request.ProduceRequest.{ProduceRequest}
use Rattle.log_api.specs.declared.produce_request.ProduceRequestPartition.{ProduceRequestPartition}
use Rattle.log_api.specs.declared.produce_request.ProduceRequestTopic.{ProduceRequestTopic}
use Rattle.log_api.specs.declared.produce_response.ProduceResponse.{ProduceResponse}
use Rattle.log_api.specs.declared.produce_response.ProduceResponsePartition.{ProduceResponsePartition}
use Rattle.log_api.specs.declared.produce_response.ProduceResponseRecordError.{ProduceResponseRecordError}
use Rattle.log_api.specs.declared.produce_response.ProduceResponseTopic.{ProduceResponseTopic}
use Rattle.views.specs.Format.{Format, Fields, format, int16_field, int32_field, int64_field, int64_in, text_field, text_in, bytes_field, array_field, array_in}

unfoldable pub produce_request_partition_format : Format
produce_request_partition_format = format (
    int32_field ∷  -- index
    bytes_field ∷  -- records
    [])

unfoldable pub produce_request_partition_fields : ProduceRequestPartition → Fields produce_request_partition_format
unfolding produce_request_partition_format
produce_request_partition_fields entry = (entry.index, (entry.records, tt))

unfoldable pub produce_request_topic_format : Format
produce_request_topic_format = format (
    text_field ∷  -- name
    array_field produce_request_partition_format ∷  -- partitions
    [])

unfoldable pub produce_request_topic_fields : ProduceRequestTopic → Fields produce_request_topic_format
unfolding produce_request_topic_format
produce_request_topic_fields entry = (entry.name, (option_map (map produce_request_partition_fields) entry.partitions, tt))

abbrev pub produce_request_format : Format
produce_request_format = format (
    text_field ∷  -- transactional_id
    int16_field ∷  -- acks
    int32_field ∷  -- timeout_ms
    array_field produce_request_topic_format ∷  -- topics
    [])

abbrev pub produce_request_fields : ProduceRequest → Fields produce_request_format
produce_request_fields view = (view.transactional_id, (view.acks, (view.timeout_ms, (option_map (map produce_request_topic_fields) view.topics, tt))))

unfoldable pub produce_response_record_error_format : Format
produce_response_record_error_format = format (
    int32_field ∷  -- batch_index
    text_field ∷  -- message
    [])

unfoldable pub produce_response_record_error_fields : ProduceResponseRecordError → Fields produce_response_record_error_format
unfolding produce_response_record_error_format
produce_response_record_error_fields entry = (entry.batch_index, (entry.message, tt))

unfoldable pub produce_response_partition_format : Format
produce_response_partition_format = format (
    int32_field ∷  -- index
    int16_field ∷  -- error_code
    int64_field ∷  -- base_offset
    int64_field ∷  -- log_append_time_ms
    int64_in 7 5 8 ∷  -- log_start_offset
    array_in 8 8 8 produce_response_record_error_format ∷  -- record_errors
    text_in 11 8 8 ∷  -- error_message
    [])

unfoldable pub produce_response_partition_fields : ProduceResponsePartition → Fields produce_response_partition_format
unfolding produce_response_partition_format
produce_response_partition_fields entry = (entry.index, (entry.error_code, (entry.base_offset, (entry.log_append_time_ms, (entry.log_start_offset, (option_map (option_map (map produce_response_record_error_fields)) entry.record_errors, (entry.error_message, tt)))))))

unfoldable pub produce_response_topic_format : Format
produce_response_topic_format = format (
    text_field ∷  -- name
    array_field produce_response_partition_format ∷  -- partitions
    [])

unfoldable pub produce_response_topic_fields : ProduceResponseTopic → Fields produce_response_topic_format
unfolding produce_response_topic_format
produce_response_topic_fields entry = (entry.name, (option_map (map produce_response_partition_fields) entry.partitions, tt))

abbrev pub produce_response_format : Format
produce_response_format = format (
    array_field produce_response_topic_format ∷  -- topics
    int32_field ∷  -- throttle_time_ms
    [])

abbrev pub produce_response_fields : ProduceResponse → Fields produce_response_format
produce_response_fields view = (option_map (map produce_response_topic_fields) view.topics, (view.throttle_time_ms, tt))
