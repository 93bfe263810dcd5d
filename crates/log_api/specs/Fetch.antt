-- Fetch (key 1, versions 4 to 11): "The Messages: Fetch API" of the protocol guide.
use Rattle.std.specs.Prelude.{[], ◌∷◌, map, option_map}
use Rattle.log_api.specs.declared.fetch_request.FetchRequest.{FetchRequest}
use Rattle.log_api.specs.declared.fetch_request.FetchRequestForgottenTopic.{FetchRequestForgottenTopic}
use Rattle.log_api.specs.declared.fetch_request.FetchRequestPartition.{FetchRequestPartition}
use Rattle.log_api.specs.declared.fetch_request.FetchRequestTopic.{FetchRequestTopic}
use Rattle.log_api.specs.declared.fetch_response.FetchResponse.{FetchResponse}
use Rattle.log_api.specs.declared.fetch_response.FetchResponseAbortedTransaction.{FetchResponseAbortedTransaction}
use Rattle.log_api.specs.declared.fetch_response.FetchResponsePartition.{FetchResponsePartition}
use Rattle.log_api.specs.declared.fetch_response.FetchResponseTopic.{FetchResponseTopic}
use Rattle.views.specs.Format.{Format, Fields, format, int8_field, int16_field, int16_in, int32_field, int32_in, int64_field, int64_in, text_field, text_in, bytes_field, array_field, array_in}
use Rattle.views.specs.Entries.{number_fields, number_format}

unfoldable pub fetch_request_forgotten_topic_format : Format
fetch_request_forgotten_topic_format = format (
    text_field ∷  -- name
    array_field number_format ∷  -- partitions
    [])

unfoldable pub fetch_request_forgotten_topic_fields : FetchRequestForgottenTopic → Fields fetch_request_forgotten_topic_format
unfolding fetch_request_forgotten_topic_format
fetch_request_forgotten_topic_fields entry = (entry.name, (option_map (map number_fields) entry.partitions, tt))

unfoldable pub fetch_request_partition_format : Format
fetch_request_partition_format = format (
    int32_field ∷  -- partition
    int32_in 11 9 11 ∷  -- current_leader_epoch
    int64_field ∷  -- fetch_offset
    int64_in 13 5 11 ∷  -- log_start_offset
    int32_field ∷  -- partition_max_bytes
    [])

unfoldable pub fetch_request_partition_fields : FetchRequestPartition → Fields fetch_request_partition_format
unfolding fetch_request_partition_format
fetch_request_partition_fields entry = (entry.partition, (entry.current_leader_epoch, (entry.fetch_offset, (entry.log_start_offset, (entry.partition_max_bytes, tt)))))

unfoldable pub fetch_request_topic_format : Format
fetch_request_topic_format = format (
    text_field ∷  -- name
    array_field fetch_request_partition_format ∷  -- partitions
    [])

unfoldable pub fetch_request_topic_fields : FetchRequestTopic → Fields fetch_request_topic_format
unfolding fetch_request_topic_format
fetch_request_topic_fields entry = (entry.name, (option_map (map fetch_request_partition_fields) entry.partitions, tt))

abbrev pub fetch_request_format : Format
fetch_request_format = format (
    int32_field ∷  -- replica_id
    int32_field ∷  -- max_wait_ms
    int32_field ∷  -- min_bytes
    int32_field ∷  -- max_bytes
    int8_field ∷  -- isolation_level
    int32_in 5 7 11 ∷  -- session_id
    int32_in 6 7 11 ∷  -- session_epoch
    array_field fetch_request_topic_format ∷  -- topics
    array_in 15 7 11 fetch_request_forgotten_topic_format ∷  -- forgotten
    text_in 19 11 11 ∷  -- rack_id
    [])

abbrev pub fetch_request_fields : FetchRequest → Fields fetch_request_format
fetch_request_fields view = (view.replica_id, (view.max_wait_ms, (view.min_bytes, (view.max_bytes, (view.isolation_level, (view.session_id, (view.session_epoch, (option_map (map fetch_request_topic_fields) view.topics, (option_map (option_map (map fetch_request_forgotten_topic_fields)) view.forgotten, (view.rack_id, tt))))))))))

unfoldable pub fetch_response_aborted_transaction_format : Format
fetch_response_aborted_transaction_format = format (
    int64_field ∷  -- producer_id
    int64_field ∷  -- first_offset
    [])

unfoldable pub fetch_response_aborted_transaction_fields : FetchResponseAbortedTransaction → Fields fetch_response_aborted_transaction_format
unfolding fetch_response_aborted_transaction_format
fetch_response_aborted_transaction_fields entry = (entry.producer_id, (entry.first_offset, tt))

unfoldable pub fetch_response_partition_format : Format
fetch_response_partition_format = format (
    int32_field ∷  -- index
    int16_field ∷  -- error_code
    int64_field ∷  -- high_watermark
    int64_field ∷  -- last_stable_offset
    int64_in 10 5 11 ∷  -- log_start_offset
    array_field fetch_response_aborted_transaction_format ∷  -- aborted
    int32_in 14 11 11 ∷  -- preferred_read_replica
    bytes_field ∷  -- records
    [])

unfoldable pub fetch_response_partition_fields : FetchResponsePartition → Fields fetch_response_partition_format
unfolding fetch_response_partition_format
fetch_response_partition_fields entry = (entry.index, (entry.error_code, (entry.high_watermark, (entry.last_stable_offset, (entry.log_start_offset, (option_map (map fetch_response_aborted_transaction_fields) entry.aborted, (entry.preferred_read_replica, (entry.records, tt))))))))

unfoldable pub fetch_response_topic_format : Format
fetch_response_topic_format = format (
    text_field ∷  -- name
    array_field fetch_response_partition_format ∷  -- partitions
    [])

unfoldable pub fetch_response_topic_fields : FetchResponseTopic → Fields fetch_response_topic_format
unfolding fetch_response_topic_format
fetch_response_topic_fields entry = (entry.name, (option_map (map fetch_response_partition_fields) entry.partitions, tt))

abbrev pub fetch_response_format : Format
fetch_response_format = format (
    int32_field ∷  -- throttle_time_ms
    int16_in 1 7 11 ∷  -- error_code
    int32_in 2 7 11 ∷  -- session_id
    array_field fetch_response_topic_format ∷  -- topics
    [])

abbrev pub fetch_response_fields : FetchResponse → Fields fetch_response_format
fetch_response_fields view = (view.throttle_time_ms, (view.error_code, (view.session_id, (option_map (map fetch_response_topic_fields) view.topics, tt))))
