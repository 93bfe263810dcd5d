-- CreateTopics (key 19, versions 0 to 4): "The Messages: CreateTopics API" of the protocol guide.
use Rattle.std.specs.Prelude.{[], ◌∷◌, map, option_map}
use Rattle.cluster_api.specs.declared.create_topics.CreateTopicsRequest.{CreateTopicsRequest}
use Rattle.cluster_api.specs.declared.create_topics.CreateTopicsRequestAssignment.{CreateTopicsRequestAssignment}
use Rattle.cluster_api.specs.declared.create_topics.CreateTopicsRequestConfig.{CreateTopicsRequestConfig}
use Rattle.cluster_api.specs.declared.create_topics.CreateTopicsRequestTopic.{CreateTopicsRequestTopic}
use Rattle.cluster_api.specs.declared.create_topics.CreateTopicsResponse.{CreateTopicsResponse}
use Rattle.cluster_api.specs.declared.create_topics.CreateTopicsResponseTopic.{CreateTopicsResponseTopic}
use Rattle.views.specs.Format.{Format, Fields, format, int16_field, int32_field, int32_in, flag_in, text_field, text_in, array_field}
use Rattle.views.specs.Entries.{number_fields, number_format}

unfoldable pub create_topics_request_config_format : Format
create_topics_request_config_format = format (
    text_field ∷  -- name
    text_field ∷  -- value
    [])

unfoldable pub create_topics_request_config_fields : CreateTopicsRequestConfig → Fields create_topics_request_config_format
unfolding create_topics_request_config_format
create_topics_request_config_fields entry = (entry.name, (entry.value, tt))

unfoldable pub create_topics_request_assignment_format : Format
create_topics_request_assignment_format = format (
    int32_field ∷  -- index
    array_field number_format ∷  -- broker_ids
    [])

unfoldable pub create_topics_request_assignment_fields : CreateTopicsRequestAssignment → Fields create_topics_request_assignment_format
unfolding create_topics_request_assignment_format
create_topics_request_assignment_fields entry = (entry.index, (option_map (map number_fields) entry.broker_ids, tt))

unfoldable pub create_topics_request_topic_format : Format
create_topics_request_topic_format = format (
    text_field ∷  -- name
    int32_field ∷  -- num_partitions
    int16_field ∷  -- replication_factor
    array_field create_topics_request_assignment_format ∷  -- assignments
    array_field create_topics_request_config_format ∷  -- configs
    [])

unfoldable pub create_topics_request_topic_fields : CreateTopicsRequestTopic → Fields create_topics_request_topic_format
unfolding create_topics_request_topic_format
create_topics_request_topic_fields entry = (entry.name, (entry.num_partitions, (entry.replication_factor, (option_map (map create_topics_request_assignment_fields) entry.assignments, (option_map (map create_topics_request_config_fields) entry.configs, tt)))))

abbrev pub create_topics_request_format : Format
create_topics_request_format = format (
    array_field create_topics_request_topic_format ∷  -- topics
    int32_field ∷  -- timeout_ms
    flag_in 12 1 4 ∷  -- validate_only
    [])

abbrev pub create_topics_request_fields : CreateTopicsRequest → Fields create_topics_request_format
create_topics_request_fields view = (option_map (map create_topics_request_topic_fields) view.topics, (view.timeout_ms, (view.validate_only, tt)))

unfoldable pub create_topics_response_topic_format : Format
create_topics_response_topic_format = format (
    text_field ∷  -- name
    int16_field ∷  -- error_code
    text_in 4 1 4 ∷  -- error_message
    [])

unfoldable pub create_topics_response_topic_fields : CreateTopicsResponseTopic → Fields create_topics_response_topic_format
unfolding create_topics_response_topic_format
create_topics_response_topic_fields entry = (entry.name, (entry.error_code, (entry.error_message, tt)))

abbrev pub create_topics_response_format : Format
create_topics_response_format = format (
    int32_in 0 2 4 ∷  -- throttle_time_ms
    array_field create_topics_response_topic_format ∷  -- topics
    [])

abbrev pub create_topics_response_fields : CreateTopicsResponse → Fields create_topics_response_format
create_topics_response_fields view = (view.throttle_time_ms, (option_map (map create_topics_response_topic_fields) view.topics, tt))
