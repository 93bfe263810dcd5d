-- DeleteTopics (key 20, versions 0 to 3): "The Messages: DeleteTopics API" of the protocol guide.
use Rattle.std.specs.Prelude.{[], ◌∷◌, map, option_map}
use Rattle.cluster_api.specs.declared.delete_topics.DeleteTopicsRequest.{DeleteTopicsRequest}
use Rattle.cluster_api.specs.declared.delete_topics.DeleteTopicsResponse.{DeleteTopicsResponse}
use Rattle.cluster_api.specs.declared.delete_topics.DeleteTopicsResponseTopic.{DeleteTopicsResponseTopic}
use Rattle.views.specs.Format.{Format, Fields, format, int16_field, int32_field, int32_in, text_field, array_field}
use Rattle.views.specs.Entries.{name_fields, name_format}

abbrev pub delete_topics_request_format : Format
delete_topics_request_format = format (
    array_field name_format ∷  -- names
    int32_field ∷  -- timeout_ms
    [])

abbrev pub delete_topics_request_fields : DeleteTopicsRequest → Fields delete_topics_request_format
delete_topics_request_fields view = (option_map (map name_fields) view.names, (view.timeout_ms, tt))

unfoldable pub delete_topics_response_topic_format : Format
delete_topics_response_topic_format = format (
    text_field ∷  -- name
    int16_field ∷  -- error_code
    [])

unfoldable pub delete_topics_response_topic_fields : DeleteTopicsResponseTopic → Fields delete_topics_response_topic_format
unfolding delete_topics_response_topic_format
delete_topics_response_topic_fields entry = (entry.name, (entry.error_code, tt))

abbrev pub delete_topics_response_format : Format
delete_topics_response_format = format (
    int32_in 0 1 3 ∷  -- throttle_time_ms
    array_field delete_topics_response_topic_format ∷  -- topics
    [])

abbrev pub delete_topics_response_fields : DeleteTopicsResponse → Fields delete_topics_response_format
delete_topics_response_fields view = (view.throttle_time_ms, (option_map (map delete_topics_response_topic_fields) view.topics, tt))
