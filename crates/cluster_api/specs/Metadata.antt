-- Metadata (key 3, versions 1 to 8): "The Messages: Metadata API" of the protocol guide.
use Rattle.std.specs.Prelude.{[], ◌∷◌, map, option_map}
use Rattle.cluster_api.specs.declared.metadata_request.MetadataRequest.{MetadataRequest}
use Rattle.cluster_api.specs.declared.metadata_request.MetadataRequestTopic.{MetadataRequestTopic}
use Rattle.cluster_api.specs.declared.metadata_response.MetadataResponse.{MetadataResponse}
use Rattle.cluster_api.specs.declared.metadata_response.MetadataResponseBroker.{MetadataResponseBroker}
use Rattle.cluster_api.specs.declared.metadata_response.MetadataResponsePartition.{MetadataResponsePartition}
use Rattle.cluster_api.specs.declared.metadata_response.MetadataResponseTopic.{MetadataResponseTopic}
use Rattle.views.specs.Format.{Format, Fields, format, int16_field, int32_field, int32_in, flag_field, flag_in, text_field, text_in, array_field, array_in}
use Rattle.views.specs.Entries.{number_fields, number_format}

unfoldable pub metadata_request_topic_format : Format
metadata_request_topic_format = format (
    text_field ∷  -- name
    [])

unfoldable pub metadata_request_topic_fields : MetadataRequestTopic → Fields metadata_request_topic_format
unfolding metadata_request_topic_format
metadata_request_topic_fields entry = (entry.name, tt)

abbrev pub metadata_request_format : Format
metadata_request_format = format (
    array_field metadata_request_topic_format ∷  -- topics
    flag_in 2 4 8 ∷  -- allow_auto_topic_creation
    flag_in 3 8 8 ∷  -- include_cluster_authorized_operations
    flag_in 4 8 8 ∷  -- include_topic_authorized_operations
    [])

abbrev pub metadata_request_fields : MetadataRequest → Fields metadata_request_format
metadata_request_fields view = (option_map (map metadata_request_topic_fields) view.topics, (view.allow_auto_topic_creation, (view.include_cluster_authorized_operations, (view.include_topic_authorized_operations, tt))))

unfoldable pub metadata_response_partition_format : Format
metadata_response_partition_format = format (
    int16_field ∷  -- error_code
    int32_field ∷  -- index
    int32_field ∷  -- leader_id
    int32_in 16 7 8 ∷  -- leader_epoch
    array_field number_format ∷  -- replica_nodes
    array_field number_format ∷  -- isr_nodes
    array_in 21 5 8 number_format ∷  -- offline_replicas
    [])

unfoldable pub metadata_response_partition_fields : MetadataResponsePartition → Fields metadata_response_partition_format
unfolding metadata_response_partition_format
metadata_response_partition_fields entry = (entry.error_code, (entry.index, (entry.leader_id, (entry.leader_epoch, (option_map (map number_fields) entry.replica_nodes, (option_map (map number_fields) entry.isr_nodes, (option_map (option_map (map number_fields)) entry.offline_replicas, tt)))))))

unfoldable pub metadata_response_topic_format : Format
metadata_response_topic_format = format (
    int16_field ∷  -- error_code
    text_field ∷  -- name
    flag_field ∷  -- is_internal
    array_field metadata_response_partition_format ∷  -- partitions
    int32_in 23 8 8 ∷  -- topic_authorized_operations
    [])

unfoldable pub metadata_response_topic_fields : MetadataResponseTopic → Fields metadata_response_topic_format
unfolding metadata_response_topic_format
metadata_response_topic_fields entry = (entry.error_code, (entry.name, (entry.is_internal, (option_map (map metadata_response_partition_fields) entry.partitions, (entry.topic_authorized_operations, tt)))))

unfoldable pub metadata_response_broker_format : Format
metadata_response_broker_format = format (
    int32_field ∷  -- node_id
    text_field ∷  -- host
    int32_field ∷  -- port
    text_field ∷  -- rack
    [])

unfoldable pub metadata_response_broker_fields : MetadataResponseBroker → Fields metadata_response_broker_format
unfolding metadata_response_broker_format
metadata_response_broker_fields entry = (entry.node_id, (entry.host, (entry.port, (entry.rack, tt))))

abbrev pub metadata_response_format : Format
metadata_response_format = format (
    int32_in 0 3 8 ∷  -- throttle_time_ms
    array_field metadata_response_broker_format ∷  -- brokers
    text_in 6 2 8 ∷  -- cluster_id
    int32_field ∷  -- controller_id
    array_field metadata_response_topic_format ∷  -- topics
    int32_in 24 8 8 ∷  -- cluster_authorized_operations
    [])

abbrev pub metadata_response_fields : MetadataResponse → Fields metadata_response_format
metadata_response_fields view = (view.throttle_time_ms, (option_map (map metadata_response_broker_fields) view.brokers, (view.cluster_id, (view.controller_id, (option_map (map metadata_response_topic_fields) view.topics, (view.cluster_authorized_operations, tt))))))
