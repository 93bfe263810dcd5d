-- FindCoordinator (key 10, versions 0 to 2): "The Messages: FindCoordinator API" of the protocol guide.
use Rattle.std.specs.Prelude.{[], ◌∷◌}
use Rattle.cluster_api.specs.declared.find_coordinator.FindCoordinatorRequest.{FindCoordinatorRequest}
use Rattle.cluster_api.specs.declared.find_coordinator.FindCoordinatorResponse.{FindCoordinatorResponse}
use Rattle.views.specs.Format.{Format, Fields, format, int8_in, int16_field, int32_field, int32_in, text_field, text_in}

abbrev pub find_coordinator_request_format : Format
find_coordinator_request_format = format (
    text_field ∷  -- key
    int8_in 1 1 2 ∷  -- key_type
    [])

abbrev pub find_coordinator_request_fields : FindCoordinatorRequest → Fields find_coordinator_request_format
find_coordinator_request_fields view = (view.key, (view.key_type, tt))

abbrev pub find_coordinator_response_format : Format
find_coordinator_response_format = format (
    int32_in 0 1 2 ∷  -- throttle_time_ms
    int16_field ∷  -- error_code
    text_in 2 1 2 ∷  -- error_message
    int32_field ∷  -- node_id
    text_field ∷  -- host
    int32_field ∷  -- port
    [])

abbrev pub find_coordinator_response_fields : FindCoordinatorResponse → Fields find_coordinator_response_format
find_coordinator_response_fields view = (view.throttle_time_ms, (view.error_code, (view.error_message, (view.node_id, (view.host, (view.port, tt))))))
