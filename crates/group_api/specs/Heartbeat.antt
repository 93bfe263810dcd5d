-- Heartbeat (key 12, versions 0 to 3): "The Messages: Heartbeat API" of the protocol guide.
use Rattle.std.specs.Prelude.{[], ◌∷◌}
use Rattle.group_api.specs.declared.heartbeat.HeartbeatRequest.{HeartbeatRequest}
use Rattle.group_api.specs.declared.heartbeat.HeartbeatResponse.{HeartbeatResponse}
use Rattle.views.specs.Format.{Format, Fields, format, int16_field, int32_field, int32_in, text_field, text_in}

abbrev pub heartbeat_request_format : Format
heartbeat_request_format = format (
    text_field ∷  -- group_id
    int32_field ∷  -- generation_id
    text_field ∷  -- member_id
    text_in 3 3 3 ∷  -- group_instance_id
    [])

abbrev pub heartbeat_request_fields : HeartbeatRequest → Fields heartbeat_request_format
heartbeat_request_fields view = (view.group_id, (view.generation_id, (view.member_id, (view.group_instance_id, tt))))

abbrev pub heartbeat_response_format : Format
heartbeat_response_format = format (
    int32_in 0 1 3 ∷  -- throttle_time_ms
    int16_field ∷  -- error_code
    [])

abbrev pub heartbeat_response_fields : HeartbeatResponse → Fields heartbeat_response_format
heartbeat_response_fields view = (view.throttle_time_ms, (view.error_code, tt))
