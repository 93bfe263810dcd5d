-- JoinGroup (key 11, versions 0 to 5): "The Messages: JoinGroup API" of the protocol guide.
use Rattle.std.specs.Prelude.{[], ◌∷◌, map, option_map}
use Rattle.group_api.specs.declared.join_group.JoinGroupRequest.{JoinGroupRequest}
use Rattle.group_api.specs.declared.join_group.JoinGroupRequestProtocol.{JoinGroupRequestProtocol}
use Rattle.group_api.specs.declared.join_group.JoinGroupResponse.{JoinGroupResponse}
use Rattle.group_api.specs.declared.join_group.JoinGroupResponseMember.{JoinGroupResponseMember}
use Rattle.views.specs.Format.{Format, Fields, format, int16_field, int32_field, int32_in, text_field, text_in, bytes_field, array_field}

unfoldable pub join_group_request_protocol_format : Format
join_group_request_protocol_format = format (
    text_field ∷  -- name
    bytes_field ∷  -- metadata
    [])

unfoldable pub join_group_request_protocol_fields : JoinGroupRequestProtocol → Fields join_group_request_protocol_format
unfolding join_group_request_protocol_format
join_group_request_protocol_fields entry = (entry.name, (entry.metadata, tt))

abbrev pub join_group_request_format : Format
join_group_request_format = format (
    text_field ∷  -- group_id
    int32_field ∷  -- session_timeout_ms
    int32_in 2 1 5 ∷  -- rebalance_timeout_ms
    text_field ∷  -- member_id
    text_in 4 5 5 ∷  -- group_instance_id
    text_field ∷  -- protocol_type
    array_field join_group_request_protocol_format ∷  -- protocols
    [])

abbrev pub join_group_request_fields : JoinGroupRequest → Fields join_group_request_format
join_group_request_fields view = (view.group_id, (view.session_timeout_ms, (view.rebalance_timeout_ms, (view.member_id, (view.group_instance_id, (view.protocol_type, (option_map (map join_group_request_protocol_fields) view.protocols, tt)))))))

unfoldable pub join_group_response_member_format : Format
join_group_response_member_format = format (
    text_field ∷  -- member_id
    text_in 8 5 5 ∷  -- group_instance_id
    bytes_field ∷  -- metadata
    [])

unfoldable pub join_group_response_member_fields : JoinGroupResponseMember → Fields join_group_response_member_format
unfolding join_group_response_member_format
join_group_response_member_fields entry = (entry.member_id, (entry.group_instance_id, (entry.metadata, tt)))

abbrev pub join_group_response_format : Format
join_group_response_format = format (
    int32_in 0 2 5 ∷  -- throttle_time_ms
    int16_field ∷  -- error_code
    int32_field ∷  -- generation_id
    text_field ∷  -- protocol_name
    text_field ∷  -- leader
    text_field ∷  -- member_id
    array_field join_group_response_member_format ∷  -- members
    [])

abbrev pub join_group_response_fields : JoinGroupResponse → Fields join_group_response_format
join_group_response_fields view = (view.throttle_time_ms, (view.error_code, (view.generation_id, (view.protocol_name, (view.leader, (view.member_id, (option_map (map join_group_response_member_fields) view.members, tt)))))))
