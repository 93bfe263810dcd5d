-- LeaveGroup (key 13, versions 0 to 3): "The Messages: LeaveGroup API" of the protocol guide.
use Rattle.std.specs.Prelude.{[], ◌∷◌, map, option_map}
use Rattle.group_api.specs.declared.leave_group.LeaveGroupRequest.{LeaveGroupRequest}
use Rattle.group_api.specs.declared.leave_group.LeaveGroupRequestMember.{LeaveGroupRequestMember}
use Rattle.group_api.specs.declared.leave_group.LeaveGroupResponse.{LeaveGroupResponse}
use Rattle.group_api.specs.declared.leave_group.LeaveGroupResponseMember.{LeaveGroupResponseMember}
use Rattle.views.specs.Format.{Format, Fields, format, int16_field, int32_in, text_field, text_in, array_in}

unfoldable pub leave_group_request_member_format : Format
leave_group_request_member_format = format (
    text_field ∷  -- member_id
    text_field ∷  -- group_instance_id
    [])

unfoldable pub leave_group_request_member_fields : LeaveGroupRequestMember → Fields leave_group_request_member_format
unfolding leave_group_request_member_format
leave_group_request_member_fields entry = (entry.member_id, (entry.group_instance_id, tt))

abbrev pub leave_group_request_format : Format
leave_group_request_format = format (
    text_field ∷  -- group_id
    text_in 1 0 2 ∷  -- member_id
    array_in 2 3 3 leave_group_request_member_format ∷  -- members
    [])

abbrev pub leave_group_request_fields : LeaveGroupRequest → Fields leave_group_request_format
leave_group_request_fields view = (view.group_id, (view.member_id, (option_map (option_map (map leave_group_request_member_fields)) view.members, tt)))

unfoldable pub leave_group_response_member_format : Format
leave_group_response_member_format = format (
    text_field ∷  -- member_id
    text_field ∷  -- group_instance_id
    int16_field ∷  -- error_code
    [])

unfoldable pub leave_group_response_member_fields : LeaveGroupResponseMember → Fields leave_group_response_member_format
unfolding leave_group_response_member_format
leave_group_response_member_fields entry = (entry.member_id, (entry.group_instance_id, (entry.error_code, tt)))

abbrev pub leave_group_response_format : Format
leave_group_response_format = format (
    int32_in 0 1 3 ∷  -- throttle_time_ms
    int16_field ∷  -- error_code
    array_in 2 3 3 leave_group_response_member_format ∷  -- members
    [])

abbrev pub leave_group_response_fields : LeaveGroupResponse → Fields leave_group_response_format
leave_group_response_fields view = (view.throttle_time_ms, (view.error_code, (option_map (option_map (map leave_group_response_member_fields)) view.members, tt)))
