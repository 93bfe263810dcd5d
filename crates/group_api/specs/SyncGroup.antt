-- SyncGroup (key 14, versions 0 to 3): "The Messages: SyncGroup API" of the protocol guide.
use Rattle.std.specs.Prelude.{[], ◌∷◌, map, option_map}
use Rattle.group_api.specs.declared.sync_group.SyncGroupRequest.{SyncGroupRequest}
use Rattle.group_api.specs.declared.sync_group.SyncGroupRequestAssignment.{SyncGroupRequestAssignment}
use Rattle.group_api.specs.declared.sync_group.SyncGroupResponse.{SyncGroupResponse}
use Rattle.views.specs.Format.{Format, Fields, format, int16_field, int32_field, int32_in, text_field, text_in, bytes_field, array_field}

unfoldable pub sync_group_request_assignment_format : Format
sync_group_request_assignment_format = format (
    text_field ∷  -- member_id
    bytes_field ∷  -- assignment
    [])

unfoldable pub sync_group_request_assignment_fields : SyncGroupRequestAssignment → Fields sync_group_request_assignment_format
unfolding sync_group_request_assignment_format
sync_group_request_assignment_fields entry = (entry.member_id, (entry.assignment, tt))

abbrev pub sync_group_request_format : Format
sync_group_request_format = format (
    text_field ∷  -- group_id
    int32_field ∷  -- generation_id
    text_field ∷  -- member_id
    text_in 3 3 3 ∷  -- group_instance_id
    array_field sync_group_request_assignment_format ∷  -- assignments
    [])

abbrev pub sync_group_request_fields : SyncGroupRequest → Fields sync_group_request_format
sync_group_request_fields view = (view.group_id, (view.generation_id, (view.member_id, (view.group_instance_id, (option_map (map sync_group_request_assignment_fields) view.assignments, tt)))))

abbrev pub sync_group_response_format : Format
sync_group_response_format = format (
    int32_in 0 1 3 ∷  -- throttle_time_ms
    int16_field ∷  -- error_code
    bytes_field ∷  -- assignment
    [])

abbrev pub sync_group_response_fields : SyncGroupResponse → Fields sync_group_response_format
sync_group_response_fields view = (view.throttle_time_ms, (view.error_code, (view.assignment, tt)))
