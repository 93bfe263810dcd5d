-- DescribeGroups (key 15, versions 0 to 4): "The Messages: DescribeGroups API" of the protocol guide.
use Rattle.std.specs.Prelude.{[], ◌∷◌, map, option_map}
use Rattle.group_api.specs.declared.describe_groups.DescribeGroupsRequest.{DescribeGroupsRequest}
use Rattle.group_api.specs.declared.describe_groups.DescribeGroupsResponse.{DescribeGroupsResponse}
use Rattle.group_api.specs.declared.describe_groups.DescribeGroupsResponseGroup.{DescribeGroupsResponseGroup}
use Rattle.group_api.specs.declared.describe_groups.DescribeGroupsResponseMember.{DescribeGroupsResponseMember}
use Rattle.views.specs.Format.{Format, Fields, format, int16_field, int32_in, flag_in, text_field, text_in, bytes_field, array_field}
use Rattle.views.specs.Entries.{name_fields, name_format}

abbrev pub describe_groups_request_format : Format
describe_groups_request_format = format (
    array_field name_format ∷  -- groups
    flag_in 2 3 4 ∷  -- include_authorized_operations
    [])

abbrev pub describe_groups_request_fields : DescribeGroupsRequest → Fields describe_groups_request_format
describe_groups_request_fields view = (option_map (map name_fields) view.groups, (view.include_authorized_operations, tt))

unfoldable pub describe_groups_response_member_format : Format
describe_groups_response_member_format = format (
    text_field ∷  -- member_id
    text_in 9 4 4 ∷  -- group_instance_id
    text_field ∷  -- client_id
    text_field ∷  -- client_host
    bytes_field ∷  -- member_metadata
    bytes_field ∷  -- member_assignment
    [])

unfoldable pub describe_groups_response_member_fields : DescribeGroupsResponseMember → Fields describe_groups_response_member_format
unfolding describe_groups_response_member_format
describe_groups_response_member_fields entry = (entry.member_id, (entry.group_instance_id, (entry.client_id, (entry.client_host, (entry.member_metadata, (entry.member_assignment, tt))))))

unfoldable pub describe_groups_response_group_format : Format
describe_groups_response_group_format = format (
    int16_field ∷  -- error_code
    text_field ∷  -- group_id
    text_field ∷  -- group_state
    text_field ∷  -- protocol_type
    text_field ∷  -- protocol_data
    array_field describe_groups_response_member_format ∷  -- members
    int32_in 14 3 4 ∷  -- authorized_operations
    [])

unfoldable pub describe_groups_response_group_fields : DescribeGroupsResponseGroup → Fields describe_groups_response_group_format
unfolding describe_groups_response_group_format
describe_groups_response_group_fields entry = (entry.error_code, (entry.group_id, (entry.group_state, (entry.protocol_type, (entry.protocol_data, (option_map (map describe_groups_response_member_fields) entry.members, (entry.authorized_operations, tt)))))))

abbrev pub describe_groups_response_format : Format
describe_groups_response_format = format (
    int32_in 0 1 4 ∷  -- throttle_time_ms
    array_field describe_groups_response_group_format ∷  -- groups
    [])

abbrev pub describe_groups_response_fields : DescribeGroupsResponse → Fields describe_groups_response_format
describe_groups_response_fields view = (view.throttle_time_ms, (option_map (map describe_groups_response_group_fields) view.groups, tt))
