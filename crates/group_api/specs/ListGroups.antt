-- ListGroups (key 16, versions 0 to 2): "The Messages: ListGroups API" of the protocol guide.
use Rattle.std.specs.Prelude.{[], ◌∷◌, map, option_map}
use Rattle.group_api.specs.declared.list_groups.ListGroupsRequest.{ListGroupsRequest}
use Rattle.group_api.specs.declared.list_groups.ListGroupsResponse.{ListGroupsResponse}
use Rattle.group_api.specs.declared.list_groups.ListGroupsResponseGroup.{ListGroupsResponseGroup}
use Rattle.views.specs.Format.{Format, Fields, format, int16_field, int32_in, text_field, array_field}

abbrev pub list_groups_request_format : Format
list_groups_request_format = format []

abbrev pub list_groups_request_fields : ListGroupsRequest → Fields list_groups_request_format
list_groups_request_fields view = tt

unfoldable pub list_groups_response_group_format : Format
list_groups_response_group_format = format (
    text_field ∷  -- group_id
    text_field ∷  -- protocol_type
    [])

unfoldable pub list_groups_response_group_fields : ListGroupsResponseGroup → Fields list_groups_response_group_format
unfolding list_groups_response_group_format
list_groups_response_group_fields entry = (entry.group_id, (entry.protocol_type, tt))

abbrev pub list_groups_response_format : Format
list_groups_response_format = format (
    int32_in 0 1 2 ∷  -- throttle_time_ms
    int16_field ∷  -- error_code
    array_field list_groups_response_group_format ∷  -- groups
    [])

abbrev pub list_groups_response_fields : ListGroupsResponse → Fields list_groups_response_format
list_groups_response_fields view = (view.throttle_time_ms, (view.error_code, (option_map (map list_groups_response_group_fields) view.groups, tt)))
