-- ApiVersions (key 18, versions 0 to 2): "The Messages: ApiVersions API" of the protocol guide.
use Rattle.std.specs.Prelude.{[], ◌∷◌, map, option_map}
use Rattle.cluster_api.specs.declared.api_versions.ApiVersionsRequest.{ApiVersionsRequest}
use Rattle.cluster_api.specs.declared.api_versions.ApiVersionsResponse.{ApiVersionsResponse}
use Rattle.cluster_api.specs.declared.api_versions.ApiVersionsResponseApiKey.{ApiVersionsResponseApiKey}
use Rattle.views.specs.Format.{Format, Fields, format, int16_field, int32_in, array_field}

abbrev pub api_versions_request_format : Format
api_versions_request_format = format []

abbrev pub api_versions_request_fields : ApiVersionsRequest → Fields api_versions_request_format
api_versions_request_fields view = tt

unfoldable pub api_versions_response_api_key_format : Format
api_versions_response_api_key_format = format (
    int16_field ∷  -- api_key
    int16_field ∷  -- min_version
    int16_field ∷  -- max_version
    [])

unfoldable pub api_versions_response_api_key_fields : ApiVersionsResponseApiKey → Fields api_versions_response_api_key_format
unfolding api_versions_response_api_key_format
api_versions_response_api_key_fields entry = (entry.api_key, (entry.min_version, (entry.max_version, tt)))

abbrev pub api_versions_response_format : Format
api_versions_response_format = format (
    int16_field ∷  -- error_code
    array_field api_versions_response_api_key_format ∷  -- api_keys
    int32_in 5 1 2 ∷  -- throttle_time_ms
    [])

abbrev pub api_versions_response_fields : ApiVersionsResponse → Fields api_versions_response_format
api_versions_response_fields view = (view.error_code, (option_map (map api_versions_response_api_key_fields) view.api_keys, (view.throttle_time_ms, tt)))
