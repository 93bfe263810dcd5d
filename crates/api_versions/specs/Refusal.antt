-- What a client gets that asks for ApiVersions in a version that isn't known.
use Rattle.std.specs.Prelude.{ℕ, ℤ, pos, List, ◌++◌}
use Rattle.wire_types.specs.Numbers.{int16, int32}

-- The error UNSUPPORTED_VERSION ("Error Codes"), the key of ApiVersions ("API Keys"), and its least and greatest
-- version that are known.
abbrev pub unsupported_version : ℤ
unsupported_version = pos 35

abbrev pub api_versions_key : ℤ
api_versions_key = pos 18

abbrev pub least_version : ℤ
least_version = pos 0

abbrev pub greatest_version : ℤ
greatest_version = pos 2

-- The body is a response of version 0, whatever was asked, so that any client can read it (KIP-511): error_code
-- INT16, and an array of one entry with api_key, min_version and max_version, each an INT16.
abbrev pub refusal_body : List ℕ
refusal_body = int16 unsupported_version ++ int32 (pos 1) ++ int16 api_versions_key ++ int16 least_version ++ int16 greatest_version

-- the whole frame: its size, the client's own correlation id, and that body
abbrev pub refusal_frame : ℤ → List ℕ
refusal_frame correlation_id = int32 (pos 16) ++ int32 correlation_id ++ refusal_body
