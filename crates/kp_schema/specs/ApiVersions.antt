-- ApiVersions (key 18, versions 0 to 2): "The Messages: ApiVersions API" of the protocol guide.
-- Each row has depth, kind, mark where it has one, first and last version; behind it stands its name.
use Rattle.std.specs.Prelude.{List, [], ◌∷◌}
use Rattle.kp_schema.specs.declared.field.Field.{Field}
use Rattle.kp_schema.specs.declared.kind.Kind.TheVariants.{I16, I32, Array}
use Rattle.kp_schema.specs.Field.{field}
use Rattle.kp_schema.specs.Message.{Message}

unfoldable pub request : List Field
request = []

unfoldable pub response : List Field
response =
    field 0 I16 0 2 ∷  -- error_code
    field 0 Array 0 2 ∷  -- api_keys
    field 1 I16 0 2 ∷  --   api_key
    field 1 I16 0 2 ∷  --   min_version
    field 1 I16 0 2 ∷  --   max_version
    field 0 I32 1 2 ∷  -- throttle_time_ms
    []

abbrev pub message : Message
message = record { key = 18; least = 0; greatest = 2; request = request; response = response }
