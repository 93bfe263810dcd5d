-- The body of a broker's answer, as it was read.
use Rattle.std.specs.Prelude.{◌≡◌}
use Rattle.kp_schema.specs.declared.dir.Dir.TheVariants as dir
use Rattle.tree_spelling.specs.Body.{Contents}
use Rattle.tree_spelling.specs.Spelling.{spelling}
use Rattle.tree_spelling.specs.Decoded.{AllItems}
use Rattle.conn_core.specs.Requests.{response_decoded}

-- the body was read from bytes that a response to its own key and version can have
abbrev pub IsResponseRead : Contents → Type 0
IsResponseRead body = (body.dir ≡ dir.Response) × (response_decoded body.key body.version (spelling body.items) ≡ AllItems body.items)
