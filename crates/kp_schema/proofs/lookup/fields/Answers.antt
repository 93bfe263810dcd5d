-- The fields are there exactly where key and version are supported, by the law of the table.
use Rattle.std.proofs.Common.{◌≡◌, option_copied, rules}
use Rattle.kp_schema.specs.declared.dir.Dir.TheVariants.{Request, Response}
use Rattle.kp_schema.specs.Messages.{fields_of}
use Rattle.kp_schema.proofs.Found.{is_some-found}
use Rattle.kp_schema.proofs.lookup.fields.Goals as goal

pub returns-in-Request-clause-supported : goal.returns-in-Request-clause-supported
returns-in-Request-clause-supported c =
    let found : option_copied c.request.result ≡ fields_of c.args.key c.args.version Request = search rules in
    is_some-found _ _ _ _ found

pub returns-in-Response-clause-supported : goal.returns-in-Response-clause-supported
returns-in-Response-clause-supported c =
    let found : option_copied c.response.result ≡ fields_of c.args.key c.args.version Response = search rules in
    is_some-found _ _ _ _ found
