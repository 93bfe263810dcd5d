use Rattle.std.proofs.Common.{rules, ◌≤◌, length, Some, sym, ◌∙◌}
use Rattle.wire_types.specs.Lengths.{byte_string}
use Rattle.wire_types.specs.Reading.{Reads, unread}
use Rattle.wire_types.proofs.Spellings.{one_byte_string}
use Rattle.wire_types.proofs.reader.Reader.bytes.Goals as goal

-- the bytes that are there are those that were read
pub returns-in-Ok-clause-spelled_is_read : goal.returns-in-Ok-clause-spelled_is_read
returns-in-Ok-clause-spelled_is_read c =
    λ value rest fits e.
    let read : Reads c.args.self.now (byte_string (Some c.in-Ok.found.now)) c.take.new.self = search rules in
    let short : length c.in-Ok.found.now ≤ 2147483647 = search rules in
    (one_byte_string (Some c.in-Ok.found.now) value (unread c.take.new.self) rest short fits (sym read.spelled ∙ e)).0
