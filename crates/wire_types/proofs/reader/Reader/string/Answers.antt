use Rattle.std.proofs.Common.{rules, ◌≤◌, length, Some, sym, ◌∙◌}
use Rattle.wire_types.specs.Strings.{string}
use Rattle.wire_types.specs.Reading.{Reads, unread}
use Rattle.wire_types.proofs.Spellings.{one_string}
use Rattle.wire_types.proofs.reader.Reader.string.Goals as goal

-- the text that is there is the one that was read
pub returns-in-Ok-clause-spelled_is_read : goal.returns-in-Ok-clause-spelled_is_read
returns-in-Ok-clause-spelled_is_read c =
    λ text rest fits e.
    let found : Reads c.args.self.now (string (Some c.in-Ok.text.now)) c.take.new.self = search rules in
    let short : length c.in-Ok.text.now ≤ 32767 = search rules in
    (one_string (Some c.in-Ok.text.now) text (unread c.take.new.self) rest short fits (sym found.spelled ∙ e)).0
