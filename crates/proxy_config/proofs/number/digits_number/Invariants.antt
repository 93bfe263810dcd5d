use Rattle.std.proofs.Common.{◌≡◌, ◌<◌, ◌≤◌, ◌^◌, drop, length}
use Rattle.std.specs.Str.{all_ascii_digits}
use Rattle.std.specs.Str.Parse.{digits_value_after}
use Rattle.proxy_config.proofs.number.digits_number.Given as goal

-- what is left decides, and the number so far has as many digits as were read
abbrev pub invariant-loop-digit : goal.invariant-loop-digit
invariant-loop-digit l = record {
  digits : all_ascii_digits (drop l.digit-index l.word) ≡ all_ascii_digits l.word;
  value : digits_value_after 10 l.number (drop l.digit-index l.word) ≡ digits_value_after 10 0 l.word;
  bound : l.number < 10 ^ l.digit-index;
}
