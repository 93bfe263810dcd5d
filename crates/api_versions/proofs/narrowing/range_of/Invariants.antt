use Rattle.std.proofs.Common.{◌≡◌, drop}
use Rattle.api_versions.specs.Narrowing.{range_in, supported_range}
use Rattle.api_versions.proofs.narrowing.range_of.Given as goal

abbrev pub invariant-loop-api : goal.invariant-loop-api
invariant-loop-api l = range_in (drop l.api-index l.api-items) l.key ≡ supported_range l.key
