use Rattle.std.proofs.Common.{◌≡◌, drop}
use Rattle.std.specs.List.{list_all}
use Rattle.virtual_cluster.specs.Limits.{is_host_byte}
use Rattle.virtual_cluster.proofs.limits.are_host_bytes.Given as goal

-- what is left decides
abbrev pub invariant-loop-byte : goal.invariant-loop-byte
invariant-loop-byte l = list_all is_host_byte (drop l.byte-index l.bytes) ≡ list_all is_host_byte l.bytes
