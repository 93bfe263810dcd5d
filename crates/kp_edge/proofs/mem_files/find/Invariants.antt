use Rattle.std.proofs.Common.{◌≡◌, drop}
use Rattle.kp_edge.specs.Cabinet.{file_of}
use Rattle.kp_edge.proofs.mem_files.find.Given as goal

-- none of the files so far has the name
abbrev pub invariant-loop-known : goal.invariant-loop-known
invariant-loop-known l = file_of (drop l.known-index l.files) l.name ≡ file_of l.files l.name
