use Rattle.std.proofs.Common.{◌≡◌, length}
use Rattle.address_rewrite.specs.Addresses.{first_stray, port_behind}
use Rattle.address_rewrite.proofs.addresses.Addresses.first_stray.Given as goal

abbrev pub invariant-loop-behind : goal.invariant-loop-behind
invariant-loop-behind l = first_stray (port_behind l.self.port l.self.first_node l.self.count) l.rest ≡ first_stray (port_behind l.self.port l.self.first_node l.self.count) l.items

abbrev pub decreases-loop-behind : goal.decreases-loop-behind
decreases-loop-behind l = length l.rest
