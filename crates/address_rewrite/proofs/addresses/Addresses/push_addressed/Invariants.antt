use Rattle.std.proofs.Common.{◌≡◌, length}
use Rattle.tree_codec.specs.Copying.{followed_by}
use Rattle.address_rewrite.specs.Nodes.{map_nodes}
use Rattle.address_rewrite.specs.Addresses.{advertised_by, port_behind}
use Rattle.address_rewrite.proofs.addresses.Addresses.push_addressed.Given as goal

abbrev pub invariant-loop-first : goal.invariant-loop-first
invariant-loop-first l =
    followed_by l.out (map_nodes (advertised_by l.self.host (port_behind l.self.port l.self.first_node l.self.count)) l.rest)
    ≡ followed_by l.fn.out (map_nodes (advertised_by l.self.host (port_behind l.self.port l.self.first_node l.self.count)) l.items)

abbrev pub decreases-loop-first : goal.decreases-loop-first
decreases-loop-first l = length l.rest
