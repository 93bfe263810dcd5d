use Rattle.std.proofs.Common.{◌≡◌, ap, sym, ◌∙◌, [], ◌∷◌, None, rules, w32, to_z, of_z, FitsSigned}
use Rattle.std.proofs.lemmas.Int.{to_z-of_z}
use Rattle.tree_codec.specs.Copying.{followed_by}
use Rattle.address_rewrite.specs.Nodes.{address_items, map_nodes, leading_node}
use Rattle.address_rewrite.specs.Addresses.{advertised_by, port_behind}
use Rattle.address_rewrite.proofs.Skipping.{mapped_behind, after_some}
use Rattle.address_rewrite.proofs.addresses.Addresses.push_addressed.Goals as goal

pub loop-first-preserved-in-Some-split_node : goal.loop-first-preserved-in-Some-split_node
loop-first-preserved-in-Some-split_node c =
    let change = advertised_by c.args.self.now.host (port_behind c.args.self.now.port c.args.self.now.first_node c.args.self.now.count) in
    let found = c.in-Some-split_node in
    let node_fits : FitsSigned w32 found.node = search rules in
    let port_fits : FitsSigned w32 found.port = search rules in
    let same : address_items (change (record { node = to_z w32 (of_z w32 found.node); host = found.host.now; port = to_z w32 (of_z w32 found.port) })) ≡ address_items (change (record { node = found.node; host = found.host.now; port = found.port })) =
    ap (λ z. address_items (change (record { node = z; host = found.host.now; port = to_z w32 (of_z w32 found.port) }))) (to_z-of_z w32 found.node node_fits)
    ∙ ap (λ z. address_items (change (record { node = found.node; host = found.host.now; port = z }))) (to_z-of_z w32 found.port port_fits) in
    after_some c.loop-first.out c.push_node.new.out _ (address_items (change (record { node = found.node; host = found.host.now; port = found.port }))) (map_nodes change found.behind.now)
    (c.in_ok-push_node-in-Some-split_node.ensures ∙ ap (followed_by c.loop-first.out) same)
    (ap (λ xs. followed_by c.loop-first.out (map_nodes change xs)) (sym found.ensures) ∙ c.loop-first.invariant)

pub loop-first-preserved : goal.loop-first-preserved
loop-first-preserved c =
    let change = advertised_by c.args.self.now.host (port_behind c.args.self.now.port c.args.self.now.first_node c.args.self.now.count) in
    let first = c.in-Some.first.now in
    let behind = c.in-Some.behind.now in
    let rest : c.loop-first.rest.now ≡ first ∷ behind = search rules in
    let none : leading_node (first ∷ behind) ≡ None = ap leading_node (sym rest) ∙ c.in-None.ensures in
    after_some c.loop-first.out c.push_shared.new.out _ (first ∷ []) (map_nodes change behind)
    c.in_ok-push_shared-in-None.ensures
    (ap (followed_by c.loop-first.out) (sym (ap (map_nodes change) rest ∙ mapped_behind change first behind none)) ∙ c.loop-first.invariant)
