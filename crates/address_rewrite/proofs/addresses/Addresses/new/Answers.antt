use Rattle.std.proofs.Common.{◌≡◌, ap, ◌∙◌, sym, subst, ◌≤◌, ◌+◌, length, w32, to_z, of_z, FitsSigned, rules}
use Rattle.std.proofs.lemmas.Int.{to_z-of_z}
use Rattle.virtual_cluster.proofs.Bounds.{first_node-bound}
use Rattle.address_rewrite.specs.Addresses.{addresses_by, port_behind}
use Rattle.address_rewrite.proofs.PlanLimits.{host-bound, ports-bound}
use Rattle.address_rewrite.proofs.addresses.Addresses.new.Goals as goal

pub invariant_of-result : goal.invariant_of-result
invariant_of-result c =
    let host = c.in-Ok.ensures ∙ c.as_slice.ensures in
    record {
      host_fits = subst (λ xs. length xs ≤ 255) (sym host) (host-bound c.args.plan.now c.requires);
      ports_fit = subst (λ n. c.args.plan.now.port + n ≤ 65535) (sym c.len.ensures) (ports-bound c.args.plan.now c.requires);
    }

pub returns-in-Ok : goal.returns-in-Ok
returns-in-Ok c =
    let plan = c.args.plan.now in
    let bounds = first_node-bound plan c.requires in
    let fits : FitsSigned w32 plan.first_node = search (rules, bounds) in
    let first : to_z w32 (of_z w32 plan.first_node) ≡ plan.first_node = to_z-of_z w32 plan.first_node fits in
    ap (λ h. addresses_by h (port_behind plan.port (to_z w32 (of_z w32 plan.first_node)) c.len.result)) (c.in-Ok.ensures ∙ c.as_slice.ensures)
    ∙ ap (λ z. addresses_by plan.advertise (port_behind plan.port z c.len.result)) first
    ∙ ap (λ n. addresses_by plan.advertise (port_behind plan.port plan.first_node n)) c.len.ensures
