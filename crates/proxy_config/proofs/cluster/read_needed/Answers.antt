use Rattle.std.proofs.Common.{◌≡◌, rules, FitsSigned, w32, to_z, of_z}
use Rattle.std.proofs.lemmas.Int.{to_z-of_z}
use Rattle.toml.specs.View.{table_view}
use Rattle.proxy_config.proofs.Clusters.{needed_given}
use Rattle.proxy_config.proofs.cluster.read_needed.Goals as goal

pub returns : goal.returns
returns c =
    let fits : FitsSigned w32 c.in_ok-int32.field-0 = search rules in
    let same : to_z w32 (of_z w32 c.in_ok-int32.field-0) ≡ c.in_ok-int32.field-0 = to_z-of_z w32 c.in_ok-int32.field-0 fits in
    rw same (needed_given c.args.n (table_view c.args.table.now) _ (record {
      name = c.in_ok-text.ensures;
      listen = c.in_ok-text-2.ensures;
      advertise = c.in_ok-text-3.ensures;
      port = c.in_ok-port.ensures;
      first_node = c.in_ok-int32.ensures;
      bootstrap = c.in_ok-address.ensures;
      nodes = c.in_ok-addresses.ensures;
    }))
