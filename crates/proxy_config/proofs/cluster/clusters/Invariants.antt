use Rattle.std.proofs.Common.{◌≡◌, drop, ◌++◌, length}
use Rattle.toml.specs.View.{items_view}
use Rattle.proxy_config.specs.Meant.{first_fault, clusters_checks, clusters_plans}
use Rattle.proxy_config.proofs.cluster.clusters.Given as goal

-- the clusters so far have no fault
abbrev pub invariant-loop-n : goal.invariant-loop-n
invariant-loop-n l = record {
  faultless : first_fault (clusters_checks l.n (items_view (drop l.n l.items))) ≡ first_fault (clusters_checks 0 (items_view l.items));
  so_far : l.plans.items ++ clusters_plans l.n (items_view (drop l.n l.items)) ≡ clusters_plans 0 (items_view l.items);
  count : length l.plans.items ≡ l.n;
}
