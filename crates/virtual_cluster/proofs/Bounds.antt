-- The limits that a valid plan keeps.
use Rattle.std.proofs.Common.{◌≡◌, ℕ, zero, suc, ◌≤◌, Bool, true, false, not, ◌&&◌, cond, ℤ, pos, negsuc, ◌≤ℤ◌, List, [], ◌∷◌, length, Option, Some, None, option_map, refl, nat_le, arith, rules}
use Rattle.std.specs.List.{slice_get, find, list_all}
use Rattle.virtual_cluster.specs.declared.plan.ClusterPlan.{ClusterPlan}
use Rattle.virtual_cluster.specs.declared.address.Address.{Address}
use Rattle.virtual_cluster.specs.declared.fault.LimitKey.{LimitKey}
use Rattle.virtual_cluster.specs.declared.fault.LimitKey.TheVariants.{FirstNode, Nodes, InFlight}
use Rattle.virtual_cluster.specs.Limits.{IsValid, limits, first_broken, broken_limit, is_in_range, is_host, is_first_node, are_nodes}
use Rattle.std.proofs.lemmas.Bool.Decides.{nat_tests}

-- no fault before the rest, and none in the rest
peel : (b : Bool) (d : LimitKey × Bool) (rest : Option (LimitKey × Bool)) → option_map (λ check. check.0) (cond (not b) (Some d) rest) ≡ None → (b ≡ true) × (option_map (λ check. check.0) rest ≡ None)
peel true d rest none = (refl, none)
peel false d rest none = (cc, cc)

all_kept : (checks : List (LimitKey × Bool)) → first_broken checks ≡ None → (i : ℕ) (c : LimitKey × Bool) → slice_get checks i ≡ Some c → c.1 ≡ true
all_kept [] none i c there = cc
all_kept (d ∷ ds) none zero c there =
    let same : d ≡ c = cc in rw (← same) (peel d.1 d (find (λ check. not check.1) ds) none).0
all_kept (d ∷ ds) none (suc i) c there = all_kept ds (peel d.1 d (find (λ check. not check.1) ds) none).1 i c there

first_node_from : (z : ℤ) → is_first_node z ≡ true → (pos 0 ≤ℤ z) × (z ≤ℤ pos 2147483000)
first_node_from (pos n) kept = (search rules, grind (arith, nat_tests))
first_node_from (negsuc n) kept = (cc, cc)

pub first_node-bound : (plan : ClusterPlan) → IsValid plan → (pos 0 ≤ℤ plan.first_node) × (plan.first_node ≤ℤ pos 2147483000)
unfolding broken_limit
first_node-bound plan valid =
    first_node_from plan.first_node (all_kept (limits plan) valid.within_limits 3 (FirstNode, is_first_node plan.first_node) refl)

first_of_both : (a b : Bool) → (a && b) ≡ true → a ≡ true
first_of_both true b both = refl
first_of_both false b both = both

nodes_from : (nodes : List Address) → are_nodes nodes ≡ true → length nodes ≤ 64
unfolding are_nodes
nodes_from nodes kept =
    let between = first_of_both (is_in_range 1 64 (length nodes)) (list_all (λ node. is_host node.host) nodes) kept in grind (arith, nat_tests)

pub nodes-bound : (plan : ClusterPlan) → IsValid plan → length plan.nodes ≤ 64
unfolding broken_limit
nodes-bound plan valid = nodes_from plan.nodes (all_kept (limits plan) valid.within_limits 5 (Nodes, are_nodes plan.nodes) refl)

in_flight_from : (n : ℕ) → is_in_range 1 64 n ≡ true → (1 ≤ n) × (n ≤ 64)
in_flight_from n kept = (grind (arith, nat_tests), grind (arith, nat_tests))

pub in_flight-bound : (plan : ClusterPlan) → IsValid plan → (1 ≤ plan.in_flight) × (plan.in_flight ≤ 64)
unfolding broken_limit
in_flight-bound plan valid =
    in_flight_from plan.in_flight (all_kept (limits plan) valid.within_limits 9 (InFlight, is_in_range 1 64 plan.in_flight) refl)
