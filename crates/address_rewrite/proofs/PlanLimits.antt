-- What a valid plan's host and ports keep.
use Rattle.std.proofs.Common.{◌≡◌, ℕ, zero, suc, ◌+◌, ◌≤◌, Bool, true, false, not, ◌&&◌, cond, List, [], ◌∷◌, length, Option, Some, None, option_map, refl, nat_le, arith}
use Rattle.std.specs.List.{slice_get, find, list_all}
use Rattle.std.proofs.lemmas.Bool.Decides.{nat_tests}
use Rattle.virtual_cluster.specs.declared.plan.ClusterPlan.{ClusterPlan}
use Rattle.virtual_cluster.specs.declared.fault.LimitKey.{LimitKey}
use Rattle.virtual_cluster.specs.declared.fault.LimitKey.TheVariants.{Advertise}
use Rattle.virtual_cluster.specs.Limits.{IsValid, limits, first_broken, broken_limit, is_in_range, is_host, is_host_byte, last_port}

-- no fault before the rest, and none in the rest
peel : (b : Bool) (d : LimitKey × Bool) (rest : Option (LimitKey × Bool)) → option_map (λ check. check.0) (cond (not b) (Some d) rest) ≡ None → (b ≡ true) × (option_map (λ check. check.0) rest ≡ None)
peel true d rest none = (refl, none)
peel false d rest none = (cc, cc)

all_kept : (checks : List (LimitKey × Bool)) → first_broken checks ≡ None → (i : ℕ) (c : LimitKey × Bool) → slice_get checks i ≡ Some c → c.1 ≡ true
all_kept [] none i c there = cc
all_kept (d ∷ ds) none zero c there =
    let same : d ≡ c = cc in rw (← same) (peel d.1 d (find (λ check. not check.1) ds) none).0
all_kept (d ∷ ds) none (suc i) c there = all_kept ds (peel d.1 d (find (λ check. not check.1) ds) none).1 i c there

first_of_both : (a b : Bool) → (a && b) ≡ true → a ≡ true
first_of_both true b both = refl
first_of_both false b both = both

second_of_both : (a b : Bool) → (a && b) ≡ true → b ≡ true
second_of_both true b both = both
second_of_both false b both = cc

host_from : (host : List ℕ) → is_host host ≡ true → length host ≤ 255
unfolding is_host
host_from host kept =
    let between = first_of_both (is_in_range 1 255 (length host)) (list_all is_host_byte host) kept in
    let below = second_of_both (nat_le 1 (length host)) (nat_le (length host) 255) between in
    grind (arith, nat_tests)

pub host-bound : (plan : ClusterPlan) → IsValid plan → length plan.advertise ≤ 255
unfolding broken_limit
host-bound plan valid = host_from plan.advertise (all_kept (limits plan) valid.within_limits 2 (Advertise, is_host plan.advertise) refl)

pub ports-bound : (plan : ClusterPlan) → IsValid plan → plan.port + length plan.nodes ≤ 65535
ports-bound plan valid =
    let below = second_of_both (nat_le 1 plan.port) (nat_le (last_port plan) 65535) valid.has_its_ports in
    grind (arith, nat_tests)
