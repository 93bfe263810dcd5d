-- What follows from it that plans have no fault.
use Rattle.std.proofs.Common.{◌≡◌, ℕ, zero, suc, ◌+◌, ◌<◌, Bool, true, false, ◌&&◌, ◌||◌, List, [], ◌∷◌, length, Option, Some, None, is_some, cond, refl, get_or, All, arith}
use Rattle.std.specs.Option.{option_or}
use Rattle.std.specs.List.{slice_get}
use Rattle.std.specs.Str.{bytes_eq}
use Rattle.virtual_cluster.specs.declared.plan.ClusterPlan.{ClusterPlan}
use Rattle.virtual_cluster.specs.declared.fault.LimitKey.{LimitKey}
use Rattle.virtual_cluster.specs.declared.fault.PlanFault.TheVariants.{PortRange, NameTwice, PortClash, PrefixClash}
use Rattle.virtual_cluster.specs.Names.{prefix_begins}
use Rattle.virtual_cluster.specs.Limits.{IsValid, broken_limit, has_ports}
use Rattle.virtual_cluster.specs.Pairs.{have_port_in_common, limit_or_ports, own_fault, pair_fault, prefixes_clash, share_target, prefix_of, first_own_fault, first_fault_with, first_pair_fault, plans_fault, ArePrefixesApart}

-- where neither has one
both_none : {A : Type 0} (x y : Option A) → option_or x y ≡ None → (x ≡ None) × (y ≡ None)
both_none None y none = (refl, none)
both_none (Some x) y none = (none, cc)

-- no fault where the test holds
test_holds : {A : Type 0} (b : Bool) (fault : A) → cond b None (Some fault) ≡ None → b ≡ true
test_holds true fault none = refl
test_holds false fault none = cc

-- no fault where the test fails
test_fails : {A : Type 0} (b : Bool) (fault : A) (rest : Option A) → cond b (Some fault) rest ≡ None → (b ≡ false) × (rest ≡ None)
test_fails true fault rest none = (cc, cc)
test_fails false fault rest none = (refl, none)

key_and_ports : (a : ℕ) (p : ClusterPlan) (key : Option LimitKey) → limit_or_ports a p key ≡ None → (key ≡ None) × (has_ports p ≡ true)
key_and_ports a p None none = (refl, test_holds (has_ports p) (PortRange a) none)
key_and_ports a p (Some key) none = (cc, cc)

valid_alone : (a : ℕ) (p : ClusterPlan) → own_fault a p ≡ None → IsValid p
unfolding own_fault
valid_alone a p none =
    let parts = key_and_ports a p (broken_limit p) none in record { within_limits = parts.0; has_its_ports = parts.1 }

valid_at : (a : ℕ) (ps : List ClusterPlan) → first_own_fault a ps ≡ None → (k : ℕ) (d : ClusterPlan) → k < length ps → IsValid (get_or ps k d)
valid_at a [] none k d within = absurd (omega arith)
valid_at a (p ∷ ps) none zero d within = valid_alone a p (both_none (own_fault a p) (first_own_fault (a + 1) ps) none).0
valid_at a (p ∷ ps) none (suc k) d within =
    valid_at (a + 1) ps (both_none (own_fault a p) (first_own_fault (a + 1) ps) none).1 k d (omega arith)

-- each of them is valid
pub All-valid : (ps : List ClusterPlan) → plans_fault ps ≡ None → All IsValid ps
unfolding plans_fault
All-valid ps none = valid_at 0 ps (both_none (first_own_fault 0 ps) (first_pair_fault 0 ps) none).0

no_clash : (a b : ℕ) (p q : ClusterPlan) → pair_fault a p b q ≡ None → prefixes_clash p q ≡ false
unfolding pair_fault
no_clash a b p q none =
    let names = test_fails (bytes_eq p.name q.name) (NameTwice a b) (cond (have_port_in_common p q) (Some (PortClash a b)) (cond (prefixes_clash p q) (Some (PrefixClash a b)) None)) none in
    let ports = test_fails (have_port_in_common p q) (PortClash a b) (cond (prefixes_clash p q) (Some (PrefixClash a b)) None) names.1 in
    (test_fails (prefixes_clash p q) (PrefixClash a b) None ports.1).0

no_clash_with : (a b : ℕ) (p : ClusterPlan) (qs : List ClusterPlan) → first_fault_with a p b qs ≡ None → (k : ℕ) (q : ClusterPlan) → slice_get qs k ≡ Some q → prefixes_clash p q ≡ false
no_clash_with a b p [] none k q there = cc
no_clash_with a b p (r ∷ qs) none zero q there =
    let same : r ≡ q = cc in
    rw (← same) (no_clash a b p r (both_none (pair_fault a p b r) (first_fault_with a p (b + 1) qs) none).0)
no_clash_with a b p (r ∷ qs) none (suc k) q there =
    no_clash_with a (b + 1) p qs (both_none (pair_fault a p b r) (first_fault_with a p (b + 1) qs) none).1 k q there

no_clash_of_two : (n : ℕ) (ps : List ClusterPlan) → first_pair_fault n ps ≡ None → (a b : ℕ) (p q : ClusterPlan) → a < b → slice_get ps a ≡ Some p → slice_get ps b ≡ Some q → prefixes_clash p q ≡ false
no_clash_of_two n [] none a b p q before first second = cc
no_clash_of_two n (r ∷ ps) none zero zero p q before first second = absurd (omega arith)
no_clash_of_two n (r ∷ ps) none (suc a) zero p q before first second = absurd (omega arith)
no_clash_of_two n (r ∷ ps) none zero (suc b) p q before first second =
    let same : r ≡ p = cc in
    rw (← same) (no_clash_with n (n + 1) r ps (both_none (first_fault_with n r (n + 1) ps) (first_pair_fault (n + 1) ps) none).0 b q second)
no_clash_of_two n (r ∷ ps) none (suc a) (suc b) p q before first second =
    no_clash_of_two (n + 1) ps (both_none (first_fault_with n r (n + 1) ps) (first_pair_fault (n + 1) ps) none).1 a b p q (omega arith) first second

neither : (has x y shared : Bool) → ((has && (x || y)) && shared) ≡ false → shared ≡ true → has ≡ true → (x ≡ false) × (y ≡ false)
neither true true y true none there has = (cc, cc)
neither true false true true none there has = (refl, cc)
neither true false false true none there has = (refl, refl)
neither false x y shared none there has = (cc, cc)
neither true x y false none there has = (cc, cc)

-- no prefix begins another's on a target that both use
pub ArePrefixesApart-faultless : (ps : List ClusterPlan) → plans_fault ps ≡ None → ArePrefixesApart ps
unfolding plans_fault
ArePrefixesApart-faultless ps none a b p q before first second there has =
    neither (is_some p.prefix || is_some q.prefix) (prefix_begins (prefix_of p) (prefix_of q)) (prefix_begins (prefix_of q) (prefix_of p)) (share_target p q)
    (no_clash_of_two 0 ps (both_none (first_own_fault 0 ps) (first_pair_fault 0 ps) none).1 a b p q before first second) there has
