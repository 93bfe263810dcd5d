-- A node's port and a port's node are each the inverse of the other.
use Rattle.std.proofs.Common.{◌≡◌, ℕ, zero, suc, ◌+◌, ◌-◌, ◌<◌, ◌≤◌, nat_lt, Bool, true, false, cond, ℤ, pos, negsuc, ◌+ℤ◌, ◌-ℤ◌, length, Option, Some, None, option_map, refl, sym, arith}
use Rattle.std.proofs.lemmas.Int.{ints}
use Rattle.std.proofs.lemmas.Bool.Decides.{nat_tests}
use Rattle.virtual_cluster.specs.declared.plan.ClusterPlan.{ClusterPlan}
use Rattle.node_ports.specs.declared.PortRole.TheVariants.{Node}
use Rattle.node_ports.specs.Ports.{place_within, node_port, role_behind, port_role}

-- what it says of a distance that it is a place
place_from : (count : ℕ) (distance : ℤ) (first port : ℕ) → option_map (λ k. first + 1 + k) (place_within count distance) ≡ Some port → (k : ℕ) × ((distance ≡ pos k) × (k < count) × (port ≡ first + 1 + k))
place_from count (negsuc n) first port is = cc
place_from count (pos k) first port is =
    elim (nat_lt k count) as (λ b. nat_lt k count ≡ b → option_map (λ j. first + 1 + j) (cond b (Some k) None) ≡ Some port → (j : ℕ) × ((pos k ≡ pos j) × (j < count) × (port ≡ first + 1 + j))) [
      | true ↦ λ within some. (k, (refl, grind (arith, nat_tests), cc))
      | false ↦ λ within some. cc
    ] refl is

role_at : (plan : ClusterPlan) (port k : ℕ) → plan.port ≤ port → port - plan.port ≡ suc k → k < length plan.nodes → port_role plan port ≡ Some (Node (plan.first_node +ℤ pos k))
role_at plan port k above behind within =
    let not_below : nat_lt port plan.port ≡ false = grind (arith, nat_tests) in
    let there : nat_lt k (length plan.nodes) ≡ true = grind (arith, nat_tests) in
    rw (not_below, behind, there)

-- the role that code computes
pub node_role : (plan : ClusterPlan) (port k : ℕ) (node : ℤ) → node ≡ plan.first_node +ℤ pos k → plan.port ≤ port → port - plan.port ≡ suc k → k < length plan.nodes → Some (Node node) ≡ port_role plan port
node_role plan port k node is above behind within = rw (role_at plan port k above behind within, is)

pub role_from_port : (plan : ClusterPlan) (node : ℤ) (port : ℕ) → node_port plan node ≡ Some port → port_role plan port ≡ Some (Node node)
role_from_port plan node port is =
    let place = place_from (length plan.nodes) (node -ℤ plan.first_node) plan.port port is in
    let k : ℕ = place.0 in
    let same : port ≡ plan.port + 1 + k = place.1.2 in
    let node_is : node ≡ plan.first_node +ℤ pos k = omega (arith, ints, place.1.0) in
    sym (node_role plan port k node node_is (omega arith) (omega arith) place.1.1)

-- what it says of a place behind the bootstrap port that it is a node's
role_from : (plan : ClusterPlan) (behind : ℕ) (node : ℤ) → role_behind plan behind ≡ Some (Node node) → (k : ℕ) × ((behind ≡ suc k) × (k < length plan.nodes) × (node ≡ plan.first_node +ℤ pos k))
role_from plan zero node is = cc
role_from plan (suc k) node is =
    elim (nat_lt k (length plan.nodes)) as (λ b. nat_lt k (length plan.nodes) ≡ b → cond b (Some (Node (plan.first_node +ℤ pos k))) None ≡ Some (Node node) → (j : ℕ) × ((suc k ≡ suc j) × (j < length plan.nodes) × (node ≡ plan.first_node +ℤ pos j))) [
      | true ↦ λ within some. (k, (refl, grind (arith, nat_tests), cc))
      | false ↦ λ within some. cc
    ] refl is

not_there : {A : Type 0} (b : Bool) (rest : Option A) (x : A) → cond b None rest ≡ Some x → (b ≡ false) × (rest ≡ Some x)
not_there true rest x is = (cc, cc)
not_there false rest x is = (refl, is)

pub port_from_role : (plan : ClusterPlan) (node : ℤ) (port : ℕ) → port_role plan port ≡ Some (Node node) → node_port plan node ≡ Some port
port_from_role plan node port is =
    let parts = not_there (nat_lt port plan.port) (role_behind plan (port - plan.port)) (Node node) is in
    let above : plan.port ≤ port = grind (arith, nat_tests, parts.0) in
    let place = role_from plan (port - plan.port) node parts.1 in
    let k : ℕ = place.0 in
    let behind : port - plan.port ≡ suc k = place.1.0 in
    let distance : node -ℤ plan.first_node ≡ pos k = omega (arith, ints, place.1.2) in
    let there : nat_lt k (length plan.nodes) ≡ true = grind (arith, nat_tests, place.1.1) in
    let total : plan.port + 1 + k ≡ port = omega arith in
    rw (distance, there, total)
