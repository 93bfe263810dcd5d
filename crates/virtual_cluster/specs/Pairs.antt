-- Which plans can be served side by side.
use Rattle.std.specs.Prelude.{◌≡◌, ℕ, ◌+◌, ◌<◌, ◌≤◌, ◌==◌, nat_le, Bool, true, false, ◌&&◌, ◌||◌, List, [], ◌∷◌, length, slice_get, Option, Some, None, unwrap_or, is_some, if◌then◌else◌, Result, Ok, Err}
use Rattle.std.specs.Str.{bytes_eq}
use Rattle.std.specs.Option.{option_or}
use Rattle.std.specs.List.{list_any, find}
use Rattle.virtual_cluster.specs.Names.{prefix_begins}
use Rattle.virtual_cluster.specs.Limits.{broken_limit, last_port, has_ports}
use Rattle.virtual_cluster.specs.declared.address.Address.{Address}
use Rattle.virtual_cluster.specs.declared.plan.ClusterPlan.{ClusterPlan}
use Rattle.virtual_cluster.specs.declared.fault.LimitKey.{LimitKey}
use Rattle.virtual_cluster.specs.declared.fault.PlanFault.{PlanFault}
use Rattle.virtual_cluster.specs.declared.fault.PlanFault.TheVariants.{BadLimit, PortRange, NameTwice, PortClash, PrefixClash}

-- the ports from `port` to the last one, of each plan: one is in both ranges
abbrev pub have_port_in_common : ClusterPlan → ClusterPlan → Bool
have_port_in_common p q = nat_le p.port (last_port q) && nat_le q.port (last_port p)

-- host and port alike, byte by byte
abbrev pub is_same_address : Address → Address → Bool
is_same_address a b = bytes_eq a.host b.host && (a.port == b.port)

-- the addresses that a plan leads to
abbrev pub targets : ClusterPlan → List Address
targets plan = plan.bootstrap ∷ plan.nodes

abbrev pub leads_to : ClusterPlan → Address → Bool
leads_to plan address = list_any (λ target. is_same_address target address) (targets plan)

unfoldable pub share_target : ClusterPlan → ClusterPlan → Bool
share_target p q = list_any (λ target. leads_to q target) (targets p)

-- what a plan's names begin with: nothing where it has no prefix
abbrev pub prefix_of : ClusterPlan → List ℕ
prefix_of plan = unwrap_or plan.prefix []

-- at least one plan has a prefix, one prefix begins the other, and they share a target
abbrev pub prefixes_clash : ClusterPlan → ClusterPlan → Bool
prefixes_clash p q =
    ((is_some p.prefix || is_some q.prefix)
    && (prefix_begins (prefix_of p) (prefix_of q) || prefix_begins (prefix_of q) (prefix_of p)))
    && share_target p q

-- the first fault of plan `a` alone
abbrev pub limit_or_ports : ℕ → ClusterPlan → Option LimitKey → Option PlanFault
limit_or_ports a plan (Some key) = Some (BadLimit a key)
limit_or_ports a plan None = if has_ports plan then None else Some (PortRange a)

unfoldable pub own_fault : ℕ → ClusterPlan → Option PlanFault
own_fault a plan = limit_or_ports a plan (broken_limit plan)

-- the first fault of plan `a` with plan `b`
unfoldable pub pair_fault : ℕ → ClusterPlan → ℕ → ClusterPlan → Option PlanFault
pair_fault a p b q =
    if bytes_eq p.name q.name then Some (NameTwice a b)
    else if have_port_in_common p q then Some (PortClash a b)
    else if prefixes_clash p q then Some (PrefixClash a b)
    else None

-- the first fault that a plan has alone, of plans numbered from `a`
abbrev pub first_own_fault : ℕ → List ClusterPlan → Option PlanFault
first_own_fault a [] = None
first_own_fault a (p ∷ ps) = option_or (own_fault a p) (first_own_fault (a + 1) ps)

-- the first fault of plan `a` with plans numbered from `b`
abbrev pub first_fault_with : ℕ → ClusterPlan → ℕ → List ClusterPlan → Option PlanFault
first_fault_with a p b [] = None
first_fault_with a p b (q ∷ qs) = option_or (pair_fault a p b q) (first_fault_with a p (b + 1) qs)

-- the first fault of a pair, of plans numbered from `a`
abbrev pub first_pair_fault : ℕ → List ClusterPlan → Option PlanFault
first_pair_fault a [] = None
first_pair_fault a (p ∷ ps) = option_or (first_fault_with a p (a + 1) ps) (first_pair_fault (a + 1) ps)

-- the first fault: of the plans alone, then of the pairs
unfoldable pub plans_fault : List ClusterPlan → Option PlanFault
plans_fault plans = option_or (first_own_fault 0 plans) (first_pair_fault 0 plans)

-- the plans, or their first fault
abbrev pub checked_by : Option PlanFault → List ClusterPlan → Result (List ClusterPlan) PlanFault
checked_by None plans = Ok plans
checked_by (Some fault) plans = Err fault

abbrev pub checked_plans : List ClusterPlan → Result (List ClusterPlan) PlanFault
checked_plans plans = checked_by (plans_fault plans) plans

-- what holds of all plans that were accepted
pub record AreSound (plans : List ClusterPlan) : Type 0 where
  pub some : 1 ≤ length plans
  pub few : length plans ≤ 64
  pub faultless : plans_fault plans ≡ None

-- of two plans that share a target and of which one has a prefix, neither prefix begins the other
abbrev pub ArePrefixesApart : List ClusterPlan → Type 0
ArePrefixesApart plans =
    (a b : ℕ) (p q : ClusterPlan) → a < b → slice_get plans a ≡ Some p → slice_get plans b ≡ Some q
    → share_target p q ≡ true → (is_some p.prefix || is_some q.prefix) ≡ true
    → (prefix_begins (prefix_of p) (prefix_of q) ≡ false) × (prefix_begins (prefix_of q) (prefix_of p) ≡ false)

-- the first plan with that name
abbrev pub plan_named : List ℕ → List ClusterPlan → Option ClusterPlan
plan_named name plans = find (λ plan. bytes_eq plan.name name) plans
