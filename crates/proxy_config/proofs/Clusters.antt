-- A cluster is what both halves of its table make of it, and its other keys.
use Rattle.std.proofs.Common.{◌≡◌, ℕ, ℤ, List, [], ◌∷◌, ◌++◌, refl, ap, sym, ◌∙◌, Option, Some, None, Ok, Err}
use Rattle.toml.specs.Data.{Members}
use Rattle.virtual_cluster.specs.declared.address.Address.{Address}
use Rattle.virtual_cluster.specs.declared.filter_plan.FilterPlan.{FilterPlan}
use Rattle.virtual_cluster.specs.declared.plan.ClusterPlan.{ClusterPlan}
use Rattle.proxy_config.specs.Values.{Given}
use Rattle.proxy_config.specs.Meant.{first_fault, unless, cluster_of, cluster_checks, given_plan, unknown_key, given_name, given_listen, given_advertise, given_port, given_first_node, given_bootstrap, given_nodes, given_prefix, given_filters, given_policy_deny, given_in_flight, given_completers, given_connections}
use Rattle.proxy_config.specs.Halves.{needed_of, options_of, joined_plan, needed_checks, option_checks, needed_values, option_values}
use Rattle.proxy_config.specs.declared.fault.ConfigFault.{ConfigFault}
use Rattle.proxy_config.specs.declared.cluster.Needed.{Needed}
use Rattle.proxy_config.specs.declared.cluster.Options.{Options}
use Rattle.proxy_config.proofs.Order.{first_fault-append}

-- a value comes where nothing is amiss
value_given : {A : Type 0} (check : Option ConfigFault) (value x : A) → unless check value ≡ Ok x → (check ≡ None) × (value ≡ x)
value_given None value x same = (refl, cc)
value_given (Some fault) value x same = absurd cc

fault_given : {A : Type 0} (check : Option ConfigFault) (value : A) (e : ConfigFault) → unless check value ≡ Err e → check ≡ Some e
fault_given None value e same = absurd cc
fault_given (Some fault) value e same = cc

-- the values of the first half, and of the second
pub record GivesNeeded (n : ℕ) (t : Members) (a : Needed) : Type 0 where
  pub name : given_name n t ≡ Ok a.name
  pub listen : given_listen n t ≡ Ok a.listen
  pub advertise : given_advertise n t ≡ Ok a.advertise
  pub port : given_port n t ≡ Ok a.port
  pub first_node : given_first_node n t ≡ Ok a.first_node
  pub bootstrap : given_bootstrap n t ≡ Ok a.bootstrap
  pub nodes : given_nodes n t ≡ Ok a.nodes

pub needed_given : (n : ℕ) (t : Members) (a : Needed) → GivesNeeded n t a → needed_of n t ≡ Ok a
unfolding needed_of
needed_given n t a g = rw (g.name, g.listen, g.advertise, g.port, g.first_node, g.bootstrap, g.nodes) refl

pub record GivesOptions (n : ℕ) (t : Members) (b : Options) : Type 0 where
  pub prefix : given_prefix n t ≡ Ok b.prefix
  pub filters : given_filters n t ≡ Ok b.filters
  pub policy_deny : given_policy_deny n t ≡ Ok b.policy_deny
  pub in_flight : given_in_flight n t ≡ Ok b.in_flight
  pub completers : given_completers n t ≡ Ok b.completers
  pub connections : given_connections n t ≡ Ok b.connections

pub options_given : (n : ℕ) (t : Members) (b : Options) → GivesOptions n t b → options_of n t ≡ Ok b
unfolding options_of
options_given n t b g = rw (g.prefix, g.filters, g.policy_deny, g.in_flight, g.completers, g.connections) refl

-- the faults of a half
needed_right : (n : ℕ) (t : Members) (a : Needed) → needed_of n t ≡ Ok a → (first_fault (needed_checks n t) ≡ None) × (needed_values n t ≡ a)
unfolding needed_of
needed_right n t a given = value_given (first_fault (needed_checks n t)) (needed_values n t) a given

options_right : (n : ℕ) (t : Members) (b : Options) → options_of n t ≡ Ok b → (first_fault (option_checks n t) ≡ None) × (option_values n t ≡ b)
unfolding options_of
options_right n t b given = value_given (first_fault (option_checks n t)) (option_values n t) b given

needed_wrong : (n : ℕ) (t : Members) (e : ConfigFault) → needed_of n t ≡ Err e → first_fault (needed_checks n t) ≡ Some e
unfolding needed_of
needed_wrong n t e given = fault_given (first_fault (needed_checks n t)) (needed_values n t) e given

options_wrong : (n : ℕ) (t : Members) (e : ConfigFault) → options_of n t ≡ Err e → first_fault (option_checks n t) ≡ Some e
unfolding options_of
options_wrong n t e given = fault_given (first_fault (option_checks n t)) (option_values n t) e given

by_halves : (n : ℕ) (t : Members) → first_fault (cluster_checks n t) ≡ first_fault (needed_checks n t ++ (option_checks n t ++ unknown_key (Some n) t ∷ []))
by_halves n t = refl

plan_by_halves : (n : ℕ) (t : Members) → given_plan n t ≡ joined_plan (needed_values n t) (option_values n t)
unfolding given_plan
plan_by_halves n t = refl

pub cluster_given : (n : ℕ) (t : Members) (a : Needed) (b : Options) → needed_of n t ≡ Ok a → options_of n t ≡ Ok b → unknown_key (Some n) t ≡ None → cluster_of n t ≡ Ok (joined_plan a b)
unfolding cluster_of
cluster_given n t a b needed options known =
    let first = needed_right n t a needed in
    let second = options_right n t b options in
    let none : first_fault (cluster_checks n t) ≡ None =
    by_halves n t ∙ rw (first_fault-append (needed_checks n t) (option_checks n t ++ unknown_key (Some n) t ∷ []), first.0, first_fault-append (option_checks n t) (unknown_key (Some n) t ∷ []), second.0, known) refl in
    ap (λ check. unless check (given_plan n t)) none
    ∙ ap Ok (plan_by_halves n t ∙ ap (λ x. joined_plan x (option_values n t)) first.1 ∙ ap (λ y. joined_plan a y) second.1)

refused_by : (n : ℕ) (t : Members) (e : ConfigFault) → first_fault (cluster_checks n t) ≡ Some e → cluster_of n t ≡ Err e
unfolding cluster_of
refused_by n t e fault = ap (λ check. unless check (given_plan n t)) fault

pub needed_refused : (n : ℕ) (t : Members) (e : ConfigFault) → needed_of n t ≡ Err e → cluster_of n t ≡ Err e
needed_refused n t e needed =
    refused_by n t e (by_halves n t ∙ rw (first_fault-append (needed_checks n t) (option_checks n t ++ unknown_key (Some n) t ∷ []), needed_wrong n t e needed) refl)

pub options_refused : (n : ℕ) (t : Members) (a : Needed) (e : ConfigFault) → needed_of n t ≡ Ok a → options_of n t ≡ Err e → cluster_of n t ≡ Err e
options_refused n t a e needed options =
    let first = needed_right n t a needed in
    refused_by n t e (by_halves n t ∙ rw (first_fault-append (needed_checks n t) (option_checks n t ++ unknown_key (Some n) t ∷ []), first.0, first_fault-append (option_checks n t) (unknown_key (Some n) t ∷ []), options_wrong n t e options) refl)

pub key_refused : (n : ℕ) (t : Members) (a : Needed) (b : Options) (e : ConfigFault) → needed_of n t ≡ Ok a → options_of n t ≡ Ok b → unknown_key (Some n) t ≡ Some e → cluster_of n t ≡ Err e
key_refused n t a b e needed options unknown =
    let first = needed_right n t a needed in
    let second = options_right n t b options in
    refused_by n t e (by_halves n t ∙ rw (first_fault-append (needed_checks n t) (option_checks n t ++ unknown_key (Some n) t ∷ []), first.0, first_fault-append (option_checks n t) (unknown_key (Some n) t ∷ []), second.0, unknown) refl)
