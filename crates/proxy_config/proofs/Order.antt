-- The first fault of a file, part by part.
use Rattle.std.proofs.Common.{◌≡◌, ℕ, List, [], ◌∷◌, ◌++◌, refl, ap, sym, ◌∙◌, Option, Some, None, option_map, Result, Ok, Err, ◌⊎◌, inl, inr}
use Rattle.std.specs.Option.{option_or}
use Rattle.toml.specs.Data.{Items, Members}
use Rattle.virtual_cluster.specs.Pairs.{plans_fault, checked_by, checked_plans}
use Rattle.virtual_cluster.specs.declared.plan.ClusterPlan.{ClusterPlan}
use Rattle.virtual_cluster.specs.declared.fault.PlanFault.{PlanFault}
use Rattle.proxy_config.specs.Values.{Given}
use Rattle.proxy_config.specs.Meant.{first_fault, unless, given_version, given_tables, unknown_key, clusters_checks, clusters_plans, config_of}
use Rattle.proxy_config.specs.declared.fault.ConfigFault.{ConfigFault}
use Rattle.proxy_config.specs.declared.fault.ConfigFault.TheVariants.{NoMemory, Plan}

-- what refuses a part refuses the whole
pub carried : {A B : Type 0} (e : ConfigFault) (part : Given A) (whole : Given B) → (e ≡ NoMemory) ⊎ (part ≡ Err e) → (part ≡ Err e → whole ≡ Err e) → (e ≡ NoMemory) ⊎ (whole ≡ Err e)
carried e part whole (inl memory) so = inl memory
carried e part whole (inr refused) so = inr (so refused)

-- nothing is amiss
pub nothing_amiss : (check : Option ConfigFault) → unless check (tt {0}) ≡ Ok (tt {0}) → check ≡ None
nothing_amiss None same = refl
nothing_amiss (Some fault) same = cc

-- that is amiss
pub that_amiss : (check : Option ConfigFault) (fault : ConfigFault) → unless check (tt {0}) ≡ Err fault → check ≡ Some fault
that_amiss None fault same = cc
that_amiss (Some other) fault same = cc

pub first_fault-append : (xs ys : List (Option ConfigFault)) → first_fault (xs ++ ys) ≡ option_or (first_fault xs) (first_fault ys)
first_fault-append [] ys = refl
first_fault-append (None ∷ xs) ys = first_fault-append xs ys
first_fault-append (Some fault ∷ xs) ys = refl

-- what a file means whose own keys are right
pub by_clusters : (t : Members) (v : ℕ) (ds : Items) → given_version t ≡ Ok v → given_tables t ≡ Ok ds → unknown_key None t ≡ None
    → config_of t ≡ unless (option_or (first_fault (clusters_checks 0 ds)) (option_or (option_map Plan (plans_fault (clusters_plans 0 ds))) None)) (clusters_plans 0 ds)
unfolding config_of
by_clusters t v ds version tables known = rw (version, tables, known, first_fault-append (clusters_checks 0 ds) (option_map Plan (plans_fault (clusters_plans 0 ds)) ∷ [])) refl

-- a fault of a cluster refuses it
pub refused_by_clusters : (t : Members) (v : ℕ) (ds : Items) (e : ConfigFault) → given_version t ≡ Ok v → given_tables t ≡ Ok ds → unknown_key None t ≡ None
    → (e ≡ NoMemory) ⊎ (first_fault (clusters_checks 0 ds) ≡ Some e) → (e ≡ NoMemory) ⊎ (config_of t ≡ Err e)
refused_by_clusters t v ds e version tables known (inl memory) = inl memory
refused_by_clusters t v ds e version tables known (inr fault) = inr (by_clusters t v ds version tables known ∙ rw fault refl)

accepted : (fault : Option PlanFault) (plans found : List ClusterPlan) → checked_by fault plans ≡ Ok found → (fault ≡ None) × (found ≡ plans)
accepted None plans found same = (refl, cc)
accepted (Some fault) plans found same = absurd cc

refused : (fault : Option PlanFault) (plans : List ClusterPlan) (e : PlanFault) → checked_by fault plans ≡ Err e → fault ≡ Some e
refused None plans e same = absurd cc
refused (Some fault) plans e same = cc

-- what the plans of the clusters make of it
pub by_plans : (t : Members) (v : ℕ) (ds : Items) (plans found : List ClusterPlan) → given_version t ≡ Ok v → given_tables t ≡ Ok ds → unknown_key None t ≡ None
    → first_fault (clusters_checks 0 ds) ≡ None → plans ≡ clusters_plans 0 ds → checked_plans plans ≡ Ok found → config_of t ≡ Ok found
by_plans t v ds plans found version tables known none same checked =
    let ok = accepted (plans_fault plans) plans found checked in
    let faultless : plans_fault (clusters_plans 0 ds) ≡ None = ap plans_fault (sym same) ∙ ok.0 in
    by_clusters t v ds version tables known ∙ rw (none, faultless) (ap Ok (sym (ok.1 ∙ same)))

pub by_fault : (t : Members) (v : ℕ) (ds : Items) (plans : List ClusterPlan) (e : PlanFault) → given_version t ≡ Ok v → given_tables t ≡ Ok ds → unknown_key None t ≡ None
    → first_fault (clusters_checks 0 ds) ≡ None → plans ≡ clusters_plans 0 ds → checked_plans plans ≡ Err e → config_of t ≡ Err (Plan e)
by_fault t v ds plans e version tables known none same checked =
    let fault : plans_fault (clusters_plans 0 ds) ≡ Some e = ap plans_fault (sym same) ∙ refused (plans_fault plans) plans e checked in
    by_clusters t v ds version tables known ∙ rw (none, fault) refl
