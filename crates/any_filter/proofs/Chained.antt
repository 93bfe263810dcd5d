-- A chain that is pushed filter by filter.
use Rattle.std.proofs.Common.{◌≡◌, ◌∙◌, ap, List, [], ◌∷◌, ◌++◌, map}
use Rattle.std.proofs.lemmas.List.{map-append}
use Rattle.virtual_cluster.specs.declared.plan.ClusterPlan.{ClusterPlan}
use Rattle.stock_filters.specs.declared.narrow.Narrow as first
use Rattle.stock_filters.specs.Narrow.{narrow}
use Rattle.address_rewrite.specs.Addresses.{addresses}
use Rattle.address_rewrite.specs.PlanFilter.{addresses_turn}
use Rattle.address_rewrite.specs.declared.addresses.Addresses as last
use Rattle.any_filter.specs.declared.any_filter.AnyFilter.{AnyFilter}
use Rattle.any_filter.specs.declared.any_filter.AnyFilter.TheVariants.{Narrow, Addresses}
use Rattle.any_filter.specs.AnyTurn.{any_turn}
use Rattle.any_filter.specs.Chains.{filter_turn, cluster_chain}

pub chained_whole : (plan : ClusterPlan) (front : first.Narrow) (back : last.Addresses) (none begun made whole : List AnyFilter)
    → none ≡ [] → begun ≡ none ++ (Narrow front ∷ []) → map any_turn made ≡ map any_turn begun ++ map filter_turn plan.filters
    → addresses_turn back ≡ addresses plan → whole ≡ made ++ (Addresses back ∷ []) → map any_turn whole ≡ cluster_chain plan
chained_whole plan front back none begun made whole none_is begun_is made_is back_is whole_is =
    ap (map any_turn) whole_is ∙ map-append any_turn made (Addresses back ∷ [])
    ∙ ap (λ ts. ts ++ (addresses_turn back ∷ [])) (made_is ∙ ap (λ fs. map any_turn fs ++ map filter_turn plan.filters) (begun_is ∙ ap (λ fs. fs ++ (Narrow front ∷ [])) none_is))
    ∙ ap (λ t. narrow ∷ (map filter_turn plan.filters ++ (t ∷ []))) back_is
