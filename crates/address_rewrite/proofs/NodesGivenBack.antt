-- Where nodes are in what goes back to clients.
use Rattle.std.proofs.Common.{◌≡◌, refl, sym, ap, ◌∙◌, subst, ℕ, ℤ, pos, Bool, true, false, cond, List, [], ◌∷◌, map, get_or, Option, Some, None, option_map, is_none}
use Rattle.std.specs.List.{find, All, AllByRecursion}
use Rattle.std.proofs.lemmas.List.Elements.{All-from_recursion}
use Rattle.tree_spelling.specs.declared.primitive.Primitive.{Primitive}
use Rattle.tree_spelling.specs.declared.primitive.Primitive.TheVariants.{Int32, Text}
use Rattle.tree_spelling.specs.Body.{Contents}
use Rattle.virtual_cluster.specs.declared.address.Address.{Address}
use Rattle.virtual_cluster.specs.declared.plan.ClusterPlan.{ClusterPlan}
use Rattle.virtual_cluster.specs.Pairs.{targets}
use Rattle.node_ports.specs.Ports.{node_port}
use Rattle.filter_core.specs.Decision.{Return, Shut}
use Rattle.filter_core.specs.declared.reason.Reason.TheVariants.{NodeOutOfRange}
use Rattle.address_rewrite.specs.Nodes.{NodeAddress, nodes_in, map_nodes}
use Rattle.address_rewrite.specs.Addresses.{client_port, moved_to, is_stray, first_stray, addressed, unless_stray}
use Rattle.address_rewrite.specs.AtProxy.{nodes_of, advertised, IsGivenBack, IsAtProxy, AreTargetsElsewhere, IsAtNoTarget}

-- ---- the addresses of changed items are the changed addresses

abbrev pub begins_text : List Primitive → Bool
begins_text (Text text ∷ items) = true
begins_text items = false

pub number_skipped : (number : ℤ) (items : List Primitive) → begins_text items ≡ false → nodes_in (Int32 number ∷ items) ≡ nodes_in items
number_skipped number (Text text ∷ items) without = absurd cc
number_skipped number items without = refl

mapped_number : (change : NodeAddress → NodeAddress) (number : ℤ) (items : List Primitive) → begins_text (map_nodes change (Int32 number ∷ items)) ≡ false
mapped_number change number (Text host ∷ (Int32 port ∷ items)) = refl
mapped_number change number items = refl

nodes_mapped : (change : NodeAddress → NodeAddress) (items : List Primitive) → nodes_in (map_nodes change items) ≡ map change (nodes_in items)
nodes_mapped change (Int32 node ∷ (Text host ∷ (Int32 port ∷ items))) =
    ap (λ nodes. change (record { node = node; host = host; port = port }) ∷ nodes) (nodes_mapped change items)
nodes_mapped change (Int32 number ∷ (Int32 next ∷ items)) =
    number_skipped number (map_nodes change (Int32 next ∷ items)) (mapped_number change next items) ∙ nodes_mapped change (Int32 next ∷ items)
nodes_mapped change (Int32 number ∷ (Text text ∷ (item ∷ items))) = nodes_mapped change items
nodes_mapped change (Int32 number ∷ (Text text ∷ [])) = refl
nodes_mapped change (Int32 number ∷ (item ∷ items)) = nodes_mapped change items
nodes_mapped change (Int32 number ∷ []) = refl
nodes_mapped change (item ∷ items) = nodes_mapped change items
nodes_mapped change [] = refl

-- ---- what is given back

back_is : (stray : Option ℤ) (new back : Contents) → unless_stray stray new ≡ Return (Some back) → (stray ≡ None) × (new ≡ back)
back_is None new back is = (refl, let z : Return (Some new) ≡ Return (Some back) = is in cc)
back_is (Some node) new back is = absurd (let z : Shut (NodeOutOfRange node) ≡ Return (Some back) = is in cc)

abbrev Parts : ClusterPlan → Contents → Contents → Type 0
Parts plan response back =
    (first_stray (node_port plan) response.items ≡ None) × (addressed plan.advertise (node_port plan) response ≡ back)

parts : (plan : ClusterPlan) (response back : Contents) → IsGivenBack plan response back → Parts plan response back
parts plan response back given =
    let new = addressed plan.advertise (node_port plan) response in
    let is = ap (λ b. cond b (unless_stray (first_stray (node_port plan) response.items) new) (Return (Some response))) (sym given.names) ∙ given.returned in
    back_is (first_stray (node_port plan) response.items) new back is

pub nodes_given_back : (plan : ClusterPlan) (response back : Contents) → IsGivenBack plan response back → nodes_of back ≡ map (advertised plan) (nodes_of response)
nodes_given_back plan response back given =
    ap nodes_of (sym (parts plan response back given).1) ∙ nodes_mapped (advertised plan) response.items

-- ---- at the proxy

abbrev IsNoStray : (ℤ → Option ℕ) → NodeAddress → Type 0
IsNoStray ports address = is_stray ports address.node ≡ false

abbrev strays : (ℤ → Option ℕ) → List NodeAddress → Option ℤ
strays ports nodes = find (is_stray ports) (map (λ (a : NodeAddress). a.node) nodes)

first_is_none : (b : Bool) (node : ℤ) (rest : Option ℤ) → cond b (Some node) rest ≡ None → (b ≡ false) × (rest ≡ None)
first_is_none true node rest none = absurd cc
first_is_none false node rest none = (refl, none)

no_strays : (ports : ℤ → Option ℕ) (nodes : List NodeAddress) → strays ports nodes ≡ None → AllByRecursion (IsNoStray ports) nodes
no_strays ports [] none = tt
no_strays ports (address ∷ nodes) none =
    let both = first_is_none (is_stray ports address.node) address.node (strays ports nodes) none in
    (both.0, no_strays ports nodes both.1)

node_stays : (host : List ℕ) (address : NodeAddress) (port : Option ℕ) → (moved_to host address port).node ≡ address.node
node_stays host address None = refl
node_stays host address (Some port) = refl

-- with a port it is at the host and at that port
abbrev IsMoved : List ℕ → NodeAddress → Option ℕ → Option ℕ → Type 0
IsMoved host address port there = ((moved_to host address port).host ≡ Some host) × (option_map pos there ≡ Some (moved_to host address port).port)

moved_by : (host : List ℕ) (address : NodeAddress) (port : Option ℕ) → is_none port ≡ false → IsMoved host address port port
moved_by host address None without = absurd cc
moved_by host address (Some port) without = (refl, refl)

moved : (host : List ℕ) (ports : ℤ → Option ℕ) (address : NodeAddress) (n : ℕ) → IsNoStray ports address → address.node ≡ pos n → IsMoved host address (client_port ports address.node) (ports (pos n))
moved host ports address n without is =
    subst (λ z. IsMoved host address (client_port ports z) (ports (pos n))) (sym is)
    (moved_by host address (ports (pos n)) (subst (λ z. is_stray ports z ≡ false) is without))

one_at_proxy : (plan : ClusterPlan) (address : NodeAddress) → IsNoStray (node_port plan) address → IsAtProxy plan (advertised plan address)
one_at_proxy plan address without n is =
    moved plan.advertise (node_port plan) address n without (sym (node_stays plan.advertise address (client_port (node_port plan) address.node)) ∙ is)

all_at_proxy : (plan : ClusterPlan) (nodes : List NodeAddress) → AllByRecursion (IsNoStray (node_port plan)) nodes → AllByRecursion (IsAtProxy plan) (map (advertised plan) nodes)
all_at_proxy plan [] without = tt
all_at_proxy plan (address ∷ nodes) without = (one_at_proxy plan address without.0, all_at_proxy plan nodes without.1)

pub nodes_at_proxy : (plan : ClusterPlan) (response back : Contents) → IsGivenBack plan response back → All (IsAtProxy plan) (nodes_of back)
nodes_at_proxy plan response back given =
    let without = no_strays (node_port plan) (nodes_of response) (parts plan response back given).0 in
    subst (All (IsAtProxy plan)) (sym (nodes_given_back plan response back given))
    (All-from_recursion (IsAtProxy plan) (map (advertised plan) (nodes_of response)) (all_at_proxy plan (nodes_of response) without))

-- ---- at no target

port_there : (port : Option ℕ) (n : ℕ) (said : ℤ) → option_map pos port ≡ Some said → said ≡ pos n → port ≡ Some n
port_there None n said is same = absurd cc
port_there (Some port) n said is same =
    let e : pos port ≡ pos n = cc in
    let f : port ≡ n = cc in
    ap Some f

one_at_no_target : (plan : ClusterPlan) (address : NodeAddress) → AreTargetsElsewhere plan → IsAtProxy plan address → IsAtNoTarget plan address
one_at_no_target plan address elsewhere proxy n is k d within host port =
    let target : Address = get_or (targets plan) k d in
    let there = proxy n is in
    let same : target.host ≡ plan.advertise = cc in
    elsewhere k d within (pos n) same (port_there (node_port plan (pos n)) target.port address.port there.1 port)

pub nodes_at_no_target : (plan : ClusterPlan) (response back : Contents) → IsGivenBack plan response back → AreTargetsElsewhere plan → All (IsAtNoTarget plan) (nodes_of back)
nodes_at_no_target plan response back given elsewhere k d within =
    one_at_no_target plan (get_or (nodes_of back) k d) elsewhere (nodes_at_proxy plan response back given k d within)
