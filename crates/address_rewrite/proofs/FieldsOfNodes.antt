-- Which fields of a response are addresses.
use Rattle.std.proofs.Common.{◌≡◌, refl, sym, ap, ◌∙◌, ℤ, pos, Bool, true, false, ◌&&◌, List, [], ◌∷◌, ◌++◌, map, length, suc, Option, Some, None, option_map, append_assoc, append-nil}
use Rattle.std.specs.List.{flat_map, All, AllByRecursion}
use Rattle.std.proofs.lemmas.List.Elements.{All-from_recursion}
use Rattle.kp_schema.specs.declared.dir.Dir.TheVariants as dir
use Rattle.kp_schema.specs.declared.kind.Kind.TheVariants as kinds
use Rattle.kp_schema.specs.Field.{is_between}
use Rattle.kp_schema.specs.Messages.{fields_of, messages}
use Rattle.kp_schema.specs.Metadata as Metadata
use Rattle.kp_schema.specs.FindCoordinator as FindCoordinator
use Rattle.tree_spelling.specs.declared.primitive.Primitive.{Primitive}
use Rattle.tree_spelling.specs.declared.primitive.Primitive.TheVariants.{Int32, Text, Count}
use Rattle.tree_spelling.specs.Shape.{Shape, End, Plain, Array, message_shape}
use Rattle.tree_spelling.specs.Value.{Value, leaf_item, array_items, items_of}
use Rattle.address_rewrite.specs.Nodes.{NodeAddress, address_items, nodes_in, map_nodes}
use Rattle.address_rewrite.specs.AddressFields.{broker_shape, broker_address, moved_broker, broker_addresses, metadata_shape, metadata_brokers, with_moved_brokers, AreOfBrokers, metadata_versions, find_coordinator_shape, found_coordinator, coordinator_address, with_moved_coordinator, IsOfCoordinator, coordinator_versions}
use Rattle.address_rewrite.proofs.NodesGivenBack.{begins_text, number_skipped}

-- ---- fields of which no text stands behind a number of four bytes

-- whether they are such, behind a number or not
abbrev is_calm : Bool → Shape → Bool
is_calm number End = true
is_calm true (Plain kinds.Str rest) = false
is_calm false (Plain kinds.Str rest) = is_calm false rest
is_calm number (Plain kinds.I32 rest) = is_calm true rest
is_calm number (Plain kind rest) = is_calm false rest
is_calm number (Array entry rest) = is_calm true entry && is_calm true rest

-- nothing of these items is changed
abbrev Stays : List Primitive → List Primitive → Type 0
Stays items more = (change : NodeAddress → NodeAddress) → map_nodes change (items ++ more) ≡ items ++ map_nodes change more

-- they bring no address and stay as they are, and behind a number they begin with no text
record HasNone (number : Bool) (items more : List Primitive) : Type 0 where
  none : nodes_in (items ++ more) ≡ nodes_in more
  stay : Stays items more
  no_text : number ≡ true → begins_text (items ++ more) ≡ false

-- items that stay, and behind them others that stay
both_stay : (items others more : List Primitive) → Stays items (others ++ more) → Stays others more → Stays (items ++ others) more
both_stay items others more first then change =
    ap (map_nodes change) (append_assoc items others more) ∙ first change ∙ ap (λ xs. items ++ xs) (then change) ∙ sym (append_assoc items others (map_nodes change more))

number_stays : (change : NodeAddress → NodeAddress) (number : ℤ) (items : List Primitive) → begins_text items ≡ false → map_nodes change (Int32 number ∷ items) ≡ Int32 number ∷ map_nodes change items
number_stays change number (Text text ∷ items) without = absurd cc
number_stays change number items without = refl

both : (a b : Bool) → (a && b) ≡ true → (a ≡ true) × (b ≡ true)
both true b is = (refl, is)
both false b is = absurd cc

entries_calm : (entry : Shape) → ((value : Value entry) (more : List Primitive) → begins_text more ≡ false → HasNone true (items_of entry value) more)
    → (entries : List (Value entry)) (more : List Primitive) → begins_text more ≡ false → HasNone true (flat_map (items_of entry) entries) more
entries_calm entry calm [] more without = record { none = refl; stay = λ change. refl; no_text = λ t. without }
entries_calm entry calm (value ∷ entries) more without =
    let others = flat_map (items_of entry) entries in
    let rest = entries_calm entry calm entries more without in
    let first = calm value (others ++ more) (rest.no_text refl) in
    let same = append_assoc (items_of entry value) others more in
    record {
      none = ap nodes_in same ∙ first.none ∙ rest.none;
      stay = both_stay (items_of entry value) others more first.stay rest.stay;
      no_text = λ t. ap begins_text same ∙ first.no_text refl;
    }

abbrev IsCalm : Bool → Shape → Type 0
IsCalm number shape = (value : Value shape) (more : List Primitive) → begins_text more ≡ false → HasNone number (items_of shape value) more

array_calm : (number : Bool) (entry rest : Shape) → IsCalm true entry → IsCalm true rest → IsCalm number (Array entry rest)
array_calm number entry rest calm then_calm (None, value) more without =
    let behind = then_calm value more without in
    record { none = behind.none; stay = λ change. ap (λ xs. Count None ∷ xs) (behind.stay change); no_text = λ t. refl }
array_calm number entry rest calm then_calm (Some entries, value) more without =
    let items = flat_map (items_of entry) entries in
    let behind = then_calm value more without in
    let first = entries_calm entry calm entries (items_of rest value ++ more) (behind.no_text refl) in
    record {
      none = ap nodes_in (append_assoc items (items_of rest value) more) ∙ first.none ∙ behind.none;
      stay = λ change. ap (λ xs. Count (Some (length entries)) ∷ xs) (both_stay items (items_of rest value) more first.stay behind.stay change);
      no_text = λ t. refl;
    }

calm : (number : Bool) (shape : Shape) → is_calm number shape ≡ true → IsCalm number shape
calm number End is value more without = record { none = refl; stay = λ change. refl; no_text = λ t. without }
calm true (Plain kinds.Str rest) is value more without = absurd cc
calm false (Plain kinds.Str rest) is value more without =
    let behind = calm false rest is value.1 more without in
    record { none = behind.none; stay = λ change. ap (λ xs. Text value.0 ∷ xs) (behind.stay change); no_text = λ t. absurd cc }
calm number (Plain kinds.I32 rest) is value more without =
    let behind = calm true rest is value.1 more without in
    record {
      none = number_skipped value.0 (items_of rest value.1 ++ more) (behind.no_text refl) ∙ behind.none;
      stay = λ change. number_stays change value.0 (items_of rest value.1 ++ more) (behind.no_text refl) ∙ ap (λ xs. Int32 value.0 ∷ xs) (behind.stay change);
      no_text = λ t. refl;
    }
calm number (Plain kind rest) is value more without =
    let behind = calm false rest is value.1 more without in
    record { none = behind.none; stay = λ change. ap (λ xs. leaf_item kind value.0 ∷ xs) (behind.stay change); no_text = λ t. refl }
calm number (Array entry rest) is value more without =
    let parts = both (is_calm true entry) (is_calm true rest) is in
    array_calm number entry rest (calm true entry parts.0) (calm true rest parts.1) value more without

none_there : (shape : Shape) → is_calm false shape ≡ true → (value : Value shape) → nodes_in (items_of shape value) ≡ []
none_there shape is value = ap nodes_in (sym (append-nil (items_of shape value))) ∙ (calm false shape is value [] refl).none

all_stay : (shape : Shape) → is_calm false shape ≡ true → (value : Value shape) (change : NodeAddress → NodeAddress) → map_nodes change (items_of shape value) ≡ items_of shape value
all_stay shape is value change =
    ap (map_nodes change) (sym (append-nil (items_of shape value))) ∙ (calm false shape is value [] refl).stay change ∙ append-nil (items_of shape value)

-- ---- Metadata

brokers_there : (brokers : List (Value broker_shape)) (more : List Primitive) → nodes_in more ≡ []
    → nodes_in (flat_map (items_of broker_shape) brokers ++ more) ≡ map broker_address brokers
brokers_there [] more none = none
brokers_there (broker ∷ brokers) more none = ap (λ nodes. broker_address broker ∷ nodes) (brokers_there brokers more none)

array_there : (rest : Shape) → is_calm false rest ≡ true → (brokers : Option (List (Value broker_shape))) (value : Value rest)
    → nodes_in (array_items (items_of broker_shape) brokers ++ items_of rest value) ≡ broker_addresses brokers
array_there rest is None value = none_there rest is value
array_there rest is (Some brokers) value = brokers_there brokers (items_of rest value) (none_there rest is value)

throttled : (number : ℤ) (rest : Shape) (brokers : Option (List (Value broker_shape))) (value : Value rest)
    → nodes_in (Int32 number ∷ (array_items (items_of broker_shape) brokers ++ items_of rest value)) ≡ nodes_in (array_items (items_of broker_shape) brokers ++ items_of rest value)
throttled number rest None value = refl
throttled number rest (Some brokers) value = refl

metadata_there : (throttle : Bool) (rest : Shape) → is_calm false rest ≡ true → (value : Value (metadata_shape throttle rest))
    → nodes_in (items_of (metadata_shape throttle rest) value) ≡ broker_addresses (metadata_brokers throttle rest value)
metadata_there true rest is value = throttled value.0 rest value.1.0 value.1.1 ∙ array_there rest is value.1.0 value.1.1
metadata_there false rest is value = array_there rest is value.0 value.1

length_moved : (change : NodeAddress → NodeAddress) (brokers : List (Value broker_shape)) → length brokers ≡ length (map (moved_broker change) brokers)
length_moved change [] = refl
length_moved change (broker ∷ brokers) = ap suc (length_moved change brokers)

brokers_moved : (change : NodeAddress → NodeAddress) (brokers : List (Value broker_shape)) (more : List Primitive)
    → map_nodes change (flat_map (items_of broker_shape) brokers ++ more) ≡ flat_map (items_of broker_shape) (map (moved_broker change) brokers) ++ map_nodes change more
brokers_moved change [] more = refl
brokers_moved change (broker ∷ brokers) more =
    ap (λ xs. address_items (change (broker_address broker)) ++ (Text broker.1.1.1.0 ∷ xs)) (brokers_moved change brokers more)

array_moved : (change : NodeAddress → NodeAddress) (rest : Shape) → is_calm false rest ≡ true → (brokers : Option (List (Value broker_shape))) (value : Value rest)
    → map_nodes change (array_items (items_of broker_shape) brokers ++ items_of rest value)
    ≡ array_items (items_of broker_shape) (option_map (map (moved_broker change)) brokers) ++ items_of rest value
array_moved change rest is None value = ap (λ xs. Count None ∷ xs) (all_stay rest is value change)
array_moved change rest is (Some brokers) value =
    let moved = flat_map (items_of broker_shape) (map (moved_broker change) brokers) in
    ap (λ xs. Count (Some (length brokers)) ∷ xs) (brokers_moved change brokers (items_of rest value) ∙ ap (λ xs. moved ++ xs) (all_stay rest is value change))
    ∙ ap (λ n. Count (Some n) ∷ (moved ++ items_of rest value)) (length_moved change brokers)

throttled_moved : (change : NodeAddress → NodeAddress) (number : ℤ) (rest : Shape) (brokers : Option (List (Value broker_shape))) (value : Value rest)
    → map_nodes change (Int32 number ∷ (array_items (items_of broker_shape) brokers ++ items_of rest value)) ≡ Int32 number ∷ map_nodes change (array_items (items_of broker_shape) brokers ++ items_of rest value)
throttled_moved change number rest None value = refl
throttled_moved change number rest (Some brokers) value = refl

metadata_moved : (throttle : Bool) (rest : Shape) → is_calm false rest ≡ true → (change : NodeAddress → NodeAddress) (value : Value (metadata_shape throttle rest))
    → map_nodes change (items_of (metadata_shape throttle rest) value) ≡ items_of (metadata_shape throttle rest) (with_moved_brokers change throttle rest value)
metadata_moved true rest is change value =
    throttled_moved change value.0 rest value.1.0 value.1.1 ∙ ap (λ xs. Int32 value.0 ∷ xs) (array_moved change rest is value.1.0 value.1.1)
metadata_moved false rest is change value = array_moved change rest is value.0 value.1

behind_brokers : Shape → Shape
behind_brokers (Array entry rest) = rest
behind_brokers (Plain kind (Array entry rest)) = rest
behind_brokers shape = End

abbrev rest_at : ℤ → Shape
rest_at version = behind_brokers (message_shape (pos 3) version dir.Response)

at_version : (version : ℤ) → message_shape (pos 3) version dir.Response ≡ metadata_shape (is_between (pos 3) (pos 8) version) (rest_at version) → is_calm false (rest_at version) ≡ true → AreOfBrokers version
at_version version same is =
    record {
      rest = rest_at version;
      shape_is = same;
      nodes_are = metadata_there (is_between (pos 3) (pos 8) version) (rest_at version) is;
      only_they_change = metadata_moved (is_between (pos 3) (pos 8) version) (rest_at version) is;
    }

each_version : AllByRecursion AreOfBrokers metadata_versions
unfolding fields_of messages Metadata.response behind_brokers
each_version = (at_version (pos 1) refl refl, (at_version (pos 2) refl refl, (at_version (pos 3) refl refl, (at_version (pos 4) refl refl, (at_version (pos 5) refl refl, (at_version (pos 6) refl refl, (at_version (pos 7) refl refl, (at_version (pos 8) refl refl, tt))))))))

pub of_brokers : All AreOfBrokers metadata_versions
of_brokers = All-from_recursion AreOfBrokers metadata_versions each_version

-- ---- FindCoordinator

coordinator_there : (later : Bool) (value : Value (find_coordinator_shape later))
    → nodes_in (items_of (find_coordinator_shape later) value) ≡ coordinator_address (found_coordinator later value) ∷ []
coordinator_there true value = refl
coordinator_there false value = refl

coordinator_moved : (later : Bool) (change : NodeAddress → NodeAddress) (value : Value (find_coordinator_shape later))
    → map_nodes change (items_of (find_coordinator_shape later) value) ≡ items_of (find_coordinator_shape later) (with_moved_coordinator change later value)
coordinator_moved true change value = refl
coordinator_moved false change value = refl

at_coordinator : (version : ℤ) → message_shape (pos 10) version dir.Response ≡ find_coordinator_shape (is_between (pos 1) (pos 2) version) → IsOfCoordinator version
at_coordinator version same =
    let later = is_between (pos 1) (pos 2) version in
    record { shape_is = same; node_is = coordinator_there later; only_it_changes = coordinator_moved later }

each_coordinator : AllByRecursion IsOfCoordinator coordinator_versions
unfolding fields_of messages FindCoordinator.response
each_coordinator = (at_coordinator (pos 0) refl, (at_coordinator (pos 1) refl, (at_coordinator (pos 2) refl, tt)))

pub of_coordinator : All IsOfCoordinator coordinator_versions
of_coordinator = All-from_recursion IsOfCoordinator coordinator_versions each_coordinator
