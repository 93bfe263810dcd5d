-- CreateTopics requests and answers of which topics are refused, as trees.
use Rattle.std.specs.Prelude.{◌≡◌, ℕ, suc, ◌+◌, ◌≤◌, ℤ, pos, Bool, true, false, nat_le, if◌then◌else◌, List, [], ◌∷◌, ◌++◌, length, map, Option, Some, None, Result, Ok, Err, FitsSigned}
use Rattle.std.specs.Int.{w16}
use Rattle.std.specs.List.{flat_map, AllByRecursion}
use Rattle.std.specs.Option.{option_map}
use Rattle.std.proofs.Common.{◌⊎◌, inl, inr, sym, ap, ◌∙◌, subst, refl, append-nil, append_assoc, arith, rules}
use Rattle.std.proofs.lemmas.Bool.Decides.{nat_tests}
use Rattle.kp_schema.specs.declared.dir.Dir.TheVariants as dir
use Rattle.kp_schema.specs.declared.kind.Kind.TheVariants as kinds
use Rattle.kp_schema.specs.Field.{is_between}
use Rattle.kp_schema.specs.Messages.{fields_of, messages}
use Rattle.kp_schema.specs.CreateTopics as CreateTopics
use Rattle.wire_types.specs.Strings.{IsString}
use Rattle.tree_spelling.specs.declared.primitive.Primitive.{Primitive}
use Rattle.tree_spelling.specs.declared.primitive.Primitive.TheVariants.{Int16, Int32, Text, Count}
use Rattle.tree_spelling.specs.declared.edit_fault.EditFault.{EditFault}
use Rattle.tree_spelling.specs.Primitives.{IsInRange}
use Rattle.tree_spelling.specs.Spelling.{AreInRange}
use Rattle.tree_spelling.specs.Shape.{Shape, End, Plain, Array, message_shape}
use Rattle.tree_spelling.specs.Value.{Value, array_items, items_of}
use Rattle.tree_spelling.specs.Agenda.{passed}
use Rattle.tree_spelling.specs.Retaining.{flagged, value_flagged}
use Rattle.tree_spelling.specs.Body.{Contents, IsTree, body_shape}
use Rattle.tree_spelling.proofs.Blanks.{in_range-append, in_range-front, in_range-back, whole_passes}
use Rattle.tree_spelling.proofs.Coming.{value_of}
use Rattle.stock_filters.specs.ProduceAll.{ItemsOf}
use Rattle.stock_filters.specs.CreateTopics.{names_behind, max_count, value_when, value_in, with_value, with_flagged, with_topics, has_message, has_wait, message_items, refused_topic, refused_topics, wait_items, refusal, extended, with_refused, refused_names}

-- ---- the tree whose items are given

pub record IsFound (shape : Shape) (items : List Primitive) (found : Option (Value shape)) : Type 0 where
  pub value : Value shape
  pub is : found ≡ Some value
  pub items_are : items ≡ items_of shape value

found_when : (shape : Shape) (items : List Primitive) (todo : Option (List Shape)) (come : passed (shape ∷ []) items ≡ todo) → todo ≡ Some [] → IsFound shape items (value_when shape items todo come)
found_when shape items None come e = absurd cc
found_when shape items (Some []) come e =
    record { value = (value_of shape items come).0; is = refl; items_are = sym (value_of shape items come).1 }
found_when shape items (Some (next ∷ todo)) come e = absurd cc

pub value_found : (shape : Shape) (items : List Primitive) → ItemsOf shape items → IsFound shape items (value_in shape items)
value_found shape items of =
    found_when shape items (passed (shape ∷ []) items) refl (ap (passed (shape ∷ [])) of.1 ∙ whole_passes shape of.0)

-- ---- what is left of a request is in range

flag_fits : {A : Type 0} (f : A → List Primitive) (b : Bool) (x : A) (xs : List A) → AreInRange (f x) → AreInRange (flat_map f xs) → AreInRange (flat_map f (if b then x ∷ xs else xs))
flag_fits f true x xs h g = in_range-append (f x) (flat_map f xs) h g
flag_fits f false x xs h g = g

flagged_fit : {A : Type 0} (f : A → List Primitive) (flags : List Bool) (xs : List A) → AreInRange (flat_map f xs) → AreInRange (flat_map f (flagged flags xs))
flagged_fit f flags [] h = tt
flagged_fit f [] (x ∷ xs) h = tt
flagged_fit f (b ∷ flags) (x ∷ xs) h =
    flag_fits f b x (flagged flags xs) (in_range-front (f x) (flat_map f xs) h) (flagged_fit f flags xs (in_range-back (f x) (flat_map f xs) h))

flag_few : {A : Type 0} (b : Bool) (x : A) (xs : List A) (n : ℕ) → length xs ≤ n → length (if b then x ∷ xs else xs) ≤ suc n
flag_few true x xs n h = omega (arith, h)
flag_few false x xs n h = omega (arith, h)

flagged_few : {A : Type 0} (flags : List Bool) (xs : List A) → length (flagged flags xs) ≤ length xs
flagged_few flags [] = omega arith
flagged_few [] (x ∷ xs) = omega arith
flagged_few (b ∷ flags) (x ∷ xs) = flag_few b x (flagged flags xs) (length xs) (flagged_few flags xs)

array_flagged_fits : {A : Type 0} (f : A → List Primitive) (flags : List Bool) (xs : Option (List A)) → AreInRange (array_items f xs) → AreInRange (array_items f (option_map (flagged flags) xs))
array_flagged_fits f flags None h = h
array_flagged_fits f flags (Some xs) h = let few = flagged_few flags xs in (omega (arith, h.0, few), flagged_fit f flags xs h.1)

flagged_in_range : (shape : Shape) (value new : Value shape) (flags : List Bool) → value_flagged shape value (0 ∷ []) flags ≡ Ok new → AreInRange (items_of shape value) → AreInRange (items_of shape new)
flagged_in_range End value new flags e h = absurd cc
flagged_in_range (Plain kind rest) value new flags e h = absurd cc
flagged_in_range (Array entry rest) value new flags e h =
    let front = array_items (items_of entry) value.0 in
    let back = items_of rest value.1 in
    let same : (option_map (flagged flags) value.0, value.1) ≡ new = cc in
    let fit : AreInRange (items_of (Array entry rest) (option_map (flagged flags) value.0, value.1)) = in_range-append (array_items (items_of entry) (option_map (flagged flags) value.0)) back (array_flagged_fits (items_of entry) flags value.0 (in_range-front front back h)) (in_range-back front back h) in
    subst (λ (v : Value (Array entry rest)). AreInRange (items_of (Array entry rest) v)) same fit

with_value_tree : (request : Contents) (value : Value (body_shape request)) (flags : List Bool) (left : Result (Value (body_shape request)) EditFault) → value_flagged (body_shape request) value (0 ∷ []) flags ≡ left
    → AreInRange (items_of (body_shape request) value) → IsTree request → IsTree (with_value request left)
with_value_tree request value flags (Ok new) e h tree = record { value = new; is = refl; in_range = flagged_in_range (body_shape request) value new flags e h }
with_value_tree request value flags (Err fault) e h tree = tree

with_flagged_tree : (request : Contents) (flags : List Bool) (found : Option (Value (body_shape request))) → IsFound (body_shape request) request.items found → IsTree request → IsTree (with_flagged request flags found)
with_flagged_tree request flags found h tree =
    let fits = subst AreInRange h.items_are tree.in_range in
    subst (λ (o : Option (Value (body_shape request))). IsTree (with_flagged request flags o)) (sym h.is) (with_value_tree request h.value flags (value_flagged (body_shape request) h.value (0 ∷ []) flags) refl fits tree)

pub with_topics_tree : (request : Contents) (flags : List Bool) → IsTree request → IsTree (with_topics flags request)
with_topics_tree request flags tree =
    with_flagged_tree request flags (value_in (body_shape request) request.items) (value_found (body_shape request) request.items (tree.value, tree.is)) tree

-- it is the same message
pub record IsSameMessage (request message : Contents) : Type 0 where
  pub key_is : message.key ≡ request.key
  pub version_is : message.version ≡ request.version
  pub dir_is : message.dir ≡ request.dir

with_value_same : (request : Contents) (left : Result (Value (body_shape request)) EditFault) → IsSameMessage request (with_value request left)
with_value_same request (Ok new) = record { key_is = refl; version_is = refl; dir_is = refl }
with_value_same request (Err fault) = record { key_is = refl; version_is = refl; dir_is = refl }

with_flagged_same : (request : Contents) (flags : List Bool) (found : Option (Value (body_shape request))) → IsSameMessage request (with_flagged request flags found)
with_flagged_same request flags None = record { key_is = refl; version_is = refl; dir_is = refl }
with_flagged_same request flags (Some value) = with_value_same request (value_flagged (body_shape request) value (0 ∷ []) flags)

pub with_topics_same : (request : Contents) (flags : List Bool) → IsSameMessage request (with_topics flags request)
with_topics_same request flags = with_flagged_same request flags (value_in (body_shape request) request.items)

-- ---- names are texts

abbrev pub AreNames : List (Option (List ℕ)) → Type 0
AreNames names = AllByRecursion IsString names

names_fit : (last : Option (List ℕ)) (items : List Primitive) → IsString last → AreInRange items → AreNames (names_behind last items)
names_fit last [] h g = tt
names_fit last (Text text ∷ items) h g = names_fit text items g.0 g.1
names_fit last (Int16 number ∷ items) h g = (h, names_fit last items h g.1)
names_fit last (item ∷ items) h g = names_fit last items h g.1

pub topic_names_fit : (items : List Primitive) → AreInRange items → AreNames (names_behind None items)
topic_names_fit items h = names_fit None items tt h

refused_by : (b : Bool) (name : Option (List ℕ)) (names : List (Option (List ℕ))) → IsString name → AreNames names → AreNames (if b then names else name ∷ names)
refused_by true name names h g = g
refused_by false name names h g = (h, g)

pub refused_names_fit : (flags : List Bool) (names : List (Option (List ℕ))) → AreNames names → AreNames (refused_names flags names)
refused_names_fit flags [] h = tt
refused_names_fit [] (name ∷ names) h = tt
refused_names_fit (flag ∷ flags) (name ∷ names) h = refused_by flag name (refused_names flags names) h.0 (refused_names_fit flags names h.1)

-- ---- answers

abbrev pub message_shape_of : Bool → Shape
message_shape_of true = Plain kinds.Str End
message_shape_of false = End

-- name, error_code, error_message
abbrev pub created_topic : Bool → Shape
created_topic message = Plain kinds.Str (Plain kinds.I16 (message_shape_of message))

-- throttle_time_ms, topics
abbrev pub created_response : Bool → Bool → Shape
created_response true message = Plain kinds.I32 (Array (created_topic message) End)
created_response false message = Array (created_topic message) End

response_by : (version : ℤ) (wait message : Bool) → is_between (pos 2) (pos 4) version ≡ wait → is_between (pos 1) (pos 4) version ≡ message → is_between (pos 0) (pos 4) version ≡ true
    → message_shape (pos 19) version dir.Response ≡ created_response wait message
unfolding fields_of messages CreateTopics.response
response_by version true true w m is = rw (w, m, is) refl
response_by version true false w m is = rw (w, m, is) refl
response_by version false true w m is = rw (w, m, is) refl
response_by version false false w m is = rw (w, m, is) refl

pub response_shape : (version : ℤ) → is_between (pos 0) (pos 4) version ≡ true → message_shape (pos 19) version dir.Response ≡ created_response (has_wait version) (has_message version)
response_shape version is = response_by version (has_wait version) (has_message version) refl refl is

request_by : (version : ℤ) (b : Bool) → is_between (pos 0) (pos 4) version ≡ b → (is_between (pos 0) (pos 4) version ≡ true) ⊎ (message_shape (pos 19) version dir.Request ≡ End)
unfolding fields_of messages CreateTopics.request
request_by version true is = inl is
request_by version false is = inr (rw is refl)

-- a version that isn't read has no fields
pub request_shape : (version : ℤ) → (is_between (pos 0) (pos 4) version ≡ true) ⊎ (message_shape (pos 19) version dir.Request ≡ End)
request_shape version = request_by version (is_between (pos 0) (pos 4) version) refl

abbrev message_value : (message : Bool) → Value (message_shape_of message)
message_value true = (None, tt)
message_value false = tt

abbrev pub refused_value : (message : Bool) (error : ℤ) → Option (List ℕ) → Value (created_topic message)
refused_value message error name = (name, (error, message_value message))

message_is : (message : Bool) → message_items message ≡ items_of (message_shape_of message) (message_value message)
message_is true = refl
message_is false = refl

one_is : (message : Bool) (error : ℤ) (name : Option (List ℕ)) → refused_topic message error name ≡ items_of (created_topic message) (refused_value message error name)
one_is message error name = ap (λ xs. Text name ∷ (Int16 error ∷ xs)) (message_is message)

refused_are : (message : Bool) (error : ℤ) (names : List (Option (List ℕ))) → flat_map (refused_topic message error) names ≡ flat_map (items_of (created_topic message)) (map (refused_value message error) names)
refused_are message error [] = refl
refused_are message error (name ∷ names) =
    ap (λ xs. xs ++ flat_map (refused_topic message error) names) (one_is message error name) ∙ ap (λ xs. items_of (created_topic message) (refused_value message error name) ++ xs) (refused_are message error names)

count_is : (message : Bool) (error : ℤ) (names : List (Option (List ℕ))) → length names ≡ length (map (refused_value message error) names)
count_is message error [] = refl
count_is message error (name ∷ names) = omega (arith, count_is message error names)

message_fits : (message : Bool) → AreInRange (message_items message)
message_fits true = (tt, tt)
message_fits false = tt

refused_fit : (message : Bool) (error : ℤ) (names : List (Option (List ℕ))) → FitsSigned w16 error → AreNames names → AreInRange (flat_map (refused_topic message error) names)
refused_fit message error [] h g = tt
refused_fit message error (name ∷ names) h g =
    in_range-append (refused_topic message error name) (flat_map (refused_topic message error) names) (g.0, (h, message_fits message)) (refused_fit message error names h g.1)

abbrev pub array_of : (message : Bool) → Option (List (Value (created_topic message))) → List Primitive
array_of message topics = array_items (items_of (created_topic message)) topics ++ []

-- ---- all topics are refused

pub refused_array : (message : Bool) (error : ℤ) (names : List (Option (List ℕ))) → Count (Some (length names)) ∷ flat_map (refused_topic message error) names ≡ array_of message (Some (map (refused_value message error) names))
refused_array message error names =
    ap (λ n. Count (Some n) ∷ flat_map (refused_topic message error) names) (count_is message error names)
    ∙ ap (λ xs. Count (Some (length (map (refused_value message error) names))) ∷ xs) (refused_are message error names ∙ sym (append-nil (flat_map (items_of (created_topic message)) (map (refused_value message error) names))))

refused_whole : (wait message : Bool) (error : ℤ) (names : List (Option (List ℕ))) → ItemsOf (created_response wait message) (wait_items wait ++ (Count (Some (length names)) ∷ flat_map (refused_topic message error) names))
refused_whole true message error names = ((pos 0, (Some (map (refused_value message error) names), tt)), ap (λ xs. Int32 (pos 0) ∷ xs) (refused_array message error names))
refused_whole false message error names = ((Some (map (refused_value message error) names), tt), refused_array message error names)

zero_fits : IsInRange (Int32 (pos 0))
zero_fits = search rules

wait_fits : (wait : Bool) → AreInRange (wait_items wait)
wait_fits true = (zero_fits, tt)
wait_fits false = tt

pub refusal_tree : (error version : ℤ) (names : List (Option (List ℕ))) → is_between (pos 0) (pos 4) version ≡ true → FitsSigned w16 error → AreNames names → length names ≤ max_count → IsTree (refusal error version names)
refusal_tree error version names known fits are few =
    let items = (refusal error version names).items in
    let new : ItemsOf (message_shape (pos 19) version dir.Response) items = subst (λ (s : Shape). ItemsOf s items) (sym (response_shape version known)) (refused_whole (has_wait version) (has_message version) error names) in
    record {
      value = new.0;
      is = new.1;
      in_range = in_range-append (wait_items (has_wait version)) (Count (Some (length names)) ∷ refused_topics error version names) (wait_fits (has_wait version)) (omega (arith, few), refused_fit (has_message version) error names fits are);
    }

-- ---- some are refused

more_items : {A : Type 0} (f : A → List Primitive) (xs ys : List A) → flat_map f (xs ++ ys) ≡ flat_map f xs ++ flat_map f ys
more_items f [] ys = refl
more_items f (x ∷ xs) ys = ap (λ zs. f x ++ zs) (more_items f xs ys) ∙ sym (append_assoc (f x) (flat_map f xs) (flat_map f ys))

more_count : {A : Type 0} (xs ys : List A) → length (xs ++ ys) ≡ length xs + length ys
more_count [] ys = omega arith
more_count (x ∷ xs) ys = omega (arith, more_count xs ys)

-- entries put behind those of an array
pub put_behind : (message : Bool) (error : ℤ) (names : List (Option (List ℕ))) (es : List (Value (created_topic message)))
    → Count (Some (length es + length names)) ∷ ((flat_map (items_of (created_topic message)) es ++ []) ++ flat_map (refused_topic message error) names) ≡ array_of message (Some (es ++ map (refused_value message error) names))
put_behind message error names es =
    let f = items_of (created_topic message) in
    let new = map (refused_value message error) names in
    let counted : length es + length names ≡ length (es ++ new) = omega (arith, more_count es new, count_is message error names) in
    let items : (flat_map f es ++ []) ++ flat_map (refused_topic message error) names ≡ flat_map f (es ++ new) ++ [] = ap (λ xs. xs ++ flat_map (refused_topic message error) names) (append-nil (flat_map f es)) ∙ ap (λ xs. flat_map f es ++ xs) (refused_are message error names) ∙ sym (more_items f es new) ∙ sym (append-nil (flat_map f (es ++ new))) in
    ap (λ n. Count (Some n) ∷ ((flat_map f es ++ []) ++ flat_map (refused_topic message error) names)) counted ∙ ap (λ xs. Count (Some (length (es ++ new))) ∷ xs) items

-- an array, and its items in range
record IsArray (message : Bool) (items : List Primitive) : Type 0 where
  topics : Option (List (Value (created_topic message)))
  items_are : items ≡ array_of message topics
  in_range : AreInRange items

fits_if : (b : Bool) (n : ℕ) → nat_le n max_count ≡ b → b ≡ true → n ≤ max_count
fits_if b n e is = let t : nat_le n max_count ≡ true = e ∙ is in grind (arith, nat_tests)

extended_by : (b : Bool) (message : Bool) (error : ℤ) (names : List (Option (List ℕ))) (es : List (Value (created_topic message))) (old : List Primitive) → nat_le (length es + length names) max_count ≡ b
    → FitsSigned w16 error → AreNames names → AreInRange (flat_map (items_of (created_topic message)) es) → IsArray message old
    → IsArray message (if b then Count (Some (length es + length names)) ∷ ((flat_map (items_of (created_topic message)) es ++ []) ++ flat_map (refused_topic message error) names) else old)
extended_by true message error names es old e fits are h old_is =
    let few = fits_if true (length es + length names) e refl in
    let front = in_range-append (flat_map (items_of (created_topic message)) es) [] h tt in
    record {
      topics = Some (es ++ map (refused_value message error) names);
      items_are = put_behind message error names es;
      in_range = (omega (arith, few), in_range-append (flat_map (items_of (created_topic message)) es ++ []) (flat_map (refused_topic message error) names) front (refused_fit message error names fits are));
    }
extended_by false message error names es old e fits are h old_is = old_is

extended_array : (message : Bool) (error : ℤ) (names : List (Option (List ℕ))) (topics : Option (List (Value (created_topic message)))) → FitsSigned w16 error → AreNames names → AreInRange (array_of message topics)
    → IsArray message (extended (length names) (flat_map (refused_topic message error) names) (array_of message topics))
extended_array message error names None fits are h =
    extended_by (nat_le (0 + length names) max_count) message error names [] (Count None ∷ []) refl fits are tt (record { topics = None; items_are = refl; in_range = (tt, tt) })
extended_array message error names (Some es) fits are h =
    extended_by (nat_le (length es + length names) max_count) message error names es (array_of message (Some es)) refl fits are (in_range-front (flat_map (items_of (created_topic message)) es) [] h.1) (record { topics = Some es; items_are = refl; in_range = h })

extended_at : (wait message : Bool) (error : ℤ) (names : List (Option (List ℕ))) (items : List Primitive) → FitsSigned w16 error → AreNames names → ItemsOf (created_response wait message) items → AreInRange items
    → ItemsOf (created_response wait message) (extended (length names) (flat_map (refused_topic message error) names) items) × AreInRange (extended (length names) (flat_map (refused_topic message error) names) items)
extended_at true message error names items fits are of h =
    let more = flat_map (refused_topic message error) names in
    let old : AreInRange (Int32 of.0.0 ∷ array_of message of.0.1.0) = subst AreInRange of.1 h in
    let new = extended_array message error names of.0.1.0 fits are old.1 in
    let same : extended (length names) more items ≡ Int32 of.0.0 ∷ extended (length names) more (array_of message of.0.1.0) = ap (extended (length names) more) of.1 in
    (((of.0.0, (new.topics, tt)), same ∙ ap (λ xs. Int32 of.0.0 ∷ xs) new.items_are), subst AreInRange (sym same) (old.0, new.in_range))
extended_at false message error names items fits are of h =
    let more = flat_map (refused_topic message error) names in
    let old : AreInRange (array_of message of.0.0) = subst AreInRange of.1 h in
    let new = extended_array message error names of.0.0 fits are old in
    let same : extended (length names) more items ≡ extended (length names) more (array_of message of.0.0) = ap (extended (length names) more) of.1 in
    (((new.topics, tt), same ∙ new.items_are), subst AreInRange (sym same) new.in_range)

pub with_refused_tree : (error : ℤ) (names : List (Option (List ℕ))) (response : Contents) → response.key ≡ pos 19 → response.dir ≡ dir.Response → is_between (pos 0) (pos 4) response.version ≡ true
    → FitsSigned w16 error → AreNames names → IsTree response → IsTree (with_refused error names response)
with_refused_tree error names response key dir known fits are tree =
    let shape : body_shape response ≡ created_response (has_wait response.version) (has_message response.version) = rw (key, dir) (response_shape response.version known) in
    let there = subst (λ (s : Shape). ItemsOf s response.items) shape (tree.value, tree.is) in
    let new = extended_at (has_wait response.version) (has_message response.version) error names response.items fits are there tree.in_range in
    let back = subst (λ (s : Shape). ItemsOf s (with_refused error names response).items) (sym shape) new.0 in
    record { value = back.0; is = back.1; in_range = new.1 }
