-- `topic-deny`: a Produce request with a listed topic is answered at once, and each partition is refused.
use Rattle.std.specs.Prelude.{◌≡◌, ℕ, ℤ, pos, negsuc, Bool, true, false, ◌&&◌, if◌then◌else◌, List, [], ◌∷◌, ◌++◌, length, map, drop, Option, Some, None, FitsSigned}
use Rattle.std.specs.Int.{w16, w64}
use Rattle.std.specs.List.{flat_map, list_any}
use Rattle.std.specs.Option.{option_map}
use Rattle.std.specs.Ordering.{int_eq}
use Rattle.std.specs.Str.{bytes_eq}
use Rattle.std.proofs.Common.{zero, suc, sym, ap, ◌∙◌, subst, refl, rules, inl, inr, append-nil, append_assoc, arith}
use Rattle.std.proofs.lemmas.Bool.Decides.{Decides-int_eq}
use Rattle.kp_schema.specs.declared.dir.Dir.TheVariants as dir
use Rattle.tree_spelling.specs.declared.primitive.Primitive.{Primitive}
use Rattle.tree_spelling.specs.declared.primitive.Primitive.TheVariants.{Int16, Int32, Int64, Text, Binary, Count}
use Rattle.tree_spelling.specs.Primitives.{IsInRange}
use Rattle.tree_spelling.specs.Spelling.{AreInRange}
use Rattle.tree_spelling.specs.Shape.{Shape, End}
use Rattle.tree_spelling.specs.Value.{Value, array_items, items_of}
use Rattle.tree_spelling.specs.Body.{Contents, IsTree, body_shape}
use Rattle.tree_spelling.proofs.Blanks.{in_range-append}
use Rattle.filter_core.specs.Decision.{Decision, Forward, Return, Turn}
use Rattle.filter_core.specs.Inputs.{IsWholeRequest, IsResponseTo}
use Rattle.filter_core.specs.Laws.{IsSentOnAs, AnswersRequest}
use Rattle.filter_core.specs.TwoTurns.{two_turns, handed_back}
use Rattle.filter_core.specs.Lawful.{IsNoQuestion, KeepsLaws, handing_back, sent_on_itself}
use Rattle.filter_core.specs.ProduceFields.{asked_partition, asked_topic, produce_request}
use Rattle.stock_filters.specs.Produce.{is_request, is_produce, has_log_start, has_errors, log_start_shape, errors_shape, answered_partition, answered_topic, produce_response, IsRequestShape, request_shape, response_shape}
use Rattle.stock_filters.specs.ProduceAll.{both_true, ItemsOf}

-- ---- which request is denied

abbrev pub is_denied_topic : List (List ℕ) → List ℕ → Bool
is_denied_topic topics name = list_any (λ listed. bytes_eq listed name) topics

abbrev pub names_listed : List (List ℕ) → Primitive → Bool
names_listed topics (Text (Some name)) = is_denied_topic topics name
names_listed topics item = false

-- behind transactional_id, acks and timeout_ms the texts of a Produce request are the names of its topics
abbrev pub is_denied : List (List ℕ) → Contents → Bool
is_denied topics request = is_produce request && list_any (names_listed topics) (drop 3 request.items)

-- ---- the answer, item by item

abbrev pub denied_log_start : Bool → List Primitive
denied_log_start true = Int64 (negsuc 0) ∷ []
denied_log_start false = []

abbrev pub denied_errors : Bool → List Primitive
denied_errors true = Count (Some 0) ∷ (Text None ∷ [])
denied_errors false = []

-- index; TOPIC_AUTHORIZATION_FAILED (29); base_offset, log_append_time_ms and log_start_offset -1; record_errors
-- empty; error_message null
abbrev pub denied_partition : Bool → Bool → ℤ → List Primitive
denied_partition log_start errors index =
    (Int32 index ∷ (Int16 (pos 29) ∷ (Int64 (negsuc 0) ∷ (Int64 (negsuc 0) ∷ [])))) ++ (denied_log_start log_start ++ denied_errors errors)

-- a partition's index becomes its answer, and its records go; names and counts stay
abbrev pub denied_item : Bool → Bool → Primitive → List Primitive
denied_item log_start errors (Int32 index) = denied_partition log_start errors index
denied_item log_start errors (Binary records) = []
denied_item log_start errors item = item ∷ []

abbrev pub denied_items : ℤ → List Primitive → List Primitive
denied_items version items = flat_map (denied_item (has_log_start version) (has_errors version)) items

-- the topics of the request with an answer for each partition, and throttle_time_ms 0
abbrev pub denial : Contents → Contents
denial request =
    record { key = pos 0; version = request.version; dir = dir.Response; items = denied_items request.version (drop 3 request.items) ++ (Int32 (pos 0) ∷ []) }

abbrev pub deny : List (List ℕ) → Contents → Decision
deny topics request = if is_denied topics request then Return (Some (denial request)) else Forward request

abbrev pub topic_deny : List (List ℕ) → Turn
topic_deny topics = two_turns (deny topics) handed_back

-- ---- the answer, as a tree

abbrev pub log_start_value : (log_start : Bool) (rest : Shape) → Value rest → Value (log_start_shape log_start rest)
log_start_value true rest value = (negsuc 0, value)
log_start_value false rest value = value

abbrev pub errors_value : (errors : Bool) → Value (errors_shape errors)
errors_value true = (Some [], (None, tt))
errors_value false = tt

abbrev pub denied_one : (log_start errors : Bool) → Value asked_partition → Value (answered_partition log_start errors)
denied_one log_start errors partition =
    (partition.0, (pos 29, (negsuc 0, (negsuc 0, log_start_value log_start (errors_shape errors) (errors_value errors)))))

-- null stays null
abbrev pub denied_topic : (log_start errors : Bool) → Value asked_topic → Value (answered_topic log_start errors)
denied_topic log_start errors topic = (topic.0, (option_map (map (denied_one log_start errors)) topic.1.0, tt))

abbrev pub denied_value : (log_start errors : Bool) → Value produce_request → Value (produce_response log_start errors)
denied_value log_start errors request = (option_map (map (denied_topic log_start errors)) request.1.1.1.0, (pos 0, tt))

-- ---- both are one

each_append : (f : Primitive → List Primitive) (xs ys : List Primitive) → flat_map f (xs ++ ys) ≡ flat_map f xs ++ flat_map f ys
each_append f [] ys = refl
each_append f (x ∷ xs) ys = ap (λ zs. f x ++ zs) (each_append f xs ys) ∙ sym (append_assoc (f x) (flat_map f xs) (flat_map f ys))

each_of : {A B : Type 0} (f : Primitive → List Primitive) (g : A → List Primitive) (h : B → List Primitive) (k : A → B) → ((a : A) → flat_map f (g a) ≡ h (k a)) → (xs : List A) → flat_map f (flat_map g xs) ≡ flat_map h (map k xs)
each_of f g h k same [] = refl
each_of f g h k same (x ∷ xs) =
    each_append f (g x) (flat_map g xs) ∙ ap (λ zs. zs ++ flat_map f (flat_map g xs)) (same x) ∙ ap (λ zs. h (k x) ++ zs) (each_of f g h k same xs)

count_of : {A B : Type 0} (k : A → B) (xs : List A) → length (map k xs) ≡ length xs
count_of k [] = refl
count_of k (x ∷ xs) = omega (arith, count_of k xs)

array_denied : {A B : Type 0} (s e : Bool) (g : A → List Primitive) (h : B → List Primitive) (k : A → B) → ((a : A) → flat_map (denied_item s e) (g a) ≡ h (k a)) → (o : Option (List A)) → flat_map (denied_item s e) (array_items g o) ≡ array_items h (option_map (map k) o)
array_denied s e g h k same None = refl
array_denied s e g h k same (Some xs) =
    ap (λ zs. Count (Some (length xs)) ∷ zs) (each_of (denied_item s e) g h k same xs) ∙ ap (λ n. Count (Some n) ∷ flat_map h (map k xs)) (sym (count_of k xs))

log_start_items : (s : Bool) (rest : Shape) (value : Value rest) → items_of (log_start_shape s rest) (log_start_value s rest value) ≡ denied_log_start s ++ items_of rest value
log_start_items true rest value = refl
log_start_items false rest value = refl

errors_items : (e : Bool) → items_of (errors_shape e) (errors_value e) ≡ denied_errors e
errors_items true = refl
errors_items false = refl

one_denied : (s e : Bool) (p : Value asked_partition) → flat_map (denied_item s e) (items_of asked_partition p) ≡ items_of (answered_partition s e) (denied_one s e p)
one_denied s e p =
    append-nil (denied_partition s e p.0) ∙ ap (λ zs. Int32 p.0 ∷ (Int16 (pos 29) ∷ (Int64 (negsuc 0) ∷ (Int64 (negsuc 0) ∷ zs)))) (sym (log_start_items s (errors_shape e) (errors_value e) ∙ ap (λ zs. denied_log_start s ++ zs) (errors_items e)))

-- an array as the last field
last_array : (s e : Bool) (xs ys : List Primitive) → flat_map (denied_item s e) xs ≡ ys → flat_map (denied_item s e) (xs ++ []) ≡ ys ++ []
last_array s e xs ys same = ap (flat_map (denied_item s e)) (append-nil xs) ∙ same ∙ sym (append-nil ys)

topic_denied : (s e : Bool) (t : Value asked_topic) → flat_map (denied_item s e) (items_of asked_topic t) ≡ items_of (answered_topic s e) (denied_topic s e t)
topic_denied s e t =
    ap (λ zs. Text t.0 ∷ zs) (last_array s e (array_items (items_of asked_partition) t.1.0) (array_items (items_of (answered_partition s e)) (option_map (map (denied_one s e)) t.1.0)) (array_denied s e (items_of asked_partition) (items_of (answered_partition s e)) (denied_one s e) (one_denied s e) t.1.0))

pub request_denied : (s e : Bool) (r : Value produce_request) → flat_map (denied_item s e) (drop 3 (items_of produce_request r)) ++ (Int32 (pos 0) ∷ []) ≡ items_of (produce_response s e) (denied_value s e r)
request_denied s e r =
    let topics = array_denied s e (items_of asked_topic) (items_of (answered_topic s e)) (denied_topic s e) (topic_denied s e) r.1.1.1.0 in
    ap (λ zs. zs ++ (Int32 (pos 0) ∷ [])) (ap (flat_map (denied_item s e)) (append-nil (array_items (items_of asked_topic) r.1.1.1.0)) ∙ topics)

-- ---- its numbers are in range

fits_29 : FitsSigned w16 (pos 29)
fits_29 = search rules

fits_none : FitsSigned w64 (negsuc 0)
fits_none = search rules

zero_fits : IsInRange (Int32 (pos 0))
zero_fits = search rules

log_start_fits : (s : Bool) → AreInRange (denied_log_start s)
log_start_fits true = (fits_none, tt)
log_start_fits false = tt

errors_fit : (e : Bool) → AreInRange (denied_errors e)
errors_fit true = (omega arith, (tt, tt))
errors_fit false = tt

item_fits : (s e : Bool) (x : Primitive) → IsInRange x → AreInRange (denied_item s e x)
item_fits s e (Int32 index) h = (h, (fits_29, (fits_none, (fits_none, in_range-append (denied_log_start s) (denied_errors e) (log_start_fits s) (errors_fit e)))))
item_fits s e (Binary records) h = tt
item_fits s e x h = (h, tt)

items_fit : (s e : Bool) (xs : List Primitive) → AreInRange xs → AreInRange (flat_map (denied_item s e) xs)
items_fit s e [] h = tt
items_fit s e (x ∷ xs) h = in_range-append (denied_item s e x) (flat_map (denied_item s e) xs) (item_fits s e x h.0) (items_fit s e xs h.1)

drop_fits : (n : ℕ) (xs : List Primitive) → AreInRange xs → AreInRange (drop n xs)
drop_fits zero xs h = h
drop_fits (suc n) [] h = tt
drop_fits (suc n) (x ∷ xs) h = drop_fits n xs h.1

-- ---- why it keeps the laws

-- a request that is denied has the fields of a version that is read
denied_tree : (topics : List (List ℕ)) (request : Contents) (shape : Shape) → IsRequestShape request.version shape → ItemsOf shape request.items → AreInRange request.items
    → list_any (names_listed topics) (drop 3 request.items) ≡ true → IsTree (denial request)
denied_tree topics request shape (inl known) of fits named =
    let there : ItemsOf produce_request request.items = subst (λ (s : Shape). ItemsOf s request.items) known.1 of in
    let s = has_log_start request.version in
    let e = has_errors request.version in
    let same : (denial request).items ≡ items_of (produce_response s e) (denied_value s e there.0) = ap (λ xs. flat_map (denied_item s e) (drop 3 xs) ++ (Int32 (pos 0) ∷ [])) there.1 ∙ request_denied s e there.0 in
    let new : ItemsOf (body_shape (denial request)) (denial request).items = subst (λ (t : Shape). ItemsOf t (denial request).items) (sym (response_shape request.version known.0)) (denied_value s e there.0, same) in
    record {
      value = new.0;
      is = new.1;
      in_range = in_range-append (flat_map (denied_item s e) (drop 3 request.items)) (Int32 (pos 0) ∷ []) (items_fit s e (drop 3 request.items) (drop_fits 3 request.items fits)) (zero_fits, tt);
    }
denied_tree topics request shape (inr unknown) of fits named =
    let there : ItemsOf End request.items = subst (λ (s : Shape). ItemsOf s request.items) unknown of in
    let none : list_any (names_listed topics) (drop 3 request.items) ≡ false = ap (λ xs. list_any (names_listed topics) (drop 3 xs)) there.1 in
    absurd (let e : true ≡ false = sym named ∙ none in cc)

answers_denied : (topics : List (List ℕ)) (request : Contents) → IsWholeRequest request → is_denied topics request ≡ true → IsResponseTo request (denial request)
answers_denied topics request whole is =
    let p = both_true (is_produce request) (list_any (names_listed topics) (drop 3 request.items)) is in
    let q = both_true (int_eq request.key (pos 0)) (is_request request.dir) p.0 in
    let key : request.key ≡ pos 0 = (Decides-int_eq request.key (pos 0)).0 q.0 in
    let shape : IsRequestShape request.version (body_shape request) = rw (key, whole.dir_is) (request_shape request.version) in
    record {
      tree = denied_tree topics request (body_shape request) shape (whole.tree.value, whole.tree.is) whole.tree.in_range p.1;
      of = record { key_is = sym key; version_is = refl; dir_is = refl };
    }

abbrev denies : Bool → Contents → Decision
denies b request = if b then Return (Some (denial request)) else Forward request

no_question_by : (b : Bool) (request : Contents) → IsNoQuestion (denies b request)
no_question_by true request = tt
no_question_by false request = tt

forwards_by : (b : Bool) (request message : Contents) → denies b request ≡ Forward message → request ≡ message
forwards_by true request message is = absurd (let z : Return (Some (denial request)) ≡ Forward message = is in cc)
forwards_by false request message is = let z : Forward request ≡ Forward message = is in cc

answers_by : (topics : List (List ℕ)) (b : Bool) (request : Contents) (response : Option Contents) → is_denied topics request ≡ b → IsWholeRequest request → denies b request ≡ Return response → AnswersRequest request response
answers_by topics true request response is whole back =
    let z : Return (Some (denial request)) ≡ Return response = back in
    let e : Some (denial request) ≡ response = cc in
    subst (AnswersRequest request) e (answers_denied topics request whole is)
answers_by topics false request response is whole back = absurd (let z : Forward request ≡ Return response = back in cc)

pub topic_deny_keeps : (topics : List (List ℕ)) → KeepsLaws (deny topics) handed_back
topic_deny_keeps topics =
    record {
      no_question = λ request. no_question_by (is_denied topics request) request;
      forwards = λ request message is_request e. subst (IsSentOnAs request) (forwards_by (is_denied topics request) request message e) (sent_on_itself request is_request);
      answers = λ request response is_request e. answers_by topics (is_denied topics request) request response refl is_request e;
      returns = λ input. (_, refl);
      returned_back = handing_back;
    }
