-- One sweep finds each act in its order.
use Rattle.std.proofs.Common.{slice_set, ◌≡◌, ◌∙◌, ap, ℕ, zero, suc, ◌+◌, ◌≤◌, ◌<◌, ◌==◌, min, nat_lt, Bool, true, false, ◌&&◌, ◌||◌, not, if◌then◌else◌, List, [], ◌∷◌, ◌++◌, length, take, drop, refl, sym, subst, Option, Some, None, slice_get, arith, inl, inr}
use Rattle.std.proofs.lemmas.Bool.{lt-ltb, ltb-true, ltb-false, le-ltb}
use Rattle.std.proofs.lemmas.Bool.Decides.{eqb_tells}
use Rattle.std.proofs.lemmas.List.{take-append-drop, take-append-le, take_all, length-take, length-take-le}
use Rattle.std.proofs.lemmas.Option.{slice_get_within}
use Rattle.std.proofs.lemmas.List.Folds.{list_any-append}
use Rattle.std.proofs.lemmas.List.Elements.{recursion_from_All}
use Rattle.std.specs.List.{list_any, AllByRecursion}
use Rattle.kp_edge.specs.declared.end.End.{End}
use Rattle.conn_rules.specs.Causes.{below}
use Rattle.conn_rules.specs.State.{Outside, NoResponse, Request, ListedSend, State, cut_at, give, given_more}
use Rattle.conn_rules.specs.Meaning.{Meaning, ToBroker, Hold, Status, Waits, Done, Fails}
use Rattle.conn_rules.specs.Settling.{Act, CutAt, Lists, is_listed, lets_later_go, act_of, or_else, act_from, next_act, acted, after_acts, Settles}
use Rattle.conn_rules.specs.Sweep.{free_from, free_before, IsQuietBefore, act_in, act_at, HasResponse, SweepLaws}
use Rattle.conn_rules.proofs.Lists.{found_first, one_more, none_behind, take_set}

-- numbers below a cut
below_less : (cut : Option (ℕ × End)) (k i : ℕ) → below cut k ≡ true → i ≤ k → below cut i ≡ true
below_less None k i h le = refl
below_less (Some cut) k i h le = lt-ltb i cut.0 (let e : k < cut.0 = ltb-true k cut.0 h in omega (arith, e, le))

above_more : (cut : Option (ℕ × End)) (k i : ℕ) → below cut k ≡ false → k ≤ i → below cut i ≡ false
above_more None k i h le = cc
above_more (Some cut) k i h le = le-ltb i cut.0 (let e : cut.0 ≤ k = ltb-false k cut.0 h in omega (arith, e, le))

or_else_assoc : (a b c : Option Act) → or_else (or_else a b) c ≡ or_else a (or_else b c)
or_else_assoc None b c = refl
or_else_assoc (Some x) b c = refl

module _ (M : Meaning) where
  -- nothing is done at the cut and behind it
  at_cut : (sends : List ListedSend) (cut : Option (ℕ × End)) (k : ℕ) (free : Bool) (rs : List Request) → below cut k ≡ false → act_from M sends cut k free rs ≡ None
  at_cut sends cut k free [] h = refl
  at_cut sends cut k free (r ∷ rs) h = rw h

  split_one : (sends : List ListedSend) (cut : Option (ℕ × End)) (j : ℕ) (free : Bool) (r : Request) (xs ys : List Request) (low : Bool) → below cut j ≡ low
      → act_from M sends cut (suc j) (free && lets_later_go sends j (M.status r.frame r.given)) (xs ++ ys) ≡ or_else (act_from M sends cut (suc j) (free && lets_later_go sends j (M.status r.frame r.given)) xs) (act_from M sends cut (j + suc (length xs)) (free_from M sends j free (r ∷ xs)) ys)
      → (if low then or_else (act_of sends j (length r.given) free (M.status r.frame r.given)) (act_from M sends cut (suc j) (free && lets_later_go sends j (M.status r.frame r.given)) (xs ++ ys)) else None)
      ≡ or_else (if low then or_else (act_of sends j (length r.given) free (M.status r.frame r.given)) (act_from M sends cut (suc j) (free && lets_later_go sends j (M.status r.frame r.given)) xs) else None) (act_from M sends cut (j + suc (length xs)) (free_from M sends j free (r ∷ xs)) ys)
  split_one sends cut j free r xs ys true is h = ap (λ a. or_else (act_of sends j (length r.given) free (M.status r.frame r.given)) a) h ∙ sym (or_else_assoc (act_of sends j (length r.given) free (M.status r.frame r.given)) _ _)
  split_one sends cut j free r xs ys false is h = sym (at_cut sends cut (j + suc (length xs)) _ ys (above_more cut j (j + suc (length xs)) is (omega arith)))

  -- the first of a front and a rest that does anything
  split : (sends : List ListedSend) (cut : Option (ℕ × End)) (j : ℕ) (free : Bool) (xs ys : List Request) → act_from M sends cut j free (xs ++ ys) ≡ or_else (act_from M sends cut j free xs) (act_from M sends cut (j + length xs) (free_from M sends j free xs) ys)
  split sends cut j free [] ys = ap (λ k. act_from M sends cut k free ys) (let e : j ≡ j + 0 = omega arith in e)
  split sends cut j free (r ∷ xs) ys =
      let f : Bool = free && lets_later_go sends j (M.status r.frame r.given) in
      let n : suc j + length xs ≡ j + suc (length xs) = omega arith in
      split_one sends cut j free r xs ys (below cut j) refl (split sends cut (suc j) f xs ys ∙ ap (λ k. or_else (act_from M sends cut (suc j) f xs) (act_from M sends cut k (free_from M sends (suc j) f xs) ys)) n)

  free_split : (sends : List ListedSend) (j : ℕ) (free : Bool) (xs ys : List Request) → free_from M sends j free (xs ++ ys) ≡ free_from M sends (j + length xs) (free_from M sends j free xs) ys
  free_split sends j free [] ys = ap (λ k. free_from M sends k free ys) (let e : j ≡ j + 0 = omega arith in e)
  free_split sends j free (r ∷ xs) ys =
      let n : suc j + length xs ≡ j + suc (length xs) = omega arith in
      free_split sends (suc j) _ xs ys ∙ ap (λ k. free_from M sends k (free_from M sends (suc j) (free && lets_later_go sends j (M.status r.frame r.given)) xs) ys) n

none_first : (a b : Option Act) → a ≡ None → or_else a b ≡ b
none_first None b h = refl
none_first (Some x) b h = cc

none_first_of : (a b : Option Act) → or_else a b ≡ None → b ≡ None
none_first_of None b h = h
none_first_of (Some x) b h = cc

none_both : (a b : Option Act) → or_else a b ≡ None → a ≡ None
none_both None b h = refl
none_both (Some x) b h = cc

or_none : (a : Option Act) → or_else a None ≡ a
or_none None = refl
or_none (Some x) = refl

some_first : (a b : Option Act) (x : Act) → a ≡ Some x → or_else a b ≡ Some x
some_first None b x h = cc
some_first (Some y) b x h = h

-- whose an act is
abbrev pub IsActOf : ℕ → Act → Type 0
IsActOf k (CutAt at why) = at ≡ k
IsActOf k (Lists d) = d.request ≡ k

act_of_one : (sends : List ListedSend) (k i : ℕ) (free : Bool) (before behind : List ℕ) (main responds goes : Bool) (act : Act) → (if goes then Some (Lists (record { request = k; ask = i; before = before; behind = behind; main = main; responds = responds })) else None) ≡ Some act → IsActOf k act
act_of_one sends k i free before behind main responds true act h =
    let e : Lists (record { request = k; ask = i; before = before; behind = behind; main = main; responds = responds }) ≡ act = cc in
    subst (IsActOf k) e refl
act_of_one sends k i free before behind main responds false act h = cc

pub act_is_of : (sends : List ListedSend) (k i : ℕ) (free : Bool) (status : Status) (act : Act) → act_of sends k i free status ≡ Some act → IsActOf k act
act_is_of sends k i free (Fails why) act h = let e : CutAt k (why k) ≡ act = cc in subst (IsActOf k) e refl
act_is_of sends k i free (Done response) act h = cc
act_is_of sends k i free (Waits (Hold key)) act h = cc
act_is_of sends k i free (Waits (ToBroker before behind main responds)) act h = act_of_one sends k i free before behind main responds (not (is_listed sends k i) && (free || not main)) act h

-- the act of a request that is there
pub if_low : (low : Bool) (a : Option Act) (act : Act) → (if low then a else None) ≡ Some act → (low ≡ true) × (a ≡ Some act)
if_low true a act h = (refl, h)
if_low false a act h = cc

either_none : (low : Bool) (a : Option Act) → (if low then or_else a None else None) ≡ (if low then a else None)
either_none true a = or_none a
either_none false a = refl

either_some : (low : Bool) (a b : Option Act) (act : Act) → (if low then a else None) ≡ Some act → (if low then or_else a b else None) ≡ Some act
either_some true a b act h = some_first a b act h
either_some false a b act h = cc

module _ (M : Meaning) (s : State) (k : ℕ) where
  front_long : k ≤ length s.requests → 0 + length (take k s.requests) ≡ k
  front_long le = let e : length (take k s.requests) ≡ k = length-take-le k s.requests le in omega (arith, e)

  -- the front, and the requests from number k on
  parts : (rs : List Request) → k ≤ length s.requests → act_from M s.sends s.causes.cut 0 true (take k s.requests ++ rs) ≡ or_else (act_from M s.sends s.causes.cut 0 true (take k s.requests)) (act_from M s.sends s.causes.cut k (free_before M s k) rs)
  parts rs le = split M s.sends s.causes.cut 0 true (take k s.requests) rs ∙ ap (λ j. or_else (act_from M s.sends s.causes.cut 0 true (take k s.requests)) (act_from M s.sends s.causes.cut j (free_before M s k) rs)) (front_long le)

  whole : k ≤ length s.requests → next_act M s ≡ or_else (act_from M s.sends s.causes.cut 0 true (take k s.requests)) (act_from M s.sends s.causes.cut k (free_before M s k) (drop k s.requests))
  whole le = ap (λ rs. act_from M s.sends s.causes.cut 0 true rs) (sym (take-append-drop k s.requests)) ∙ parts (drop k s.requests) le

  is_within : (r : Request) → slice_get s.requests k ≡ Some r → k ≤ length s.requests
  is_within r is = let e : k < length s.requests = slice_get_within s.requests k r is in omega (arith, e)

  goes_on_in : (found : Option Request) → slice_get s.requests k ≡ found → IsQuietBefore M s k → act_in M s k found ≡ None → IsQuietBefore M s (suc k)
  goes_on_in None is quiet none =
      let short : length s.requests ≤ k = none_behind s.requests k is in
      let e : take (suc k) s.requests ≡ take k s.requests = take_all (suc k) s.requests (omega (arith, short)) ∙ sym (take_all k s.requests short) in
      ap (λ rs. act_from M s.sends s.causes.cut 0 true rs) e ∙ quiet
  goes_on_in (Some r) is quiet none =
      ap (λ rs. act_from M s.sends s.causes.cut 0 true rs) (one_more s.requests k r is) ∙ (parts (r ∷ []) (is_within r is) ∙ (none_first _ _ quiet ∙ (either_none (below s.causes.cut k) _ ∙ none)))

  next_in : (found : Option Request) (act : Act) → slice_get s.requests k ≡ found → IsQuietBefore M s k → act_in M s k found ≡ Some act → next_act M s ≡ Some act
  next_in None act is quiet some = cc
  next_in (Some r) act is quiet some =
      whole (is_within r is) ∙ (none_first _ _ quiet ∙ (ap (λ rs. act_from M s.sends s.causes.cut k (free_before M s k) rs) (found_first s.requests k r is) ∙ either_some (below s.causes.cut k) _ _ act some))

  at_low : (found : Option Request) (act : Act) → act_in M s k found ≡ Some act → (below s.causes.cut k ≡ true) × IsActOf k act
  at_low None act some = cc
  at_low (Some r) act some =
      let e : (below s.causes.cut k ≡ true) × (act_of s.sends k (length r.given) (free_before M s k) (M.status r.frame r.given) ≡ Some act) = if_low (below s.causes.cut k) _ act some in
      (e.0, act_is_of s.sends k (length r.given) (free_before M s k) (M.status r.frame r.given) act e.1)

  ends_all : length s.requests ≤ k → IsQuietBefore M s k → next_act M s ≡ None
  ends_all short quiet = ap (λ rs. act_from M s.sends s.causes.cut 0 true rs) (sym (take_all k s.requests short)) ∙ quiet

  ends_cut : (long : Bool) → nat_lt (length s.requests) k ≡ long → below s.causes.cut k ≡ false → IsQuietBefore M s k → next_act M s ≡ None
  ends_cut true is low quiet = ends_all (let e : length s.requests < k = ltb-true (length s.requests) k is in omega (arith, e)) quiet
  ends_cut false is low quiet =
      whole (ltb-false (length s.requests) k is) ∙ (none_first _ _ quiet ∙ at_cut M s.sends s.causes.cut k (free_before M s k) (drop k s.requests) low)

  settled_before : (long : Bool) → nat_lt (length s.requests) k ≡ long → next_act M s ≡ None → IsQuietBefore M s k
  settled_before true is none =
      let short : length s.requests ≤ k = (let e : length s.requests < k = ltb-true (length s.requests) k is in omega (arith, e)) in
      ap (λ rs. act_from M s.sends s.causes.cut 0 true rs) (take_all k s.requests short) ∙ none
  settled_before false is none = none_both _ _ (sym (whole (ltb-false (length s.requests) k is)) ∙ none)

  freed_next : (r : Request) → slice_get s.requests k ≡ Some r → free_before M s (suc k) ≡ (free_before M s k && lets_later_go s.sends k (M.status r.frame r.given))
  freed_next r is =
      ap (λ rs. free_from M s.sends 0 true rs) (one_more s.requests k r is) ∙ (free_split M s.sends 0 true (take k s.requests) (r ∷ []) ∙ ap (λ j. free_from M s.sends j (free_before M s k) (r ∷ [])) (front_long (is_within r is)))

-- What an act of request k leaves: the requests before it do what they did.
or_false : (b : Bool) → (b || false) ≡ b
or_false true = refl
or_false false = refl

any_other : (sends : List ListedSend) (d : ListedSend) (test : ListedSend → Bool) → test d ≡ false → list_any test (sends ++ d ∷ []) ≡ list_any test sends
any_other sends d test fails = list_any-append test sends (d ∷ []) ∙ rw fails (or_false (list_any test sends))

other_number : (k j : ℕ) (b : Bool) → k < j → ((j == k) && b) ≡ false
other_number k j b lt = elim (eqb_tells j k) [ inl h ↦ absurd (omega (arith, lt, h.1)) | inr h ↦ rw h.0 ]

module _ (M : Meaning) (sends : List ListedSend) (d : ListedSend) where
  listed_same : (k i : ℕ) → k < d.request → is_listed (sends ++ d ∷ []) k i ≡ is_listed sends k i
  listed_same k i lt = any_other sends d (λ e. (e.request == k) && (e.ask == i)) (other_number k d.request (d.ask == i) lt)

  main_same : (k : ℕ) → k < d.request → list_any (λ e. (e.request == k) && e.main) (sends ++ d ∷ []) ≡ list_any (λ e. (e.request == k) && e.main) sends
  main_same k lt = any_other sends d (λ e. (e.request == k) && e.main) (other_number k d.request d.main lt)

  lets_same : (k : ℕ) (status : Status) → k < d.request → lets_later_go (sends ++ d ∷ []) k status ≡ lets_later_go sends k status
  lets_same k (Done response) lt = refl
  lets_same k (Waits ask) lt = main_same k lt
  lets_same k (Fails why) lt = main_same k lt

  act_same : (k i : ℕ) (free : Bool) (status : Status) → k < d.request → act_of (sends ++ d ∷ []) k i free status ≡ act_of sends k i free status
  act_same k i free (Fails why) lt = refl
  act_same k i free (Done response) lt = refl
  act_same k i free (Waits (Hold key)) lt = refl
  act_same k i free (Waits (ToBroker before behind main responds)) lt = rw (listed_same k i lt)

  from_same : (cut : Option (ℕ × End)) (k : ℕ) (free : Bool) (rs : List Request) → k + length rs ≤ d.request → act_from M (sends ++ d ∷ []) cut k free rs ≡ act_from M sends cut k free rs
  from_same cut k free [] le = refl
  from_same cut k free (r ∷ rs) le =
      let lt : k < d.request = omega (arith, le) in
      let here : act_of (sends ++ d ∷ []) k (length r.given) free (M.status r.frame r.given) ≡ act_of sends k (length r.given) free (M.status r.frame r.given) = act_same k (length r.given) free (M.status r.frame r.given) lt in
      let lets : lets_later_go (sends ++ d ∷ []) k (M.status r.frame r.given) ≡ lets_later_go sends k (M.status r.frame r.given) = lets_same k (M.status r.frame r.given) lt in
      let behind : act_from M (sends ++ d ∷ []) cut (suc k) (free && lets_later_go sends k (M.status r.frame r.given)) rs ≡ act_from M sends cut (suc k) (free && lets_later_go sends k (M.status r.frame r.given)) rs = from_same cut (suc k) _ rs (omega (arith, le)) in
      rw (here, lets, behind)

-- a cut behind them
module _ (M : Meaning) (sends : List ListedSend) where
  cut_same : (a b : Option (ℕ × End)) (k : ℕ) (free : Bool) (rs : List Request) → ((i : ℕ) → i < k + length rs → below a i ≡ true) → ((i : ℕ) → i < k + length rs → below b i ≡ true) → act_from M sends a k free rs ≡ act_from M sends b k free rs
  cut_same a b k free [] low_a low_b = refl
  cut_same a b k free (r ∷ rs) low_a low_b =
      let here_a : below a k ≡ true = low_a k (omega arith) in
      let here_b : below b k ≡ true = low_b k (omega arith) in
      let behind : act_from M sends a (suc k) (free && lets_later_go sends k (M.status r.frame r.given)) rs ≡ act_from M sends b (suc k) (free && lets_later_go sends k (M.status r.frame r.given)) rs = cut_same a b (suc k) _ rs (λ i lt. low_a i (omega (arith, lt))) (λ i lt. low_b i (omega (arith, lt))) in
      rw (here_a, here_b, behind)

module _ (M : Meaning) (s : State) (k : ℕ) where
  taken_short : length (take k s.requests) ≤ k
  taken_short = let e : length (take k s.requests) ≡ min k (length s.requests) = length-take k s.requests in omega (arith, e)

  -- the requests before k are the same after something was given to k
  given_same : (x : Outside) (found : Option Request) → take k (given_more x found s.requests k) ≡ take k s.requests
  given_same x None = refl
  given_same x (Some r) = take_set s.requests k k _ (omega arith)

  quiet_listed : (d : ListedSend) → d.request ≡ k → IsQuietBefore M s k → IsQuietBefore M (record s { sends = s.sends ++ d ∷ [] }) k
  quiet_listed d is quiet = from_same M s.sends d s.causes.cut 0 true (take k s.requests) (let e : length (take k s.requests) ≤ k = taken_short in omega (arith, e, is)) ∙ quiet

  quiet_silent : (d : ListedSend) (responds : Bool) → d.request ≡ k → IsQuietBefore M s k → IsQuietBefore M (if responds then record s { sends = s.sends ++ d ∷ [] } else give d.request NoResponse (record s { sends = s.sends ++ d ∷ [] })) k
  quiet_silent d true is quiet = quiet_listed d is quiet
  quiet_silent d false is quiet =
      ap (λ j. act_from M (s.sends ++ d ∷ []) s.causes.cut 0 true (take k (given_more NoResponse (slice_get s.requests j) s.requests j))) is ∙ (ap (λ rs. act_from M (s.sends ++ d ∷ []) s.causes.cut 0 true rs) (given_same NoResponse (slice_get s.requests k)) ∙ quiet_listed d is quiet)

  quiet_cut : (at : ℕ) (why : End) → at ≡ k → below s.causes.cut k ≡ true → IsQuietBefore M s k → IsQuietBefore M (cut_at at why s) k
  quiet_cut at why is low quiet =
      let e : length (take k s.requests) ≤ k = taken_short in
      rw (is, low) (cut_same M s.sends (Some (k, why)) s.causes.cut 0 true (take k s.requests) (λ i lt. lt-ltb i k (omega (arith, e, lt))) (λ i lt. below_less s.causes.cut k i low (omega (arith, e, lt))) ∙ quiet)

  quiet_acted : (act : Act) → below s.causes.cut k ≡ true → IsActOf k act → IsQuietBefore M s k → IsQuietBefore M (acted (Some act) s) k
  quiet_acted (CutAt at why) low is quiet = quiet_cut at why is low quiet
  quiet_acted (Lists d) low is quiet = quiet_silent d d.responds is quiet

-- requests that have their response
module _ (M : Meaning) (sends : List ListedSend) (cut : Option (ℕ × End)) where
  if_none : (low : Bool) → ◌≡◌ {A = Option Act} (if low then None else None) None
  if_none true = refl
  if_none false = refl

  answered_from : (k : ℕ) (free : Bool) (rs : List Request) → AllByRecursion (HasResponse M) rs → act_from M sends cut k free rs ≡ None
  answered_from k free [] h = refl
  answered_from k free (r ∷ rs) h =
      let here : M.status r.frame r.given ≡ Done h.0.0 = h.0.1 in
      let behind : act_from M sends cut (suc k) (free && true) rs ≡ None = answered_from (suc k) (free && true) rs h.1 in
      rw (here, behind) (if_none (below cut k))

  free_answered : (k : ℕ) (free : Bool) (rs : List Request) → AllByRecursion (HasResponse M) rs → free ≡ true → free_from M sends k free rs ≡ true
  free_answered k free [] h is = is
  free_answered k free (r ∷ rs) h is =
      let here : M.status r.frame r.given ≡ Done h.0.0 = h.0.1 in
      free_answered (suc k) _ rs h.1 (rw (is, here) refl)

-- what is given to one request, and those behind it
module _ {X : Type 0} where
  set_there : (xs : List X) (n : ℕ) (x y : X) → slice_get xs n ≡ Some y → slice_get (slice_set xs n x) n ≡ Some x
  set_there [] zero x y h = cc
  set_there [] (suc n) x y h = cc
  set_there (z ∷ zs) zero x y h = refl
  set_there (z ∷ zs) (suc n) x y h = set_there zs n x y h

  rest_set : (xs : List X) (n : ℕ) (x : X) → drop (suc n) (slice_set xs n x) ≡ drop (suc n) xs
  rest_set [] n x = refl
  rest_set (z ∷ zs) zero x = refl
  rest_set (z ∷ zs) (suc n) x = rest_set zs n x

  set_at : (xs : List X) (n : ℕ) (x y : X) → slice_get xs n ≡ Some y → drop n (slice_set xs n x) ≡ x ∷ drop (suc n) xs
  set_at xs n x y h = found_first (slice_set xs n x) n x (set_there xs n x y h) ∙ ap (λ rest. x ∷ rest) (rest_set xs n x)

given_found : (x : Outside) (found : Option Request) (r : Request) (rs : List Request) (k : ℕ) → found ≡ Some r → given_more x found rs k ≡ slice_set rs k (record r { given = r.given ++ x ∷ [] })
given_found x None r rs k h = cc
given_found x (Some y) r rs k h = let e : y ≡ r = cc in ap (λ z. slice_set rs k (record z { given = z.given ++ x ∷ [] })) e

if_both : (low : Bool) (a b : Option Act) → (if low then or_else a b else None) ≡ None → low ≡ true → b ≡ None
if_both true a b h is = none_first_of a b h
if_both false a b h is = cc

if_quiet : (low : Bool) (a b : Option Act) → (low ≡ true → a ≡ None) → (low ≡ true → b ≡ None) → (if low then or_else a b else None) ≡ None
if_quiet true a b h k = none_first a b (h refl) ∙ k refl
if_quiet false a b h k = refl

if_none_low : (low : Bool) (a : Option Act) → (if low then a else None) ≡ None → low ≡ true → a ≡ None
if_none_low true a h is = h
if_none_low false a h is = cc

module _ (M : Meaning) (s : State) (k : ℕ) (x : Outside) (r : Request) (there : slice_get s.requests k ≡ Some r) where
  abbrev later_request : Request
  later_request = record r { given = r.given ++ x ∷ [] }

  requests_given : (give k x s).requests ≡ slice_set s.requests k later_request
  requests_given = given_found x (slice_get s.requests k) r s.requests k there

  rest_quiet : next_act M s ≡ None → below s.causes.cut k ≡ true → act_from M s.sends s.causes.cut (suc k) (free_before M s k && lets_later_go s.sends k (M.status r.frame r.given)) (drop (suc k) s.requests) ≡ None
  rest_quiet none low =
      let quiet : IsQuietBefore M s k = settled_before M s k (nat_lt (length s.requests) k) refl none in
      let parts_of : act_from M s.sends s.causes.cut k (free_before M s k) (r ∷ drop (suc k) s.requests) ≡ None = ap (λ rs. act_from M s.sends s.causes.cut k (free_before M s k) rs) (sym (found_first s.requests k r there)) ∙ (sym (none_first _ _ quiet) ∙ (sym (whole M s k (is_within M s k r there)) ∙ none)) in
      if_both (below s.causes.cut k) _ _ parts_of low

  quiet_given : next_act M s ≡ None → act_at M (give k x s) k ≡ None → lets_later_go s.sends k (M.status r.frame (r.given ++ x ∷ [])) ≡ lets_later_go s.sends k (M.status r.frame r.given) → next_act M (give k x s) ≡ None
  quiet_given none at lets =
      let t : State = give k x s in
      let front : take k t.requests ≡ take k s.requests = given_same M s k x (slice_get s.requests k) in
      let free_same : free_before M t k ≡ free_before M s k = ap (λ rs. free_from M s.sends 0 true rs) front in
      let quiet : IsQuietBefore M t k = ap (λ rs. act_from M s.sends s.causes.cut 0 true rs) front ∙ settled_before M s k (nat_lt (length s.requests) k) refl none in
      let found : slice_get t.requests k ≡ Some later_request = ap (λ rs. slice_get rs k) requests_given ∙ set_there s.requests k later_request r there in
      let rest : drop k t.requests ≡ later_request ∷ drop (suc k) s.requests = ap (λ rs. drop k rs) requests_given ∙ set_at s.requests k later_request r there in
      let here : act_in M t k (Some later_request) ≡ None = ap (λ o. act_in M t k o) (sym found) ∙ at in
      whole M t k (is_within M t k later_request found) ∙ (none_first _ _ quiet ∙ (ap (λ rs. act_from M s.sends s.causes.cut k (free_before M t k) rs) rest ∙ if_quiet (below s.causes.cut k) _ _ (λ low. if_none_low (below s.causes.cut k) _ here low) (λ low. ap (λ f. act_from M s.sends s.causes.cut (suc k) (f && lets_later_go s.sends k (M.status r.frame (r.given ++ x ∷ []))) (drop (suc k) s.requests)) free_same ∙ (ap (λ l. act_from M s.sends s.causes.cut (suc k) (free_before M s k && l) (drop (suc k) s.requests)) lets ∙ rest_quiet none low))))

joined_quiet : (M : Meaning) (s : State) (r : Request) → next_act M s ≡ None → IsQuietBefore M (record s { requests = s.requests ++ r ∷ [] }) (length s.requests)
joined_quiet M s r none = ap (λ rs. act_from M s.sends s.causes.cut 0 true rs) (take-append-le (length s.requests) s.requests (r ∷ []) (omega arith) ∙ take_all (length s.requests) s.requests (omega arith)) ∙ none

-- settling, act by act
acts_first : (M : Meaning) (s t : State) (act : Act) → next_act M s ≡ Some act → Settles M (acted (Some act) s) t → Settles M s t
acts_first M s t act is h = record { acts = suc h.acts; after = ap (λ a. after_acts M h.acts (acted a s)) is ∙ h.after; rest = h.rest }

-- and a connection settles to one state
at_rest : (M : Meaning) (n : ℕ) (s : State) → next_act M s ≡ None → after_acts M n s ≡ s
at_rest M zero s h = refl
at_rest M (suc n) s h = ap (λ a. after_acts M n (acted a s)) h ∙ at_rest M n s h

acts_both : (M : Meaning) (n m : ℕ) (s : State) → after_acts M (n + m) s ≡ after_acts M m (after_acts M n s)
acts_both M zero m s = ap (λ k. after_acts M k s) (let e : zero + m ≡ m = omega arith in e)
acts_both M (suc n) m s = ap (λ k. after_acts M k s) (let e : suc n + m ≡ suc (n + m) = omega arith in e) ∙ acts_both M n m (acted (next_act M s) s)

settled_once : (M : Meaning) (s t u : State) → Settles M s t → Settles M s u → t ≡ u
settled_once M s t u a b =
    let there : after_acts M (a.acts + b.acts) s ≡ t = acts_both M a.acts b.acts s ∙ (ap (λ x. after_acts M b.acts x) a.after ∙ at_rest M b.acts t a.rest) in
    let here : after_acts M (b.acts + a.acts) s ≡ u = acts_both M b.acts a.acts s ∙ (ap (λ x. after_acts M a.acts x) b.after ∙ at_rest M a.acts u b.rest) in
    sym there ∙ (ap (λ n. after_acts M n s) (let e : a.acts + b.acts ≡ b.acts + a.acts = omega arith in e) ∙ here)

pub sweeps : (M : Meaning) → SweepLaws M
sweeps M =
    record {
      begins = λ s. refl;
      continues = λ s k. goes_on_in M s k (slice_get s.requests k) refl;
      next = λ s k act. next_in M s k (slice_get s.requests k) act refl;
      stays = λ s k act quiet some. (let low : (below s.causes.cut k ≡ true) × IsActOf k act = at_low M s k (slice_get s.requests k) act some in quiet_acted M s k act low.0 low.1 quiet);
      ends = λ s k. ends_all M s k;
      ends_at_cut = λ s k. ends_cut M s k (nat_lt (length s.requests) k) refl;
      settled = λ s k. settled_before M s k (nat_lt (length s.requests) k) refl;
      freed = λ s k. freed_next M s k;
      answered_quiet = λ s k all. answered_from M s.sends s.causes.cut 0 true (take k s.requests) (recursion_from_All (HasResponse M) (take k s.requests) all);
      answered_free = λ s k all. free_answered M s.sends s.causes.cut 0 true (take k s.requests) (recursion_from_All (HasResponse M) (take k s.requests) all) refl;
      given_quietly = λ s k x r. quiet_given M s k x r;
      joins_behind = λ s r none. joined_quiet M s r none;
      acts = acts_first M;
      rests = λ s none. record { acts = 0; after = refl; rest = none };
      once = settled_once M;
    }
